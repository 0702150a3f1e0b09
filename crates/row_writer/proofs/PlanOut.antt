-- One level of a type that is put together.
use Rattle.std.proofs.Common.{◌≡◌, [], ◌∷◌, true, false, Some, None, sym, ap, ◌∙◌}
use Rattle.avro_binary.specs.declared.schema.Field.{Field}
use Rattle.avro_binary.specs.declared.schema.Schema.{Schema, out-Schema}
use Rattle.avro_binary.specs.declared.schema.Schema.TheOpen as open_schema
use Rattle.avro_binary.specs.declared.schema.Schema.TheVariants as schema
use Rattle.avro_binary.specs.declared.schema.Schema.TheViews.{out-roll-Schema}
use Rattle.avro_binary.specs.declared.schema.Logical.TheVariants.{Plain, Date, TimestampMicros, Decimal}
use Rattle.row_writer.specs.KindTypes.{decimal_size}
use Rattle.row_writer.proofs.Plans.{Plan, boolean_plan, int_plan, long_plan, bytes_plan, text_plan, date_plan, instant_plan, decimal_plan, pairs_plan, optional_plan, items_plan, record_plan, type_of, types_of}

abbrev pub out_plan : Plan → open_schema.Schema-F Schema Field
out_plan boolean_plan = open_schema.Boolean
out_plan int_plan = open_schema.Int Plain
out_plan long_plan = open_schema.Long Plain
out_plan bytes_plan = open_schema.Bytes Plain
out_plan text_plan = open_schema.Text
out_plan date_plan = open_schema.Int Date
out_plan (instant_plan utc) = open_schema.Long (TimestampMicros utc)
out_plan (decimal_plan name precision scale) = open_schema.Fixed name (decimal_size precision) (Decimal precision scale)
out_plan (pairs_plan p) = open_schema.Array (type_of p) None true
out_plan (optional_plan p) = open_schema.Union (schema.Null ∷ type_of p ∷ [])
out_plan (items_plan element p) = open_schema.Array (type_of p) (Some element) false
out_plan (record_plan name ps) = open_schema.Record name (types_of ps)

pub plan_out : (p : Plan) → out-Schema (type_of p) ≡ out_plan p
plan_out boolean_plan = ap out-Schema (sym schema.rolls-Boolean) ∙ out-roll-Schema open_schema.Boolean
plan_out int_plan = ap out-Schema (sym (schema.rolls-Int Plain)) ∙ out-roll-Schema (open_schema.Int Plain)
plan_out long_plan = ap out-Schema (sym (schema.rolls-Long Plain)) ∙ out-roll-Schema (open_schema.Long Plain)
plan_out bytes_plan = ap out-Schema (sym (schema.rolls-Bytes Plain)) ∙ out-roll-Schema (open_schema.Bytes Plain)
plan_out text_plan = ap out-Schema (sym schema.rolls-Text) ∙ out-roll-Schema open_schema.Text
plan_out date_plan = ap out-Schema (sym (schema.rolls-Int Date)) ∙ out-roll-Schema (open_schema.Int Date)
plan_out (instant_plan utc) = ap out-Schema (sym (schema.rolls-Long (TimestampMicros utc))) ∙ out-roll-Schema (open_schema.Long (TimestampMicros utc))
plan_out (decimal_plan name precision scale) = ap out-Schema (sym (schema.rolls-Fixed name (decimal_size precision) (Decimal precision scale))) ∙ out-roll-Schema (open_schema.Fixed name (decimal_size precision) (Decimal precision scale))
plan_out (pairs_plan p) = ap out-Schema (sym (schema.rolls-Array (type_of p) None true)) ∙ out-roll-Schema (open_schema.Array (type_of p) None true)
plan_out (optional_plan p) = ap out-Schema (sym (schema.rolls-Union (schema.Null ∷ type_of p ∷ []))) ∙ out-roll-Schema (open_schema.Union (schema.Null ∷ type_of p ∷ []))
plan_out (items_plan element p) = ap out-Schema (sym (schema.rolls-Array (type_of p) (Some element) false)) ∙ out-roll-Schema (open_schema.Array (type_of p) (Some element) false)
plan_out (record_plan name ps) = ap out-Schema (sym (schema.rolls-Record name (types_of ps))) ∙ out-roll-Schema (open_schema.Record name (types_of ps))

pub null_type_out : out-Schema schema.Null ≡ open_schema.Null
null_type_out = ap out-Schema (sym schema.rolls-Null) ∙ out-roll-Schema open_schema.Null

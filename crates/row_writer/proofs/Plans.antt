-- Types that are put together from a few, and a fold over them, which computes.
use Rattle.std.proofs.Common.{◌≡◌, ℕ, ℤ, Bool, true, false, List, [], ◌∷◌, map, Some, None, refl, sym, ap, ◌∙◌}
use Rattle.avro_binary.specs.declared.schema.Field.{Field, fold-Field}
use Rattle.avro_binary.specs.declared.schema.Schema.{Schema, fold-Schema}
use Rattle.avro_binary.specs.declared.schema.Schema.TheFolds.{fold-roll-Schema, fold_out-Field}
use Rattle.avro_binary.specs.declared.schema.Schema.TheOpen as open_schema
use Rattle.avro_binary.specs.declared.schema.Schema.TheVariants as schema
use Rattle.avro_binary.specs.declared.schema.Logical.TheVariants.{Plain, Date, TimestampMicros, Decimal}
use Rattle.row_writer.specs.Field.{field, optional_type, items_type, map_type, record_type}
use Rattle.row_writer.specs.KindTypes.{decimal_size}

mutual
  pub data Plan : Type 0 where
    boolean_plan : Plan
    int_plan : Plan
    long_plan : Plan
    bytes_plan : Plan
    text_plan : Plan
    date_plan : Plan
    instant_plan : Bool → Plan
    decimal_plan : List ℕ → ℕ → ℕ → Plan
    pairs_plan : Plan → Plan
    optional_plan : Plan → Plan
    items_plan : ℤ → Plan → Plan
    record_plan : List ℕ → Plans → Plan

  pub data Plans : Type 0 where
    no_plans : Plans
    more_plans : ℤ → List ℕ → Plan → Plans → Plans

abbrev mutual
  pub type_of : Plan → Schema
  type_of boolean_plan = schema.Boolean
  type_of int_plan = schema.Int Plain
  type_of long_plan = schema.Long Plain
  type_of bytes_plan = schema.Bytes Plain
  type_of text_plan = schema.Text
  type_of date_plan = schema.Int Date
  type_of (instant_plan utc) = schema.Long (TimestampMicros utc)
  type_of (decimal_plan name precision scale) = schema.Fixed name (decimal_size precision) (Decimal precision scale)
  type_of (pairs_plan p) = map_type (type_of p)
  type_of (optional_plan p) = optional_type (type_of p)
  type_of (items_plan element p) = items_type element (type_of p)
  type_of (record_plan name ps) = record_type name (types_of ps)

  pub types_of : Plans → List Field
  types_of no_plans = []
  types_of (more_plans id name p ps) = field id name (type_of p) ∷ types_of ps

abbrev mutual
  pub fold_plan : (A B : Type 0) → (open_schema.Schema-F A B → A) → (open_schema.Field-F A B → B) → Plan → A
  fold_plan A B f g boolean_plan = f open_schema.Boolean
  fold_plan A B f g int_plan = f (open_schema.Int Plain)
  fold_plan A B f g long_plan = f (open_schema.Long Plain)
  fold_plan A B f g bytes_plan = f (open_schema.Bytes Plain)
  fold_plan A B f g text_plan = f open_schema.Text
  fold_plan A B f g date_plan = f (open_schema.Int Date)
  fold_plan A B f g (instant_plan utc) = f (open_schema.Long (TimestampMicros utc))
  fold_plan A B f g (decimal_plan name precision scale) = f (open_schema.Fixed name (decimal_size precision) (Decimal precision scale))
  fold_plan A B f g (pairs_plan p) = f (open_schema.Array (fold_plan A B f g p) None true)
  fold_plan A B f g (optional_plan p) = f (open_schema.Union (f open_schema.Null ∷ fold_plan A B f g p ∷ []))
  fold_plan A B f g (items_plan element p) = f (open_schema.Array (fold_plan A B f g p) (Some element) false)
  fold_plan A B f g (record_plan name ps) = f (open_schema.Record name (fold_plans A B f g ps))

  pub fold_plans : (A B : Type 0) → (open_schema.Schema-F A B → A) → (open_schema.Field-F A B → B) → Plans → List B
  fold_plans A B f g no_plans = []
  fold_plans A B f g (more_plans id name p ps) = g (record { name = name; id = Some id; schema = fold_plan A B f g p }) ∷ fold_plans A B f g ps

null_is : (A B : Type 0) (f : open_schema.Schema-F A B → A) (g : open_schema.Field-F A B → B) → fold-Schema A B f g schema.Null ≡ f open_schema.Null
null_is A B f g = ap (fold-Schema A B f g) (sym schema.rolls-Null) ∙ fold-roll-Schema A B f g open_schema.Null

mutual
  pub plan_folds : (A B : Type 0) (f : open_schema.Schema-F A B → A) (g : open_schema.Field-F A B → B) (p : Plan)
      → fold-Schema A B f g (type_of p) ≡ fold_plan A B f g p
  plan_folds A B f g boolean_plan = ap (fold-Schema A B f g) (sym schema.rolls-Boolean) ∙ fold-roll-Schema A B f g open_schema.Boolean
  plan_folds A B f g int_plan = ap (fold-Schema A B f g) (sym (schema.rolls-Int Plain)) ∙ fold-roll-Schema A B f g (open_schema.Int Plain)
  plan_folds A B f g long_plan = ap (fold-Schema A B f g) (sym (schema.rolls-Long Plain)) ∙ fold-roll-Schema A B f g (open_schema.Long Plain)
  plan_folds A B f g bytes_plan = ap (fold-Schema A B f g) (sym (schema.rolls-Bytes Plain)) ∙ fold-roll-Schema A B f g (open_schema.Bytes Plain)
  plan_folds A B f g text_plan = ap (fold-Schema A B f g) (sym schema.rolls-Text) ∙ fold-roll-Schema A B f g open_schema.Text
  plan_folds A B f g date_plan = ap (fold-Schema A B f g) (sym (schema.rolls-Int Date)) ∙ fold-roll-Schema A B f g (open_schema.Int Date)
  plan_folds A B f g (instant_plan utc) = ap (fold-Schema A B f g) (sym (schema.rolls-Long (TimestampMicros utc))) ∙ fold-roll-Schema A B f g (open_schema.Long (TimestampMicros utc))
  plan_folds A B f g (decimal_plan name precision scale) = ap (fold-Schema A B f g) (sym (schema.rolls-Fixed name (decimal_size precision) (Decimal precision scale))) ∙ fold-roll-Schema A B f g (open_schema.Fixed name (decimal_size precision) (Decimal precision scale))
  plan_folds A B f g (pairs_plan p) = ap (fold-Schema A B f g) (sym (schema.rolls-Array (type_of p) None true)) ∙ fold-roll-Schema A B f g (open_schema.Array (type_of p) None true)
      ∙ ap (λ (x : A). f (open_schema.Array x None true)) (plan_folds A B f g p)
  plan_folds A B f g (optional_plan p) = ap (fold-Schema A B f g) (sym (schema.rolls-Union (schema.Null ∷ type_of p ∷ []))) ∙ fold-roll-Schema A B f g (open_schema.Union (schema.Null ∷ type_of p ∷ []))
      ∙ ap (λ (x : A). f (open_schema.Union (x ∷ fold-Schema A B f g (type_of p) ∷ []))) (null_is A B f g) ∙ ap (λ (x : A). f (open_schema.Union (f open_schema.Null ∷ x ∷ []))) (plan_folds A B f g p)
  plan_folds A B f g (items_plan element p) = ap (fold-Schema A B f g) (sym (schema.rolls-Array (type_of p) (Some element) false)) ∙ fold-roll-Schema A B f g (open_schema.Array (type_of p) (Some element) false)
      ∙ ap (λ (x : A). f (open_schema.Array x (Some element) false)) (plan_folds A B f g p)
  plan_folds A B f g (record_plan name ps) = ap (fold-Schema A B f g) (sym (schema.rolls-Record name (types_of ps))) ∙ fold-roll-Schema A B f g (open_schema.Record name (types_of ps))
      ∙ ap (λ (xs : List B). f (open_schema.Record name xs)) (plans_fold A B f g ps)

  pub plans_fold : (A B : Type 0) (f : open_schema.Schema-F A B → A) (g : open_schema.Field-F A B → B) (ps : Plans)
      → map (fold-Field A B f g) (types_of ps) ≡ fold_plans A B f g ps
  plans_fold A B f g no_plans = refl
  plans_fold A B f g (more_plans id name p ps) = ap (λ (x : B). x ∷ map (fold-Field A B f g) (types_of ps)) (fold_out-Field A B f g (field id name (type_of p)) ∙ ap (λ (x : A). g (record { name = name; id = Some id; schema = x })) (plan_folds A B f g p))
      ∙ ap (λ (xs : List B). g (record { name = name; id = Some id; schema = fold_plan A B f g p }) ∷ xs) (plans_fold A B f g ps)

-- A type that is put together has a text where its names are ASCII, no named type stands twice, and it is neither too deep nor
-- too wide.
use Rattle.std.proofs.Common.{◌≡◌, ℕ, ◌≤◌, List, [], Bool, true, ◌&&◌, is_some, Option, ap, ◌∙◌}
use Rattle.avro_binary.specs.Placed.{Placing, placed, place_level, place_field}
use Rattle.avro_binary.specs.SchemaOnce.{Begins, has_text, once_level, once_field_level}
use Rattle.row_writer.proofs.Plans.{Plan, type_of, plan_folds}
use Rattle.row_writer.proofs.PlanNames.{named, plain_names, named_is}
use Rattle.row_writer.proofs.PlanRoom.{nodes, within, plan_placed}

pub plan_has_text : (p : Plan) → plain_names p ≡ true → is_some (named p []) ≡ true → within p 32 ≡ true → nodes p ≤ 100000 → has_text (type_of p) ≡ true
plan_has_text p plain names deep few =
    ap (λ (f : Begins). is_some (f []) && is_some (placed (type_of p) 32 100000)) (plan_folds Begins Begins once_level once_field_level p)
    ∙ ap (λ (o : Option (List (List ℕ))). is_some o && is_some (placed (type_of p) 32 100000)) (named_is p [] plain) ∙ ap (λ (b : Bool). b && is_some (placed (type_of p) 32 100000)) names
    ∙ ap (λ (f : Placing). is_some (f 32 100000)) (plan_folds Placing Placing place_level place_field p) ∙ ap (λ (o : Option ℕ). is_some o) (plan_placed p 32 100000 deep few)

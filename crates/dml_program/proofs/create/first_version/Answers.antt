use Rattle.std.proofs.Common.{Ok, sym, ap, ◌∙◌, List, ℕ, ℤ, w64, FitsSigned, rules}
use Rattle.std.proofs.lemmas.Int.{to_z-of_z}
use Rattle.table_definition.specs.FirstText.{first_text}
use Rattle.table_definition.specs.Definition.{asked}
use Rattle.dml_program.proofs.Creations.{first_is}
use Rattle.dml_program.proofs.create.first_version.Goals as goal

pub returns-clause-found : goal.returns-clause-found
returns-clause-found g c files told inputs given now time =
    let fit : FitsSigned w64 c.now_ms-now.result = search rules in
    let same_time = to_z-of_z w64 c.now_ms-now.result fit in
    first_is c.args.table.now c.args.schema.now files inputs now c.in_ok-bytes.bytes (asked c.in_ok-definition.definition) (c.in_ok-bytes.ensures.found inputs given) (c.in_ok-check_place.ensures.found files told) c.in_ok-definition.ensures.found
    ∙ ap (λ (text : List ℕ). Ok text) (ap (λ (n : ℤ). first_text c.args.table.now n (asked c.in_ok-definition.definition)) (sym (same_time ∙ c.now_ms-now.ensures.now now time)) ∙ sym (c.in_ok-first_text.ensures.exact c.in_ok-definition.ensures.text.0 c.in_ok-definition.ensures.text.1))

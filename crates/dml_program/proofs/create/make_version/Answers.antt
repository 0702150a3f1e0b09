use Rattle.std.proofs.Common.{sym, ◌∙◌, None, ◌≡◌, ap}
use Rattle.std.specs.FinMap as map
use Rattle.store_core.specs.Answers.{is_lost}
use Rattle.dml_program.proofs.Creations.{no_first, not_lost}
use Rattle.dml_program.proofs.create.make_version.Goals as goal

pub swap-requires : goal.swap-requires
swap-requires g c files is there =
    let none : map.get files c.as_str.result.now ≡ None = ap (λ n. map.get files n) (c.as_str.ensures.value ∙ c.in_ok-name.ensures) ∙ no_first c.args.table.now files (c.requires files is) in
    absurd cc

pub returns-in-Ok-Lost-clause-refused : goal.returns-in-Ok-Lost-clause-refused
returns-in-Ok-Lost-clause-refused g c files is =
    not_lost c.args.table.now c.as_str.result.now files (c.requires files is) (c.as_str.ensures.value ∙ c.in_ok-name.ensures) (ap is_lost (sym c.in-Ok-Lost.field-0-is) ∙ c.in-Ok-Lost.ensures.answer files is)

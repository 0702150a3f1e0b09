use Rattle.std.proofs.Common.{Ok, sym, ap, ◌∙◌, subst, List, ℕ, Option}
use Rattle.store_core.specs.Files.{Files, KeepsFiles}
use Rattle.dml_program.specs.Creating.{first_version_of}
use Rattle.dml_program.proofs.Creations.{leaves_by}
use Rattle.dml_program.proofs.create.create.Goals as goal

pub returns-clause-kept : goal.returns-clause-kept
returns-clause-kept g c = subst (λ (old : Option Files). KeepsFiles old (g.S.Store.files c.make_version.new.store)) c.in-Ok.ensures.files c.make_version.ensures.kept

pub returns-clause-leaves : goal.returns-clause-leaves
returns-clause-leaves g c files told inputs given now time =
    leaves_by c.args.table.now files
    (first_version_of c.args.table.now c.args.schema.now files inputs now) c.as_slice.result.now c.in-Err-make_version.status
    (g.S.Store.files c.make_version.new.store) (c.in-Ok.ensures.found files told inputs given now time
    ∙ ap (λ (text : List ℕ). Ok text) (sym c.as_slice.ensures)) (c.in-Err-make_version.ensures.leaves files (c.in-Ok.ensures.files ∙ told))

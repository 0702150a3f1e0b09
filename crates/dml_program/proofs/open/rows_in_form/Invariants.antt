use Rattle.std.proofs.Common.{◌≡◌, [], length}
use Rattle.std.specs.Option.{ForSome}
use Rattle.table_metadata.specs.Metadata.{parts}
use Rattle.dml_program.specs.TableInForm.{rows_in_form}
use Rattle.dml_program.proofs.open.rows_in_form.Given as goal

-- the files that are left, behind what is read, give the same
abbrev pub invariant-loop-rest : goal.invariant-loop-rest
invariant-loop-rest g l = record {
  same : ForSome (g.S.Store.files l.initial.store)
      (λ files. rows_in_form l.table (parts l.metadata) l.rows.items l.rest files ≡ rows_in_form l.table (parts l.metadata)
      [] l.entries files);
  files : g.S.Store.files l.store ≡ g.S.Store.files l.initial.store;
  faults : g.S.Store.faults l.store ≡ g.S.Store.faults l.initial.store;
}

abbrev pub decreases-loop-rest : goal.decreases-loop-rest
decreases-loop-rest g l = length l.rest

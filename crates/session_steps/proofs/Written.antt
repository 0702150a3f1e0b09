-- The new data files of a statement that was planned on an open table were put, and can be read again.
use Rattle.std.proofs.Common.{◌≡◌, ◌+◌, ◌≤◌, ◌^◌, ℕ, List, Some, length, ap, arith}
use Rattle.row_values.specs.declared.schema.TableSchema.{TableSchema}
use Rattle.row_values.specs.declared.value.Value.{Value}
use Rattle.sql_statements.specs.declared.statement.Source.{Source}
use Rattle.sql_statements.specs.declared.statement.Statement.{Statement}
use Rattle.store_core.specs.Files.{Files}
use Rattle.table_names.specs.declared.names.Names.{Names}
use Rattle.change_sets.specs.declared.scanned.Decisions.{Decisions}
use Rattle.change_sets.specs.declared.scanned.ScannedFile.{ScannedFile}
use Rattle.cow_writer.specs.Copies.{files_after, pieces_in}
use Rattle.commit_builder.specs.declared.commit.Prepared.{Prepared}
use Rattle.branch_commit.specs.Committing.{IsWritten, decided_by}
use Rattle.commit_builder.proofs.CallerLemmas.{can_be_read}
use Rattle.branch_commit.specs.declared.outcome.Pending.{Pending}
use Rattle.session_steps.specs.Open.{IsOpen}
use Rattle.session_steps.specs.Work.{IsSwapping}
use Rattle.session_steps.proofs.OneTable.{base_form}

pub one_value : {A : Type 0} (a b : A) → Some a ≡ Some b → a ≡ b
one_value a b e = cc

module _ (table : List ℕ) (schema : TableSchema) (sources : List Source) (s : Statement) (files : Files) (current : ℕ) (pending : Pending) (prepared : Prepared) (was : IsOpen table schema files current) (is : IsSwapping table schema sources s files pending prepared) where
  abbrev scanned : List ScannedFile
  scanned = is.pends.ready.scanned

  abbrev decided : Decisions
  decided = decided_by pending.base scanned sources s

  abbrev pieces : List (List (List Value))
  pieces = pieces_in pending.base scanned decided

  names_are_left : is.pends.names.next + length pieces ≤ 2 ^ 128
  names_are_left = omega (arith, ap (λ (names : Names). names.next) is.pends.ready.rest, is.pends.few, is.pends.room)

  pub written : IsWritten pending.base sources s scanned is.pends.names is.pends.old is.pends.put
  written = record {
    files = one_value is.pends.put (files_after pending.base scanned decided is.pends.names is.pends.old) is.pends.ready.files;
    read = can_be_read pending.base pending.base.version is.pends.old is.pends.ready.planned.loaded (base_form table schema sources s files current pending prepared was is) scanned decided is.pends.names is.pends.named names_are_left is.pends.ready.short;
    fits = is.pends.ready.rows;
  }

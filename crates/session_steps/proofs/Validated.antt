-- The next version was prepared on the branch as it was validated, with the change that was planned.
use Rattle.std.proofs.Common.{◌≡◌, ◌<◌, ◌^◌, ℕ, List, Some, length, ap, subst, sym, ◌∙◌, arith}
use Rattle.row_values.specs.declared.schema.TableSchema.{TableSchema}
use Rattle.sql_statements.specs.declared.statement.Source.{Source}
use Rattle.sql_statements.specs.declared.statement.Statement.{Statement}
use Rattle.sql_statements.specs.Tables.{branch_of}
use Rattle.store_core.specs.Files.{Files}
use Rattle.table_names.specs.declared.names.Names.{Names}
use Rattle.table_names.specs.FileNames.{NoneFrom}
use Rattle.table_state.specs.States.{IsStateOf}
use Rattle.change_sets.specs.declared.change.ChangeSet.{ChangeSet}
use Rattle.change_sets.specs.declared.change.Plan.{Plan}
use Rattle.change_sets.specs.declared.scanned.ScannedFile.{ScannedFile}
use Rattle.commit_builder.specs.declared.commit.Prepared.{Prepared}
use Rattle.commit_builder.specs.Commits.{drafts_in, files_after}
use Rattle.commit_builder.specs.NextVersion.{CanBeLaid}
use Rattle.commit_builder.specs.Preparing.{Prepares}
use Rattle.branch_commit.specs.Committing.{IsPrepared, change_by, decided_by, filter_on}
use Rattle.commit_builder.proofs.CallerLemmas.{change_can_be_laid}
use Rattle.branch_commit.specs.Validation.{IsNext}
use Rattle.branch_commit.specs.declared.outcome.Pending.{Pending}
use Rattle.session_steps.specs.Open.{IsOpen}
use Rattle.session_steps.specs.Work.{IsSwapping}
use Rattle.session_steps.proofs.Ids.{few_ids}
use Rattle.session_steps.proofs.OneTable.{base_form, head_form, one_table}
use Rattle.session_steps.proofs.OneVersion.{room_is_left, sequence_goes_on}
use Rattle.session_steps.proofs.Written.{one_value}

module _ (table : List ℕ) (schema : TableSchema) (sources : List Source) (s : Statement) (files : Files) (current : ℕ) (pending : Pending) (prepared : Prepared) (was : IsOpen table schema files current) (is : IsSwapping table schema sources s files pending prepared) where
  abbrev scanned : List ScannedFile
  scanned = is.pends.ready.scanned

  abbrev pub change : ChangeSet
  change = change_by pending.base scanned sources s is.pends.names

  -- ---- what was prepared, by the change that was planned

  next : IsNext pending.plan change is.names is.now is.head is.old (Some is.put) is.after prepared
  next = subst (λ (c : ChangeSet). IsNext pending.plan c is.names is.now is.head is.old (Some is.put) is.after prepared) is.pends.ready.change is.laid

  pub files_are : is.put ≡ files_after is.head change is.names is.old
  files_are = one_value is.put (files_after is.head change is.names is.old) next.files

  few : length (drafts_in is.head change) < 2 ^ 100
  few = omega (arith, ap (λ (names : Names). names.next) next.rest, is.few)

  -- ---- on the branch

  plan_branch : pending.plan.branch ≡ branch_of s
  plan_branch = ap (λ (plan : Plan). plan.branch) is.pends.ready.fixed

  pub prepares_on : (branch : List ℕ) → branch_of s ≡ branch → Prepares is.head branch change is.names is.now prepared
  prepares_on branch same = subst (λ (b : List ℕ). Prepares is.head b change is.names is.now prepared) (plan_branch ∙ same) next.next

  loaded : IsStateOf is.head.table is.head.version is.head.branch is.old is.head
  loaded =
      subst (λ (t : List ℕ). IsStateOf t is.head.version is.head.branch is.old is.head) (sym is.loaded.state.table_name)
      (subst (λ (b : List ℕ). IsStateOf table is.head.version b is.old is.head) (sym is.loaded.state.branch_name) is.loaded.state)

  free : NoneFrom is.head.table is.names.run is.names.session is.names.next is.old
  free = subst (λ (t : List ℕ). NoneFrom t is.names.run is.names.session is.names.next is.old) (sym is.loaded.state.table_name) is.free

  laid_on : CanBeLaid is.head change is.names is.now
  laid_on =
      change_can_be_laid pending.base is.head scanned (decided_by pending.base scanned sources s) (filter_on pending.base s) is.pends.names is.names is.now pending.base.version is.head.version is.pends.old is.old
      is.pends.ready.planned.loaded (base_form table schema sources s files current pending prepared was is)
      loaded (head_form table schema sources s files current pending prepared was is)
      (one_table table schema sources s files current pending prepared was is)
      (sequence_goes_on is.head is.goes_on) is.hour (few_ids is.head (room_is_left is.head is.goes_on)) is.pends.ready.short

  pub was_prepared : IsPrepared is.head change is.names is.now is.old prepared
  was_prepared = record {
    loaded = loaded;
    free = free;
    named = is.named;
    few = few;
    spelled = next.spelled;
    laid_on = laid_on;
    prepares = prepares_on is.head.branch (sym is.loaded.state.branch_name);
  }

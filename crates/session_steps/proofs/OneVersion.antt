-- The version that a statement was planned on, the one that it was validated on and the current one are one, and the version
-- that is prepared is the next.
use Rattle.std.proofs.Common.{◌≡◌, ◌+◌, ◌-◌, ◌^◌, ◌<◌, ℕ, true, ◌&&◌, nat_lt, List, Option, Some, None, ap, subst, ◌∙◌, arith}
use Rattle.std.specs.Prelude.{int_lt}
use Rattle.std.specs.FinMap as map
use Rattle.std.proofs.lemmas.Bool.Decides.{nat_tests}
use Rattle.row_values.specs.declared.schema.TableSchema.{TableSchema}
use Rattle.sql_statements.specs.declared.statement.Source.{Source}
use Rattle.sql_statements.specs.declared.statement.Statement.{Statement}
use Rattle.store_core.specs.Files.{Files}
use Rattle.commit_manifests.proofs.CallerLemmas.{first, second}
use Rattle.table_names.proofs.CallerLemmas.{above_is_missing}
use Rattle.table_names.specs.Versions.{version_name, version_of}
use Rattle.table_state.specs.declared.state.State.{State}
use Rattle.commit_builder.specs.declared.commit.Prepared.{Prepared}
use Rattle.commit_builder.specs.SnapshotIds.{last}
use Rattle.branch_commit.specs.Next.{has_room}
use Rattle.branch_commit.specs.Validation.{IsNext}
use Rattle.branch_commit.specs.declared.outcome.Pending.{Pending}
use Rattle.session_steps.specs.Open.{IsOpen}
use Rattle.session_steps.specs.Work.{IsSwapping}

one_number : (a b : ℕ) (found : Option ℕ) → found ≡ Some a → found ≡ Some b → a ≡ b
one_number a b found h k = cc

pub below : (n m : ℕ) → nat_lt n m ≡ true → n < m
below n m h = grind (arith, nat_tests, h)

-- ---- of a head that has a next version

module _ (head : State) (goes_on : (nat_lt head.version (2 ^ 32 - 1) && (int_lt head.metadata.last_sequence last && has_room head)) ≡ true) where
  pub next_is_small : head.version + 1 < 2 ^ 32
  next_is_small = omega (arith, below head.version (2 ^ 32 - 1) (first (nat_lt head.version (2 ^ 32 - 1)) (int_lt head.metadata.last_sequence last && has_room head) goes_on))

  more : (int_lt head.metadata.last_sequence last && has_room head) ≡ true
  more = second (nat_lt head.version (2 ^ 32 - 1)) (int_lt head.metadata.last_sequence last && has_room head) goes_on

  pub sequence_goes_on : int_lt head.metadata.last_sequence last ≡ true
  sequence_goes_on = first (int_lt head.metadata.last_sequence last) (has_room head) more

  pub room_is_left : has_room head ≡ true
  room_is_left = second (int_lt head.metadata.last_sequence last) (has_room head) more

-- ---- of a version that is prepared on an open table

module _ (table : List ℕ) (schema : TableSchema) (sources : List Source) (s : Statement) (files : Files) (current : ℕ) (pending : Pending) (prepared : Prepared) (was : IsOpen table schema files current) (is : IsSwapping table schema sources s files pending prepared) where
  pub base_version : pending.base.version ≡ current
  base_version = one_number pending.base.version current (version_of table files) is.newest was.newest

  pub head_is_base : is.head.version ≡ pending.base.version
  head_is_base = one_number is.head.version pending.base.version (version_of table is.old) is.loaded.current is.pends.newest

  pub head_version : is.head.version ≡ current
  head_version = head_is_base ∙ base_version

  pub next : IsNext pending.plan pending.change is.names is.now is.head is.old (Some is.put) is.after prepared
  next = is.laid

  pub name : prepared.name ≡ version_name table (current + 1)
  name =
      next.next.name
      ∙ ap (λ (t : List ℕ). version_name t (is.head.version + 1)) is.loaded.state.table_name
      ∙ ap (λ (version : ℕ). version_name table (version + 1)) head_version

  pub small : current + 1 < 2 ^ 32
  small = subst (λ (version : ℕ). version + 1 < 2 ^ 32) head_version (next_is_small is.head is.goes_on)

  pub missing : map.get files prepared.name ≡ None
  missing = ap (map.get files) name ∙ above_is_missing table files current (current + 1) was.newest (omega arith) small

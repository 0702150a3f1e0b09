-- What a stop needs of the counts of the store's faults it has between wider counts too, and its cause stands on the files that
-- it leaves.
use Rattle.std.proofs.Common.{◌≡◌, ◌≤◌, ℕ, codes, List, Option, Some, None, arith, sym, ap, subst, ◌∙◌, ◌⊎◌, inl, inr}
use Rattle.plain_types.specs.Causes.{Rose, RoseTwice}
use Rattle.row_values.specs.declared.schema.TableSchema.{TableSchema}
use Rattle.sql_statements.specs.declared.statement.Source.{Source}
use Rattle.sql_statements.specs.declared.statement.Statement.{Statement}
use Rattle.store_core.specs.Files.{Files, KeepsFiles}
use Rattle.table_names.specs.Versions.{version_name, version_of}
use Rattle.table_state.specs.declared.state.State.{State}
use Rattle.session_machine.specs.declared.event.Stepped.{Stepped}
use Rattle.session_machine.specs.declared.place.Phase.{Phase}
use Rattle.session_machine.specs.declared.place.Phase.TheVariants as phase
use Rattle.session_machine.specs.declared.place.Place.{Place}
use Rattle.branch_commit.specs.Current.{IsCurrent}
use Rattle.branch_commit.proofs.CallerLemmas.{states_stand}
use Rattle.session_steps.specs.Open.{IsOpen}
use Rattle.session_steps.specs.Outside.{IsOfOutside}
use Rattle.session_steps.specs.declared.fault.RunFault.{RunFault}
use Rattle.session_steps.specs.declared.fault.RunFault.TheVariants as run
use Rattle.session_steps.specs.Steps.{MayCommit}
use Rattle.schedule_runner.specs.Outcome.{IsOutcome}
use Rattle.schedule_runner.specs.Running.{Ended, IsInFlight, IsLeft}

-- ---- counts

pub rose_wider : (before middle now later : ℕ) → before ≤ middle → now ≤ later → Rose middle now → Rose before later
rose_wider before middle now later first last rose = omega arith

pub rose_twice_wider : (before middle now later : ℕ) → before ≤ middle → now ≤ later → RoseTwice middle now → RoseTwice before later
rose_twice_wider before middle now later first last rose = omega arith

may_commit_wider : (p : Phase) (fault : RunFault) (before middle now later : ℕ) → before ≤ middle → now ≤ later → MayCommit p fault middle now → MayCommit p fault before later
may_commit_wider phase.Swap (run.Unknown session statement) before middle now later first last may = rose_twice_wider before middle now later first last may
may_commit_wider phase.Swap run.Memory before middle now later first last may = rose_wider before middle now later first last may
may_commit_wider phase.Swap run.Store before middle now later first last may = absurd may
may_commit_wider phase.Swap (run.Table why) before middle now later first last may = absurd may
may_commit_wider phase.Swap (run.Schema name) before middle now later first last may = absurd may
may_commit_wider phase.Swap (run.Limit name) before middle now later first last may = absurd may
may_commit_wider phase.Plan fault before middle now later first last may = absurd may
may_commit_wider phase.Validate fault before middle now later first last may = absurd may

no_limit : (p : Phase) (name : List ℕ) (before now : ℕ) → MayCommit p (run.Limit name) before now → ⊥
no_limit phase.Plan name before now may = may
no_limit phase.Validate name before now may = may
no_limit phase.Swap name before now may = may

one_current : (a b : ℕ) (o : Option ℕ) → o ≡ Some a → o ≡ Some b → a ≡ b
one_current a b o first second = cc

module _ (table : List ℕ) (schema : TableSchema) (sources : List Source) (statements : List Statement) (start : Files) (first : ℕ) (place : Place) (begun : IsOpen table schema start first) where
  left_wider : (files : Files) (steps : List Stepped) (last : ℕ) (to : Place) (fault : RunFault) (before middle now later : ℕ)
      → before ≤ middle → now ≤ later
      → IsLeft table schema sources statements start first place begun files steps last ⊎ (MayCommit to.phase fault middle now × IsInFlight table schema sources statements start first place begun files steps last to)
      → IsLeft table schema sources statements start first place begun files steps last ⊎ (MayCommit to.phase fault before later × IsInFlight table schema sources statements start first place begun files steps last to)
  left_wider files steps last to fault before middle now later below above (inl left) = inl left
  left_wider files steps last to fault before middle now later below above (inr flight) = inr (may_commit_wider to.phase fault before middle now later below above flight.0, flight.1)

  -- the outcome between wider counts
  pub outcome_wider : (files : Files) (steps : List Stepped) (before middle now later : ℕ) (ended : Option RunFault)
      → before ≤ middle → now ≤ later → IsOutcome table schema sources statements start first place begun files steps middle now ended
      → IsOutcome table schema sources statements start first place begun files steps before later ended
  outcome_wider files steps before middle now later None below above is = is
  outcome_wider files steps before middle now later (Some fault) below above is = record {
    to = is.to;
    ended = record {
      last = is.ended.last;
      up = is.ended.up;
      below = is.ended.below;
      run = is.ended.run;
      left = left_wider files steps is.ended.last is.to fault before middle now later below above is.ended.left;
      way = is.ended.way;
    };
    at_hand = is.at_hand;
    cause = is.cause;
  }

  -- ---- the cause

  limit_stands : (old new : Files) → KeepsFiles (Some old) (Some new) → (last : ℕ) → version_of table old ≡ Some last
      → version_of table new ≡ Some last → (head : State) → IsCurrent table (codes "main") old head
      → IsCurrent table (codes "main") new head
  limit_stands old new kept last was is head current =
      let same : head.version ≡ last = one_current head.version last (version_of table old) current.current was in
      record {
        current = is ∙ ap Some (sym same);
        state = states_stand table (codes "main") head.version old new kept head current.state;
      }

  -- what stands against a step on the table before it does so on the one that is left
  pub cause_stands : (old new : Files) → KeepsFiles (Some old) (Some new) → (was : ℕ) → IsOpen table schema old was
      → (steps : List Stepped) (to : Place) (before now : ℕ) (fault : RunFault)
      → (ended : Ended table schema sources statements start first place begun new to steps before now fault) → ended.last ≡ was
      → IsOfOutside table old was fault → IsOfOutside table new ended.last fault
  cause_stands old new kept was opens steps to before now run.Store ended same cause = tt
  cause_stands old new kept was opens steps to before now (run.Unknown session statement) ended same cause = tt
  cause_stands old new kept was opens steps to before now run.Memory ended same cause = tt
  cause_stands old new kept was opens steps to before now (run.Table why) ended same cause = absurd cause
  cause_stands old new kept was opens steps to before now (run.Schema name) ended same cause = absurd cause
  cause_stands old new kept was opens steps to before now (run.Limit name) ended same cause = by_left ended.left
    where
      by_left : IsLeft table schema sources statements start first place begun new steps ended.last ⊎ (MayCommit to.phase (run.Limit name) before now × IsInFlight table schema sources statements start first place begun new steps ended.last to)
          → IsOfOutside table new ended.last (run.Limit name)
      by_left (inr flight) = absurd (no_limit to.phase name before now flight.0)
      by_left (inl left) = (
        cause.0,
        limit_stands old new kept ended.last (opens.newest ∙ ap Some (sym same)) left.still.newest cause.0 cause.1,
        cause.2,
        subst (λ (n : ℕ). name ≡ version_name table n) (sym same) cause.3,
      )

-- A recorded step keeps a session running, or ends its run.
use Rattle.std.proofs.Common.{◌≡◌, ℕ, codes, true, List, [], ◌∷◌, ◌++◌, Option, Some, None, is_some, refl, sym, subst, inl, slice_get}
use Rattle.std.specs.List.{AllByRecursion}
use Rattle.row_values.specs.declared.schema.TableSchema.{TableSchema}
use Rattle.sql_statements.specs.declared.statement.Source.{Source}
use Rattle.sql_statements.specs.declared.statement.Statement.{Statement}
use Rattle.sql_statements.specs.Tables.{branch_of, is_dml}
use Rattle.store_core.specs.Files.{Files, KeepsFiles}
use Rattle.session_machine.specs.declared.event.Stepped.{Stepped}
use Rattle.session_machine.specs.declared.place.Place.{Place}
use Rattle.session_steps.specs.Open.{IsOpen}
use Rattle.session_steps.specs.declared.fault.RunFault.{RunFault}
use Rattle.session_steps.specs.declared.session.Session.{Session}
use Rattle.session_steps.specs.Steps.{EndsOf, IsStepOf}
use Rattle.schedule_runner.specs.Running.{Ended, Running}
use Rattle.schedule_runner.proofs.RunningLaws.{ends, goes}

pub some_of : {X : Type 0} (o : Option X) → is_some o ≡ true → (x : X) × (o ≡ Some x)
some_of (Some x) there = (x, refl)
some_of None there = absurd cc

pub keeps : (given made : Option Files) (old new : Files) → given ≡ Some old → made ≡ Some new → KeepsFiles given made → KeepsFiles (Some old) (Some new)
keeps given made old new is also kept = subst (KeepsFiles (Some old)) also (subst (λ (files : Option Files). KeepsFiles files made) is kept)

module _ (table : List ℕ) (schema : TableSchema) (sources : List Source) (statements : List Statement) (changes : AllByRecursion (λ (s : Statement). is_dml s ≡ true) statements) (main : AllByRecursion (λ (s : Statement). branch_of s ≡ codes "main") statements)
    (start : Files) (first : ℕ) (place : Place) (begun : IsOpen table schema start first) (session : Session) (at_hand : is_some (slice_get statements session.place.at) ≡ true) (steps items : List Stepped) where
  -- no step was made
  pub unmade : (old : Files) (before now : ℕ) (fault : RunFault) → items ≡ steps
      → (running : Running table schema sources statements start first place begun old session steps)
      → (ended : Ended table schema sources statements start first place begun old session.place items before now fault) × (ended.last ≡ running.last)
  unmade old before now fault same running =
      subst (λ (xs : List Stepped). (ended : Ended table schema sources statements start first place begun old session.place xs before now fault) × (ended.last ≡ running.last)) (sym same)
      (record { last = running.last; up = running.up; below = running.below; run = running.run; left = inl (record { still = running.still; serial_rows = running.serial_rows }); way = running.way }, refl)

  module _ (old new : Files) (kept : KeepsFiles (Some old) (Some new)) (running : Running table schema sources statements start first place begun old session steps) where
    pub ended : (before now : ℕ) (fault : RunFault) → items ≡ steps
        → EndsOf table schema sources (slice_get statements session.place.at) old new running.last session.place before now fault
        → (ended : Ended table schema sources statements start first place begun new session.place items before now fault) × (ended.last ≡ running.last)
    ended before now fault same either =
        let hand = some_of (slice_get statements session.place.at) at_hand in
        subst (λ (xs : List Stepped). (ended : Ended table schema sources statements start first place begun new session.place xs before now fault) × (ended.last ≡ running.last)) (sym same)
        (ends table schema sources statements changes main start first place begun old new kept session steps running hand.0 hand.1 before now fault (subst (λ (found : Option Statement). EndsOf table schema sources found old new running.last session.place before now fault) hand.1 either))

    pub made : (after : Session) (stepped : Stepped) → items ≡ steps ++ stepped ∷ []
        → IsStepOf table schema sources (slice_get statements session.place.at) old new running.last session.place after stepped
        → Running table schema sources statements start first place begun new after items
    made after stepped same step =
        let hand = some_of (slice_get statements session.place.at) at_hand in
        subst (Running table schema sources statements start first place begun new after) (sym same)
        (goes table schema sources statements changes main start first place begun old new kept session steps running hand.0 hand.1 after stepped (subst (λ (found : Option Statement). IsStepOf table schema sources found old new running.last session.place after stepped) hand.1 step))

use Rattle.std.proofs.Common.{◌≡◌, ◌∙◌, ℕ, ⊎_elim, inr, true, false, true≢false, Bool, List, Option, ap, refl, sym, subst}
use Rattle.store_core.specs.Files.{Files, KeepsFiles}
use Rattle.table_names.specs.Versions.{version_name}
use Rattle.branch_commit.specs.Current.{IsCurrent}
use Rattle.branch_commit.specs.Planning.{CannotPlan, HasSchema}
use Rattle.branch_commit.proofs.planning.plan.Goals as goal

-- what a test denies does not hold
refused : (b : Bool) (P : Type 0) → b ≡ false → (P → b ≡ true) → P → ⊥
refused b P denied holds p = true≢false (sym (holds p) ∙ denied)

-- src/planning.rt:211:9
pub returns-then-not-has_schema-clause-refused : goal.returns-then-not-has_schema-clause-refused
returns-then-not-has_schema-clause-refused g c files told =
    let base = c.in-Ok.base in
    let loaded = subst (λ (branch : List ℕ). IsCurrent c.args.table.now branch files base) (c.as_str.ensures ∙ c.branch-statement.ensures) (c.in-Ok.ensures.ok files told) in
    ⊎_elim
    (λ memory. subst (CannotPlan c.args.table.now c.args.schema.now c.args.statement.now files) (sym memory) (λ not_store not_memory. absurd (not_memory refl)))
    (λ other. subst (CannotPlan c.args.table.now c.args.schema.now c.args.statement.now files) (sym other)
    (base, loaded, refused c.has_schema.result (HasSchema base c.args.schema.now) c.if-not-has_schema.true c.has_schema.ensures.1, ap (λ (table : List ℕ). version_name table base.version) c.in-Ok.ensures.place.0))
    c.other_schema.ensures

-- src/planning.rt:215:9
pub returns-then-is_absent-clause-planned : goal.returns-then-is_absent-clause-planned
returns-then-is_absent-clause-planned g c files told = record {
  base = c.in-Ok.base;
  loaded = subst (λ (branch : List ℕ). IsCurrent c.args.table.now branch files c.in-Ok.base) (c.as_str.ensures ∙ c.branch-statement.ensures) (c.in-Ok.ensures.ok files told);
  by_schema = c.has_schema.ensures.0 c.if-not-has_schema.false;
  at = refl;
  is = (sym c.if-is_absent.ensures, c.load_current.ensures.files ∙ told, refl);
}

-- src/planning.rt:181:1
pub returns-in-Ok-plan_on-clause-planned : goal.returns-in-Ok-plan_on-clause-planned
returns-in-Ok-plan_on-clause-planned g c files told = record {
  base = c.in-Ok.base;
  loaded = subst (λ (branch : List ℕ). IsCurrent c.args.table.now branch files c.in-Ok.base) (c.as_str.ensures ∙ c.branch-statement.ensures) (c.in-Ok.ensures.ok files told);
  by_schema = c.has_schema.ensures.0 c.if-not-has_schema.false;
  at = refl;
  is = c.in-Ok-plan_on.ensures.outcome files (c.load_current.ensures.files ∙ told);
}

-- src/planning.rt:181:1
pub returns-in-Ok-plan_on-clause-kept : goal.returns-in-Ok-plan_on-clause-kept
returns-in-Ok-plan_on-clause-kept g c = subst (λ (old : Option Files). KeepsFiles old (g.S.Store.files c.plan_on.new.store)) c.load_current.ensures.files c.plan_on.ensures.kept

-- src/planning.rt:181:1
pub returns-in-Err-plan_on-clause-refused : goal.returns-in-Err-plan_on-clause-refused
returns-in-Err-plan_on-clause-refused g c files told not_store not_memory =
    inr (
      c.in-Ok.base,
      subst (λ (branch : List ℕ). IsCurrent c.args.table.now branch files c.in-Ok.base) (c.as_str.ensures ∙ c.branch-statement.ensures) (c.in-Ok.ensures.ok files told),
      c.in-Err-plan_on.ensures.err not_store not_memory files (c.load_current.ensures.files ∙ told),
    )

use Rattle.std.proofs.Common.{◌∙◌, ℕ, ℤ, List, Option, refl, sym, subst, w64}
use Rattle.std.proofs.lemmas.Int.{to_z-of_z}
use Rattle.store_core.specs.Files.{Files, KeepsFiles}
use Rattle.commit_builder.specs.Puts.{PutsManifests}
use Rattle.branch_commit.specs.Current.{IsCurrent}
use Rattle.branch_commit.specs.Validation.{IsFound}
use Rattle.branch_commit.proofs.validating.validate.Goals as goal

-- src/validating.rt:130:9
pub returns-then-not-has_numbers-clause-refused : goal.returns-then-not-has_numbers-clause-refused
returns-then-not-has_numbers-clause-refused g c files is = (
  c.in-Ok.head,
  subst (λ (branch : List ℕ). IsCurrent c.args.table.now branch files c.in-Ok.head) c.as_str.ensures (c.in-Ok.ensures.ok files is),
  sym c.if-not-has_numbers.ensures,
  c.from_string.ensures ∙ c.in_ok-name.ensures,
)

-- src/validating.rt:122:1
pub returns-in-Ok-find-clause-validated : goal.returns-in-Ok-find-clause-validated
returns-in-Ok-find-clause-validated g c files is =
    record {
      head = c.in-Ok.head;
      loaded = subst (λ (branch : List ℕ). IsCurrent c.args.table.now branch files c.in-Ok.head) c.as_str.ensures (c.in-Ok.ensures.ok files is);
      goes_on = sym c.if-not-has_next.ensures;
      at = refl;
      is =
          subst (λ (now : ℤ). IsFound c.args.plan.now c.args.change.now c.args.base.now c.args.names.now now c.in-Ok.head files (g.S.Store.files c.find.new.store) c.find.new.names c.in-Ok-find.found) (to_z-of_z w64 c.args.now_ms c.ranges.now_ms)
          (c.in-Ok-find.ensures.found files (c.load_current.ensures.files ∙ is));
    }

-- src/validating.rt:122:1
pub returns-in-Ok-find-clause-others : goal.returns-in-Ok-find-clause-others
returns-in-Ok-find-clause-others g c =
    subst (λ (table : List ℕ). PutsManifests table c.args.names.now (g.S.Store.files c.args.store.now) (g.S.Store.files c.find.new.store)) c.in-Ok.ensures.place.0
    (subst (λ (old : Option Files). PutsManifests c.in-Ok.head.table c.args.names.now old (g.S.Store.files c.find.new.store)) c.load_current.ensures.files c.find.ensures.others)

-- src/validating.rt:122:1
pub returns-in-Ok-find-clause-kept : goal.returns-in-Ok-find-clause-kept
returns-in-Ok-find-clause-kept g c = subst (λ (old : Option Files). KeepsFiles old (g.S.Store.files c.find.new.store)) c.load_current.ensures.files c.find.ensures.kept

-- src/validating.rt:99:1
pub returns-clause-others : goal.returns-clause-others
returns-clause-others g c =
    subst (λ (table : List ℕ). PutsManifests table c.args.names.now (g.S.Store.files c.args.store.now) (g.S.Store.files c.find.new.store)) c.in-Ok.ensures.place.0
    (subst (λ (old : Option Files). PutsManifests c.in-Ok.head.table c.args.names.now old (g.S.Store.files c.find.new.store)) c.load_current.ensures.files c.find.ensures.others)

-- src/validating.rt:99:1
pub returns-clause-kept : goal.returns-clause-kept
returns-clause-kept g c = subst (λ (old : Option Files). KeepsFiles old (g.S.Store.files c.find.new.store)) c.load_current.ensures.files c.find.ensures.kept

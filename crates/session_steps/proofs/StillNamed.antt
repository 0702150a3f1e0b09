-- The names of a session stay in form, and a store that tells its files goes on telling them.
use Rattle.std.proofs.Common.{◌≡◌, ◌⊎◌, inl, inr, ◌<◌, ◌^◌, ℕ, List, Option, Some, None, IsSome, is_some, option_map, refl, sym, ap, subst, ◌∙◌}
use Rattle.std.specs.Str.{IsUtf8}
use Rattle.store_core.specs.Files.{Files, swapped}
use Rattle.table_names.specs.declared.names.Names.{Names}
use Rattle.table_names.specs.Sessions.{HasNoSlash}
use Rattle.commit_builder.specs.NextVersion.{AreNames}
use Rattle.commit_builder.specs.declared.commit.Prepared.{Prepared}

pub still_named : (old new : Names) → AreNames old → (new.run ≡ old.run) × (new.session ≡ old.session) → new.next < 2 ^ 127 → AreNames new
still_named old new named same room = record {
  text = subst IsUtf8 (sym same.1) named.text;
  slash = subst HasNoSlash (sym same.1) named.slash;
  run = subst (λ (run : ℕ). run < 2 ^ 64) (sym same.0) named.run;
  room = room;
}

mapped : {A B : Type 0} (f : A → B) (o : Option A) → is_some (option_map f o) ≡ is_some o
mapped f None = refl
mapped f (Some a) = refl

by_swap : (name bytes : List ℕ) (old new : Option Files) → (new ≡ old) ⊎ (new ≡ option_map (swapped name bytes) old) → is_some new ≡ is_some old
by_swap name bytes old new (inl same) = ap is_some same
by_swap name bytes old new (inr won) = ap is_some won ∙ mapped (swapped name bytes) old

pub told_after : (held : Option Prepared) → IsSome held → (old new : Option Files)
    → ((prepared : Prepared) → held ≡ Some prepared → (new ≡ old) ⊎ (new ≡ option_map (swapped prepared.name prepared.bytes) old))
    → is_some new ≡ is_some old
told_after None there old new swaps = absurd cc
told_after (Some prepared) there old new swaps = by_swap prepared.name prepared.bytes old new (swaps prepared refl)

-- What writing appends, part by part.
use Rattle.std.proofs.Common.{◌≡◌, ℕ, zero, suc, ◌+◌, ◌-◌, ◌/◌, ◌%◌, ◌<◌, ◌≤◌, List, [], ◌∷◌, ◌++◌, refl, sym, ap, ◌∙◌, arith, Result}
use Rattle.std.proofs.lemmas.Bool.{le-ltb}
use Rattle.plain_types.specs.Appends.{Appends}
use Rattle.plain_types.proofs.CallerLemmas.{appends_more}
use Rattle.avro_binary.specs.Spelling.{groups_up_to}

groups_suc : (more n : ℕ) → 128 ≤ n → groups_up_to (suc more) n ≡ (n % 128 + 128) ∷ groups_up_to more (n / 128)
unfolding groups_up_to
groups_suc more n le = rw (le-ltb n 128 le) refl

-- a first group that others follow
pub groups_step : (more n : ℕ) → 0 < more → 128 ≤ n → groups_up_to more n ≡ (n % 128 + 128) ∷ groups_up_to (more - 1) (n / 128)
groups_step zero n some le = absurd (omega arith)
groups_step (suc more) n some le = let e : suc more - 1 ≡ more = omega arith in groups_suc more n le ∙ ap (λ (m : ℕ). (n % 128 + 128) ∷ groups_up_to m (n / 128)) (sym e)

-- a first group that was written, and those that follow
pub groups_begin : {E : Type 0} (more n : ℕ) (before mid now : List ℕ) (r : Result (Unit {0}) E) → 0 < more → 128 ≤ n
    → mid ≡ before ++ (n % 128 + 128) ∷ [] → Appends mid now (groups_up_to (more - 1) (n / 128)) r → Appends before now (groups_up_to more n) r
groups_begin more n before mid now r some le m a =
    appends_more before ((n % 128 + 128) ∷ []) (groups_up_to (more - 1) (n / 128)) (groups_up_to more n) mid now r m a (groups_step more n some le)

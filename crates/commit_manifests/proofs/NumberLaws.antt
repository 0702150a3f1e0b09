-- The least sequence number is exact.
use Rattle.std.proofs.Common.{◌≡◌, suc, ℤ, ◌≤ℤ◌, ◌⊎◌, inl, inr, Bool, true, false, not, cond, List, [], ◌∷◌, Option, Some, None, refl, arith}
use Rattle.std.specs.Prelude.{unwrap_or, int_lt, ⊤}
use Rattle.std.specs.Int.{int_min}
use Rattle.std.specs.List.{AllByRecursion, list_all}
use Rattle.std.specs.Int.Signed.{≤ℤ_refl}
use Rattle.std.proofs.lemmas.Int.{ints, fold-int_min_bounds}
use Rattle.plain_types.specs.Steps.{by_option}
use Rattle.manifest_files.specs.declared.entry.Entry.{Entry}
use Rattle.manifest_files.specs.Entries.{is_live}
use Rattle.commit_manifests.specs.Rows.{with_number, least_from, least_number}
use Rattle.commit_manifests.specs.Exact.{IsLeast, IsOfLive, NoneIsLive}
use Rattle.commit_manifests.proofs.Conjunction.{both}

abbrev AtMost : Option ℤ → ℤ → Type 0
AtMost None n = ⊥
AtMost (Some m) n = m ≤ℤ n

abbrev UpTo : Option ℤ → Option ℤ → Type 0
UpTo None least = ⊤
UpTo (Some n) least = AtMost least n

lower : (a b : ℤ) → (int_min a b ≤ℤ a) × (int_min a b ≤ℤ b)
lower a b =
    let bounds = fold-int_min_bounds a (b ∷ []) (int_min a b) refl in
    (bounds.0, bounds.1 0 b (omega arith))

further : (o p : Option ℤ) (n : ℤ) → AtMost o n → UpTo o p → AtMost p n
further None p n h i = absurd h
further (Some m) None n h i = absurd i
further (Some m) (Some l) n h i = omega (arith, ints)

onward : (o p q : Option ℤ) → UpTo o p → UpTo p q → UpTo o q
onward None p q h i = tt
onward (Some n) p q h i = further p q n h i

itself : (o : Option ℤ) → UpTo o o
itself None = tt
itself (Some n) = ≤ℤ_refl n

kept : (least : Option ℤ) (seq : ℤ) (live : Bool) → UpTo least (cond live (Some (by_option least (λ number. int_min number seq) seq)) least)
kept None seq live = tt
kept (Some n) seq true = (lower n seq).0
kept (Some n) seq false = ≤ℤ_refl n

taken : (least : Option ℤ) (seq : ℤ) (live : Bool) → live ≡ true → AtMost (cond live (Some (by_option least (λ number. int_min number seq) seq)) least) seq
taken None seq true h = ≤ℤ_refl seq
taken (Some n) seq true h = (lower n seq).1
taken least seq false h = absurd cc

abbrev AllAbove : Option ℤ → List Entry → Type 0
AllAbove least entries = AllByRecursion (λ entry. is_live entry.status ≡ true → AtMost least entry.seq) entries

goes : (entries : List Entry) (best : Option ℤ) → UpTo best (least_from best entries) × AllAbove (least_from best entries) entries
goes [] best = (itself best, tt)
goes (entry ∷ entries) best =
    let next : Option ℤ = with_number best entry in
    let rest : UpTo (with_number best entry) (least_from (with_number best entry) entries) × AllAbove (least_from (with_number best entry) entries) entries = goes entries (with_number best entry) in
    (onward best next _ (kept best entry.seq (is_live entry.status)) rest.0, ((λ live. further next _ entry.seq (taken best entry.seq (is_live entry.status) live) rest.0), rest.1))

unwrapped : (least : Option ℤ) (seq n : ℤ) → AtMost least n → unwrap_or least seq ≤ℤ n
unwrapped None seq n h = absurd h
unwrapped (Some m) seq n h = h

all_unwrapped : (least : Option ℤ) (seq : ℤ) (entries : List Entry) → AllAbove least entries → IsLeast (unwrap_or least seq) entries
all_unwrapped least seq [] h = tt
all_unwrapped least seq (entry ∷ entries) (now, later) = ((λ live. unwrapped least seq entry.seq (now live)), all_unwrapped least seq entries later)

pub number_is_least : (seq : ℤ) (entries : List Entry) → IsLeast (least_number seq entries) entries
number_is_least seq entries = all_unwrapped (least_from None entries) seq entries (goes entries None).1

-- ---- it is the number of a live entry

here : (v : ℤ) (entry : Entry) (entries : List Entry) → is_live entry.status ≡ true → entry.seq ≡ v → IsOfLive v (entry ∷ entries)
here v entry entries live h = (0, entry, omega arith, refl, (live, h))

later : (v : ℤ) (entry : Entry) (entries : List Entry) → IsOfLive v entries → IsOfLive v (entry ∷ entries)
later v entry entries (at, found, below, same, h) = (suc at, found, omega arith, same, h)

either : (b : Bool) (m n : ℤ) → (cond b n m ≡ m) ⊎ (cond b n m ≡ n)
either true m n = inr refl
either false m n = inl refl

pub one_of_both : (m n : ℤ) → (int_min m n ≡ m) ⊎ (int_min m n ≡ n)
one_of_both m n = either (int_lt n m) m n

abbrev Picks : Option ℤ → ℤ → Bool → ℤ → Type 0
Picks best seq live v = (best ≡ Some v) ⊎ ((live ≡ true) × (seq ≡ v))

of_both : (n seq v c : ℤ) → (c ≡ n) ⊎ (c ≡ seq) → ◌≡◌ {A = Option ℤ} (Some c) (Some v) → Picks (Some n) seq true v
of_both n seq v c (inl e) h = inl cc
of_both n seq v c (inr e) h = let same : seq ≡ v = cc in inr (refl, same)

picked : (best : Option ℤ) (seq v : ℤ) (live : Bool)
    → cond live (Some (by_option best (λ number. int_min number seq) seq)) best ≡ Some v → Picks best seq live v
picked None seq v true h = let same : seq ≡ v = cc in inr (refl, same)
picked (Some n) seq v true h = of_both n seq v (int_min n seq) (one_of_both n seq) h
picked best seq v false h = inl h

now_or_later : (best : Option ℤ) (v : ℤ) (entry : Entry) (entries : List Entry) → Picks best entry.seq (is_live entry.status) v
    → (best ≡ Some v) ⊎ IsOfLive v (entry ∷ entries)
now_or_later best v entry entries (inl h) = inl h
now_or_later best v entry entries (inr (live, h)) = inr (here v entry entries live h)

joined : (best : Option ℤ) (v : ℤ) (entry : Entry) (entries : List Entry) → (with_number best entry ≡ Some v) ⊎ IsOfLive v entries
    → (best ≡ Some v) ⊎ IsOfLive v (entry ∷ entries)
joined best v entry entries (inl h) = now_or_later best v entry entries (picked best entry.seq v (is_live entry.status) h)
joined best v entry entries (inr h) = inr (later v entry entries h)

held_from : (entries : List Entry) (best : Option ℤ) (v : ℤ) → least_from best entries ≡ Some v → (best ≡ Some v) ⊎ IsOfLive v entries
held_from [] best v h = inl h
held_from (entry ∷ entries) best v h = joined best v entry entries (held_from entries (with_number best entry) v h)

-- ---- where it is none, no entry is live

still : (live : Bool) (m n : ℤ) (entries : List Entry) → ((l : ℤ) → least_from (Some l) entries ≡ None → ⊥)
    → least_from (cond live (Some m) (Some n)) entries ≡ None → ⊥
still true m n entries rest h = rest m h
still false m n entries rest h = rest n h

stays : (entries : List Entry) (n : ℤ) → least_from (Some n) entries ≡ None → ⊥
stays [] n h = absurd cc
stays (entry ∷ entries) n h = still (is_live entry.status) (int_min n entry.seq) n entries (stays entries) h

dead : (live : Bool) (best : Option ℤ) (m : ℤ) (entries : List Entry) → least_from (cond live (Some m) best) entries ≡ None → not live ≡ true
dead true best m entries h = absurd (stays entries m h)
dead false best m entries h = refl

none_live : (entries : List Entry) (best : Option ℤ) → least_from best entries ≡ None → NoneIsLive entries
none_live [] best h = refl
none_live (entry ∷ entries) best h = both (not (is_live entry.status)) (list_all (λ e. not (is_live e.status)) entries)
    (dead (is_live entry.status) best (by_option best (λ number. int_min number entry.seq) entry.seq) entries h) (none_live entries (with_number best entry) h)

some_held : (v : ℤ) (entries : List Entry) → (◌≡◌ {A = Option ℤ} None (Some v)) ⊎ IsOfLive v entries → IsOfLive v entries
some_held v entries (inl h) = absurd cc
some_held v entries (inr h) = h

settled : (seq : ℤ) (entries : List Entry) (least : Option ℤ) → least_from None entries ≡ least
    → IsOfLive (unwrap_or least seq) entries ⊎ (NoneIsLive entries × (unwrap_or least seq ≡ seq))
settled seq entries None h = inr (none_live entries None h, refl)
settled seq entries (Some v) h = inl (some_held v entries (held_from entries None v h))

pub number_is_held : (seq : ℤ) (entries : List Entry) → IsOfLive (least_number seq entries) entries ⊎ (NoneIsLive entries × (least_number seq entries ≡ seq))
number_is_held seq entries = settled seq entries (least_from None entries) refl

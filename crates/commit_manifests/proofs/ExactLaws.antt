-- The summary of a field is exact.
use Rattle.std.proofs.Common.{◌≡◌, ℕ, suc, ◌⊎◌, inl, inr, Bool, true, false, not, cond, List, [], ◌∷◌, Option, Some, None, refl, sym, ap, ◌∙◌, arith}
use Rattle.std.specs.Prelude.{⊤}
use Rattle.std.specs.List.{Any, AllByRecursion, list_all}
use Rattle.std.specs.declared.cmp.Ordering.{Ordering}
use Rattle.std.specs.declared.cmp.Ordering.TheVariants.{Less, Equal, Greater}
use Rattle.std.specs.Cmp.{IsTotalOrder}
use Rattle.std.specs.Ordering.{is_gt, ordering_reverse}
use Rattle.std.proofs.lemmas.Cmp.{upto, tied_itself, back_total}
use Rattle.plain_types.specs.Steps.{by_option}
use Rattle.row_values.specs.declared.kind.Kind.{Kind}
use Rattle.row_values.specs.declared.value.Value.{Value}
use Rattle.row_values.specs.Rows.{is_value}
use Rattle.manifest_files.specs.declared.entry.Entry.{Entry}
use Rattle.commit_manifests.specs.Rows.{part_at, is_side, is_outside, outermost, outermost_from, least_at, greatest_at}
use Rattle.commit_manifests.specs.Exact.{AreOfKind, is_inside, is_covered, AreCovered}
use Rattle.commit_manifests.proofs.Conjunction.{first, second, both}
use Rattle.commit_manifests.proofs.ValueOrder.{kind_cmp, kind_total, compares}

turned : (o : Ordering) → is_gt o ≡ true → is_gt (ordering_reverse o) ≡ false
turned Less h = absurd cc
turned Equal h = absurd cc
turned Greater h = refl

-- ---- the outermost value, where being farther to the side is being greater in a total order

module _ (side : Ordering) (k : Kind) (place : ℕ) (R : Value → Value → Ordering) (total : IsTotalOrder R) (side_is : (v w : Value) → is_side (kind_cmp k v w) side ≡ is_gt (R v w)) where
  outside_is : (v w : Value) → is_value k v ≡ true → is_value k w ≡ true → is_outside side v w ≡ is_gt (R v w)
  outside_is v w hv hw = ap (λ (o : Option Ordering). by_option o (λ found. is_side found side) false) (compares k v w hv hw) ∙ side_is v w

  inside_is : (v w : Value) → is_value k v ≡ true → is_value k w ≡ true → is_inside side w v ≡ not (is_gt (R v w))
  inside_is v w hv hw = ap (λ (o : Option Ordering). by_option o (λ found. not (is_side found side)) false) (compares k v w hv hw) ∙ ap not (side_is v w)

  abbrev OfKind : Option Value → Type 0
  OfKind None = ⊤
  OfKind (Some v) = is_value k v ≡ true

  of_test : (o : Option Value) → by_option o (is_value k) true ≡ true → OfKind o
  of_test None h = tt
  of_test (Some v) h = h

  abbrev UpTo : Option Value → Option Value → Type 0
  UpTo None bound = ⊤
  UpTo (Some v) None = ⊥
  UpTo (Some v) (Some w) = is_gt (R v w) ≡ false

  itself : (o : Option Value) → UpTo o o
  itself None = tt
  itself (Some v) = ap is_gt (tied_itself total v)

  onward : (a b c : Option Value) → UpTo a b → UpTo b c → UpTo a c
  onward None b c h i = tt
  onward (Some x) None c h i = absurd h
  onward (Some x) (Some y) None h i = absurd i
  onward (Some x) (Some y) (Some z) h i = upto total x y z h i

  chosen : (other v : Value) → is_value k other ≡ true → is_value k v ≡ true → (b : Bool) → is_gt (R v other) ≡ b
      → (is_gt (R other (cond b v other)) ≡ false) × (is_gt (R v (cond b v other)) ≡ false) × (is_value k (cond b v other) ≡ true)
  chosen other v ko kv true h = (ap is_gt (total.antisymm other v) ∙ turned (R v other) h, ap is_gt (tied_itself total v), kv)
  chosen other v ko kv false h = (ap is_gt (tied_itself total other), h, ko)

  step : (best new : Option Value) → OfKind best → OfKind new → UpTo best (outermost side best new)
      × UpTo new (outermost side best new) × OfKind (outermost side best new)
  step None None kb kn = (tt, tt, tt)
  step (Some other) None kb kn = (itself (Some other), tt, kb)
  step None (Some v) kb kn = (tt, itself (Some v), kn)
  step (Some other) (Some v) kb kn = chosen other v kb kn (is_outside side v other) (sym (outside_is v other kn kb))

  abbrev AllUpTo : Option Value → List Entry → Type 0
  AllUpTo bound entries = AllByRecursion (λ entry. UpTo (part_at place entry) bound) entries

  goes : (entries : List Entry) (best : Option Value) → OfKind best → AreOfKind k place entries
      → UpTo best (outermost_from side place best entries) × OfKind (outermost_from side place best entries)
      × AllUpTo (outermost_from side place best entries) entries
  goes [] best kb h = (itself best, kb, tt)
  goes (entry ∷ entries) best kb h =
      let part : Option Value = part_at place entry in
      let others : Bool = list_all (λ e. by_option (part_at place e) (is_value k) true) entries in
      let kp : OfKind (part_at place entry) = of_test (part_at place entry) (first (by_option (part_at place entry) (is_value k) true) others h) in
      let taken : UpTo best (outermost side best part) × UpTo part (outermost side best part) × OfKind (outermost side best part) = step best part kb kp in
      let rest : UpTo (outermost side best part) (outermost_from side place (outermost side best part) entries)
      × OfKind (outermost_from side place (outermost side best part) entries)
      × AllUpTo (outermost_from side place (outermost side best part) entries) entries = goes entries (outermost side best part) taken.2
      (second (by_option (part_at place entry) (is_value k) true) others h) in
      (onward best (outermost side best part) _ taken.0 rest.0, rest.1, (onward part (outermost side best part) _ taken.1 rest.0, rest.2))

  covers : (bound part : Option Value) → OfKind bound → OfKind part → UpTo part bound → is_covered side bound part ≡ true
  covers bound None kb kp u = refl
  covers None (Some v) kb kp u = absurd u
  covers (Some w) (Some v) kb kp u = inside_is v w kp kb ∙ ap not u

  all_covered : (bound : Option Value) (entries : List Entry) → OfKind bound → AreOfKind k place entries → AllUpTo bound entries
      → AreCovered side bound place entries
  all_covered bound [] kb h u = refl
  all_covered bound (entry ∷ entries) kb h (now, later) =
      let others : Bool = list_all (λ e. by_option (part_at place e) (is_value k) true) entries in
      both (is_covered side bound (part_at place entry)) (list_all (λ e. is_covered side bound (part_at place e)) entries)
      (covers bound (part_at place entry) kb (of_test (part_at place entry) (first (by_option (part_at place entry) (is_value k) true) others h)) now)
      (all_covered bound entries kb (second (by_option (part_at place entry) (is_value k) true) others h) later)

  extreme_covers : (entries : List Entry) → AreOfKind k place entries → AreCovered side (outermost_from side place None entries) place entries
  extreme_covers entries h =
      let found : UpTo None (outermost_from side place None entries) × OfKind (outermost_from side place None entries) × AllUpTo (outermost_from side place None entries) entries = goes entries None tt h in
      all_covered (outermost_from side place None entries) entries found.1 h found.2

greater_is : (o : Ordering) → is_side o Greater ≡ is_gt o
greater_is Less = refl
greater_is Equal = refl
greater_is Greater = refl

less_is : (o : Ordering) → is_side o Less ≡ is_gt (ordering_reverse o)
less_is Less = refl
less_is Equal = refl
less_is Greater = refl

pub greatest_covers : (k : Kind) (place : ℕ) (entries : List Entry) → AreOfKind k place entries → AreCovered Greater (greatest_at place entries) place entries
greatest_covers k place entries h = extreme_covers Greater k place (kind_cmp k) (kind_total k) (λ v w. greater_is (kind_cmp k v w)) entries h

pub least_covers : (k : Kind) (place : ℕ) (entries : List Entry) → AreOfKind k place entries → AreCovered Less (least_at place entries) place entries
least_covers k place entries h = extreme_covers Less k place (λ v w. kind_cmp k w v) (back_total (kind_total k)) (λ v w. less_is (kind_cmp k v w) ∙ ap is_gt (sym ((kind_total k).antisymm w v))) entries h

-- ---- it is the value of a live entry

abbrev IsHeld : ℕ → Value → List Entry → Type 0
IsHeld place v entries = Any (λ entry. part_at place entry ≡ Some v) entries

here : (place : ℕ) (v : Value) (entry : Entry) (entries : List Entry) → part_at place entry ≡ Some v → IsHeld place v (entry ∷ entries)
here place v entry entries h = (0, entry, omega arith, refl, h)

later : (place : ℕ) (v : Value) (entry : Entry) (entries : List Entry) → IsHeld place v entries → IsHeld place v (entry ∷ entries)
later place v entry entries (at, found, below, same, h) = (suc at, found, omega arith, same, h)

which : (other w v : Value) (b : Bool) → ◌≡◌ {A = Option Value} (Some (cond b w other)) (Some v)
    → (◌≡◌ {A = Option Value} (Some other) (Some v)) ⊎ (◌≡◌ {A = Option Value} (Some w) (Some v))
which other w v true h = inr h
which other w v false h = inl h

picked : (side : Ordering) (best new : Option Value) (v : Value) → outermost side best new ≡ Some v → (best ≡ Some v) ⊎ (new ≡ Some v)
picked side None None v h = inl h
picked side (Some other) None v h = inl h
picked side None (Some w) v h = inr h
picked side (Some other) (Some w) v h = which other w v (is_outside side w other) h

now_or_later : (place : ℕ) (best : Option Value) (v : Value) (entry : Entry) (entries : List Entry)
    → (best ≡ Some v) ⊎ (part_at place entry ≡ Some v) → (best ≡ Some v) ⊎ IsHeld place v (entry ∷ entries)
now_or_later place best v entry entries (inl h) = inl h
now_or_later place best v entry entries (inr h) = inr (here place v entry entries h)

joined : (side : Ordering) (place : ℕ) (best : Option Value) (v : Value) (entry : Entry) (entries : List Entry)
    → (outermost side best (part_at place entry) ≡ Some v) ⊎ IsHeld place v entries
    → (best ≡ Some v) ⊎ IsHeld place v (entry ∷ entries)
joined side place best v entry entries (inl h) = now_or_later place best v entry entries (picked side best (part_at place entry) v h)
joined side place best v entry entries (inr h) = inr (later place v entry entries h)

held_from : (side : Ordering) (place : ℕ) (entries : List Entry) (best : Option Value) (v : Value)
    → outermost_from side place best entries ≡ Some v → (best ≡ Some v) ⊎ IsHeld place v entries
held_from side place [] best v h = inl h
held_from side place (entry ∷ entries) best v h = joined side place best v entry entries (held_from side place entries (outermost side best (part_at place entry)) v h)

some_held : (place : ℕ) (v : Value) (entries : List Entry) → (◌≡◌ {A = Option Value} None (Some v)) ⊎ IsHeld place v entries → IsHeld place v entries
some_held place v entries (inl h) = absurd cc
some_held place v entries (inr h) = h

pub held : (side : Ordering) (place : ℕ) (entries : List Entry) (v : Value) → outermost_from side place None entries ≡ Some v → IsHeld place v entries
held side place entries v h = some_held place v entries (held_from side place entries None v h)

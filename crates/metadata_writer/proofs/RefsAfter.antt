-- The refs that are read after a commit: as they are listed, with the implied `main`, and that they hold.
use Rattle.std.proofs.Common.{◌≡◌, ℕ, ℤ, suc, List, [], ◌∷◌, ◌++◌, ◌||◌, Bool, true, false, not, codes, Option, Some, None, Result, Ok, Err, IsSome, cond, map, Ordering, Less, Equal, Greater, refl, sym, ap, subst, ◌∙◌, append_assoc, append-nil}
use Rattle.std.specs.Prelude.{⊤}
use Rattle.std.specs.Ordering.{nat_cmp, is_lt, is_eq, int_eq, match_ordering, ordering_reverse}
use Rattle.std.specs.List.{AllByRecursion, insert}
use Rattle.std.specs.List.Sorted.{IsStrictlySortedBy}
use Rattle.std.specs.Cmp.Lexicographic.{slice_cmp}
use Rattle.std.proofs.lemmas.Cmp.{nat_list_cmp_total, int_eq_equiv}
use Rattle.std.proofs.lemmas.List.Folds.{list_any-append}
use Rattle.std.proofs.lemmas.Slice.Eq.{bytes_eq-Decides}
use Rattle.std.proofs.lemmas.Map.Text.{is_eq-slice_cmp}
use Rattle.serde_json.specs.Data.{Data, object, string, Members, no_members, member, put}
use Rattle.serde_json.specs.Find.{get, as_object}
use Rattle.table_metadata.specs.declared.metadata_fault.MetadataFault.{MetadataFault}
use Rattle.table_metadata.specs.declared.metadata_fault.MetadataFault.TheVariants as fault
use Rattle.table_metadata.specs.declared.references.RefItem.{RefItem}
use Rattle.table_metadata.specs.declared.snapshots.Snapshot.{Snapshot}
use Rattle.iceberg_schema.specs.Keys.{members_at}
use Rattle.table_metadata.specs.References.{AreInOrder, all_hold, all_refs, before_main, has_snapshot, holds, is_before_main, is_current, is_main, is_main_name, is_tag_type, listed_refs_of, lists_main, ref_of, refs_from, refs_of, with_main}
use Rattle.plain_types.proofs.CallerLemmas.{one_value, two_steps}
use Rattle.plain_types.specs.Steps.{◌>>=◌, by_option, fault_if}
use Rattle.metadata_writer.specs.Commit.{after_snapshot, branch_data, long_data, object_in, refs_after, with_key}
use Rattle.iceberg_schema.specs.Widths.{IsLong}
use Rattle.metadata_writer.specs.PartsAfter.{branch_at, current_after, with_ref}
use Rattle.metadata_writer.proofs.Kept.{apart, get-with_key, get-with_key_other, object-object_in, object-with_key, refs-after_snapshot}
use Rattle.metadata_writer.proofs.ReadAfter.{as_i64-of_integer}
use Rattle.metadata_writer.proofs.RefOrder.{ref_named}

abbrev text_cmp : List ℕ → List ℕ → Ordering
text_cmp = slice_cmp nat_cmp

-- ---- as they are listed

branch_read : (name : List ℕ) (id : ℤ) (old : Data) → IsSome (as_object old) → IsLong id → ref_of name (branch_data id old) ≡ Ok (branch_at name id)
unfolding ref_of branch_data is_tag_type
branch_read name id old is long =
    let first = object-with_key (codes "snapshot-id") (long_data id) old is in
    rw (
      get-with_key_other (codes "snapshot-id") (codes "type") (string (codes "branch")) (with_key (codes "snapshot-id") (long_data id) old)
          (apart _ _ refl),
      get-with_key (codes "snapshot-id") (long_data id) old is,
      get-with_key (codes "type")
          (string (codes "branch")) _ first,
      as_i64-of_integer id long,
    ) refl

-- the refs of these members
abbrev read_each : Members → Result (List RefItem) MetadataFault
read_each no_members = Ok []
read_each (member name d ms) = ref_of name d >>= λ r. read_each ms >>= λ rs. Ok (r ∷ rs)

one_more : (F : RefItem → Result (List RefItem) MetadataFault) (q : Result RefItem MetadataFault)
    (t : Result (List RefItem) MetadataFault) (earlier : List RefItem)
    → ((r : RefItem) → F r ≡ (t >>= λ rs. Ok ((earlier ++ r ∷ []) ++ rs)))
    → (q >>= F) ≡ ((q >>= λ r. t >>= λ rs. Ok (r ∷ rs)) >>= λ rs. Ok (earlier ++ rs))
one_more F (Ok r) (Ok rs) earlier k = k r ∙ ap Ok (append_assoc earlier (r ∷ []) rs)
one_more F (Ok r) (Err e) earlier k = k r
one_more F (Err e) t earlier k = refl

read_behind : (earlier : List RefItem) (ms : Members) → refs_from earlier ms ≡ (read_each ms >>= λ rs. Ok (earlier ++ rs))
unfolding refs_from
read_behind earlier no_members = ap Ok (sym (append-nil earlier))
read_behind earlier (member l d ms) = one_more (λ r. refs_from (earlier ++ r ∷ []) ms) (ref_of l d) (read_each ms) earlier (λ r. read_behind (earlier ++ r ∷ []) ms)

same_list : (t : Result (List RefItem) MetadataFault) → (t >>= λ rs. Ok ([] ++ rs)) ≡ t
same_list (Ok rs) = refl
same_list (Err e) = refl

read_all : (ms : Members) → refs_from [] ms ≡ read_each ms
read_all ms = read_behind [] ms ∙ same_list (read_each ms)

one_of : (o q : Ordering) (a b c : Members) (x y z : List RefItem) → q ≡ o → read_each a ≡ Ok x → (o ≡ Equal → read_each b ≡ Ok y)
    → read_each c ≡ Ok z → read_each (match_ordering o a b c) ≡ Ok (match_ordering q x y z)
one_of Less q a b c x y z e h k m = rw e h
one_of Equal q a b c x y z e h k m = rw e (k refl)
one_of Greater q a b c x y z e h k m = rw e m

front : (l : List ℕ) (e : Data) (ms : Members) (x : RefItem) (xs : List RefItem) → ref_of l e ≡ Ok x → read_each ms ≡ Ok xs
    → read_each (member l e ms) ≡ Ok (x ∷ xs)
front l e ms x xs h k = rw (h, k) refl

one_text : (k l : List ℕ) → text_cmp k l ≡ Equal → k ≡ l
one_text k l h = (bytes_eq-Decides k l).0 (sym (is_eq-slice_cmp k l) ∙ ap is_eq h)

put_read : (k : List ℕ) (v : Data) (r : RefItem) (ms : Members) (rs : List RefItem) → ref_of k v ≡ Ok r → read_each ms ≡ Ok rs
    → read_each (put k v ms) ≡ Ok (with_ref r rs)
unfolding with_ref
put_read k v r no_members rs h t = subst (λ (xs : List RefItem). read_each (member k v no_members) ≡ Ok (with_ref r xs)) (one_value [] rs _ refl t) (front k v no_members r [] h refl)
put_read k v r (member l e ms) rs h t =
    let s = two_steps (ref_of l e) _ rs t in
    let u = two_steps (read_each ms) _ rs s.2 in
    let tied : text_cmp r.name s.0.name ≡ text_cmp k l = rw (ref_named k v r h, ref_named l e s.0 s.1) refl in
    subst (λ (xs : List RefItem). read_each (put k v (member l e ms)) ≡ Ok (with_ref r xs)) (one_value (s.0 ∷ u.0) rs _ refl u.2)
    (one_of (text_cmp k l) (text_cmp r.name s.0.name) (member k v (member l e ms)) (member l v ms) (member l e (put k v ms)) (r ∷ s.0 ∷ u.0) (r ∷ u.0) (s.0 ∷ with_ref r u.0) tied
    (front k v (member l e ms) r (s.0 ∷ u.0) h (front l e ms s.0 u.0 s.1 u.1))
    (λ same. front l v ms r u.0 (subst (λ (n : List ℕ). ref_of n v ≡ Ok r) (one_text k l same) h) u.1)
    (front l e (put k v ms) s.0 (with_ref r u.0) s.1 (put_read k v r ms u.0 h u.1)))

refs_at : (e : Data) (branch : List ℕ) (v : Data) (ms : Members) → get (codes "refs") e ≡ Some (with_key branch v (object ms))
    → listed_refs_of e ≡ refs_from [] (put branch v ms)
unfolding listed_refs_of with_key
refs_at e branch v ms h = rw h refl

branch_on : (e : Data) (branch : List ℕ) (id : ℤ) (ms : Members) (listed : List RefItem) → IsLong id → refs_from [] ms ≡ Ok listed
    → get (codes "refs") e ≡ Some (refs_after branch id (object ms))
    → listed_refs_of e ≡ Ok (with_ref (branch_at branch id) listed)
unfolding refs_after
branch_on e branch id ms listed long r h =
    refs_at e branch (branch_data id (object_in branch (object ms))) ms h
    ∙ read_all (put branch (branch_data id (object_in branch (object ms))) ms)
    ∙ put_read branch (branch_data id (object_in branch (object ms))) (branch_at branch id) ms listed (branch_read branch id _ (object-object_in branch (object ms)) long) (sym (read_all ms) ∙ r)

none_read : refs_from [] no_members ≡ Ok []
unfolding refs_from
none_read = refl

on_option : (o : Option Members) (e : Data) (branch : List ℕ) (id : ℤ) (listed : List RefItem) → IsLong id
    → by_option o (refs_from []) (Ok []) ≡ Ok listed
    → get (codes "refs") e ≡ Some (refs_after branch id (by_option o object (object no_members)))
    → listed_refs_of e ≡ Ok (with_ref (branch_at branch id) listed)
on_option None e branch id listed long h k = branch_on e branch id no_members listed long (none_read ∙ h) k
on_option (Some ms) e branch id listed long h k = branch_on e branch id ms listed long h k

old_refs : (d : Data) (listed : List RefItem) → listed_refs_of d ≡ Ok listed → by_option (members_at (codes "refs") d) (refs_from []) (Ok []) ≡ Ok listed
unfolding listed_refs_of
old_refs d listed h = h

refs_then : (d e : Data) (branch : List ℕ) (id : ℤ) (listed : List RefItem) → IsLong id → listed_refs_of d ≡ Ok listed
    → get (codes "refs") e ≡ Some (refs_after branch id (object_in (codes "refs") d))
    → listed_refs_of e ≡ Ok (with_ref (branch_at branch id) listed)
unfolding object_in
refs_then d e branch id listed long h k = on_option (members_at (codes "refs") d) e branch id listed long (old_refs d listed h) k

pub listed_refs-after_snapshot : (branch : List ℕ) (s : Snapshot) (writer : List ℕ) (now : ℤ) (d : Data) (listed : List RefItem)
    → IsSome (as_object d) → IsLong s.id → listed_refs_of d ≡ Ok listed
    → listed_refs_of (after_snapshot branch s writer now d) ≡ Ok (with_ref (branch_at branch s.id) listed)
listed_refs-after_snapshot branch s writer now d listed is long h = refs_then d _ branch s.id listed long h (refs-after_snapshot branch s writer now d is)

-- ---- with the implied `main`

-- m at its place among the refs
abbrev placed : RefItem → List RefItem → List RefItem
placed m [] = m ∷ []
placed m (x ∷ xs) = cond (is_lt (text_cmp x.name m.name)) (x ∷ placed m xs) (m ∷ x ∷ xs)

inserted : (b : Bool) (m x : RefItem) (xs : List RefItem) → insert xs (before_main xs) m ≡ placed m xs
    → insert (x ∷ xs) (cond b (suc (before_main xs)) 0) m ≡ cond b (x ∷ placed m xs) (m ∷ x ∷ xs)
inserted true m x xs h = ap (λ (l : List RefItem). x ∷ l) h
inserted false m x xs h = refl

insert-placed : (id : ℤ) (xs : List RefItem) → insert xs (before_main xs)
    (record { name = codes "main"; snapshot = id; tag = false }) ≡ placed (record { name = codes "main"; snapshot = id; tag = false }) xs
unfolding before_main
insert-placed id [] = refl
insert-placed id (x ∷ xs) = inserted (is_before_main x) (record { name = codes "main"; snapshot = id; tag = false }) x xs (insert-placed id xs)

-- none of these has the name
abbrev Without : RefItem → List RefItem → Type 0
Without m xs = AllByRecursion (λ x. is_eq (text_cmp x.name m.name) ≡ false) xs

later_is_greater : (k l m : List ℕ) → text_cmp k l ≡ Greater → text_cmp l m ≡ Greater → text_cmp k m ≡ Greater
later_is_greater k l m h e =
    let first : text_cmp l k ≡ Less = nat_list_cmp_total.antisymm l k ∙ ap ordering_reverse h in
    let second : text_cmp m l ≡ Less = nat_list_cmp_total.antisymm m l ∙ ap ordering_reverse e in
    nat_list_cmp_total.antisymm k m ∙ ap ordering_reverse (nat_list_cmp_total.trans m l k second first)

commute_at : (o p q : Ordering) (r m x : RefItem) (xs : List RefItem) → text_cmp r.name x.name ≡ o → text_cmp x.name m.name ≡ p
    → text_cmp r.name m.name ≡ q → is_eq p ≡ false → is_eq q ≡ false
    → with_ref r (placed m xs) ≡ placed m (with_ref r xs) → with_ref r (placed m (x ∷ xs)) ≡ placed m (with_ref r (x ∷ xs))
unfolding with_ref
commute_at o Equal q r m x xs a b c h k later = cc
commute_at Less Less q r m x xs a b c h k later = simp (a, b, nat_list_cmp_total.trans r.name x.name m.name a b) refl
commute_at Equal Less q r m x xs a b c h k later = simp (a, b, nat_list_cmp_total.congr r.name x.name m.name a ∙ b) refl
commute_at Greater Less q r m x xs a b c h k later = simp (a, b) (ap (λ (l : List RefItem). x ∷ l) later)
commute_at Less Greater Less r m x xs a b c h k later = simp (a, b, c) refl
commute_at Less Greater Equal r m x xs a b c h k later = cc
commute_at Less Greater Greater r m x xs a b c h k later = simp (a, b, c) refl
commute_at Equal Greater q r m x xs a b c h k later = let z = nat_list_cmp_total.congr r.name x.name m.name a ∙ b in simp (a, b, z) refl
commute_at Greater Greater q r m x xs a b c h k later = let z = later_is_greater r.name x.name m.name a b in simp (a, b, z) refl

alone : (o : Ordering) (a b c : List RefItem) → is_eq o ≡ false → match_ordering o a b c ≡ cond (is_lt o) a c
alone Less a b c h = refl
alone Equal a b c h = cc
alone Greater a b c h = refl

commute : (r m : RefItem) (xs : List RefItem) → is_eq (text_cmp r.name m.name) ≡ false → Without m xs → with_ref r (placed m xs) ≡ placed m (with_ref r xs)
unfolding with_ref
commute r m [] h w = alone (text_cmp r.name m.name) _ _ _ h
commute r m (x ∷ xs) h w = commute_at _ _ _ r m x xs refl refl refl w.0 h (commute r m xs h w.1)

replaced_at : (p : Ordering) (r m x : RefItem) (xs : List RefItem) → text_cmp r.name m.name ≡ Equal → text_cmp x.name m.name ≡ p → is_eq p ≡ false
    → with_ref r (placed m xs) ≡ with_ref r xs → with_ref r (placed m (x ∷ xs)) ≡ with_ref r (x ∷ xs)
unfolding with_ref
replaced_at Equal r m x xs e h k later = cc
replaced_at Less r m x xs e h k later =
    let z : text_cmp r.name x.name ≡ Greater = nat_list_cmp_total.congr r.name m.name x.name e ∙ nat_list_cmp_total.antisymm m.name x.name ∙ ap ordering_reverse h in
    simp (h, z) (ap (λ (l : List RefItem). x ∷ l) later)
replaced_at Greater r m x xs e h k later =
    let z : text_cmp r.name x.name ≡ Less = nat_list_cmp_total.congr r.name m.name x.name e ∙ nat_list_cmp_total.antisymm m.name x.name ∙ ap ordering_reverse h in
    simp (h, z, e) refl

replaced : (r m : RefItem) (xs : List RefItem) → text_cmp r.name m.name ≡ Equal → Without m xs → with_ref r (placed m xs) ≡ with_ref r xs
unfolding with_ref
replaced r m [] e w = rw e refl
replaced r m (x ∷ xs) e w = replaced_at _ r m x xs e refl w.0 (replaced r m xs e w.1)

tied_main : (r : RefItem) → is_main r ≡ true → text_cmp r.name (codes "main") ≡ Equal
tied_main r e = rw ((bytes_eq-Decides r.name (codes "main")).0 e) refl

lists_kept_at : (o : Ordering) (r x : RefItem) (xs : List RefItem) → text_cmp r.name x.name ≡ o → is_main r ≡ false
    → lists_main (with_ref r xs) ≡ lists_main xs → lists_main (match_ordering o (r ∷ x ∷ xs) (r ∷ xs)
    (x ∷ with_ref r xs)) ≡ lists_main (x ∷ xs)
lists_kept_at Less r x xs e h later = rw h refl
lists_kept_at Equal r x xs e h later = ap (λ (n : List ℕ). is_main_name n || lists_main xs) (one_text r.name x.name e)
lists_kept_at Greater r x xs e h later = ap (λ b. is_main x || b) later

lists_kept : (r : RefItem) (xs : List RefItem) → is_main r ≡ false → lists_main (with_ref r xs) ≡ lists_main xs
unfolding with_ref
lists_kept r [] h = rw h refl
lists_kept r (x ∷ xs) h = lists_kept_at _ r x xs refl h (lists_kept r xs h)

or_true : (b : Bool) → (b || true) ≡ true
or_true true = refl
or_true false = refl

lists_it_at : (o : Ordering) (r x : RefItem) (xs : List RefItem) → is_main r ≡ true → lists_main (with_ref r xs) ≡ true
    → lists_main (match_ordering o (r ∷ x ∷ xs) (r ∷ xs) (x ∷ with_ref r xs)) ≡ true
lists_it_at Less r x xs h later = rw h refl
lists_it_at Equal r x xs h later = rw h refl
lists_it_at Greater r x xs h later = rw later (or_true (is_main x))

lists_it : (r : RefItem) (xs : List RefItem) → is_main r ≡ true → lists_main (with_ref r xs) ≡ true
unfolding with_ref
lists_it r [] h = rw h refl
lists_it r (x ∷ xs) h = lists_it_at _ r x xs h (lists_it r xs h)

neither : (a b : Bool) → (a || b) ≡ false → (a ≡ false) × (b ≡ false)
neither false b h = (refl, h)
neither true b h = cc

without_main : (id : ℤ) (xs : List RefItem) → lists_main xs ≡ false → Without (branch_at (codes "main") id) xs
without_main id [] h = tt
without_main id (x ∷ xs) h =
    let no = neither (is_main x) (lists_main xs) h in (is_eq-slice_cmp x.name (codes "main") ∙ no.0, without_main id xs no.1)

implied_replaced : (r : RefItem) (current : Option ℤ) (xs : List RefItem) → is_main r ≡ true → lists_main xs ≡ false
    → with_ref r (with_main current xs) ≡ with_ref r xs
unfolding with_main
implied_replaced r None xs e h = refl
implied_replaced r (Some id) xs e h =
    ap (with_ref r) (insert-placed id xs)
    ∙ replaced r (branch_at (codes "main") id) xs (tied_main r e) (without_main id xs h)

implied_kept : (r : RefItem) (current : Option ℤ) (xs : List RefItem) → is_main r ≡ false → lists_main xs ≡ false
    → with_main current (with_ref r xs) ≡ with_ref r (with_main current xs)
unfolding with_main
implied_kept r None xs e h = refl
implied_kept r (Some id) xs e h =
    insert-placed id (with_ref r xs)
    ∙ sym (commute r (branch_at (codes "main") id) xs (is_eq-slice_cmp r.name (codes "main") ∙ e) (without_main id xs h))
    ∙ ap (with_ref r) (sym (insert-placed id xs))

main_either : (b : Bool) (r : RefItem) (current : Option ℤ) (xs : List RefItem) → lists_main xs ≡ b → is_main r ≡ true
    → with_ref r xs ≡ with_ref r (cond b xs (with_main current xs))
main_either true r current xs h e = refl
main_either false r current xs h e = sym (implied_replaced r current xs e h)

after_main : (r : RefItem) (current later : Option ℤ) (xs : List RefItem) → is_main r ≡ true → all_refs later (with_ref r xs) ≡ with_ref r (all_refs current xs)
unfolding all_refs
after_main r current later xs e = rw (lists_it r xs e) (main_either (lists_main xs) r current xs refl e)

other_either : (b : Bool) (r : RefItem) (current : Option ℤ) (xs : List RefItem) → lists_main xs ≡ b → is_main r ≡ false
    → cond b (with_ref r xs) (with_main current (with_ref r xs)) ≡ with_ref r (cond b xs (with_main current xs))
other_either true r current xs h e = refl
other_either false r current xs h e = implied_kept r current xs e h

after_other : (r : RefItem) (current : Option ℤ) (xs : List RefItem) → is_main r ≡ false → all_refs current (with_ref r xs) ≡ with_ref r (all_refs current xs)
unfolding all_refs
after_other r current xs e = rw (lists_kept r xs e) (other_either (lists_main xs) r current xs refl e)

after_either : (b : Bool) (branch : List ℕ) (id : ℤ) (current : Option ℤ) (listed : List RefItem) → is_main_name branch ≡ b
    → all_refs (cond b (Some id) current) (with_ref (branch_at branch id) listed) ≡ with_ref (branch_at branch id)
    (all_refs current listed)
after_either true branch id current listed e = after_main (branch_at branch id) current (Some id) listed e
after_either false branch id current listed e = after_other (branch_at branch id) current listed e

all_refs-after : (branch : List ℕ) (id : ℤ) (current : Option ℤ) (listed : List RefItem)
    → all_refs (current_after branch id current) (with_ref (branch_at branch id) listed) ≡ with_ref (branch_at branch id)
    (all_refs current listed)
all_refs-after branch id current listed = after_either (is_main_name branch) branch id current listed refl

-- ---- that they hold

abbrev AllHold : Option ℤ → List Snapshot → List RefItem → Type 0
AllHold current snapshots refs = AllByRecursion (λ r. holds current snapshots r ≡ true) refs

first_holds : (f : MetadataFault) (b : Bool) (t : Result ⊤ MetadataFault) → (fault_if f (not b) >>= λ _. t) ≡ Ok tt → (b ≡ true) × (t ≡ Ok tt)
first_holds f true t h = (refl, h)
first_holds f false t h = cc

each_holds : (current : Option ℤ) (snapshots : List Snapshot) (refs : List RefItem) → all_hold current snapshots refs ≡ Ok tt → AllHold current snapshots refs
unfolding all_hold
each_holds current snapshots [] h = tt
each_holds current snapshots (r ∷ rs) h =
    let s = first_holds (fault.Ref r.name) (holds current snapshots r) (all_hold current snapshots rs) h in (s.0, each_holds current snapshots rs s.1)

then_holds : (f : MetadataFault) (b : Bool) (t : Result ⊤ MetadataFault) → b ≡ true → t ≡ Ok tt → (fault_if f (not b) >>= λ _. t) ≡ Ok tt
then_holds f b t h k = rw h k

all_hold-each : (current : Option ℤ) (snapshots : List Snapshot) (refs : List RefItem) → AllHold current snapshots refs
    → all_hold current snapshots refs ≡ Ok tt
unfolding all_hold
all_hold-each current snapshots [] h = refl
all_hold-each current snapshots (r ∷ rs) h = then_holds (fault.Ref r.name) (holds current snapshots r) (all_hold current snapshots rs) h.0 (all_hold-each current snapshots rs h.1)

or_left : (a b : Bool) → a ≡ true → (a || b) ≡ true
or_left a b h = rw h refl

still_there : (id : ℤ) (all : List Snapshot) (s : Snapshot) → has_snapshot id all ≡ true → has_snapshot id (all ++ s ∷ []) ≡ true
still_there id all s h = list_any-append (λ (x : Snapshot). int_eq x.id id) all (s ∷ []) ∙ or_left (has_snapshot id all) _ h

now_there : (all : List Snapshot) (s : Snapshot) → has_snapshot s.id (all ++ s ∷ []) ≡ true
now_there all s = list_any-append (λ (x : Snapshot). int_eq x.id s.id) all (s ∷ []) ∙ rw (int_eq_equiv.refl s.id) (or_true (has_snapshot s.id all))

with_more : (a b c : Bool) → (a ≡ true → b ≡ true) → cond a c false ≡ true → cond b c false ≡ true
with_more true b c f h = rw (f refl) h
with_more false b c f h = cc

holds_more : (current : Option ℤ) (all : List Snapshot) (s : Snapshot) (r : RefItem) → holds current all r ≡ true → holds current (all ++ s ∷ []) r ≡ true
holds_more current all s r h = with_more (has_snapshot r.snapshot all) _ _ (still_there r.snapshot all s) h

not_main_at : (a b : Bool) (c e : Bool) → b ≡ false → cond a (cond b c true) false ≡ true → cond a (cond b e true) false ≡ true
not_main_at a b c e h k = rw h (rw h at k)

other_current : (current later : Option ℤ) (all : List Snapshot) (r : RefItem) → is_main r ≡ false → holds current all r ≡ true → holds later all r ≡ true
other_current current later all r e h = not_main_at (has_snapshot r.snapshot all) (is_main r) _ _ e h

if_main : (b c : Bool) → (b ≡ true → c ≡ true) → cond b c true ≡ true
if_main true c f = f refl
if_main false c f = refl

current_at : (b : Bool) (id : ℤ) (current : Option ℤ) → b ≡ true → is_current (cond b (Some id) current) id ≡ true
current_at b id current h = rw h (int_eq_equiv.refl id)

branch_holds : (branch : List ℕ) (current : Option ℤ) (all : List Snapshot) (s : Snapshot)
    → holds (current_after branch s.id current) (all ++ s ∷ []) (branch_at branch s.id) ≡ true
branch_holds branch current all s = rw (now_there all s) (if_main (is_main_name branch) _ (current_at (is_main_name branch) s.id current))

one_holds : (P : RefItem → Type 0) (o : Ordering) (a b c : List RefItem) → AllByRecursion P a → AllByRecursion P b
    → AllByRecursion P c → AllByRecursion P (match_ordering o a b c)
one_holds P Less a b c x y z = x
one_holds P Equal a b c x y z = y
one_holds P Greater a b c x y z = z

-- refs that hold, and one more
put_holds : (P : RefItem → Type 0) (r : RefItem) (xs : List RefItem) → P r → AllByRecursion P xs → AllByRecursion P (with_ref r xs)
unfolding with_ref
put_holds P r [] h a = (h, tt)
put_holds P r (x ∷ xs) h a = one_holds P (text_cmp r.name x.name) _ _ _ (h, a) (h, a.1) (a.0, put_holds P r xs h a.1)

each_becomes : (P Q : RefItem → Type 0) (xs : List RefItem) → ((x : RefItem) → P x → Q x) → AllByRecursion P xs → AllByRecursion Q xs
each_becomes P Q [] f a = tt
each_becomes P Q (x ∷ xs) f a = (f x a.0, each_becomes P Q xs f a.1)

abbrev names_of : List RefItem → List (List ℕ)
names_of refs = map (λ r. r.name) refs

-- those above a name become what those of other names do
above_become : (P Q : RefItem → Type 0) (k : List ℕ) (xs : List RefItem)
    → ((x : RefItem) → is_eq (text_cmp k x.name) ≡ false → P x → Q x) → AllByRecursion (λ n. text_cmp k n ≡ Less) (names_of xs)
    → AllByRecursion P xs → AllByRecursion Q xs
above_become P Q k [] f s a = tt
above_become P Q k (x ∷ xs) f s a = (f x (ap is_eq s.0) a.0, above_become P Q k xs f s.1 a.1)

all_later : (k l : List ℕ) (ns : List (List ℕ)) → text_cmp k l ≡ Less → AllByRecursion (λ n. text_cmp l n ≡ Less) ns
    → AllByRecursion (λ n. text_cmp k n ≡ Less) ns
all_later k l [] h a = tt
all_later k l (n ∷ ns) h a = (nat_list_cmp_total.trans k l n h a.0, all_later k l ns h a.1)

all_tied : (k l : List ℕ) (ns : List (List ℕ)) → text_cmp k l ≡ Equal → AllByRecursion (λ n. text_cmp l n ≡ Less) ns
    → AllByRecursion (λ n. text_cmp k n ≡ Less) ns
all_tied k l [] h a = tt
all_tied k l (n ∷ ns) h a = (nat_list_cmp_total.congr k l n h ∙ a.0, all_tied k l ns h a.1)

replaced_holds_at : (P Q : RefItem → Type 0) (o : Ordering) (r x : RefItem) (xs : List RefItem) → text_cmp r.name x.name ≡ o
    → ((y : RefItem) → is_eq (text_cmp r.name y.name) ≡ false → P y → Q y) → Q r
    → AllByRecursion (λ n. text_cmp x.name n ≡ Less) (names_of xs) → P x × AllByRecursion P xs → AllByRecursion Q (with_ref r xs)
    → AllByRecursion Q (match_ordering o (r ∷ x ∷ xs) (r ∷ xs) (x ∷ with_ref r xs))
replaced_holds_at P Q Less r x xs e f h s a later = (h, (f x (ap is_eq e) a.0, above_become P Q r.name xs f (all_later r.name x.name (names_of xs) e s) a.1))
replaced_holds_at P Q Equal r x xs e f h s a later = (h, above_become P Q r.name xs f (all_tied r.name x.name (names_of xs) e s) a.1)
replaced_holds_at P Q Greater r x xs e f h s a later = (f x (ap is_eq e) a.0, later)

-- refs in order, of which one is replaced
replaced_holds : (P Q : RefItem → Type 0) (r : RefItem) (xs : List RefItem)
    → ((y : RefItem) → is_eq (text_cmp r.name y.name) ≡ false → P y → Q y) → Q r → AreInOrder xs → AllByRecursion P xs
    → AllByRecursion Q (with_ref r xs)
unfolding with_ref IsStrictlySortedBy
replaced_holds P Q r [] f h s a = (h, tt)
replaced_holds P Q r (x ∷ xs) f h s a = replaced_holds_at P Q (text_cmp r.name x.name) r x xs refl f h s.0 a (replaced_holds P Q r xs f h s.1 a.1)

turned_level : (o : Ordering) → is_eq (ordering_reverse o) ≡ is_eq o
turned_level Less = refl
turned_level Equal = refl
turned_level Greater = refl

turned_equal : (k l : List ℕ) → is_eq (text_cmp l k) ≡ false → is_eq (text_cmp k l) ≡ false
turned_equal k l h = ap is_eq (nat_list_cmp_total.antisymm k l) ∙ turned_level (text_cmp l k) ∙ h

other_than_main : (branch : List ℕ) (x : RefItem) → is_main_name branch ≡ true → is_eq (text_cmp branch x.name) ≡ false → is_main x ≡ false
other_than_main branch x e h =
    let same : branch ≡ codes "main" = (bytes_eq-Decides branch (codes "main")).0 e in
    sym (is_eq-slice_cmp x.name (codes "main")) ∙ turned_equal x.name (codes "main") (subst (λ (n : List ℕ). is_eq (text_cmp n x.name) ≡ false) same h)

after_main_hold : (branch : List ℕ) (current : Option ℤ) (all : List Snapshot) (s : Snapshot) (refs : List RefItem)
    → is_main_name branch ≡ true → AreInOrder refs → AllHold current all refs
    → holds (Some s.id) (all ++ s ∷ []) (branch_at branch s.id) ≡ true
    → AllHold (Some s.id) (all ++ s ∷ []) (with_ref (branch_at branch s.id) refs)
after_main_hold branch current all s refs e order a h =
    replaced_holds (λ r. holds current all r ≡ true) (λ r. holds (Some s.id) (all ++ s ∷ []) r ≡ true) (branch_at branch s.id) refs
    (λ y other k. other_current current (Some s.id) (all ++ s ∷ []) y (other_than_main branch y e other) (holds_more current all s y k)) h order a

after_other_hold : (branch : List ℕ) (current : Option ℤ) (all : List Snapshot) (s : Snapshot) (refs : List RefItem)
    → AllHold current all refs → holds current (all ++ s ∷ []) (branch_at branch s.id) ≡ true
    → AllHold current (all ++ s ∷ []) (with_ref (branch_at branch s.id) refs)
after_other_hold branch current all s refs a h =
    put_holds (λ r. holds current (all ++ s ∷ []) r ≡ true) (branch_at branch s.id) refs h
    (each_becomes (λ r. holds current all r ≡ true) (λ r. holds current (all ++ s ∷ []) r ≡ true) refs (λ x k. holds_more current all s x k) a)

after_either_hold : (b : Bool) (branch : List ℕ) (current : Option ℤ) (all : List Snapshot) (s : Snapshot) (refs : List RefItem)
    → is_main_name branch ≡ b → AreInOrder refs → AllHold current all refs
    → holds (cond b (Some s.id) current) (all ++ s ∷ []) (branch_at branch s.id) ≡ true
    → AllHold (cond b (Some s.id) current) (all ++ s ∷ []) (with_ref (branch_at branch s.id) refs)
after_either_hold true branch current all s refs e order a h = after_main_hold branch current all s refs e order a h
after_either_hold false branch current all s refs e order a h = after_other_hold branch current all s refs a h

kept_holds : (current : Option ℤ) (all : List Snapshot) (listed refs : List RefItem) → refs_of current all listed ≡ Ok refs
    → (all_refs current listed ≡ refs) × AllHold current all refs
unfolding refs_of
kept_holds current all listed refs h =
    let s = two_steps (all_hold current all (all_refs current listed)) _ refs h in
    let e : all_refs current listed ≡ refs = one_value _ refs _ refl s.2 in
    (e, subst (AllHold current all) e (each_holds current all _ s.1))

refs_from_hold : (current : Option ℤ) (all : List Snapshot) (listed refs : List RefItem) → all_refs current listed ≡ refs
    → AllHold current all refs → refs_of current all listed ≡ Ok refs
unfolding refs_of
refs_from_hold current all listed refs e a = rw (e, all_hold-each current all refs a) refl

pub refs-after_snapshot_hold : (branch : List ℕ) (s : Snapshot) (current : Option ℤ) (all : List Snapshot)
    (listed refs : List RefItem) → AreInOrder refs → refs_of current all listed ≡ Ok refs
    → refs_of (current_after branch s.id current) (all ++ s ∷ []) (with_ref (branch_at branch s.id) listed) ≡ Ok (with_ref (branch_at branch s.id) refs)
refs-after_snapshot_hold branch s current all listed refs order h =
    let k = kept_holds current all listed refs h in
    refs_from_hold _ _ _ _
    (all_refs-after branch s.id current listed ∙ ap (with_ref (branch_at branch s.id)) k.0)
    (after_either_hold (is_main_name branch) branch current all s refs refl order k.1 (branch_holds branch current all s))

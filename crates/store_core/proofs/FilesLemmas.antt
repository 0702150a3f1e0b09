-- What callers cite of finite maps of files.
use Rattle.std.proofs.lemmas.List.{at_drop_more, map-append}
use Rattle.std.proofs.Common.{◌≡◌, ℕ, ◌+◌, ◌-◌, ◌<◌, ◌≤◌, cond, Option, None, Some, List, [], ◌∷◌, ◌++◌, length, map, take, drop, get_or, refl, sym, ap, ◌∙◌, arith, inl, inr, ◌/◌, is_some}
use Rattle.std.specs.FinMap as finite
use Rattle.std.specs.FinMap.{entries, len-entries, len-empty, get-empty, entries-insert, get-insert, get-from_entries, from_entries_push, slice_cmp-IsAntisymmetric, nat_cmp-IsAntisymmetric, put, find}
use Rattle.std.specs.FinMap.Entries.{by_order}
use Rattle.std.specs.Ordering.{nat_cmp, is_eq}
use Rattle.std.specs.declared.cmp.Ordering.{Ordering}
use Rattle.std.specs.declared.cmp.Ordering.TheVariants.{Less, Equal, Greater}
use Rattle.std.specs.Cmp.Lexicographic.{slice_cmp}
use Rattle.std.proofs.lemmas.Cmp.{nat_list_cmp_total}
use Rattle.store_core.specs.Files.{Files, with_file, swapped, MayAdd, KeepsFiles}
use Rattle.store_core.specs.Memory.{pairs, files_of, left_by_put, left_by_swap}
use Rattle.store_core.specs.declared.memory_store.Leave.{Leave}
use Rattle.store_core.specs.declared.memory_store.Leave.TheVariants.{Nothing, Half, Whole}
use Rattle.store_core.specs.Names.{with_name}
use Rattle.store_core.specs.declared.memory_store.File.{File}

nothing_in : {X : Type 0} (xs : List X) → length xs ≡ 0 → xs ≡ []
nothing_in [] e = refl
nothing_in (x ∷ xs) e = absurd (omega arith)

-- no file, no name
pub keys-none : finite.keys (files_of []) ≡ []
keys-none = ap (map (λ e. e.0)) (nothing_in (entries (files_of [])) (sym (len-entries (files_of [])) ∙ len-empty (slice_cmp nat_cmp) (List ℕ)))

keys-put : (name bytes : List ℕ) (es : List (List ℕ × List ℕ)) → map (λ e. e.0) (put (slice_cmp nat_cmp) name bytes es) ≡ with_name name (map (λ e. e.0) es)
keys-put name bytes [] = refl
keys-put name bytes (e ∷ es) =
    elim (slice_cmp nat_cmp name e.0) as
    (λ o. map (λ (e : List ℕ × List ℕ). e.0)
    (by_order o ((name, bytes) ∷ e ∷ es) ((e.0, bytes) ∷ es) (e ∷ put (slice_cmp nat_cmp) name bytes es)) ≡ by_order o
    (name ∷ e.0 ∷ map (λ e. e.0) es) (e.0 ∷ map (λ e. e.0) es) (e.0 ∷ with_name name (map (λ e. e.0) es))) [
      | Less ↦ refl
      | Equal ↦ refl
      | Greater ↦ ap (λ names. e.0 ∷ names) (keys-put name bytes es)
    ]

-- the names of the files, with one file more
pub keys-with_file : (name bytes : List ℕ) (files : Files) → finite.keys (with_file name bytes files) ≡ with_name name (finite.keys files)
keys-with_file name bytes files = ap (map (λ e. e.0)) (entries-insert nat_list_cmp_total files name bytes) ∙ keys-put name bytes (entries files)

-- what a list of files has under a name: the first of that name
pub get-files_of : (files : List File) (name : List ℕ) → finite.get (files_of files) name ≡ finite.find (slice_cmp nat_cmp) name (pairs files)
get-files_of files name = get-from_entries nat_list_cmp_total (pairs files) name

-- the names of the files from one place on, and from the place before it
pub keys-drop : (files : List File) (left : ℕ) (file : File) → 0 < left → left ≤ length files
    → file ≡ get_or files (left - 1) file
    → finite.keys (files_of (drop (left - 1) files)) ≡ with_name file.name (finite.keys (files_of (drop left files)))
keys-drop files left file some within is =
    let there : left - 1 < length files = omega arith in
    let next : (left - 1) + 1 ≡ left = omega arith in
    at_drop_more (λ rest. finite.keys (files_of rest)) files (left - 1) file there
    ∙ keys-with_file (get_or files (left - 1) file).name (get_or files (left - 1) file).bytes (files_of (drop ((left - 1) + 1) files))
    ∙ ap (λ (f : File). with_name f.name (finite.keys (files_of (drop ((left - 1) + 1) files)))) (sym is)
    ∙ ap (λ n. with_name file.name (finite.keys (files_of (drop n files)))) next

-- a file more at the end of the list, under a name that is new
pub files_of-push : (files : List File) (file : File) → finite.get (files_of files) file.name ≡ None
    → files_of (files ++ file ∷ []) ≡ with_file file.name file.bytes (files_of files)
files_of-push files file new =
    ap finite.from_entries (map-append (λ (f : File). (f.name, f.bytes)) files (file ∷ []))
    ∙ from_entries_push nat_list_cmp_total (slice_cmp-IsAntisymmetric nat_cmp-IsAntisymmetric) (pairs files) file.name file.bytes (sym (get-files_of files file.name) ∙ new)

-- what is there is there beside a new file
stays : (files : Files) (name bytes other old : List ℕ) → finite.get files name ≡ None → finite.get files other ≡ Some old
    → (o : Ordering) → slice_cmp nat_cmp other name ≡ o → cond (is_eq o) (Some bytes) (finite.get files other) ≡ Some old
stays files name bytes other old new there Less is = there
stays files name bytes other old new there Greater is = there
stays files name bytes other old new there Equal is =
    let same : other ≡ name = slice_cmp-IsAntisymmetric nat_cmp-IsAntisymmetric other name is in
    let gone : finite.get files other ≡ None = ap (finite.get files) same ∙ new in
    cc

-- nothing changes
pub kept-same : (files : Option Files) → KeepsFiles files files
kept-same files name bytes there = there

pub kept-with_file : (files : Files) (name bytes : List ℕ) → finite.get files name ≡ None → KeepsFiles (Some files) (Some (with_file name bytes files))
kept-with_file files name bytes new other old there =
    get-insert nat_list_cmp_total files name bytes other ∙ stays files name bytes other old new there (slice_cmp nat_cmp other name) refl

kept_by : (files : Files) (name bytes : List ℕ) (held : Option (List ℕ)) → finite.get files name ≡ held
    → KeepsFiles (Some files) (Some (cond (is_some held) files (with_file name bytes files)))
kept_by files name bytes None is = kept-with_file files name bytes is
kept_by files name bytes (Some old) is = kept-same (Some files)

pub kept-swapped : (files : Files) (name bytes : List ℕ) → KeepsFiles (Some files) (Some (swapped name bytes files))
kept-swapped files name bytes = kept_by files name bytes (finite.get files name) refl

-- what is kept twice is kept
pub kept-trans : (old middle new : Option Files) → KeepsFiles old middle → KeepsFiles middle new → KeepsFiles old new
kept-trans old middle new first then name bytes there = then name bytes (first name bytes there)

pub kept-left_by_put : (leave : Leave) (files : Files) (name bytes : List ℕ) → finite.get files name ≡ None
    → KeepsFiles (Some files) (Some (left_by_put leave name bytes files))
kept-left_by_put Nothing files name bytes new = kept-same (Some files)
kept-left_by_put Half files name bytes new = kept-with_file files name (take (length bytes / 2) bytes) new
kept-left_by_put Whole files name bytes new = kept-with_file files name bytes new

pub may_add-left_by_put : (leave : Leave) (files : Files) (name bytes : List ℕ) → MayAdd name (Some files) (Some (left_by_put leave name bytes files))
may_add-left_by_put Nothing files name bytes = inl refl
may_add-left_by_put Half files name bytes = inr (take (length bytes / 2) bytes, refl)
may_add-left_by_put Whole files name bytes = inr (bytes, refl)

pub kept-left_by_swap : (leave : Leave) (files : Files) (name bytes : List ℕ) → KeepsFiles (Some files) (Some (left_by_swap leave name bytes files))
kept-left_by_swap Nothing files name bytes = kept-same (Some files)
kept-left_by_swap Half files name bytes = kept-same (Some files)
kept-left_by_swap Whole files name bytes = kept-swapped files name bytes

-- a store of no file has nothing under a name
pub get-none : (files : List File) (name : List ℕ) → files ≡ [] → finite.get (files_of files) name ≡ None
get-none files name is = ap (λ held. finite.get (files_of held) name) is ∙ get-empty (slice_cmp nat_cmp) name

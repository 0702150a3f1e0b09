-- A row can be listed.
use Rattle.std.proofs.Common.{◌≡◌, ℕ, ◌-◌, ◌^◌, ◌<◌, min, ℤ, pos, ◌⊎◌, inl, inr, Bool, true, false, cond, List, [], ◌∷◌, map, length, Option, Some, None, refl, ap, ◌∙◌, arith}
use Rattle.std.specs.Prelude.{nat_eq, nat_lt, unwrap_or, ⊤}
use Rattle.std.specs.Int.{int_min}
use Rattle.std.specs.List.{list_all, count_by, sum_by, range_with_len}
use Rattle.std.proofs.lemmas.Bool.Decides.{nat_tests}
use Rattle.plain_types.specs.Steps.{by_option}
use Rattle.row_values.specs.declared.value.Value.{Value}
use Rattle.row_values.specs.declared.partition.Spec.{Spec}
use Rattle.manifest_files.specs.declared.entry.Entry.{Entry}
use Rattle.manifest_files.specs.declared.manifest_row.ManifestContent.{ManifestContent}
use Rattle.manifest_files.specs.Entries.{is_live}
use Rattle.manifest_writer.specs.Value.{is_bound}
use Rattle.manifest_writer.specs.ListDatum.{has_bounds}
use Rattle.commit_manifests.specs.declared.commit_numbers.CommitNumbers.{CommitNumbers}
use Rattle.commit_manifests.specs.Rows.{files_with, rows_in, rows_with, with_number, least_from, bound_of, least_at, greatest_at, summary_at, row_of}
use Rattle.commit_manifests.specs.Listed.{is_count, can_be_listed, is_int, is_long, has_numbers}
use Rattle.commit_manifests.proofs.Conjunction.{first, second, both}
use Rattle.commit_manifests.proofs.NumberLaws.{one_of_both}

few_files : (n : ℕ) → is_count 31 (Some (pos (min n (2 ^ 31 - 1)))) ≡ true
few_files n = let small : min n (2 ^ 31 - 1) < 2 ^ 31 = omega arith in grind (arith, nat_tests)

few_rows : (n : ℕ) → is_count 63 (Some (pos (min n (2 ^ 63 - 1)))) ≡ true
few_rows n = let small : min n (2 ^ 63 - 1) < 2 ^ 63 = omega arith in grind (arith, nat_tests)

is_bytes : (best : Option Value) → is_bound (bound_of best) ≡ true
is_bytes None = refl
is_bytes (Some v) = refl

bounds : (entries : List Entry) (places : List ℕ) → list_all has_bounds (map (λ place. summary_at place entries) places) ≡ true
bounds entries [] = refl
bounds entries (place ∷ places) = both _ _ (both _ _ (is_bytes (least_at place entries)) (is_bytes (greatest_at place entries))) (bounds entries places)

files_fit : (status : ℕ) (entries : List Entry) → is_count 31 (Some (files_with status entries)) ≡ true
files_fit status entries = few_files (count_by (λ entry. nat_eq entry.status status) entries)

rows_fit : (status : ℕ) (entries : List Entry) → is_count 63 (Some (rows_with status entries)) ≡ true
rows_fit status entries = few_rows (sum_by (rows_in status) entries)

has_size : (size : ℕ) (b : Bool) → nat_lt size (2 ^ 63) ≡ b → by_option (cond b (Some (pos size)) None) (λ number. is_count 63 (Some number)) true ≡ true
has_size size true h = let small : size < 2 ^ 63 = grind (arith, nat_tests) in grind (arith, nat_tests)
has_size size false h = refl

pub row_listed : (path : List ℕ) (size : ℕ) (spec : Spec) (content : ManifestContent) (numbers : CommitNumbers)
    (entries : List Entry) → can_be_listed (row_of path size spec content numbers entries) ≡ true
row_listed path size spec content numbers entries = both _ _ (has_size size (nat_lt size (2 ^ 63)) refl) (both _ _
    (both _ _ (files_fit 1 entries) (both _ _ (files_fit 0 entries) (both _ _ (files_fit 2 entries) (both _ _ (rows_fit 1 entries) (both _ _ (rows_fit 0 entries) (rows_fit 2 entries))))))
    (bounds entries (range_with_len 0 (length spec.fields))))

-- ---- the least number is a long

abbrev LongOrNone : Option ℤ → Type 0
LongOrNone None = ⊤
LongOrNone (Some number) = is_long number ≡ true

by_either : (a b c : ℤ) → (c ≡ a) ⊎ (c ≡ b) → is_long a ≡ true → is_long b ≡ true → is_long c ≡ true
by_either a b c (inl e) ha hb = ap is_long e ∙ ha
by_either a b c (inr e) ha hb = ap is_long e ∙ hb

next_fits : (least : Option ℤ) (seq : ℤ) (live : Bool) → LongOrNone least → is_long seq ≡ true
    → LongOrNone (cond live (Some (by_option least (λ number. int_min number seq) seq)) least)
next_fits None seq true h fits = fits
next_fits None seq false h fits = tt
next_fits (Some number) seq true h fits = by_either number seq (int_min number seq) (one_of_both number seq) h fits
next_fits (Some number) seq false h fits = h

least_fits : (entries : List Entry) (least : Option ℤ) → LongOrNone least → list_all (λ entry. is_long entry.seq) entries ≡ true
    → LongOrNone (least_from least entries)
least_fits [] least h fits = h
least_fits (entry ∷ entries) least h fits =
    let others : Bool = list_all (λ e. is_long e.seq) entries in
    least_fits entries (with_number least entry) (next_fits least entry.seq (is_live entry.status) h (first (is_long entry.seq) others fits)) (second (is_long entry.seq) others fits)

unwrapped : (least : Option ℤ) (seq : ℤ) → LongOrNone least → is_long seq ≡ true → is_long (unwrap_or least seq) ≡ true
unwrapped None seq h fits = fits
unwrapped (Some number) seq h fits = h

pub row_has_numbers : (path : List ℕ) (size : ℕ) (spec : Spec) (content : ManifestContent) (numbers : CommitNumbers)
    (entries : List Entry) → is_int spec.id ≡ true → is_long numbers.seq ≡ true → is_long numbers.snapshot ≡ true
    → list_all (λ entry. is_long entry.seq) entries ≡ true → has_numbers (row_of path size spec content numbers entries) ≡ true
row_has_numbers path size spec content numbers entries id seq snapshot fits = both _ _ id (both _ _ seq (both _ _ (unwrapped (least_from None entries) numbers.seq (least_fits entries None tt fits) seq) snapshot))

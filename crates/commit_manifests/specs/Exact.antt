-- What a row says of live files: of their sequence numbers, and of their partition values (Iceberg specification,
-- "Manifest Lists", 516 and 508).
use Rattle.std.specs.Prelude.{◌≡◌, ℕ, ℤ, ◌≤ℤ◌, Bool, true, false, not, List, Option, Some, None, IsTrue}
use Rattle.std.specs.List.{Any, AllByRecursion, list_all}
use Rattle.std.specs.declared.cmp.Ordering.{Ordering}
use Rattle.plain_types.specs.Steps.{by_option}
use Rattle.row_values.specs.declared.kind.Kind.{Kind}
use Rattle.row_values.specs.declared.value.Value.{Value}
use Rattle.row_values.specs.Order.{value_cmp}
use Rattle.row_values.specs.Rows.{is_value}
use Rattle.manifest_files.specs.declared.entry.Entry.{Entry}
use Rattle.manifest_files.specs.Entries.{is_live}
use Rattle.commit_manifests.specs.Rows.{part_at, is_side}

-- no live entry has a lower number
abbrev pub IsLeast : ℤ → List Entry → Type 0
IsLeast number entries = AllByRecursion (λ entry. IsTrue (is_live entry.status) → number ≤ℤ entry.seq) entries

-- a live entry has the number
abbrev pub IsOfLive : ℤ → List Entry → Type 0
IsOfLive number entries = Any (λ entry. IsTrue (is_live entry.status) × (entry.seq ≡ number)) entries

abbrev pub NoneIsLive : List Entry → Type 0
NoneIsLive entries = IsTrue (list_all (λ entry. not (is_live entry.status)) entries)

-- the values of live entries at the place are of the kind, or NULL
abbrev pub AreOfKind : Kind → ℕ → List Entry → Type 0
AreOfKind k place entries = IsTrue (list_all (λ entry. by_option (part_at place entry) (is_value k) true) entries)

-- the value compares with the bound, and does not lie farther to the side
abbrev pub is_inside : Ordering → Value → Value → Bool
is_inside side bound v = by_option (value_cmp v bound) (λ found. not (is_side found side)) false

-- a bound is there where a value is, and no value lies farther to the side
abbrev pub is_covered : Ordering → Option Value → Option Value → Bool
is_covered side bound None = true
is_covered side None (Some v) = false
is_covered side (Some bound) (Some v) = is_inside side bound v

-- each value of a live entry at the place lies inside of the bound
abbrev pub AreCovered : Ordering → Option Value → ℕ → List Entry → Type 0
AreCovered side bound place entries = IsTrue (list_all (λ entry. is_covered side bound (part_at place entry)) entries)

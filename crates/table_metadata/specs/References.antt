-- Branches and tags (Iceberg specification, "Snapshot References"). Where `main` is not listed, it is the current snapshot
-- as a branch. Refs stand in byte order of their names.
use Rattle.std.specs.Prelude.{ℕ, suc, ℤ, not, nat_eq, codes, List, [], ◌∷◌, ◌++◌, map, Bool, true, false, Option, Result, Ok, Err, ⊤, if◌then◌else◌}
use Rattle.std.specs.Ordering.{int_eq, nat_cmp, is_lt}
use Rattle.std.specs.List.{list_any, insert}
use Rattle.std.specs.List.Sorted.{IsStrictlySortedBy}
use Rattle.std.specs.Cmp.Lexicographic.{pointwise, slice_cmp}
use Rattle.serde_json.specs.Data.{Data, Members, no_members, member}
use Rattle.table_metadata.specs.declared.metadata_fault.MetadataFault.{MetadataFault}
use Rattle.table_metadata.specs.declared.metadata_fault.MetadataFault.TheVariants as fault
use Rattle.table_metadata.specs.declared.references.RefItem.{RefItem}
use Rattle.table_metadata.specs.declared.snapshots.Snapshot.{Snapshot}
use Rattle.iceberg_schema.specs.Keys.{long_at, text_at, members_at}
use Rattle.table_metadata.specs.TableKeys.{shaped}
use Rattle.plain_types.specs.Steps.{◌>>=◌, fault_if, by_option}

-- whether a ref's type is that of a tag
unfoldable pub is_tag_type : List ℕ → Result Bool MetadataFault
is_tag_type text = if pointwise nat_eq text (codes "branch") then Ok false else (if pointwise nat_eq text (codes "tag") then Ok true else Err (fault.Shape (codes "type")))

unfoldable pub ref_of : List ℕ → Data → Result RefItem MetadataFault
ref_of name d = do
  snapshot ← shaped (codes "snapshot-id") (long_at (codes "snapshot-id") d)
  type ← shaped (codes "type") (text_at (codes "type") d)
  tag ← is_tag_type type
  Ok (record { name = name; snapshot = snapshot; tag = tag })

-- the refs of these members, behind those that are read
unfoldable pub refs_from : List RefItem → Members → Result (List RefItem) MetadataFault
refs_from earlier no_members = Ok earlier
refs_from earlier (member name d ms) = ref_of name d >>= λ r. refs_from (earlier ++ r ∷ []) ms

-- the refs that the metadata lists
unfoldable pub listed_refs_of : Data → Result (List RefItem) MetadataFault
listed_refs_of d = by_option (members_at (codes "refs") d) (refs_from []) (Ok [])

abbrev pub is_main_name : List ℕ → Bool
is_main_name name = pointwise nat_eq name (codes "main")

abbrev pub is_main : RefItem → Bool
is_main r = is_main_name r.name

abbrev pub lists_main : List RefItem → Bool
lists_main refs = list_any is_main refs

abbrev pub is_before_main : RefItem → Bool
is_before_main r = is_lt (slice_cmp nat_cmp r.name (codes "main"))

-- how many refs at the front stand before `main`
unfoldable pub before_main : List RefItem → ℕ
before_main [] = 0
before_main (r ∷ rs) = if is_before_main r then suc (before_main rs) else 0

-- `main` as a branch on the current snapshot, where there is one, at its place among the refs
unfoldable pub with_main : Option ℤ → List RefItem → List RefItem
with_main current refs = by_option current (λ id. insert refs (before_main refs) (record { name = codes "main"; snapshot = id; tag = false })) refs

-- The names ascend in byte order, each once.
abbrev pub AreInOrder : List RefItem → Type 0
AreInOrder refs = IsStrictlySortedBy (slice_cmp nat_cmp) (map (λ r. r.name) refs)

-- all refs: those listed, and `main` where it is not among them
unfoldable pub all_refs : Option ℤ → List RefItem → List RefItem
all_refs current listed = if lists_main listed then listed else with_main current listed

abbrev pub has_snapshot : ℤ → List Snapshot → Bool
has_snapshot id snapshots = list_any (λ snapshot. int_eq snapshot.id id) snapshots

abbrev pub is_current : Option ℤ → ℤ → Bool
is_current current id = by_option current (λ c. int_eq c id) false

-- A ref names a snapshot, and `main` is the current one as a branch.
abbrev pub holds : Option ℤ → List Snapshot → RefItem → Bool
holds current snapshots r = if has_snapshot r.snapshot snapshots then (if is_main r then (if r.tag then false else is_current current r.snapshot) else true) else false

unfoldable pub all_hold : Option ℤ → List Snapshot → List RefItem → Result ⊤ MetadataFault
all_hold current snapshots [] = Ok tt
all_hold current snapshots (r ∷ rs) = fault_if (fault.Ref r.name) (not (holds current snapshots r)) >>= λ _. all_hold current snapshots rs

unfoldable pub refs_of : Option ℤ → List Snapshot → List RefItem → Result (List RefItem) MetadataFault
refs_of current snapshots listed = all_hold current snapshots (all_refs current listed) >>= λ _. Ok (all_refs current listed)

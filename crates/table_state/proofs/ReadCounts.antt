-- How many files are read.
use Rattle.std.proofs.Common.{◌≡◌, ℕ, ◌+◌, ◌≤◌, List, length, Result, Ok, sym, ap, subst, ◌∙◌, arith}
use Rattle.plain_types.specs.Causes.{bump}
use Rattle.plain_types.specs.Steps.{◌>>=◌, fault_as, or_fault}
use Rattle.store_core.specs.Files.{Files}
use Rattle.manifest_files.specs.declared.manifest_row.ManifestRow.{ManifestRow}
use Rattle.table_metadata.specs.declared.metadata.Metadata.{Metadata}
use Rattle.table_metadata.specs.Metadata.{Parts, metadata_of, parts}
use Rattle.table_names.specs.Versions.{version_name}
use Rattle.table_state.specs.declared.load_fault.LoadFault.{LoadFault}
use Rattle.table_state.specs.declared.load_fault.LoadFault.TheVariants as fault
use Rattle.table_state.specs.Loading.{files_to_load, manifests_at, manifests_read, read_version, rows_or_none}
use Rattle.table_state.specs.States.{IsVersionOf}

-- one call more
pub one_more : (before now : ℕ) → now ≡ bump before → now ≤ before + 1
one_more before now is = omega (arith, is)

-- a list that was read, and then its manifests
pub list_and_manifests : (before middle now : ℕ) (list : Result (List ManifestRow) LoadFault) (rows : List ManifestRow) → list ≡ Ok rows
    → middle ≤ before + 1 → now ≤ middle + length rows → now ≤ before + 1 + length (rows_or_none list)
list_and_manifests before middle now list rows e first more =
    let same : rows_or_none list ≡ rows = ap rows_or_none e in
    subst (λ (all : List ManifestRow). now ≤ before + 1 + length all) (sym same) (omega (arith, first, more))

-- a version that was read, and then its branch
version_and_branch : (before middle now : ℕ) (table branch : List ℕ) (files : Files) (read : Result Parts LoadFault) (parts : Parts) → read ≡ Ok parts
    → middle ≤ before + 1 → now ≤ middle + 1 + length (manifests_read table branch (Ok parts) files)
    → now ≤ before + (2 + length (manifests_read table branch read files))
version_and_branch before middle now table branch files read parts e first more =
    subst (λ (one : Result Parts LoadFault). now ≤ before + (2 + length (manifests_read table branch one files))) (sym e) (omega (arith, first, more))

version_read : (table : List ℕ) (version : ℕ) (files : Files) (m : Metadata) → IsVersionOf table version files m → read_version table version files ≡ Ok (parts m)
version_read table version files m v =
    ap (λ found. or_fault (fault.Missing (version_name table version)) found >>= λ bytes. fault_as fault.Metadata (metadata_of bytes)) v.stands ∙ ap (fault_as fault.Metadata) v.read.read

-- a branch that was loaded, at a version that was read
pub load_reads : (before middle now : ℕ) (table : List ℕ) (version : ℕ) (branch : List ℕ) (files : Files) (m : Metadata) → IsVersionOf table version files m
    → middle ≤ before + 1 → now ≤ middle + 1 + length (manifests_at table (parts m) branch files) → now ≤ before + files_to_load table version branch files
load_reads before middle now table version branch files m v first more =
    version_and_branch before middle now table branch files (read_version table version files) (parts m) (version_read table version files m v) first more

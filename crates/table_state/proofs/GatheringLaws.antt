-- What is gathered manifest by manifest is the live set of all entries, and the counts.
use Rattle.std.proofs.Common.{◌≡◌, ℕ, not, List, [], ◌∷◌, ◌++◌, filter, length, Result, Ok, Err, refl, sym, ap, ◌∙◌, append_assoc, arith}
use Rattle.std.proofs.lemmas.List.Elements.{filter-append}
use Rattle.plain_types.specs.Steps.{◌>>=◌}
use Rattle.store_core.specs.Files.{Files}
use Rattle.manifest_files.specs.declared.entry.Entry.{Entry}
use Rattle.manifest_files.specs.declared.manifest_row.ManifestRow.{ManifestRow}
use Rattle.table_metadata.specs.Metadata.{Parts}
use Rattle.table_state.specs.declared.load_fault.LoadFault.{LoadFault}
use Rattle.table_state.specs.Files.{manifest_at}
use Rattle.table_state.specs.Live.{is_data, is_live, entries_at, set_of}
use Rattle.table_state.specs.declared.state.LiveCount.{LiveCount}
use Rattle.table_state.specs.Gathering.{Gathered, and_manifest, count_of, gathered_at, live_data, live_deletes, set_in}
use Rattle.table_state.specs.States.{counts_at}

-- the live sets are the same, and so are the counts, or the fault is
abbrev pub Agrees : Result Gathered LoadFault → Result (List Entry) LoadFault → Result (List LiveCount) LoadFault → Type 0
Agrees (Ok gathered) entries counts = (all : List Entry) × (entries ≡ Ok all) × (set_in gathered ≡ set_of all) × (counts ≡ Ok gathered.counts)
Agrees (Err f) entries counts = entries ≡ Err f

one_more : (read : Result (List Entry) LoadFault) (gathered : List Entry → Result Gathered LoadFault)
    (entries : List Entry → Result (List Entry) LoadFault) (counts : List Entry → Result (List LiveCount) LoadFault)
    → ((x : List Entry) → Agrees (gathered x) (entries x) (counts x))
    → Agrees (read >>= gathered) (read >>= entries) (read >>= counts)
one_more (Ok x) gathered entries counts h = h x
one_more (Err f) gathered entries counts h = refl

pub data_joined : (earlier more : List Entry) → live_data (earlier ++ more) ≡ live_data earlier ++ live_data more
data_joined earlier more = ap (filter is_data) (filter-append is_live earlier more) ∙ filter-append is_data (filter is_live earlier) (filter is_live more)

pub deletes_joined : (earlier more : List Entry) → live_deletes (earlier ++ more) ≡ live_deletes earlier ++ live_deletes more
deletes_joined earlier more = ap (filter (λ entry. not (is_data entry))) (filter-append is_live earlier more) ∙ filter-append (λ entry. not (is_data entry)) (filter is_live earlier) (filter is_live more)

-- one more, behind those so far
pub joined_more : (part : List Entry → List Entry) → ((earlier more : List Entry)
    → part (earlier ++ more) ≡ part earlier ++ part more) → (old mid new : List Entry) (taken : List Entry) (x : Entry)
    → mid ≡ old ++ part taken → new ≡ mid ++ part (x ∷ []) → new ≡ old ++ part (taken ++ x ∷ [])
joined_more part joins old mid new taken x h k = k ∙ ap (λ xs. xs ++ part (x ∷ [])) h ∙ append_assoc old (part taken) (part (x ∷ [])) ∙ ap (λ xs. old ++ xs) (sym (joins taken (x ∷ [])))

pub nothing_left : (entries : List Entry) → length entries ≡ 0 → entries ≡ []
nothing_left [] h = refl
nothing_left (x ∷ entries) h = absurd (omega arith)

module _ (table : List ℕ) (parts : Parts) (files : Files) where
  pub gathers : (so_far : Gathered) (earlier : List Entry) → so_far.data_files ≡ live_data earlier
      → so_far.deletes ≡ live_deletes earlier → (rows : List ManifestRow)
      → Agrees (gathered_at table parts so_far rows files) (entries_at table parts earlier rows files)
      (counts_at table parts so_far.counts rows files)
  unfolding gathered_at entries_at counts_at
  gathers so_far earlier h k [] = (earlier, refl, rw (h, k) refl, refl)
  gathers so_far earlier h k (row ∷ rows) = one_more (manifest_at table parts row files) (λ x. gathered_at table parts (and_manifest so_far x) rows files) (λ x. entries_at table parts (earlier ++ x) rows files) (λ x. counts_at table parts (so_far.counts ++ count_of x ∷ []) rows files)
      (λ x. gathers (and_manifest so_far x) (earlier ++ x) (ap (λ xs. xs ++ live_data x) h ∙ sym (data_joined earlier x)) (ap (λ xs. xs ++ live_deletes x) k ∙ sym (deletes_joined earlier x)) rows)

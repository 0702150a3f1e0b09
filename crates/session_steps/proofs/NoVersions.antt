-- No name of a file that a run puts begins as the names of versions do.
use Rattle.std.proofs.Common.{◌≡◌, ℕ, List, [], ◌∷◌, ◌++◌, codes, cond, Option, None, refl, ap, ◌∙◌}
use Rattle.std.proofs.lemmas.Bool.{eq-eqb}
use Rattle.plain_types.specs.Digits.{after_text}
use Rattle.plain_types.specs.Steps.{by_option}
use Rattle.table_names.specs.FileNames.{data_name, metadata_name, named}
use Rattle.table_names.specs.Versions.{version_behind, version_of_name, version_prefix}

-- of two texts in one folder only what follows its name counts
past : (folder front name : List ℕ) → after_text (folder ++ front) (folder ++ name) ≡ after_text front name
unfolding after_text
past [] front name = refl
past (b ∷ bs) front name = ap (λ c. cond c (after_text (bs ++ front) (bs ++ name)) None) (eq-eqb b b refl) ∙ past bs front name

not_in_data : (rest : List ℕ) → after_text (codes "/metadata/v") (codes "/data/r" ++ rest) ≡ None
unfolding after_text
not_in_data rest = refl

not_of_run : (rest : List ℕ) → after_text (codes "/metadata/v") (codes "/metadata/r" ++ rest) ≡ None
unfolding after_text
not_of_run rest = refl

module _ (table session : List ℕ) (run n : ℕ) where
  abbrev rest : List ℕ
  rest = named run session n (codes ".avro")

  pub of_data : version_of_name (version_prefix table) (data_name table run session n) ≡ 0
  unfolding version_of_name
  of_data = ap (λ (o : Option (List ℕ)). by_option o version_behind 0) (past table (codes "/metadata/v") (codes "/data/r" ++ rest) ∙ not_in_data rest)

  pub of_metadata : version_of_name (version_prefix table) (metadata_name table run session n) ≡ 0
  unfolding version_of_name
  of_metadata = ap (λ (o : Option (List ℕ)). by_option o version_behind 0) (past table (codes "/metadata/v") (codes "/metadata/r" ++ rest) ∙ not_of_run rest)

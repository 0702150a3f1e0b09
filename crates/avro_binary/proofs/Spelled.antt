-- The spelling of each kind of datum.
use Rattle.std.proofs.Common.{◌≡◌, ℕ, Bool, ℤ, List, [], ◌∷◌, ◌++◌, map, sym, ap, ◌∙◌}
use Rattle.std.specs.Prelude.{if◌then◌else◌}
use Rattle.std.specs.List.{concat}
use Rattle.avro_binary.specs.declared.datum.Datum.{Datum}
use Rattle.avro_binary.specs.declared.datum.Datum.TheFolds.{fold-roll-Datum, fold_out-MapPair}
use Rattle.avro_binary.specs.declared.datum.Datum.TheOpen as open_datum
use Rattle.avro_binary.specs.declared.datum.Datum.TheVariants as datum
use Rattle.avro_binary.specs.declared.datum.MapPair.{MapPair}
use Rattle.avro_binary.specs.Spelling.{signed_groups, natural, counted, block, spelling, pair_spelling, spelling_level, pair_level}

pub spells_null : spelling datum.Null ≡ []
spells_null = ap spelling (sym datum.rolls-Null) ∙ fold-roll-Datum (List ℕ) (List ℕ) spelling_level pair_level open_datum.Null

pub spells_boolean : (b : Bool) → spelling (datum.Boolean b) ≡ (if b then 1 else 0) ∷ []
spells_boolean b = ap spelling (sym (datum.rolls-Boolean b)) ∙ fold-roll-Datum (List ℕ) (List ℕ) spelling_level pair_level (open_datum.Boolean b)

pub spells_int : (z : ℤ) → spelling (datum.Int z) ≡ signed_groups z
spells_int z = ap spelling (sym (datum.rolls-Int z)) ∙ fold-roll-Datum (List ℕ) (List ℕ) spelling_level pair_level (open_datum.Int z)

pub spells_long : (z : ℤ) → spelling (datum.Long z) ≡ signed_groups z
spells_long z = ap spelling (sym (datum.rolls-Long z)) ∙ fold-roll-Datum (List ℕ) (List ℕ) spelling_level pair_level (open_datum.Long z)

pub spells_bytes : (t : List ℕ) → spelling (datum.Bytes t) ≡ counted t
spells_bytes t = ap spelling (sym (datum.rolls-Bytes t)) ∙ fold-roll-Datum (List ℕ) (List ℕ) spelling_level pair_level (open_datum.Bytes t)

pub spells_text : (t : List ℕ) → spelling (datum.Text t) ≡ counted t
spells_text t = ap spelling (sym (datum.rolls-Text t)) ∙ fold-roll-Datum (List ℕ) (List ℕ) spelling_level pair_level (open_datum.Text t)

pub spells_record : (ds : List Datum) → spelling (datum.Record ds) ≡ concat (map spelling ds)
spells_record ds = ap spelling (sym (datum.rolls-Record ds)) ∙ fold-roll-Datum (List ℕ) (List ℕ) spelling_level pair_level (open_datum.Record ds)

pub spells_enum : (n : ℕ) → spelling (datum.Enum n) ≡ natural n
spells_enum n = ap spelling (sym (datum.rolls-Enum n)) ∙ fold-roll-Datum (List ℕ) (List ℕ) spelling_level pair_level (open_datum.Enum n)

pub spells_array : (ds : List Datum) → spelling (datum.Array ds) ≡ block (map spelling ds)
spells_array ds = ap spelling (sym (datum.rolls-Array ds)) ∙ fold-roll-Datum (List ℕ) (List ℕ) spelling_level pair_level (open_datum.Array ds)

pub spells_map : (ps : List MapPair) → spelling (datum.Map ps) ≡ block (map pair_spelling ps)
spells_map ps = ap spelling (sym (datum.rolls-Map ps)) ∙ fold-roll-Datum (List ℕ) (List ℕ) spelling_level pair_level (open_datum.Map ps)

pub spells_union : (n : ℕ) (d : Datum) → spelling (datum.Union n d) ≡ natural n ++ spelling d
spells_union n d = ap spelling (sym (datum.rolls-Union n d)) ∙ fold-roll-Datum (List ℕ) (List ℕ) spelling_level pair_level (open_datum.Union n d)

pub spells_fixed : (t : List ℕ) → spelling (datum.Fixed t) ≡ t
spells_fixed t = ap spelling (sym (datum.rolls-Fixed t)) ∙ fold-roll-Datum (List ℕ) (List ℕ) spelling_level pair_level (open_datum.Fixed t)

pub spells_pair : (p : MapPair) → pair_spelling p ≡ counted p.key ++ spelling p.value
spells_pair p = fold_out-MapPair (List ℕ) (List ℕ) spelling_level pair_level p

-- The names of a partition's fields (Iceberg specification, "Manifests", `partition`; Avro 1.11.1, "Names").
use Rattle.std.specs.Prelude.{ℕ, Bool, true, not, ◌&&◌, if◌then◌else◌, List, [], ◌∷◌}
use Rattle.std.specs.List.{list_any}
use Rattle.std.specs.Str.{bytes_eq}
use Rattle.row_values.specs.declared.partition.PartField.{PartField}
use Rattle.row_writer.specs.Names.{is_name, id_name}

abbrev pub has_name : List ℕ → List PartField → Bool
has_name name parts = list_any (λ part. bytes_eq part.name name) parts

-- each field has a name of Avro, and no two have one name
unfoldable pub are_names : List PartField → Bool
are_names [] = true
are_names (part ∷ parts) = is_name part.name && (not (has_name part.name parts) && are_names parts)

abbrev pub part_name : Bool → PartField → List ℕ
part_name keeps part = if keeps then part.name else id_name part.field

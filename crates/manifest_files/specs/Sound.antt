-- What holds of every entry that is read, whatever the file holds (Iceberg specification, "Manifests" and
-- "Partitioning").
use Rattle.std.specs.Prelude.{nat_lt, int_lt, Bool, true, false, ◌&&◌, List, [], ◌∷◌, Option, if◌then◌else◌, IsTrue}
use Rattle.std.specs.Ordering.{int_eq}
use Rattle.std.specs.List.{list_all}
use Rattle.plain_types.specs.Steps.{by_option}
use Rattle.row_values.specs.declared.kind.Kind.{Kind}
use Rattle.row_values.specs.declared.value.Value.{Value}
use Rattle.row_values.specs.declared.schema.Column.{Column}
use Rattle.row_values.specs.declared.schema.TableSchema.{TableSchema}
use Rattle.row_values.specs.declared.partition.PartField.{PartField}
use Rattle.row_values.specs.declared.partition.Spec.{Spec}
use Rattle.row_values.specs.Rows.{is_value, is_null}
use Rattle.kind_values.specs.declared.stats.ColumnStats.{ColumnStats}
use Rattle.manifest_files.specs.declared.entry.Entry.{Entry}
use Rattle.manifest_files.specs.PartitionKinds.{kind_of_field}
use Rattle.manifest_files.specs.Statistics.{tells}

-- NULL, or a value of the kind where there is one
abbrev pub is_part : Option Kind → Value → Bool
is_part k v = if is_null v then true else by_option k (λ given. is_value given v) false

-- one value for each field, of the kind that its transform gives of its source column
abbrev pub are_parts : List Column → List PartField → List Value → Bool
are_parts columns [] [] = true
are_parts columns (part ∷ parts) (v ∷ vs) = is_part (kind_of_field columns part) v && are_parts columns parts vs
are_parts columns [] (v ∷ vs) = false
are_parts columns (part ∷ parts) [] = false

-- strictly rising ids
abbrev pub rises : List ColumnStats → Bool
rises [] = true
rises (facts ∷ others) = list_all (λ other. int_lt facts.id other.id) others && rises others

-- in rising order, each with something that it tells
abbrev pub are_stats : List ColumnStats → Bool
are_stats stats = rises stats && list_all tells stats

abbrev pub is_entry : Spec → TableSchema → Entry → Bool
is_entry spec schema entry = nat_lt entry.status 3 && (int_eq entry.spec spec.id && (are_parts schema.columns spec.fields entry.partition && are_stats entry.stats.columns))

abbrev pub AreEntries : Spec → TableSchema → List Entry → Type 0
AreEntries spec schema entries = IsTrue (list_all (is_entry spec schema) entries)

-- The kinds of the columns of which statistics are kept.
use Rattle.std.proofs.Common.{◌≡◌, Bool, true, false, cond, List, [], ◌∷◌, refl, ap, ◌∙◌}
use Rattle.std.specs.Prelude.{int_lt}
use Rattle.std.specs.Ordering.{int_eq}
use Rattle.std.specs.List.{list_all}
use Rattle.row_values.specs.declared.schema.Column.{Column}
use Rattle.kind_values.specs.Bounds.{is_kind}
use Rattle.manifest_files.specs.declared.known_column.KnownColumn.{KnownColumn}
use Rattle.manifest_files.specs.Statistics.{with_column, with_columns, path_column, position_column, known_columns}
use Rattle.manifest_files.proofs.CallerLemmas.{placed, with_is_placed}
use Rattle.row_writer.proofs.CallerLemmas.{both, first, second}
use Rattle.manifest_writer.proofs.PartLaws.{are_kinds}

abbrev known_are : List KnownColumn → Bool
known_are known = list_all (λ column. is_kind column.kind) known

placed_by : (column other : KnownColumn) (columns rest : List KnownColumn) (a b : Bool) → is_kind column.kind ≡ true
    → known_are (other ∷ columns) ≡ true → known_are rest ≡ true
    → known_are (cond a (other ∷ rest) (cond b (other ∷ columns) (column ∷ other ∷ columns))) ≡ true
placed_by column other columns rest true b h all more = both (is_kind other.kind) (known_are rest) (first (is_kind other.kind) (known_are columns) all) more
placed_by column other columns rest false true h all more = all
placed_by column other columns rest false false h all more = both (is_kind column.kind) (known_are (other ∷ columns)) h all

placed_are : (column : KnownColumn) (columns : List KnownColumn) → is_kind column.kind ≡ true → known_are columns ≡ true
    → known_are (placed column columns) ≡ true
placed_are column [] h all = both (is_kind column.kind) true h refl
placed_are column (other ∷ columns) h all = placed_by column other columns (placed column columns) (int_lt other.id column.id) (int_eq other.id column.id) h all (placed_are column columns h (second (is_kind other.kind) (known_are columns) all))

with_are : (column : KnownColumn) (columns : List KnownColumn) → is_kind column.kind ≡ true → known_are columns ≡ true
    → known_are (with_column column columns) ≡ true
with_are column columns h all = ap known_are (with_is_placed column columns) ∙ placed_are column columns h all

columns_are : (known : List KnownColumn) (columns : List Column) → known_are known ≡ true → are_kinds columns ≡ true
    → known_are (with_columns known columns) ≡ true
unfolding with_columns
columns_are known [] all h = all
columns_are known (column ∷ columns) all h = columns_are (with_column (record { id = column.id; kind = column.kind }) known) columns
    (with_are (record { id = column.id; kind = column.kind }) known (first (is_kind column.kind) (are_kinds columns) h) all)
    (second (is_kind column.kind) (are_kinds columns) h)

pub known_kinds : (columns : List Column) → are_kinds columns ≡ true → list_all (λ (column : KnownColumn). is_kind column.kind) (known_columns columns) ≡ true
known_kinds columns h = with_are path_column (with_column position_column (with_columns [] columns)) refl (with_are position_column (with_columns [] columns) refl (columns_are [] columns refl h))

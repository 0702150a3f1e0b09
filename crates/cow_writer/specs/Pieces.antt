-- Rows cut into data files: one closes where it has 65,536 rows, or where the datums of its rows reach 16 MiB.
use Rattle.std.specs.Prelude.{ℕ, ◌-◌, ◌^◌, nat_le, ◌||◌, Bool, if◌then◌else◌, List, [], ◌∷◌, ◌++◌, length}
use Rattle.std.specs.List.{fold, sum_by}
use Rattle.row_values.specs.declared.schema.Column.{Column}
use Rattle.row_values.specs.declared.value.Value.{Value}
use Rattle.row_writer.specs.RowDatum.{row_size}
use Rattle.cow_writer.specs.declared.pieces.Pieces as code

abbrev pub file_rows : ℕ
file_rows = 2 ^ 16

abbrev pub file_bytes : ℕ
file_bytes = 2 ^ 24

-- the rows fill a file
abbrev pub is_full : List Column → List (List Value) → Bool
is_full columns rows = nat_le file_bytes (sum_by (row_size columns) rows) || nat_le file_rows (length rows)

abbrev pub whole : List (List Value) → List (List (List Value))
whole [] = []
whole (row ∷ rows) = (row ∷ rows) ∷ []

-- the rows of each file, of which the first begins with these rows
unfoldable pub pieces_from : List Column → List (List Value) → List (List Value) → List (List (List Value))
pieces_from columns piece [] = whole piece
pieces_from columns piece (row ∷ rows) =
    if is_full columns (piece ++ row ∷ []) then (piece ++ row ∷ []) ∷ pieces_from columns [] rows else pieces_from columns (piece ++ row ∷ []) rows

abbrev pub pieces_of : List Column → List (List Value) → List (List (List Value))
pieces_of columns rows = pieces_from columns [] rows

-- ---- the same, row by row

-- the files that are closed, the rows of the next one, and how many bytes their datums may still take
pub record Pieces : Type 0 where
  pub closed : List (List (List Value))
  pub piece : List (List Value)
  pub left : ℕ

abbrev pub seen : code.Pieces → Pieces
seen p = record { closed = p.closed.items; piece = p.piece.items; left = p.left }

abbrev pub nothing : Pieces
nothing = record { closed = []; piece = []; left = file_bytes }

abbrev pub with_piece : Pieces → Pieces
with_piece p = record { closed = p.closed ++ p.piece ∷ []; piece = []; left = file_bytes }

abbrev pub finished : Pieces → List (List (List Value))
finished p = p.closed ++ whole p.piece

-- and one row more
unfoldable pub and_row : List Column → Pieces → List Value → Pieces
and_row columns p row =
    if nat_le p.left (row_size columns row) || nat_le file_rows (length (p.piece ++ row ∷ []))
    then with_piece (record p { piece = p.piece ++ row ∷ [] })
    else record p { piece = p.piece ++ row ∷ []; left = p.left - row_size columns row }

abbrev pub and_rows : List Column → Pieces → List (List Value) → Pieces
and_rows columns p rows = fold (and_row columns) p rows

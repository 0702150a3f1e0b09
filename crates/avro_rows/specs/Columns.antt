-- Rows of some columns beside rows of others.
use Rattle.std.specs.Prelude.{List, [], ◌∷◌, ◌++◌, Option, Some, None, Result, Ok, Err}
use Rattle.row_values.specs.declared.value.Value.{Value}
use Rattle.avro_rows.specs.declared.row_fault.RowFault.{RowFault}

-- row by row
abbrev pub beside : List (List Value) → List (List Value) → List (List Value)
beside (row ∷ rows) (other ∷ others) = (row ++ other) ∷ beside rows others
beside [] others = []
beside (row ∷ rows) [] = []

-- what is read, whatever the fault where nothing is
abbrev pub read_of : Result (List (List Value)) RowFault → Option (List (List Value))
read_of (Ok rows) = Some rows
read_of (Err f) = None

-- both, where both are read
abbrev pub both_read : Option (List (List Value)) → Option (List (List Value)) → Option (List (List Value))
both_read (Some rows) (Some others) = Some (beside rows others)
both_read None others = None
both_read (Some rows) None = None

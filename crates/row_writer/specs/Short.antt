-- Rows whose texts and bytes are no longer than literals may be.
use Rattle.std.specs.Prelude.{nat_le, Bool, true, List, length}
use Rattle.std.specs.List.{list_all}
use Rattle.row_values.specs.declared.value.Value.{Value}
use Rattle.row_values.specs.declared.value.Value.TheVariants as value

abbrev pub is_short : Value → Bool
is_short (value.Text bytes) = nat_le (length bytes) 131072
is_short (value.Bytes bytes) = nat_le (length bytes) 131072
is_short _ = true

abbrev pub is_short_row : List Value → Bool
is_short_row row = list_all is_short row

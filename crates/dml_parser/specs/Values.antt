-- The value that a literal is in the kind of its column, and the limit of texts. A number without a point is a value of int
-- and long in their ranges; one in a decimal column is not read yet.
use Rattle.std.specs.Prelude.{ℕ, ℤ, pos, neg_ℤ, ◌==◌, ◌-◌, ◌^◌, nat_lt, length, List, [], ◌∷◌, ◌++◌, Bool, Option, Some, None, option_and_then, option_map, Ok, Err, ⊤, if◌then◌else◌}
use Rattle.std.specs.Str.{byte, is_utf8}
use Rattle.plain_types.specs.Digits.{number_at}
use Rattle.plain_types.specs.Steps.{◌>>=◌, by_option, fault_if}
use Rattle.row_values.specs.Rows.{is_between}
use Rattle.row_values.specs.declared.kind.Kind.{Kind}
use Rattle.row_values.specs.declared.kind.Kind.TheVariants as kind
use Rattle.row_values.specs.declared.schema.Column.{Column}
use Rattle.row_values.specs.declared.value.Value.{Value}
use Rattle.row_values.specs.declared.value.Value.TheVariants as value
use Rattle.sql_predicates.specs.declared.expr.Expr.{Expr, roll-Expr}
use Rattle.sql_predicates.specs.declared.expr.Expr.TheOpen as open_expr
use Rattle.dml_parser.specs.declared.raw.Literal.{Literal}
use Rattle.dml_parser.specs.declared.raw.Spelling.{Spelling}
use Rattle.dml_parser.specs.declared.raw.Spelling.TheVariants as spelling
use Rattle.dml_parser.specs.declared.script.ScriptFault.TheVariants as fault
use Rattle.dml_parser.specs.Answer.{Parsed}

-- the number that the digits are; one above 2^64 - 1 stands at it
unfoldable pub digits_of : List ℕ → Option ℕ
digits_of bytes = option_and_then (λ n. if length n.1 == 0 then Some n.0 else None) (number_at bytes)

-- the whole number that is spelled so, perhaps after a minus
unfoldable pub whole_of : List ℕ → Option ℤ
whole_of [] = option_map (λ n. pos n) (digits_of [])
whole_of (b ∷ bytes) =
    if b == byte "-" then option_map (λ n. neg_ℤ (pos n)) (digits_of bytes) else option_map (λ n. pos n) (digits_of (b ∷ bytes))

abbrev pub int_value : ℤ → ℕ → Parsed Value
int_value number line =
    if is_between (neg_ℤ (pos (2 ^ 31))) (pos (2 ^ 31 - 1)) number then Ok (value.Int number) else Err (fault.Kind line)

abbrev pub long_value : ℤ → ℕ → Parsed Value
long_value number line =
    if is_between (neg_ℤ (pos (2 ^ 63))) (pos (2 ^ 63 - 1)) number then Ok (value.Long number) else Err (fault.Kind line)

abbrev pub whole_value : Kind → ℕ → ℤ → Parsed Value
whole_value kind.Int line number = int_value number line
whole_value kind.Long line number = long_value number line
whole_value _ line number = Err (fault.Kind line)

unfoldable pub number_value : Kind → List ℕ → ℕ → Parsed Value
number_value (kind.Decimal precision scale) number line = Err (fault.Later line)
number_value k number line = by_option (whole_of number) (whole_value k line) (Err (fault.Kind line))

abbrev pub bool_value : Kind → Bool → ℕ → Parsed Value
bool_value kind.Bool holds line = Ok (value.Bool holds)
bool_value _ holds line = Err (fault.Kind line)

-- the text that the bytes are, as every part of a script is one
abbrev pub text_of : List ℕ → Parsed (List ℕ)
text_of bytes = if is_utf8 bytes then Ok bytes else Err fault.Text

unfoldable pub text_value : Kind → List ℕ → ℕ → Parsed Value
text_value kind.Text bytes line = text_of bytes >>= λ text. Ok (value.Text text)
text_value _ bytes line = Err (fault.Kind line)

abbrev pub spelled_value : Kind → ℕ → Spelling → Parsed Value
spelled_value k line spelling.Null = Ok value.Null
spelled_value k line (spelling.Bool holds) = bool_value k holds line
spelled_value k line (spelling.Number number) = number_value k number line
spelled_value k line (spelling.Text text) = text_value k text line

-- the value that the literal is in the kind; NULL is one of every kind
unfoldable pub value_of : Kind → Literal → Parsed Value
value_of k literal = spelled_value k literal.line literal.spelling

-- the values of a tuple, which has one literal for each column
unfoldable pub values_of_row : List Column → List Expr → List Literal → Parsed (List Expr)
values_of_row columns values [] = Ok values
values_of_row [] values (literal ∷ row) = Err (fault.Form literal.line)
values_of_row (column ∷ columns) values (literal ∷ row) = do
  v ← value_of column.kind literal
  values_of_row columns (values ++ roll-Expr (open_expr.Literal v) ∷ []) row

unfoldable pub values_of_rows : List Column → List (List Expr) → List (List Literal) → Parsed (List (List Expr))
values_of_rows columns values [] = Ok values
values_of_rows columns values (row ∷ rows) = do
  v ← values_of_row columns [] row
  values_of_rows columns (values ++ v ∷ []) rows

abbrev pub spelling_limit : ℕ → Spelling → Parsed ⊤
spelling_limit line (spelling.Text text) = fault_if (fault.Limit line) (nat_lt 131072 (length text))
spelling_limit line _ = Ok tt

-- A text is at most 131,072 bytes long.
unfoldable pub literal_limit : Literal → Parsed ⊤
literal_limit literal = spelling_limit literal.line literal.spelling

unfoldable pub limits_of_row : List Literal → Parsed ⊤
limits_of_row [] = Ok tt
limits_of_row (literal ∷ row) = do
  _ ← literal_limit literal
  limits_of_row row

unfoldable pub limits_of_rows : List (List Literal) → Parsed ⊤
limits_of_rows [] = Ok tt
limits_of_rows (row ∷ rows) = do
  _ ← limits_of_row row
  limits_of_rows rows

-- The values of literals are of the kinds that they were read for.
use Rattle.std.proofs.Common.{◌≡◌, ℕ, ◌-◌, ◌^◌, ℤ, pos, neg_ℤ, ◌&&◌, Bool, true, false, List, [], ◌∷◌, ◌++◌, append_assoc, append-nil, length, Option, Some, None, Ok, Err, refl, sym, ap, ◌∙◌, subst, arith}
use Rattle.std.specs.Prelude.{if◌then◌else◌}
use Rattle.std.specs.List.{list_all, AllByRecursion}
use Rattle.std.specs.Str.{is_utf8}
use Rattle.std.proofs.lemmas.List.Folds.{list_all-append}
use Rattle.plain_types.specs.Steps.{◌>>=◌, by_option}
use Rattle.row_values.specs.declared.kind.Kind.{Kind}
use Rattle.row_values.specs.declared.kind.Kind.TheVariants as kind
use Rattle.row_values.specs.declared.schema.Column.{Column}
use Rattle.row_values.specs.declared.value.Value.{Value}
use Rattle.row_values.specs.declared.value.Value.TheVariants as value
use Rattle.row_values.specs.Rows.{is_between}
use Rattle.sql_predicates.specs.declared.expr.Expr.{Expr, roll-Expr}
use Rattle.sql_predicates.specs.declared.expr.Expr.TheFolds.{fold-roll-Expr}
use Rattle.sql_predicates.specs.declared.expr.Expr.TheOpen as open_expr
use Rattle.sql_predicates.specs.Kinds.{fits, fits_level, is_value_or_null}
use Rattle.sql_predicates.specs.Positions.{expr_is_within, expr_level_is_within}
use Rattle.sql_predicates.proofs.CallerLemmas.{and_both}
use Rattle.sql_statements.specs.Fits.{exprs_are_within}
use Rattle.sql_statements.specs.Kinds.{exprs_fit, widest}
use Rattle.dml_parser.specs.declared.raw.Literal.{Literal}
use Rattle.dml_parser.specs.declared.raw.Spelling.{Spelling}
use Rattle.dml_parser.specs.declared.raw.Spelling.TheVariants as spelling
use Rattle.dml_parser.specs.declared.script.ScriptFault.TheVariants as fault
use Rattle.dml_parser.specs.Values.{bool_value, int_value, long_value, number_value, spelled_value, text_of, text_value, value_of, values_of_row, values_of_rows, whole_of, whole_value}
use Rattle.dml_parser.proofs.Stepwise.{carried}
use Rattle.plain_types.proofs.CallerLemmas.{one_value, two_steps}

-- ---- one value

abbrev Fits : Kind → Value → Type 0
Fits k v = is_value_or_null (widest k) v ≡ true

int_fits : (n : ℤ) (line : ℕ) (v : Value) → int_value n line ≡ Ok v → Fits kind.Int v
int_fits n line v = by (is_between (neg_ℤ (pos (2 ^ 31))) (pos (2 ^ 31 - 1)) n) refl
  where
    by : (is : Bool) → is_between (neg_ℤ (pos (2 ^ 31))) (pos (2 ^ 31 - 1)) n ≡ is
        → (if is then Ok (value.Int n) else Err (fault.Kind line)) ≡ Ok v → Fits kind.Int v
    by true e h = carried (Fits kind.Int) (value.Int n) v h e
    by false e h = cc

long_fits : (n : ℤ) (line : ℕ) (v : Value) → long_value n line ≡ Ok v → Fits kind.Long v
long_fits n line v = by (is_between (neg_ℤ (pos (2 ^ 63))) (pos (2 ^ 63 - 1)) n) refl
  where
    by : (is : Bool) → is_between (neg_ℤ (pos (2 ^ 63))) (pos (2 ^ 63 - 1)) n ≡ is
        → (if is then Ok (value.Long n) else Err (fault.Kind line)) ≡ Ok v → Fits kind.Long v
    by true e h = carried (Fits kind.Long) (value.Long n) v h e
    by false e h = cc

whole_fits : (k : Kind) (o : Option ℤ) (line : ℕ) (v : Value) → by_option o (whole_value k line) (Err (fault.Kind line)) ≡ Ok v → Fits k v
whole_fits kind.Int (Some n) line v h = int_fits n line v h
whole_fits kind.Long (Some n) line v h = long_fits n line v h
whole_fits k (Some n) line v h = cc
whole_fits k None line v h = cc

number_fits : (k : Kind) (number : List ℕ) (line : ℕ) (v : Value) → number_value k number line ≡ Ok v → Fits k v
unfolding number_value
number_fits (kind.Decimal precision scale) number line v h = cc
number_fits k number line v h = whole_fits k (whole_of number) line v h

bool_fits : (k : Kind) (holds : Bool) (line : ℕ) (v : Value) → bool_value k holds line ≡ Ok v → Fits k v
bool_fits kind.Bool holds line v h = carried (Fits kind.Bool) (value.Bool holds) v h refl
bool_fits k holds line v h = cc

utf8_fits : (bytes : List ℕ) (v : Value) → (text_of bytes >>= λ text. Ok (value.Text text)) ≡ Ok v → Fits kind.Text v
utf8_fits bytes v = by (is_utf8 bytes) refl
  where
    by : (is : Bool) → is_utf8 bytes ≡ is → ((if is then Ok bytes else Err fault.Text) >>= λ text. Ok (value.Text text)) ≡ Ok v → Fits kind.Text v
    by true e h = carried (Fits kind.Text) (value.Text bytes) v h e
    by false e h = cc

text_fits : (k : Kind) (bytes : List ℕ) (line : ℕ) (v : Value) → text_value k bytes line ≡ Ok v → Fits k v
unfolding text_value
text_fits kind.Text bytes line v h = utf8_fits bytes v h
text_fits k bytes line v h = cc

spelled_fits : (k : Kind) (line : ℕ) (s : Spelling) (v : Value) → spelled_value k line s ≡ Ok v → Fits k v
spelled_fits k line spelling.Null v h = carried (Fits k) value.Null v h refl
spelled_fits k line (spelling.Bool holds) v h = bool_fits k holds line v h
spelled_fits k line (spelling.Number number) v h = number_fits k number line v h
spelled_fits k line (spelling.Text text) v h = text_fits k text line v h

pub value_fits : (k : Kind) (literal : Literal) (v : Value) → value_of k literal ≡ Ok v → Fits k v
unfolding value_of
value_fits k literal v h = spelled_fits k literal.line literal.spelling v h

-- ---- a tuple

abbrev literal_expr : Value → Expr
literal_expr v = roll-Expr (open_expr.Literal v)

literal_fits : (k : Kind) (v : Value) → is_value_or_null k v ≡ true → fits [] (literal_expr v) k ≡ true
literal_fits k v is = ap (λ f. f k) (fold-roll-Expr (Kind → Bool) (fits_level []) (open_expr.Literal v)) ∙ is

literal_within : (v : Value) → expr_is_within 0 (literal_expr v) ≡ true
literal_within v = fold-roll-Expr Bool (expr_level_is_within 0) (open_expr.Literal v)

-- one expression for each column, of its kind, and none reads a column
record IsTuple (columns : List Column) (exprs : List Expr) : Type 0 where
  fit : exprs_fit [] columns exprs ≡ true
  within : exprs_are_within 0 exprs ≡ true

abbrev Adds : List Column → List Expr → List Expr → Type 0
Adds columns before all = (made : List Expr) × (all ≡ before ++ made) × IsTuple columns made

one_more : (column : Column) (columns : List Column) (before all : List Expr) (v : Value) → Fits column.kind v
    → Adds columns (before ++ literal_expr v ∷ []) all → Adds (column ∷ columns) before all
one_more column columns before all v is (made, adds, tuple) = (
  literal_expr v ∷ made,
  adds ∙ append_assoc before (literal_expr v ∷ []) made,
  record {
    fit = and_both (fits [] (literal_expr v) (widest column.kind)) (exprs_fit [] columns made) (literal_fits (widest column.kind) v is) tuple.fit;
    within = and_both (expr_is_within 0 (literal_expr v)) (exprs_are_within 0 made) (literal_within v) tuple.within;
  },
)

row_adds : (columns : List Column) (before all : List Expr) (row : List Literal) → length row ≡ length columns
    → values_of_row columns before row ≡ Ok all → Adds columns before all
unfolding values_of_row
row_adds [] before all [] wide h = ([], one_value all before (Ok before) h refl ∙ sym (append-nil before), record { fit = refl; within = refl })
row_adds (column ∷ columns) before all [] wide h = absurd (omega (arith, wide))
row_adds [] before all (literal ∷ row) wide h = cc
row_adds (column ∷ columns) before all (literal ∷ row) wide h =
    let s = two_steps (value_of column.kind literal) (λ v. values_of_row columns (before ++ literal_expr v ∷ []) row) all h in
    one_more column columns before all s.0 (value_fits column.kind literal s.0 s.1) (row_adds columns (before ++ literal_expr s.0 ∷ []) all row (omega (arith, wide)) s.2)

row_is_tuple : (columns : List Column) (row : List Literal) (all : List Expr) → length row ≡ length columns
    → values_of_row columns [] row ≡ Ok all → IsTuple columns all
row_is_tuple columns row all wide h =
    let adds = row_adds columns [] all row wide h in
    subst (IsTuple columns) (sym adds.1) adds.2

-- ---- tuples

pub record AreTuples (columns : List Column) (tuples : List (List Expr)) : Type 0 where
  pub fit : list_all (exprs_fit [] columns) tuples ≡ true
  pub within : list_all (exprs_are_within 0) tuples ≡ true

abbrev pub HasWidth : List Column → List Literal → Type 0
HasWidth columns row = length row ≡ length columns

pushed : (test : List Expr → Bool) (before : List (List Expr)) (tuple : List Expr) → list_all test before ≡ true
    → test tuple ≡ true → list_all test (before ++ tuple ∷ []) ≡ true
pushed test before tuple are is =
    list_all-append test before (tuple ∷ []) ∙ and_both (list_all test before) (test tuple && true) are (and_both (test tuple) true is refl)

tuple_more : (columns : List Column) (before : List (List Expr)) (tuple : List Expr) → AreTuples columns before
    → IsTuple columns tuple → AreTuples columns (before ++ tuple ∷ [])
tuple_more columns before tuple are is = record {
  fit = pushed (exprs_fit [] columns) before tuple are.fit is.fit;
  within = pushed (exprs_are_within 0) before tuple are.within is.within;
}

rows_more : (columns : List Column) (before all : List (List Expr)) (rows : List (List Literal))
    → AllByRecursion (HasWidth columns) rows → AreTuples columns before → values_of_rows columns before rows ≡ Ok all
    → AreTuples columns all
unfolding values_of_rows
rows_more columns before all [] wide are h = carried (AreTuples columns) before all h are
rows_more columns before all (row ∷ rows) wide are h =
    let s = two_steps (values_of_row columns [] row) (λ v. values_of_rows columns (before ++ v ∷ []) rows) all h in
    rows_more columns (before ++ s.0 ∷ []) all rows wide.1 (tuple_more columns before s.0 are (row_is_tuple columns row s.0 wide.0 s.1)) s.2

-- the tuples of rows with a literal for each column
pub rows_are_tuples : (columns : List Column) (rows : List (List Literal)) (all : List (List Expr))
    → AllByRecursion (HasWidth columns) rows → values_of_rows columns [] rows ≡ Ok all → AreTuples columns all
rows_are_tuples columns rows all wide h = rows_more columns [] all rows wide (record { fit = refl; within = refl }) h

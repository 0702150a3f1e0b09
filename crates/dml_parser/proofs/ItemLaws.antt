-- A statement that was read is of the columns.
use Rattle.std.proofs.Common.{◌≡◌, ℕ, ◌+◌, ◌<◌, Bool, true, false, not, nat_lt, List, [], ◌∷◌, length, Option, Some, None, Ok, refl, subst, ◌∙◌, suc, arith}
use Rattle.std.specs.Prelude.{⊤, codes, if◌then◌else◌}
use Rattle.std.specs.List.{AllByRecursion}
use Rattle.std.proofs.lemmas.Bool.{lt-ltb, ltb-true}
use Rattle.plain_types.specs.Steps.{fault_if, or_fault}
use Rattle.row_values.specs.declared.kind.Kind.{Kind}
use Rattle.row_values.specs.declared.schema.Column.{Column}
use Rattle.row_values.specs.declared.value.Value.{Value}
use Rattle.sql_predicates.specs.declared.pred.Op.TheVariants as op
use Rattle.sql_predicates.specs.declared.pred.Operand.TheVariants as operand
use Rattle.sql_predicates.specs.declared.pred.Pred.{Pred, roll-Pred}
use Rattle.sql_predicates.specs.declared.pred.Pred.TheOpen as open_pred
use Rattle.sql_predicates.specs.Positions.{pred_is_within}
use Rattle.sql_predicates.proofs.CallerLemmas.{within_roll, and_both}
use Rattle.sql_statements.specs.declared.statement.Statement.{Statement}
use Rattle.sql_statements.specs.declared.statement.Statement.TheVariants as statement
use Rattle.dml_parser.specs.declared.raw.ColumnName.{ColumnName}
use Rattle.dml_parser.specs.declared.raw.Equality.{Equality}
use Rattle.dml_parser.specs.declared.raw.Literal.{Literal}
use Rattle.dml_parser.specs.declared.script.ScriptFault.TheVariants as fault
use Rattle.dml_parser.specs.Items.{check_room, column_from, column_of, delete_of, equality_of, filter_of, insert_of, is_column, table_stands, where_of}
use Rattle.dml_parser.specs.Read.{IsRead}
use Rattle.dml_parser.specs.Values.{limits_of_rows, literal_limit, value_of, values_of_rows}
use Rattle.dml_parser.proofs.Stepwise.{carried}
use Rattle.plain_types.proofs.CallerLemmas.{two_steps}
use Rattle.dml_parser.proofs.ValueLaws.{HasWidth, rows_are_tuples}

-- ---- what a filter reads

column_below : (name : List ℕ) (at : ℕ) (columns : List Column) (found : ℕ × Kind) → column_from name at columns ≡ Some found → found.0 < at + length columns
unfolding column_from
column_below name at [] found h = cc
column_below name at (column ∷ columns) found h = by (is_column name column) (column_below name (at + 1) columns found) h
  where
    here : Some (at, column.kind) ≡ Some found → found.0 < at + suc (length columns)
    here e =
        let same : (at, column.kind) ≡ found = cc in
        subst (λ (x : ℕ × Kind). x.0 < at + suc (length columns)) same (omega arith)

    by : (is : Bool) → (column_from name (at + 1) columns ≡ Some found → found.0 < (at + 1) + length columns)
        → (if is then Some (at, column.kind) else column_from name (at + 1) columns) ≡ Some found
        → found.0 < at + suc (length columns)
    by true rest e = here e
    by false rest e = let below = rest e in omega (arith, below)

found_of : (line : ℕ) (o : Option (ℕ × Kind)) (found : ℕ × Kind) → or_fault (fault.Name line) o ≡ Ok found → o ≡ Some found
found_of line (Some x) found h = cc
found_of line None found h = cc

column_within : (columns : List Column) (name : ColumnName) (found : ℕ × Kind) → column_of columns name ≡ Ok found → found.0 < length columns
unfolding column_of
column_within columns name found h =
    let table = two_steps (table_stands name.table) _ found h in
    let below = column_below name.column.text 0 columns found (found_of name.column.line (column_from name.column.text 0 columns) found table.2) in
    omega (arith, below)

abbrev IsWithin : List Column → Pred → Type 0
IsWithin columns pred = pred_is_within (length columns) pred ≡ true

abbrev equals : ℕ → Value → Pred
equals at v = roll-Pred (open_pred.Compare op.Equal (operand.Column at) (operand.Literal v))

equals_within : (columns : List Column) (at : ℕ) (v : Value) → at < length columns → IsWithin columns (equals at v)
equals_within columns at v below =
    within_roll (length columns) (open_pred.Compare op.Equal (operand.Column at) (operand.Literal v))
    ∙ and_both (nat_lt at (length columns)) true (lt-ltb at (length columns) below) refl

equality_within : (columns : List Column) (equality : Equality) (pred : Pred) → equality_of columns equality ≡ Ok pred → IsWithin columns pred
unfolding equality_of
equality_within columns equality pred h =
    let column = two_steps (column_of columns equality.column) _ pred h in
    let v = two_steps (value_of column.0.1 equality.literal) _ pred column.2 in
    carried (IsWithin columns) (equals column.0.0 v.0) pred v.2 (equals_within columns column.0.0 v.0 (column_within columns equality.column column.0 column.1))

-- ---- what a statement needs

-- of the columns, and one of at most 4,096
record HasRoom (columns : List Column) (count : ℕ) (pred : Pred) : Type 0 where
  within : IsWithin columns pred
  room : count < 4096

has_room : (count line : ℕ) (u : ⊤) → check_room count line ≡ Ok u → count < 4096
unfolding check_room
has_room count line u = by (nat_lt count 4096) refl
  where
    by : (is : Bool) → nat_lt count 4096 ≡ is → fault_if (fault.Limit line) (not is) ≡ Ok u → count < 4096
    by true e h = ltb-true count 4096 e
    by false e h = cc

where_within : (columns : List Column) (count line : ℕ) (equality : Equality) (pred : Pred)
    → where_of columns count line equality ≡ Ok pred → HasRoom columns count pred
unfolding where_of
where_within columns count line equality pred h =
    let filter = two_steps (equality_of columns equality) _ pred h in
    let room = two_steps (check_room count line) _ pred filter.2 in
    let limit = two_steps (literal_limit equality.literal) _ pred room.2 in
    carried (HasRoom columns count) filter.0 pred limit.2 (record { within = equality_within columns equality filter.0 filter.1; room = has_room count line room.0 room.1 })

filter_within : (columns : List Column) (count line : ℕ) (equality : Option Equality) (pred : Pred)
    → filter_of columns count line equality ≡ Ok pred → HasRoom columns count pred
filter_within columns count line (Some equality) pred h = where_within columns count line equality pred h
filter_within columns count line None pred h =
    let room = two_steps (check_room count line) _ pred h in
    carried (HasRoom columns count) (roll-Pred (open_pred.Const true)) pred room.2 (record { within = within_roll (length columns) (open_pred.Const true); room = has_room count line room.0 room.1 })

-- ---- statements

pub record IsOneMore (columns : List Column) (count : ℕ) (s : Statement) : Type 0 where
  pub read : IsRead columns s
  pub room : count < 4096

pub delete_is_read : (columns : List Column) (count line : ℕ) (equality : Option Equality) (s : Statement)
    → delete_of columns count line equality ≡ Ok s → IsOneMore columns count s
unfolding delete_of
delete_is_read columns count line equality s h =
    let filter = two_steps (filter_of columns count line equality) _ s h in
    let is = filter_within columns count line equality filter.0 filter.1 in
    carried (IsOneMore columns count) (statement.Delete (codes "main") filter.0) s filter.2
    (record { read = record { branch = refl; changes = refl; within = is.within; filters = is.within; fits = refl }; room = is.room })

pub insert_is_read : (columns : List Column) (count line : ℕ) (rows : List (List Literal)) (s : Statement)
    → AllByRecursion (HasWidth columns) rows → insert_of columns count line rows ≡ Ok s → IsOneMore columns count s
unfolding insert_of
insert_is_read columns count line rows s wide h =
    let tuples = two_steps (values_of_rows columns [] rows) _ s h in
    let room = two_steps (check_room count line) _ s tuples.2 in
    let limits = two_steps (limits_of_rows rows) _ s room.2 in
    let are = rows_are_tuples columns rows tuples.0 wide tuples.1 in
    carried (IsOneMore columns count) (statement.Insert (codes "main") tuples.0) s limits.2
    (record { read = record { branch = refl; changes = refl; within = are.within; filters = within_roll (length columns) (open_pred.Const false); fits = are.fit }; room = has_room count line room.0 room.1 })

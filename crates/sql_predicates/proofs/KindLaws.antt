-- An expression that fits a kind has a value of the kind, NULL or an overflow.
use Rattle.std.proofs.Common.{◌≡◌, ℕ, ◌-◌, ◌^◌, ◌≤◌, ℤ, pos, neg_ℤ, Bool, true, false, ◌&&◌, ◌||◌, ◌==◌, nat_le, cond, List, [], ◌∷◌, ◌++◌, length, Ok, Err, refl, sym, ap, subst, ◌∙◌, zero, suc, lit<, arith}
use Rattle.std.specs.Prelude.{slice_get, replicate}
use Rattle.std.proofs.Math.Nat.{pow-le-pow_right}
use Rattle.std.proofs.lemmas.Bool.{false≢true, eqb-true, leb-true}
use Rattle.std.proofs.lemmas.Bool.Decides.{nat_tests}
use Rattle.std.proofs.lemmas.Int.{ints}
use Rattle.plain_types.specs.Steps.{◌>>=◌}
use Rattle.row_values.specs.declared.kind.Kind.{Kind}
use Rattle.row_values.specs.declared.kind.Kind.TheVariants as kind
use Rattle.row_values.specs.declared.value.Value.{Value}
use Rattle.row_values.specs.declared.value.Value.TheVariants as value
use Rattle.row_values.specs.declared.schema.Column.{Column}
use Rattle.row_values.specs.Rows.{is_between, has_digits, is_null, is_value, is_held, is_row}
use Rattle.sql_predicates.specs.declared.arithmetic.Arithmetic.{Arithmetic}
use Rattle.sql_predicates.specs.declared.arithmetic.Arithmetic.TheVariants.{Add, Subtract, Multiply}
use Rattle.sql_predicates.specs.declared.expr.ExprFault.TheVariants.{Overflow}
use Rattle.sql_predicates.specs.declared.expr.Expr.{Expr, roll-Expr}
use Rattle.sql_predicates.specs.declared.expr.Expr.TheFolds.{fold-roll-Expr, ind-Expr, map-Expr}
use Rattle.sql_predicates.specs.declared.expr.Expr.TheOpen as open_expr
use Rattle.sql_predicates.specs.Truth.{value_at}
use Rattle.sql_predicates.specs.Exprs.{Evaluated, outcome, held_by, decimals_combined, combined, widened, joined, value_level, value_of}
use Rattle.sql_predicates.specs.Kinds.{is_value_or_null, has_kinds, is_part, column_fits, is_summed, is_multiplied, is_long, fits_level, fits}
use Rattle.sql_predicates.proofs.FrontLaws.{and_left, and_right}

abbrev ProvedExpr : (Expr → Type 0) → Type 0
ProvedExpr P = (e : Expr) × P e

-- an induction over expressions: P holds of each level over parts that it holds of
by_parts : (P : Expr → Type 0) → ((y : open_expr.Expr-F (ProvedExpr P)) → P (roll-Expr (map-Expr (ProvedExpr P) Expr (λ e. e.0) y))) → (e : Expr) → P e
by_parts P level = ind-Expr P (λ x y is. subst (λ z. P (roll-Expr z)) is (level y))

pub and_both : (a b : Bool) → a ≡ true → b ≡ true → (a && b) ≡ true
and_both true b p q = q
and_both false b p q = p

pub or_right : (a b : Bool) → b ≡ true → (a || b) ≡ true
or_right true b h = refl
or_right false b h = h

-- ---- kinds within kinds

within_bounds : (less more : ℕ) (n : ℤ) → less ≤ more → is_between (neg_ℤ (pos (less - 1))) (pos (less - 1)) n ≡ true
    → is_between (neg_ℤ (pos (more - 1))) (pos (more - 1)) n ≡ true
within_bounds less more n h k = grind (arith, ints, nat_tests)

more_digits : (precision wider : ℕ) (n : ℤ) → precision ≤ wider → has_digits precision n ≡ true → has_digits wider n ≡ true
more_digits precision wider n h = within_bounds (10 ^ precision) (10 ^ wider) n (pow-le-pow_right (lit< tt) h)

decimal_part : (precision wider scale other s : ℕ) (n : ℤ) → (scale == other && nat_le precision wider) ≡ true
    → (s == scale && has_digits precision n) ≡ true → (s == other && has_digits wider n) ≡ true
decimal_part precision wider scale other s n part is =
    and_both (s == other) (has_digits wider n)
    (subst (λ t. (s == t) ≡ true) (eqb-true scale other (and_left _ _ part)) (and_left _ _ is))
    (more_digits precision wider n (leb-true precision wider (and_right (scale == other) _ part)) (and_right (s == scale) _ is))

decimals_part : (precision wider scale other : ℕ) (v : Value) → (scale == other && nat_le precision wider) ≡ true
    → is_value_or_null (kind.Decimal precision scale) v ≡ true → is_value_or_null (kind.Decimal wider other) v ≡ true
decimals_part precision wider scale other value.Null part is = refl
decimals_part precision wider scale other (value.Decimal n s) part is = decimal_part precision wider scale other s n part is
decimals_part precision wider scale other (value.Bool b) part is = absurd (false≢true is)
decimals_part precision wider scale other (value.Int n) part is = absurd (false≢true is)
decimals_part precision wider scale other (value.Long n) part is = absurd (false≢true is)
decimals_part precision wider scale other (value.Date n) part is = absurd (false≢true is)
decimals_part precision wider scale other (value.Timestamp n) part is = absurd (false≢true is)
decimals_part precision wider scale other (value.Text bytes) part is = absurd (false≢true is)
decimals_part precision wider scale other (value.Bytes bytes) part is = absurd (false≢true is)

part_value : (small large : Kind) (v : Value) → is_part small large ≡ true → is_value_or_null small v ≡ true → is_value_or_null large v ≡ true
part_value kind.Bool kind.Bool v part is = is
part_value kind.Int kind.Int v part is = is
part_value kind.Long kind.Long v part is = is
part_value kind.Date kind.Date v part is = is
part_value (kind.Timestamp true) (kind.Timestamp true) v part is = is
part_value (kind.Timestamp false) (kind.Timestamp false) v part is = is
part_value (kind.Decimal precision scale) (kind.Decimal wider other) v part is = decimals_part precision wider scale other v part is
part_value kind.Text kind.Text v part is = is
part_value kind.Bytes kind.Bytes v part is = is
part_value _ _ v part is = absurd (false≢true part)

-- ---- arithmetic keeps the kind

abbrev pub OfKind : Kind → Evaluated → Type 0
OfKind kind (Ok v) = is_value_or_null kind v ≡ true
OfKind kind (Err fault) = Unit {0}

held : (kind : Kind) (v : Value) → OfKind kind (held_by kind v)
held kind v = by (is_value kind v) refl
  where
    by : (b : Bool) → is_value kind v ≡ b → OfKind kind (cond b (Ok v) (Err Overflow))
    by true is = or_right (is_null v) (is_value kind v) is
    by false is = tt

ints_together : (by : Arithmetic) (a b : Value) → is_value_or_null kind.Int a ≡ true → is_value_or_null kind.Int b ≡ true → OfKind kind.Int (combined by a b)
ints_together by (value.Int n) (value.Int m) h k = held kind.Int (value.Int (outcome by n m))
ints_together by (value.Long n) (value.Long m) h k = absurd (false≢true h)
ints_together by (value.Decimal n s) (value.Decimal m t) h k = absurd (false≢true h)
ints_together by _ _ h k = refl

longs_together : (by : Arithmetic) (a b : Value) → is_value_or_null kind.Long a ≡ true → is_value_or_null kind.Long b ≡ true
    → OfKind kind.Long (combined by a b)
longs_together by (value.Int n) (value.Int m) h k = absurd (false≢true h)
longs_together by (value.Long n) (value.Long m) h k = held kind.Long (value.Long (outcome by n m))
longs_together by (value.Decimal n s) (value.Decimal m t) h k = absurd (false≢true h)
longs_together by _ _ h k = refl

amounts_together : (by : Arithmetic) (scale s t : ℕ) (n m : ℤ) → s ≡ scale → OfKind (kind.Decimal 38 scale) (decimals_combined by n s m t)
amounts_together Multiply scale s t n m same = refl
amounts_together Add scale s t n m same = by (s == t)
  where
    by : (b : Bool) → OfKind (kind.Decimal 38 scale) (cond b (held_by (kind.Decimal 38 s) (value.Decimal (outcome Add n m) s)) (Ok value.Null))
    by true = subst (λ d. OfKind (kind.Decimal 38 d) (held_by (kind.Decimal 38 s) (value.Decimal (outcome Add n m) s))) same (held (kind.Decimal 38 s) (value.Decimal (outcome Add n m) s))
    by false = refl
amounts_together Subtract scale s t n m same = by (s == t)
  where
    by : (b : Bool) → OfKind (kind.Decimal 38 scale) (cond b (held_by (kind.Decimal 38 s) (value.Decimal (outcome Subtract n m) s)) (Ok value.Null))
    by true = subst (λ d. OfKind (kind.Decimal 38 d) (held_by (kind.Decimal 38 s) (value.Decimal (outcome Subtract n m) s))) same (held (kind.Decimal 38 s) (value.Decimal (outcome Subtract n m) s))
    by false = refl

decimals_together : (by : Arithmetic) (scale : ℕ) (a b : Value) → is_value_or_null (kind.Decimal 38 scale) a ≡ true
    → is_value_or_null (kind.Decimal 38 scale) b ≡ true → OfKind (kind.Decimal 38 scale) (combined by a b)
decimals_together by scale (value.Int n) (value.Int m) h k = absurd (false≢true h)
decimals_together by scale (value.Long n) (value.Long m) h k = absurd (false≢true h)
decimals_together by scale (value.Decimal n s) (value.Decimal m t) h k = amounts_together by scale s t n m (eqb-true s scale (and_left _ _ h))
decimals_together by scale _ _ h k = refl

summed : (kind : Kind) (by : Arithmetic) → is_summed kind ≡ true → (a b : Value) → is_value_or_null kind a ≡ true
    → is_value_or_null kind b ≡ true → OfKind kind (combined by a b)
summed kind.Int by can a b h k = ints_together by a b h k
summed kind.Long by can a b h k = longs_together by a b h k
summed (kind.Decimal precision scale) by can a b h k =
    subst (λ p. (a b : Value) → is_value_or_null (kind.Decimal p scale) a ≡ true → is_value_or_null (kind.Decimal p scale) b ≡ true → OfKind (kind.Decimal p scale) (combined by a b)) (sym (eqb-true precision 38 can)) (decimals_together by scale) a b h k
summed _ by can a b h k = absurd (false≢true can)

multiplied_is_summed : (kind : Kind) → is_multiplied kind ≡ true → is_summed kind ≡ true
multiplied_is_summed kind.Int can = refl
multiplied_is_summed kind.Long can = refl
multiplied_is_summed _ can = absurd (false≢true can)

joined_of_kind : (kind : Kind) (by : Arithmetic) (left right : Evaluated) → is_summed kind ≡ true → OfKind kind left
    → OfKind kind right → OfKind kind (joined by left right)
joined_of_kind kind by (Ok a) (Ok b) can h k = summed kind by can a b h k
joined_of_kind kind by (Ok a) (Err fault) can h k = tt
joined_of_kind kind by (Err fault) right can h k = tt

int_is_long : (n : ℤ) → is_value kind.Int (value.Int n) ≡ true → is_value kind.Long (value.Long n) ≡ true
int_is_long n h = grind (arith, ints, nat_tests)

widened_value : (v : Value) → is_value_or_null kind.Int v ≡ true → is_value_or_null kind.Long (widened v) ≡ true
widened_value (value.Int n) h = int_is_long n h
widened_value _ h = refl

widened_of_kind : (k : Kind) (inner : Evaluated) → is_long k ≡ true → OfKind kind.Int inner → OfKind k (inner >>= λ v. Ok (widened v))
widened_of_kind kind.Long (Ok v) can h = widened_value v h
widened_of_kind kind.Long (Err fault) can h = tt
widened_of_kind _ inner can h = absurd (false≢true can)

-- ---- columns

held_is : (null : Bool) (may is : Bool) → cond null may is ≡ true → (null || is) ≡ true
held_is true may is h = refl
held_is false may is h = h

pub row_has_kinds : (columns : List Column) (row : List Value) → is_row columns row ≡ true → has_kinds columns row ≡ true
row_has_kinds [] [] is = refl
row_has_kinds (column ∷ columns) (v ∷ vs) is =
    and_both (is_value_or_null column.kind v) (has_kinds columns vs) (held_is (is_null v) _ (is_value column.kind v) (and_left (is_held column v) _ is)) (row_has_kinds columns vs (and_right (is_held column v) _ is))
row_has_kinds [] (v ∷ vs) is = absurd (false≢true is)
row_has_kinds (column ∷ columns) [] is = absurd (false≢true is)

pub kinds_joined : (columns more : List Column) (row after : List Value) → has_kinds columns row ≡ true
    → has_kinds more after ≡ true → has_kinds (columns ++ more) (row ++ after) ≡ true
kinds_joined [] more [] after is last = last
kinds_joined (column ∷ columns) more (v ∷ vs) after is last =
    and_both (is_value_or_null column.kind v) (has_kinds (columns ++ more) (vs ++ after)) (and_left _ _ is) (kinds_joined columns more vs after (and_right (is_value_or_null column.kind v) _ is) last)
kinds_joined [] more (v ∷ vs) after is last = absurd (false≢true is)
kinds_joined (column ∷ columns) more [] after is last = absurd (false≢true is)

pub nulls_have_kinds : (columns : List Column) → has_kinds columns (replicate (length columns) value.Null) ≡ true
nulls_have_kinds [] = refl
nulls_have_kinds (column ∷ columns) = nulls_have_kinds columns

column_value : (columns : List Column) (row : List Value) (at : ℕ) (kind : Kind) → has_kinds columns row ≡ true
    → column_fits (slice_get columns at) kind ≡ true → is_value_or_null kind (value_at row at) ≡ true
column_value [] row zero kind is fit = absurd (false≢true fit)
column_value [] row (suc at) kind is fit = absurd (false≢true fit)
column_value (column ∷ columns) [] at kind is fit = absurd (false≢true is)
column_value (column ∷ columns) (v ∷ vs) zero kind is fit = part_value column.kind kind v fit (and_left _ _ is)
column_value (column ∷ columns) (v ∷ vs) (suc at) kind is fit = column_value columns vs at kind (and_right (is_value_or_null column.kind v) _ is) fit

-- ---- expressions

value_roll : (row : List Value) (x : open_expr.Expr-F Expr) → value_of (roll-Expr x) row ≡ value_level row (map-Expr Expr Evaluated (λ e. value_of e row) x)
value_roll row = fold-roll-Expr Evaluated (value_level row)

fits_roll : (columns : List Column) (x : open_expr.Expr-F Expr) (kind : Kind)
    → fits columns (roll-Expr x) kind ≡ fits_level columns (map-Expr Expr (Kind → Bool) (fits columns) x) kind
fits_roll columns x kind = ap (λ f. f kind) (fold-roll-Expr (Kind → Bool) (fits_level columns) x)

abbrev HasItsKind : List Column → List Value → Expr → Type 0
HasItsKind columns row e = (kind : Kind) → fits columns e kind ≡ true → OfKind kind (value_of e row)

module _ (columns : List Column) (row : List Value) (is : has_kinds columns row ≡ true) where
  sides : (by : Arithmetic) (x : open_expr.Expr-F Expr) (a b : ProvedExpr (HasItsKind columns row)) (kind : Kind)
      → value_of (roll-Expr x) row ≡ joined by (value_of a.0 row) (value_of b.0 row) → is_summed kind ≡ true
      → (fits columns a.0 kind && fits columns b.0 kind) ≡ true → OfKind kind (value_of (roll-Expr x) row)
  sides by x a b kind gives can fit =
      subst (OfKind kind) (sym gives) (joined_of_kind kind by _ _ can (a.1 kind (and_left _ _ fit)) (b.1 kind (and_right (fits columns a.0 kind) _ fit)))

  kind_level : (y : open_expr.Expr-F (ProvedExpr (HasItsKind columns row)))
      → HasItsKind columns row (roll-Expr (map-Expr (ProvedExpr (HasItsKind columns row)) Expr (λ e. e.0) y))
  kind_level (open_expr.Column at) k h =
      subst (OfKind k) (sym (value_roll row (open_expr.Column at))) (column_value columns row at k is (sym (fits_roll columns (open_expr.Column at) k) ∙ h))
  kind_level (open_expr.Literal v) k h =
      subst (OfKind k) (sym (value_roll row (open_expr.Literal v))) (sym (fits_roll columns (open_expr.Literal v) k) ∙ h)
  kind_level (open_expr.Add a b) k h =
      let fit = sym (fits_roll columns (open_expr.Add a.0 b.0) k) ∙ h in
      sides Add (open_expr.Add a.0 b.0) a b k (value_roll row (open_expr.Add a.0 b.0)) (and_left _ _ fit) (and_right (is_summed k) _ fit)
  kind_level (open_expr.Subtract a b) k h =
      let fit = sym (fits_roll columns (open_expr.Subtract a.0 b.0) k) ∙ h in
      sides Subtract (open_expr.Subtract a.0 b.0) a b k (value_roll row (open_expr.Subtract a.0 b.0)) (and_left _ _ fit) (and_right (is_summed k) _ fit)
  kind_level (open_expr.Multiply a b) k h =
      let fit = sym (fits_roll columns (open_expr.Multiply a.0 b.0) k) ∙ h in
      sides Multiply (open_expr.Multiply a.0 b.0) a b k (value_roll row (open_expr.Multiply a.0 b.0)) (multiplied_is_summed k (and_left _ _ fit)) (and_right (is_multiplied k) _ fit)
  kind_level (open_expr.Widen e) k h =
      let fit = sym (fits_roll columns (open_expr.Widen e.0) k) ∙ h in
      subst (OfKind k) (sym (value_roll row (open_expr.Widen e.0))) (widened_of_kind k (value_of e.0 row) (and_left _ _ fit) (e.1 kind.Int (and_right (is_long k) _ fit)))

  -- an expression that fits a kind has a value of it on a row of the kinds of the columns
  pub of_kind : (e : Expr) → HasItsKind columns row e
  of_kind = by_parts (HasItsKind columns row) kind_level

of_kind_by : (kind : Kind) (v : Value) (answer : Evaluated) → OfKind kind answer → answer ≡ Ok v → is_value_or_null kind v ≡ true
of_kind_by kind v answer h is = subst (OfKind kind) is h

pub value_has_kind : (columns : List Column) (row : List Value) (e : Expr) (kind : Kind) (v : Value)
    → has_kinds columns row ≡ true → fits columns e kind ≡ true → value_of e row ≡ Ok v → is_value_or_null kind v ≡ true
value_has_kind columns row e kind v is fit gives = of_kind_by kind v (value_of e row) (of_kind columns row is e kind fit) gives

-- The comparison of schemas tells exactly the equal ones.
use Rattle.std.proofs.Common.{◌≡◌, ◌∙◌, ◌&&◌, ℕ, ℤ, nat_eq, Bool, true, false, List, [], ◌∷◌, refl, ap, arith}
use Rattle.std.specs.Cmp.Lexicographic.{pointwise}
use Rattle.std.specs.Ordering.{int_eq}
use Rattle.std.proofs.lemmas.Bool.{and_parts, eqb-true}
use Rattle.std.proofs.lemmas.Int.{ints}
use Rattle.std.proofs.lemmas.Cmp.{int_eq_equiv, nat_eq_equiv}
use Rattle.plain_types.proofs.CallerLemmas.{Tells-texts}
use Rattle.row_values.specs.declared.kind.Kind.{Kind}
use Rattle.row_values.specs.declared.kind.Kind.TheVariants as kind
use Rattle.row_values.specs.declared.schema.Column.{Column}
use Rattle.row_values.specs.declared.schema.TableSchema.{TableSchema}
use Rattle.row_values.specs.contracts.kind.KindPartialEq.TheImpl as kinds
use Rattle.row_values.specs.contracts.schema.ColumnPartialEq.TheImpl as columns
use Rattle.row_values.specs.contracts.schema.TableSchemaPartialEq.TheImpl as schemas

both : (a b : Bool) → a ≡ true → b ≡ true → (a && b) ≡ true
both a b h k = rw (h, k) refl

int_means : (a b : ℤ) → int_eq a b ≡ true → a ≡ b
int_means a b e = grind (arith, ints)

-- ---- kinds

abbrev same_bool : Bool → Bool → Bool
same_bool a b = kinds.ghosts.eq (kind.Timestamp a) (kind.Timestamp b)

bool_itself : (b : Bool) → same_bool b b ≡ true
bool_itself true = refl
bool_itself false = refl

bool_means : (a b : Bool) → same_bool a b ≡ true → a ≡ b
bool_means true true e = refl
bool_means false false e = refl
bool_means true false e = absurd cc
bool_means false true e = absurd cc

kind_itself : (k : Kind) → kinds.ghosts.eq k k ≡ true
kind_itself kind.Bool = refl
kind_itself kind.Int = refl
kind_itself kind.Long = refl
kind_itself kind.Date = refl
kind_itself (kind.Timestamp ua) = bool_itself ua
kind_itself (kind.Decimal pa sa) = both (nat_eq pa pa) (nat_eq sa sa) (nat_eq_equiv.refl pa) (nat_eq_equiv.refl sa)
kind_itself kind.Text = refl
kind_itself kind.Bytes = refl

kind_means : (a b : Kind) → kinds.ghosts.eq a b ≡ true → a ≡ b
kind_means kind.Bool kind.Bool e = refl
kind_means kind.Bool kind.Int e = absurd cc
kind_means kind.Bool kind.Long e = absurd cc
kind_means kind.Bool kind.Date e = absurd cc
kind_means kind.Bool (kind.Timestamp ub) e = absurd cc
kind_means kind.Bool (kind.Decimal pb sb) e = absurd cc
kind_means kind.Bool kind.Text e = absurd cc
kind_means kind.Bool kind.Bytes e = absurd cc
kind_means kind.Int kind.Bool e = absurd cc
kind_means kind.Int kind.Int e = refl
kind_means kind.Int kind.Long e = absurd cc
kind_means kind.Int kind.Date e = absurd cc
kind_means kind.Int (kind.Timestamp ub) e = absurd cc
kind_means kind.Int (kind.Decimal pb sb) e = absurd cc
kind_means kind.Int kind.Text e = absurd cc
kind_means kind.Int kind.Bytes e = absurd cc
kind_means kind.Long kind.Bool e = absurd cc
kind_means kind.Long kind.Int e = absurd cc
kind_means kind.Long kind.Long e = refl
kind_means kind.Long kind.Date e = absurd cc
kind_means kind.Long (kind.Timestamp ub) e = absurd cc
kind_means kind.Long (kind.Decimal pb sb) e = absurd cc
kind_means kind.Long kind.Text e = absurd cc
kind_means kind.Long kind.Bytes e = absurd cc
kind_means kind.Date kind.Bool e = absurd cc
kind_means kind.Date kind.Int e = absurd cc
kind_means kind.Date kind.Long e = absurd cc
kind_means kind.Date kind.Date e = refl
kind_means kind.Date (kind.Timestamp ub) e = absurd cc
kind_means kind.Date (kind.Decimal pb sb) e = absurd cc
kind_means kind.Date kind.Text e = absurd cc
kind_means kind.Date kind.Bytes e = absurd cc
kind_means (kind.Timestamp ua) kind.Bool e = absurd cc
kind_means (kind.Timestamp ua) kind.Int e = absurd cc
kind_means (kind.Timestamp ua) kind.Long e = absurd cc
kind_means (kind.Timestamp ua) kind.Date e = absurd cc
kind_means (kind.Timestamp ua) (kind.Timestamp ub) e = ap kind.Timestamp (bool_means ua ub e)
kind_means (kind.Timestamp ua) (kind.Decimal pb sb) e = absurd cc
kind_means (kind.Timestamp ua) kind.Text e = absurd cc
kind_means (kind.Timestamp ua) kind.Bytes e = absurd cc
kind_means (kind.Decimal pa sa) kind.Bool e = absurd cc
kind_means (kind.Decimal pa sa) kind.Int e = absurd cc
kind_means (kind.Decimal pa sa) kind.Long e = absurd cc
kind_means (kind.Decimal pa sa) kind.Date e = absurd cc
kind_means (kind.Decimal pa sa) (kind.Timestamp ub) e = absurd cc
kind_means (kind.Decimal pa sa) (kind.Decimal pb sb) e = let parts = and_parts (nat_eq pa pb) (nat_eq sa sb) e in ap (λ (n : ℕ). kind.Decimal n sa) (eqb-true pa pb parts.0) ∙ ap (kind.Decimal pb) (eqb-true sa sb parts.1)
kind_means (kind.Decimal pa sa) kind.Text e = absurd cc
kind_means (kind.Decimal pa sa) kind.Bytes e = absurd cc
kind_means kind.Text kind.Bool e = absurd cc
kind_means kind.Text kind.Int e = absurd cc
kind_means kind.Text kind.Long e = absurd cc
kind_means kind.Text kind.Date e = absurd cc
kind_means kind.Text (kind.Timestamp ub) e = absurd cc
kind_means kind.Text (kind.Decimal pb sb) e = absurd cc
kind_means kind.Text kind.Text e = refl
kind_means kind.Text kind.Bytes e = absurd cc
kind_means kind.Bytes kind.Bool e = absurd cc
kind_means kind.Bytes kind.Int e = absurd cc
kind_means kind.Bytes kind.Long e = absurd cc
kind_means kind.Bytes kind.Date e = absurd cc
kind_means kind.Bytes (kind.Timestamp ub) e = absurd cc
kind_means kind.Bytes (kind.Decimal pb sb) e = absurd cc
kind_means kind.Bytes kind.Text e = absurd cc
kind_means kind.Bytes kind.Bytes e = refl

-- ---- columns

abbrev rest_agrees : Column → Column → Bool
rest_agrees one other = pointwise nat_eq one.name other.name && (kinds.ghosts.eq one.kind other.kind && same_bool one.required other.required)

column_itself : (c : Column) → columns.ghosts.eq c c ≡ true
column_itself c =
    both (int_eq c.id c.id) (rest_agrees c c) (int_eq_equiv.refl c.id)
    (both (pointwise nat_eq c.name c.name) _ (Tells-texts.itself c.name) (both (kinds.ghosts.eq c.kind c.kind) _ (kind_itself c.kind) (bool_itself c.required)))

column_means : (one other : Column) → columns.ghosts.eq one other ≡ true → one ≡ other
column_means one other e =
    let id = and_parts (int_eq one.id other.id) (rest_agrees one other) e in
    let name = and_parts (pointwise nat_eq one.name other.name) (kinds.ghosts.eq one.kind other.kind && same_bool one.required other.required) id.1 in
    let kind = and_parts (kinds.ghosts.eq one.kind other.kind) (same_bool one.required other.required) name.1 in
    let same_id = int_means one.id other.id id.0 in
    let same_name = Tells-texts.means one.name other.name name.0 in
    let same_kind = kind_means one.kind other.kind kind.0 in
    let same_required = bool_means one.required other.required kind.1 in
    ap (λ (n : ℤ). record { id = n; name = one.name; kind = one.kind; required = one.required }) same_id
    ∙ ap (λ (n : List ℕ). record { id = other.id; name = n; kind = one.kind; required = one.required }) same_name
    ∙ ap (λ (k : Kind). record { id = other.id; name = other.name; kind = k; required = one.required }) same_kind
    ∙ ap (λ (b : Bool). record { id = other.id; name = other.name; kind = other.kind; required = b }) same_required

-- ---- schemas

all_itself : (cs : List Column) → pointwise columns.ghosts.eq cs cs ≡ true
all_itself [] = refl
all_itself (c ∷ cs) = both (columns.ghosts.eq c c) (pointwise columns.ghosts.eq cs cs) (column_itself c) (all_itself cs)

all_mean : (cs ds : List Column) → pointwise columns.ghosts.eq cs ds ≡ true → cs ≡ ds
all_mean [] [] e = refl
all_mean [] (d ∷ ds) e = absurd cc
all_mean (c ∷ cs) [] e = absurd cc
all_mean (c ∷ cs) (d ∷ ds) e =
    let parts = and_parts (columns.ghosts.eq c d) (pointwise columns.ghosts.eq cs ds) e in
    ap (λ (x : Column). x ∷ cs) (column_means c d parts.0) ∙ ap (λ (xs : List Column). d ∷ xs) (all_mean cs ds parts.1)

pub schema_itself : (s : TableSchema) → schemas.ghosts.eq s s ≡ true
schema_itself s = both (int_eq s.id s.id) (pointwise columns.ghosts.eq s.columns s.columns) (int_eq_equiv.refl s.id) (all_itself s.columns)

pub schema_means : (one other : TableSchema) → schemas.ghosts.eq one other ≡ true → one ≡ other
schema_means one other e =
    let parts = and_parts (int_eq one.id other.id) (pointwise columns.ghosts.eq one.columns other.columns) e in
    ap (λ (n : ℤ). record { id = n; columns = one.columns }) (int_means one.id other.id parts.0) ∙ ap (λ (cs : List Column). record { id = other.id; columns = cs }) (all_mean one.columns other.columns parts.1)

-- The type of a kind has a text where the name of its decimals is ASCII.
use Rattle.std.proofs.Common.{◌≡◌, ℕ, suc, ◌^◌, ◌≤◌, List, [], ◌∷◌, ◌++◌, Bool, true, false, ◌&&◌, nat_lt, Some, refl, ap, ◌∙◌, arith}
use Rattle.std.proofs.lemmas.Bool.Decides.{nat_tests}
use Rattle.row_values.specs.declared.kind.Kind.{Kind}
use Rattle.row_values.specs.declared.kind.Kind.TheVariants as kind
use Rattle.kind_values.specs.Bounds.{is_kind}
use Rattle.avro_binary.specs.Naming.{has_begun}
use Rattle.avro_binary.specs.Spelling.{takes_bytes, items_take_bytes}
use Rattle.avro_binary.proofs.CallerLemmas.{are_ascii}
use Rattle.row_writer.specs.KindTypes.{decimal_size}
use Rattle.row_writer.proofs.PlanNames.{named, plain_names}
use Rattle.row_writer.proofs.KindPlans.{kind_plan, plan_shape}
use Rattle.row_writer.proofs.KindLaws.{size_is}
use Rattle.row_writer.proofs.Begun.{one_is}

size_test : (precision : ℕ) → nat_lt (decimal_size precision) (2 ^ 64) ≡ true
size_test precision =
    let s = size_is precision in
    let k : ℕ = s.0 in
    let is : decimal_size precision ≡ suc k = s.1 in
    let less : k ≤ 15 = s.2 in
    let test : nat_lt (suc k) (2 ^ 64) ≡ true = grind (arith, nat_tests) in
    ap (λ (n : ℕ). nat_lt n (2 ^ 64)) is ∙ test

pub kind_plain : (name : List ℕ) (k : Kind) → are_ascii name ≡ true → is_kind k ≡ true → plain_names (kind_plan name k) ≡ true
kind_plain name kind.Bool text h = refl
kind_plain name kind.Int text h = refl
kind_plain name kind.Long text h = refl
kind_plain name kind.Date text h = refl
kind_plain name (kind.Timestamp utc) text h = refl
kind_plain name (kind.Decimal precision scale) text h =
    ap (λ (b : Bool). b && (is_kind (kind.Decimal precision scale) && nat_lt (decimal_size precision) (2 ^ 64))) text ∙ ap (λ (b : Bool). b && nat_lt (decimal_size precision) (2 ^ 64)) h ∙ size_test precision
kind_plain name kind.Text text h = refl
kind_plain name kind.Bytes text h = refl

-- ---- named types

-- the names after a type of this kind
abbrev pub after_kind : List ℕ → Kind → List (List ℕ) → List (List ℕ)
after_kind name (kind.Decimal precision scale) begun = begun ++ name ∷ []
after_kind name _ begun = begun

pub kind_named : (name : List ℕ) (k : Kind) (begun : List (List ℕ)) → has_begun name begun ≡ false → named (kind_plan name k) begun ≡ Some (after_kind name k begun)
kind_named name kind.Bool begun h = refl
kind_named name kind.Int begun h = refl
kind_named name kind.Long begun h = refl
kind_named name kind.Date begun h = refl
kind_named name (kind.Timestamp utc) begun h = refl
kind_named name (kind.Decimal precision scale) begun h = one_is name begun h
kind_named name kind.Text begun h = refl
kind_named name kind.Bytes begun h = refl

-- ---- bytes

size_some : (precision : ℕ) → nat_lt 0 (decimal_size precision) ≡ true
size_some precision =
    let s = size_is precision in
    let k : ℕ = s.0 in
    let test : nat_lt 0 (suc k) ≡ true = grind (arith, nat_tests) in
    ap (λ (n : ℕ). nat_lt 0 n) s.1 ∙ test

pub kind_takes_bytes : (name : List ℕ) (k : Kind) → takes_bytes (plan_shape (kind_plan name k)) ≡ true
kind_takes_bytes name kind.Bool = refl
kind_takes_bytes name kind.Int = refl
kind_takes_bytes name kind.Long = refl
kind_takes_bytes name kind.Date = refl
kind_takes_bytes name (kind.Timestamp utc) = refl
kind_takes_bytes name (kind.Decimal precision scale) = size_some precision
kind_takes_bytes name kind.Text = refl
kind_takes_bytes name kind.Bytes = refl

pub kind_items : (name : List ℕ) (k : Kind) → items_take_bytes (plan_shape (kind_plan name k)) ≡ true
kind_items name kind.Bool = refl
kind_items name kind.Int = refl
kind_items name kind.Long = refl
kind_items name kind.Date = refl
kind_items name (kind.Timestamp utc) = refl
kind_items name (kind.Decimal precision scale) = refl
kind_items name kind.Text = refl
kind_items name kind.Bytes = refl

-- The text of a kind that is read names it again.
use Rattle.std.proofs.Common.{◌≡◌, ℕ, ◌^◌, ◌<◌, ◌&&◌, Bool, true, false, List, [], ◌++◌, length, Option, Some, None, nat_eq, nat_le, codes, refl, subst, cond, arith}
use Rattle.std.specs.Prelude.{decimal, option_and_then}
use Rattle.std.proofs.lemmas.Bool.Decides.{nat_tests}
use Rattle.row_values.specs.declared.kind.Kind.{Kind}
use Rattle.row_values.specs.declared.kind.Kind.TheVariants as kind
use Rattle.plain_types.specs.Digits.{number_at, after_text, after_blanks}
use Rattle.iceberg_schema.specs.KindText.{decimal_kind, decimal_of, kind_of}
use Rattle.iceberg_schema.specs.SchemaData.{kind_text}
use Rattle.iceberg_schema.proofs.DecimalTexts.{number_read, number_unblanked}

-- a decimal has 1 to 38 digits, and a scale of at most as many
abbrev pub is_kind : Kind → Bool
is_kind (kind.Decimal precision scale) = nat_le 1 precision && nat_le precision 38 && nat_le scale precision
is_kind _ = true

-- what is read is such a kind
abbrev pub Passes : Option Kind → Type 0
Passes o = (k : Kind) → o ≡ Some k → is_kind k ≡ true

one_kind : (k : Kind) → is_kind k ≡ true → Passes (Some k)
one_kind k h u e = let same : k ≡ u = cc in subst (λ (v : Kind). is_kind v ≡ true) same h

no_kind : Passes None
no_kind u e = absurd cc

by_test : (b : Bool) (o p : Option Kind) → Passes o → Passes p → Passes (cond b o p)
by_test true o p h k = h
by_test false o p h k = k

by_step : {A : Type 0} → (o : Option A) (f : A → Option Kind) → ((a : A) → Passes (f a)) → Passes (option_and_then f o)
by_step (Some a) f h = h a
by_step None f h = no_kind

by_fit : (b : Bool) (k : Kind) → b ≡ is_kind k → Passes (cond b (Some k) None)
by_fit true k h = one_kind k (let e : is_kind k ≡ true = cc in e)
by_fit false k h = no_kind

decimal_passes : (bytes : List ℕ) → Passes (decimal_of bytes)
unfolding decimal_of
decimal_passes bytes =
    by_step (after_text (codes "decimal(") bytes) _ (λ numbers. by_step (number_at (after_blanks numbers)) _ (λ precision.
    by_step (after_text (codes ",") (after_blanks precision.1)) _ (λ second. by_step (number_at (after_blanks second)) _ (λ scale.
    by_step (after_text (codes ")") (after_blanks scale.1)) _ (λ rest.
    by_test (nat_eq (length rest) 0) (decimal_kind precision.0 scale.0) None (by_fit _ (kind.Decimal precision.0 scale.0) refl) no_kind)))))

pub kind_passes : (text : List ℕ) → Passes (kind_of text)
unfolding kind_of
kind_passes text =
    by_test _ _ _ (one_kind kind.Bool refl) (by_test _ _ _ (one_kind kind.Int refl)
    (by_test _ _ _ (one_kind kind.Long refl) (by_test _ _ _ (one_kind kind.Date refl)
    (by_test _ _ _ (one_kind (kind.Timestamp false) refl) (by_test _ _ _ (one_kind (kind.Timestamp true) refl)
    (by_test _ _ _ (one_kind kind.Text refl) (by_test _ _ _ (one_kind kind.Bytes refl) (decimal_passes text))))))))

narrow : (p s : ℕ) → is_kind (kind.Decimal p s) ≡ true → (p < 2 ^ 64) × (s < 2 ^ 64)
narrow p s h = grind (arith, nat_tests)

front_read : (bytes : List ℕ) → after_text (codes "decimal(") (codes "decimal(" ++ bytes) ≡ Some bytes
unfolding after_text
front_read bytes = refl

comma_read : (bytes : List ℕ) → after_text (codes ",") (after_blanks (codes "," ++ bytes)) ≡ Some bytes
unfolding after_text after_blanks
comma_read bytes = refl

end_read : after_text (codes ")") (after_blanks (codes ")")) ≡ Some []
unfolding after_text after_blanks
end_read = refl

decimal_read : (p s : ℕ) → is_kind (kind.Decimal p s) ≡ true → decimal_of (kind_text (kind.Decimal p s)) ≡ Some (kind.Decimal p s)
unfolding decimal_of
decimal_read p s h =
    let small = narrow p s h in
    let rest : List ℕ = decimal s ++ codes ")" in
    rw (
      front_read (decimal p ++ (codes "," ++ rest)),
      number_unblanked p (codes "," ++ rest) small.0,
      number_read p 44 rest small.0 refl,
      comma_read rest,
      number_unblanked s (codes ")") small.1,
      number_read s 41 [] small.1 refl,
      end_read,
      h,
    )

-- a kind is read of its text
pub kind_read : (k : Kind) → is_kind k ≡ true → kind_of (kind_text k) ≡ Some k
unfolding kind_of
kind_read kind.Bool h = refl
kind_read kind.Int h = refl
kind_read kind.Long h = refl
kind_read kind.Date h = refl
kind_read (kind.Timestamp true) h = refl
kind_read (kind.Timestamp false) h = refl
kind_read (kind.Decimal p s) h = decimal_read p s h
kind_read kind.Text h = refl
kind_read kind.Bytes h = refl

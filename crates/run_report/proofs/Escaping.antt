-- A text in which each line feed was replaced is the escaped text.
use Rattle.std.proofs.Common.{◌≡◌, ◌≢◌, ◌<◌, ℕ, zero, suc, List, [], ◌∷◌, ◌++◌, length, get_or, take, drop, refl, sym, ap, ◌∙◌, inl, inr, arith}
use Rattle.std.proofs.lemmas.Bool.Decides.{eqb_tells}
use Rattle.std.proofs.lemmas.Grind.{flat_map-append}
use Rattle.std.proofs.lemmas.List.{take-append-drop}
use Rattle.std.proofs.lemmas.Str.Pattern.{NoCharPasses-char, drop_at_char}
use Rattle.std.specs.Prelude.{◌==◌}
use Rattle.std.specs.Str.{NoCharPasses}
use Rattle.std.specs.Str.Pattern.{FindsChar, HasCharAt}
use Rattle.std.specs.Str.Replace.{ReplacesMatches}
use Rattle.run_report.specs.Escapes.{escaped, escaped_byte}

kept_byte : (b : ℕ) → b ≢ 10 → escaped_byte b ≡ b ∷ []
kept_byte b other = elim (eqb_tells b 10) [ inl is ↦ absurd (other is.1) | inr is ↦ rw is.0 refl ]

-- a text without a line feed stays
kept : (bs : List ℕ) → ((i : ℕ) → i < length bs → get_or bs i 0 ≢ 10) → escaped bs ≡ bs
kept [] none = refl
kept (b ∷ bs) none =
    ap (λ front. front ++ escaped bs) (kept_byte b (none 0 (omega arith)))
    ∙ ap (λ rest. b ∷ rest) (kept bs (λ i below. none (suc i) (omega arith)))

without : (p : ℕ) (bs : List ℕ) → p ≡ 10 → NoCharPasses (λ d. d == p) bs → escaped bs ≡ bs
without p bs e none = kept bs (λ i below at. NoCharPasses-char p bs i none (omega arith) below (at ∙ sym e))

-- the first line feed, with what is before it and what comes of the rest
module _ (p a b : ℕ) (bs rest : List ℕ) (e : p ≡ 10) (at : HasCharAt p bs a b) where
  cut : drop a bs ≡ 10 ∷ drop b bs
  cut = drop_at_char p bs a b at (omega arith) ∙ ap (λ c. c ∷ drop b bs) e

  joined : NoCharPasses (λ d. d == p) (take a bs) → rest ≡ escaped (drop b bs) → take a bs ++ ((92 ∷ 110 ∷ []) ++ rest) ≡ escaped bs
  joined none is =
      ap (λ tail. take a bs ++ ((92 ∷ 110 ∷ []) ++ tail)) is
      ∙ ap (λ front. front ++ escaped (10 ∷ drop b bs)) (sym (without p (take a bs) e none))
      ∙ sym (flat_map-append escaped_byte (take a bs) (10 ∷ drop b bs))
      ∙ ap escaped (ap (λ tail. take a bs ++ tail) (sym cut) ∙ take-append-drop a bs)

  moves_on : a ≡ b → ⊥
  moves_on same =
      let longer : length (drop a bs) ≡ length (10 ∷ drop b bs) = ap length cut in
      let equal : length (drop a bs) ≡ length (drop b bs) = ap (λ i. length (drop i bs)) same in
      omega arith

replaced_from : (n p : ℕ) (bs out : List ℕ) → p ≡ 10 → ReplacesMatches FindsChar (λ c d. d ≡ c) (92 ∷ 110 ∷ []) n p bs out → out ≡ escaped bs
replaced_from zero p bs out e (none, is) = is ∙ sym (without p bs e none)
replaced_from (suc n) p bs out e (a, b, q, rest, finds, same, inl (on, after), is) =
    is ∙ joined p a b bs rest e finds.1 finds.0 (replaced_from n q (drop b bs) rest (same ∙ e) after)
replaced_from (suc n) p bs out e (a, b, q, rest, finds, same, inr (at, after), is) = absurd (moves_on p a b bs rest e finds.1 at)

pub replaced : (n : ℕ) (bs out : List ℕ) → ReplacesMatches FindsChar (λ c d. d ≡ c) (92 ∷ 110 ∷ []) n 10 bs out → out ≡ escaped bs
replaced n bs out h = replaced_from n 10 bs out refl h

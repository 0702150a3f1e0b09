-- Numbers are read by their grammar.
use Rattle.std.proofs.Common.{◌≡◌, ℕ, zero, suc, ◌+◌, ◌*◌, ◌%◌, ◌^◌, ◌<◌, ◌≤◌, Bool, true, false, cond, ltb, List, [], ◌∷◌, ◌++◌, length, Ok, Err, refl, sym, ap, ◌∙◌, inl, inr, arith}
use Rattle.std.proofs.lemmas.Bool.{cases_lt, ltb-true, ltb-false, lt-ltb, le-ltb}
use Rattle.plain_types.specs.Steps.{◌>>=◌}
use Rattle.avro_binary.specs.declared.fault.FaultKind.TheVariants.{Long}
use Rattle.avro_binary.specs.declared.fault.Spot.{Spot}
use Rattle.avro_binary.specs.Answer.{Part, ended, spot}
use Rattle.avro_binary.specs.Number.{groups_at}
use Rattle.avro_binary.specs.Grammar.{IsNumber, GoOn, ReadsGroups, FailsGroups}
use Rattle.avro_binary.proofs.Laws.{Law, done, same_value, same_rest, ok_no_err, err_no_ok, bind_ok, bind_err, guarded_ok, guarded_err}

number_more : (b : ℕ) (spelling : List ℕ) (high n : ℕ) → 128 ≤ b → n ≡ b % 128 + 128 * high → IsNumber spelling high → IsNumber (b ∷ spelling) n
number_more b [] high n le e is = absurd is
number_more b (c ∷ cs) high n le e is = (le, (high, e, is))

-- what is done with the groups after a byte
abbrev onto : ℕ → List ℕ → ℕ × List ℕ → Part ℕ
onto b whole high = cond (ltb high.0 (2 ^ 57)) (Ok (b % 128 + 128 * high.0, high.1)) (Err (spot Long whole))

last_group : (most b : ℕ) (whole bytes : List ℕ) → b < 128 → groups_at (suc most) whole (b ∷ bytes) ≡ Ok (b, bytes)
unfolding groups_at
last_group most b whole bytes lt = rw (lt-ltb b 128 lt) refl

more_groups : (most b : ℕ) (whole bytes : List ℕ) → 128 ≤ b → groups_at (suc most) whole (b ∷ bytes) ≡ (groups_at most whole bytes >>= onto b whole)
unfolding groups_at
more_groups most b whole bytes le = rw (le-ltb b 128 le) refl

groups_found : (most : ℕ) (whole bytes : List ℕ) (n : ℕ) (rest : List ℕ) → groups_at most whole bytes ≡ Ok (n, rest) → ReadsGroups most bytes n rest
unfolding groups_at
groups_found zero whole bytes n rest e = absurd (err_no_ok n rest (spot Long whole) e)
groups_found (suc most) whole [] n rest e = absurd (err_no_ok n rest ended e)
groups_found (suc most) whole (b ∷ bytes) n rest e = elim (cases_lt b 128) [
  | inl lt ↦ (let ok = sym (last_group most b whole bytes lt) ∙ e in
      record { spelling = b ∷ []; parts = ap (λ (t : List ℕ). b ∷ t) (same_rest b n bytes rest ok); few = omega arith; is = (lt, sym (same_value b n bytes rest ok)); fits = (let same : b ≡ n = same_value b n bytes rest ok in omega arith) })
  | inr le ↦ (let p = bind_ok (groups_at most whole bytes) (onto b whole) n rest (sym (more_groups most b whole bytes le) ∙ e) in
      let g = guarded_ok (ltb p.0 (2 ^ 57)) (b % 128 + 128 * p.0) n p.1 rest (spot Long whole) p.3 in
      let r = groups_found most whole bytes p.0 p.1 p.2 in
      let small : p.0 < 2 ^ 57 = ltb-true p.0 (2 ^ 57) g.0 in
      let few : length r.spelling ≤ most = r.few in
      let value : n ≡ b % 128 + 128 * p.0 = g.1 in
      record { spelling = b ∷ r.spelling; parts = ap (λ (t : List ℕ). b ∷ t) (r.parts ∙ ap (λ (t : List ℕ). r.spelling ++ t) g.2); few = omega arith; is = number_more b r.spelling p.0 n le g.1 r.is; fits = omega arith })
]

again : (most : ℕ) (whole spelling rest : List ℕ) (n : ℕ) → length spelling ≤ most → IsNumber spelling n → n < 2 ^ 64
    → groups_at most whole (spelling ++ rest) ≡ Ok (n, rest)
again most whole [] rest n few is fits = absurd is
again zero whole (b ∷ spelling) rest n few is fits = absurd (omega arith)
again (suc most) whole (b ∷ []) rest n few is fits = last_group most b whole rest is.0 ∙ ap (λ (m : ℕ). done m rest) (sym is.1)
again (suc most) whole (b ∷ c ∷ bs) rest n few is fits =
    let high = is.1.0 in
    let value : n ≡ b % 128 + 128 * high = is.1.1 in
    let short : length (c ∷ bs) ≤ most = omega arith in
    let e = again most whole (c ∷ bs) rest high short is.1.2 (omega arith) in
    let small : ltb high (2 ^ 57) ≡ true = lt-ltb high (2 ^ 57) (omega arith) in
    more_groups most b whole ((c ∷ bs) ++ rest) is.0 ∙ ap (λ r. r >>= onto b whole) e ∙ ap (λ (t : Bool). cond t (done (b % 128 + 128 * high) rest) (Err (spot Long whole))) small ∙ ap (λ (m : ℕ). done m rest) (sym is.1.1)

fails_behind : (most : ℕ) (whole : List ℕ) (b : ℕ) (bytes : List ℕ) (f : Spot) → 128 ≤ b → FailsGroups most whole bytes f
    → FailsGroups (suc most) whole (b ∷ bytes) f
fails_behind most whole b bytes f le (inl (e, at)) = inl (record { go_on = (le, e.go_on); few = (let few : length bytes < most = e.few in omega arith) }, at)
fails_behind most whole b bytes f le (inr (inl p, at)) = inr (inl (record { front = b ∷ p.front; rest = p.rest; parts = ap (λ (t : List ℕ). b ∷ t) p.parts; go_on = (le, p.go_on); long = ap suc p.long }), at)
fails_behind most whole b bytes f le (inr (inr w, at)) = inr (
  inr
      (record {
        spelling = b ∷ w.spelling;
        rest = w.rest;
        number = b % 128 + 128 * w.number;
        parts = ap (λ (t : List ℕ). b ∷ t) w.parts;
        few =
            (let few : length w.spelling ≤ most = w.few in omega arith);
        is = number_more b w.spelling w.number (b % 128 + 128 * w.number) le refl w.is;
        wide =
            (let wide : 2 ^ 64 ≤ w.number = w.wide in omega arith);
      }),
  at,
)

groups_fault : (most : ℕ) (whole bytes : List ℕ) (f : Spot) → groups_at most whole bytes ≡ Err f → FailsGroups most whole bytes f
unfolding groups_at
groups_fault zero whole bytes f e = inr (inl (record { front = []; rest = bytes; parts = refl; go_on = tt; long = refl }), cc)
groups_fault (suc most) whole [] f e = inl (record { go_on = tt; few = omega arith }, cc)
groups_fault (suc most) whole (b ∷ bytes) f e = elim (cases_lt b 128) [
  | inl lt ↦ absurd (ok_no_err b bytes f (sym (last_group most b whole bytes lt) ∙ e))
  | inr le ↦ elim (bind_err (groups_at most whole bytes) (onto b whole) f (sym (more_groups most b whole bytes le) ∙ e)) [
    | inl l ↦ fails_behind most whole b bytes f le (groups_fault most whole bytes f l)
    | inr r ↦ (let g = guarded_err (ltb r.0 (2 ^ 57)) (b % 128 + 128 * r.0) r.1 (spot Long whole) f r.3 in
        let high = groups_found most whole bytes r.0 r.1 r.2 in
        let big : 2 ^ 57 ≤ r.0 = ltb-false r.0 (2 ^ 57) g.0 in
        let few : length high.spelling ≤ most = high.few in
        inr (inr (record { spelling = b ∷ high.spelling; rest = r.1; number = b % 128 + 128 * r.0; parts = ap (λ (t : List ℕ). b ∷ t) high.parts; few = omega arith; is = number_more b high.spelling r.0 (b % 128 + 128 * r.0) le refl high.is; wide = omega arith }), g.1))
  ]
]

ends : (most : ℕ) (whole bytes : List ℕ) → GoOn bytes → length bytes < most → groups_at most whole bytes ≡ Err ended
unfolding groups_at
ends zero whole bytes go few = absurd (omega arith)
ends (suc most) whole [] go few = refl
ends (suc most) whole (b ∷ bytes) go few = let less : length bytes < most = omega arith in more_groups most b whole bytes go.0 ∙ ap (λ r. r >>= onto b whole) (ends most whole bytes go.1 less)

goes : (most : ℕ) (whole front rest : List ℕ) → GoOn front → length front ≡ most → groups_at most whole (front ++ rest) ≡ Err (spot Long whole)
unfolding groups_at
goes zero whole front rest go long = refl
goes (suc most) whole [] rest go long = absurd (omega arith)
goes (suc most) whole (b ∷ front) rest go long = let less : length front ≡ most = omega arith in more_groups most b whole (front ++ rest) go.0 ∙ ap (λ r. r >>= onto b whole) (goes most whole front rest go.1 less)

wide : (most : ℕ) (whole spelling rest : List ℕ) (n : ℕ) → length spelling ≤ most → IsNumber spelling n → 2 ^ 64 ≤ n
    → groups_at most whole (spelling ++ rest) ≡ Err (spot Long whole)
wide most whole [] rest n few is big = absurd is
wide zero whole (b ∷ spelling) rest n few is big = absurd (omega arith)
wide (suc most) whole (b ∷ []) rest n few is big = let lt : b < 128 = is.0 in let e : n ≡ b = is.1 in absurd (omega arith)
wide (suc most) whole (b ∷ c ∷ bs) rest n few is big =
    let high = is.1.0 in
    let value : n ≡ b % 128 + 128 * high = is.1.1 in
    let short : length (c ∷ bs) ≤ most = omega arith in
    let not_small : ltb high (2 ^ 57) ≡ false = le-ltb high (2 ^ 57) (omega arith) in
    elim (cases_lt high (2 ^ 64)) [
      | inl lt ↦ more_groups most b whole ((c ∷ bs) ++ rest) is.0 ∙ ap (λ r. r >>= onto b whole) (again most whole (c ∷ bs) rest high short is.1.2 lt) ∙ ap (λ (t : Bool). cond t (done (b % 128 + 128 * high) rest) (Err (spot Long whole))) not_small
      | inr le ↦ more_groups most b whole ((c ∷ bs) ++ rest) is.0 ∙ ap (λ r. r >>= onto b whole) (wide most whole (c ∷ bs) rest high short is.1.2 le)
    ]

groups_first : (most : ℕ) (whole bytes : List ℕ) (f : Spot) → FailsGroups most whole bytes f → groups_at most whole bytes ≡ Err f
groups_first most whole bytes f (inl (e, at)) = ends most whole bytes e.go_on e.few ∙ ap (λ (g : Spot). Err g) (sym at)
groups_first most whole bytes f (inr (inl p, at)) = ap (groups_at most whole) p.parts ∙ goes most whole p.front p.rest p.go_on p.long ∙ ap (λ (g : Spot). Err g) (sym at)
groups_first most whole bytes f (inr (inr w, at)) = ap (groups_at most whole) w.parts ∙ wide most whole w.spelling w.rest w.number w.few w.is w.wide ∙ ap (λ (g : Spot). Err g) (sym at)

pub groups_law : (most : ℕ) (whole bytes : List ℕ) → Law bytes (ReadsGroups most bytes) (FailsGroups most whole bytes) (groups_at most whole bytes)
groups_law most whole bytes = record {
  found = λ n rest e. groups_found most whole bytes n rest e;
  only = λ n rest r. ap (groups_at most whole) r.parts ∙ again most whole r.spelling rest n r.few r.is r.fits;
  fault = λ f e. groups_fault most whole bytes f e;
  first = λ f h. groups_first most whole bytes f h;
  parts = λ n rest e. (let r = groups_found most whole bytes n rest e in (r.spelling, r.parts));
}

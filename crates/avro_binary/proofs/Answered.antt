-- From the law of a shape to the clauses of a call.
use Rattle.std.proofs.Common.{◌≡◌, ◌⊎◌, ℕ, ◌+◌, ◌-◌, ◌≤◌, List, ◌++◌, length, drop, Result, Ok, Err, refl, sym, ap, ◌∙◌, inl, inr, arith}
use Rattle.std.specs.Prelude.{IfOk, IfErr, MatchResult}
use Rattle.std.proofs.lemmas.List.{drop_at, length-append}
use Rattle.avro_binary.specs.declared.fault.Spot.{Spot}
use Rattle.avro_binary.specs.declared.fault.Stop.{Stop}
use Rattle.avro_binary.specs.declared.fault.Stop.TheVariants as stop
use Rattle.avro_binary.specs.declared.fault.DatumFault.{DatumFault}
use Rattle.avro_binary.specs.declared.fault.DatumFault.TheVariants.{Memory}
use Rattle.avro_binary.specs.declared.datum.Datum.{Datum}
use Rattle.avro_binary.specs.Answer.{Stops}
use Rattle.avro_binary.specs.Shape.{Shape}
use Rattle.avro_binary.specs.Reading.{datum_at}
use Rattle.avro_binary.specs.Grammar.{Reads}
use Rattle.avro_binary.specs.Fault.{fault_of, fault_from, AnswersDatum, MayFail}
use Rattle.avro_binary.proofs.Laws.{done, same_value, same_rest, ok_no_err}
use Rattle.avro_binary.proofs.DatumLaws.{datum_law}

rest_after : (bytes front rest : List ℕ) → bytes ≡ front ++ rest → (length rest ≤ length bytes) × (rest ≡ drop (length bytes - length rest) bytes)
rest_after bytes front rest e =
    let len : length bytes ≡ length front + length rest = ap length e ∙ length-append front rest in
    (omega arith, sym (drop_at front rest (length bytes - length rest) (omega arith)) ∙ ap (λ (t : List ℕ). drop (length bytes - length rest) t) (sym e))

pub datum_rest : (s : Shape) (bytes : List ℕ) (d : Datum) (rest : List ℕ) → datum_at s bytes ≡ Ok (d, rest)
    → (length rest ≤ length bytes) × (rest ≡ drop (length bytes - length rest) bytes)
datum_rest s bytes d rest e = let p = (datum_law s bytes).parts d rest e in rest_after bytes p.0 rest p.1

pub datum_used : (s : Shape) (bytes : List ℕ) (d : Datum) (rest : List ℕ) → datum_at s bytes ≡ Ok (d, rest)
    → (length bytes - length rest ≤ length bytes) × (datum_at s bytes ≡ Ok (d, drop (length bytes - length rest) bytes))
datum_used s bytes d rest e = (omega arith, e ∙ ap (λ (t : List ℕ). done d t) (datum_rest s bytes d rest e).1)

pub stop_answer : (s : Shape) (bytes : List ℕ) (st : Stop) → Stops st (datum_at s bytes)
    → (fault_from (length bytes) st ≡ Memory) ⊎ ((at : Spot) × (fault_from (length bytes) st ≡ fault_of (length bytes) at)
    × (datum_at s bytes ≡ Err at))
stop_answer s bytes stop.Memory h = inl refl
stop_answer s bytes (stop.At at) h = inr (at, refl, h)

pub is_found : (s : Shape) (bytes : List ℕ) (r : Result (Datum × ℕ) DatumFault) → AnswersDatum r bytes (datum_at s bytes)
    → IfOk r (λ x. (x.1 ≤ length bytes) × Reads s bytes x.0 (drop x.1 bytes))
is_found s bytes (Ok x) h = (h.0, (datum_law s bytes).found x.0 (drop x.1 bytes) h.1)
is_found s bytes (Err f) h = tt

pub is_only : (s : Shape) (bytes : List ℕ) (r : Result (Datum × ℕ) DatumFault) → AnswersDatum r bytes (datum_at s bytes)
    → (d : Datum) (rest : List ℕ) → Reads s bytes d rest
    → MatchResult r (λ x. (x.0 ≡ d) × (drop x.1 bytes ≡ rest)) (λ f. f ≡ Memory)
is_only s bytes (Ok x) h d rest reads = let e = sym h.1 ∙ (datum_law s bytes).only d rest reads in (same_value x.0 d (drop x.1 bytes) rest e, same_rest x.0 d (drop x.1 bytes) rest e)
is_only s bytes (Err f) (inl memory) d rest reads = memory
is_only s bytes (Err f) (inr (at, is, fails)) d rest reads = absurd (ok_no_err d rest at (sym ((datum_law s bytes).only d rest reads) ∙ fails))

pub is_fault : (s : Shape) (bytes : List ℕ) (r : Result (Datum × ℕ) DatumFault) → AnswersDatum r bytes (datum_at s bytes) → IfErr r (λ f. MayFail s bytes f)
is_fault s bytes (Ok x) h = tt
is_fault s bytes (Err f) (inl memory) = inl memory
is_fault s bytes (Err f) (inr (at, is, fails)) = inr (at, is, (datum_law s bytes).fault at fails)

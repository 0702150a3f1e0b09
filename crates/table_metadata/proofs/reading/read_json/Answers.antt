use Rattle.std.proofs.Common.{◌≡◌, ℕ, List, Bool, true, false, Option, Some, None, Result, Ok, Err, IfOk, IfErr, cond, refl}
use Rattle.std.specs.Str.{IsUtf8, is_utf8}
use Rattle.std.proofs.lemmas.Str.{IsUtf8-from_is_utf8, is_utf8-from_IsUtf8}
use Rattle.plain_types.specs.Answers.{Answers}
use Rattle.serde_json.specs.Data.{Data}
use Rattle.serde_json.specs.Read.{read}
use Rattle.serde_json.specs.View.{view}
use Rattle.table_metadata.specs.declared.metadata_fault.MetadataFault.TheVariants as fault
use Rattle.table_metadata.specs.Metadata.{json_of, whole_object}
use Rattle.plain_types.specs.Steps.{by_option}
use Rattle.table_metadata.proofs.reading.read_json.Goals as goal

-- what the bytes are, at the answer of the test and of the reading
json_at : (u : Bool) (r : Option Data) (d : Data) → u ≡ true → r ≡ Some d → cond u (by_option r whole_object (Err fault.Json)) (Err fault.Json) ≡ whole_object d
json_at u r d e h = rw e (rw h refl)

none_at : (u : Bool) (r : Option Data) → (u ≡ true → r ≡ None) → cond u (by_option r whole_object (Err fault.Json)) (Err fault.Json) ≡ Err fault.Json
none_at true r h = rw (h refl) refl
none_at false r h = refl

json_of-read : (bytes : List ℕ) (d : Data) → IsUtf8 bytes → read bytes ≡ Some d → json_of bytes ≡ whole_object d
unfolding json_of
json_of-read bytes d u h = json_at (is_utf8 bytes) (read bytes) d (is_utf8-from_IsUtf8 bytes u) h

json_of-none : (bytes : List ℕ) → (IsUtf8 bytes → read bytes ≡ None) → json_of bytes ≡ Err fault.Json
unfolding json_of
json_of-none bytes h = none_at (is_utf8 bytes) (read bytes) (λ e. h (IsUtf8-from_is_utf8 bytes e))

answers_surely : {X Y E : Type 0} (free : E) (view : X → Y) (result : Result X E) (wanted : Result Y E)
    → IfOk result (λ x. wanted ≡ Ok (view x)) → IfErr result (λ f. wanted ≡ Err f) → Answers free view result wanted
answers_surely free view (Ok x) wanted ok err = ok
answers_surely free view (Err f) wanted ok err = λ _. err

pub returns-in-Ok : goal.returns-in-Ok
returns-in-Ok c = record {
  answers =
      rw (json_of-read c.args.bytes.now (view c.in-Ok.json) c.in-Ok.ensures.ok.0 c.in-Ok.ensures.ok.1)
      (answers_surely fault.Memory view c.whole_object.result (whole_object (view c.in-Ok.json)) c.whole_object.ensures.ok c.whole_object.ensures.err);
}

pub returns-else-is_memory : goal.returns-else-is_memory
returns-else-is_memory c = record {
  answers = λ _. json_of-none c.args.bytes.now (c.in-Err.ensures.err (λ m. let t = c.is_memory.ensures.1 m in cc));
}

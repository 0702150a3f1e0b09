-- What is written reads back, and what was read can be written.
use Rattle.std.proofs.Common.{◌≡◌, ℕ, ◌≤◌, List, Bool, true, false, Option, Some, None, Ok, Err, IsSome, is_some, cond, refl, sym, ◌∙◌}
use Rattle.std.specs.Str.{IsUtf8, is_utf8}
use Rattle.std.proofs.lemmas.Str.{is_utf8-from_IsUtf8}
use Rattle.serde_json.specs.Data.{Data, depth}
use Rattle.serde_json.specs.Find.{as_object}
use Rattle.serde_json.specs.Read.{read, max_depth}
use Rattle.serde_json.specs.View.{view}
use Rattle.serde_json.specs.Written.{has_float}
use Rattle.serde_json.proofs.Nesting.{depth-read}
use Rattle.table_metadata.specs.declared.metadata.Metadata.{Metadata}
use Rattle.table_metadata.specs.declared.metadata_fault.MetadataFault.TheVariants as fault
use Rattle.table_metadata.specs.Metadata.{IsMetadataOf, json_of, whole_object, metadata_of, parts_of}
use Rattle.plain_types.specs.Steps.{by_option}
use Rattle.metadata_writer.specs.Writable.{IsWritable}

whole_object-writable : (d : Data) → IsWritable d → whole_object d ≡ Ok d
unfolding whole_object
whole_object-writable d w = rw (w.object, w.whole) refl

json_at : (u : Bool) (r : Option Data) (d : Data) → u ≡ true → r ≡ Some d → cond u (by_option r whole_object (Err fault.Json)) (Err fault.Json) ≡ whole_object d
json_at u r d e h = rw e (rw h refl)

pub json_of-written : (text : List ℕ) (d : Data) → IsUtf8 text → IsWritable d → read text ≡ Some d → json_of text ≡ Ok d
unfolding json_of
json_of-written text d u w h =
    json_at (is_utf8 text) (read text) d (is_utf8-from_IsUtf8 text u) h ∙ whole_object-writable d w

-- a data that was found whole is itself
whole_at : (o f : Bool) (e d : Data) → cond o (cond f (Err fault.Json) (Ok e)) (Err fault.Json) ≡ Ok d → (o ≡ true) × (f ≡ false) × (e ≡ d)
whole_at true false e d h = (refl, refl, cc)
whole_at true true e d h = cc
whole_at false f e d h = cc

whole_object-parts : (e d : Data) → whole_object e ≡ Ok d → IsSome (as_object e) × (has_float e ≡ false) × (e ≡ d)
unfolding whole_object
whole_object-parts e d h = whole_at (is_some (as_object e)) (has_float e) e d h

writable_at : (u : Bool) (r : Option Data) (d : Data) → ((e : Data) → r ≡ Some e → depth e ≤ max_depth)
    → cond u (by_option r whole_object (Err fault.Json)) (Err fault.Json) ≡ Ok d → IsWritable d
writable_at true (Some e) d nests h =
    let w = whole_object-parts e d h in
    rw (← w.2) (record { object = w.0; whole = w.1; nests = nests e refl })
writable_at true None d nests h = cc
writable_at false r d nests h = cc

pub writable-read : (bytes : List ℕ) (d : Data) → json_of bytes ≡ Ok d → IsWritable d
unfolding json_of
writable-read bytes d h = writable_at (is_utf8 bytes) (read bytes) d (λ e. depth-read bytes e) h

pub read_parts : (bytes : List ℕ) (d : Data) → json_of bytes ≡ Ok d → metadata_of bytes ≡ parts_of d
unfolding metadata_of
read_parts bytes d h = rw h refl

-- the text of metadata that was read says the same
pub metadata-written : (bytes text : List ℕ) (m : Metadata) → IsMetadataOf bytes m
    → (IsWritable (view m.json) → json_of text ≡ Ok (view m.json)) → IsMetadataOf text m
metadata-written bytes text m is back =
    let same = back (writable-read bytes (view m.json) is.json) in
    record { read = read_parts text (view m.json) same ∙ sym (read_parts bytes (view m.json) is.json) ∙ is.read; json = same }

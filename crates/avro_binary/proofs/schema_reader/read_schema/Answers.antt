use Rattle.std.proofs.Common.{◌≡◌, ℕ, Bool, true, false, List, Some, None, Result, Err, cond, refl, sym, ap, subst, ◌∙◌}
use Rattle.std.specs.Str.{is_utf8, IsUtf8}
use Rattle.std.proofs.lemmas.Str.{IsUtf8-from_is_utf8, is_utf8-from_IsUtf8}
use Rattle.std.proofs.lemmas.Bool.{false≢true}
use Rattle.serde_json.specs.Data.{Data}
use Rattle.serde_json.specs.Read.{read}
use Rattle.serde_json.specs.View.{view}
use Rattle.avro_binary.specs.declared.schema.Schema.{Schema}
use Rattle.avro_binary.specs.declared.schema_fault.SchemaFault.{SchemaFault}
use Rattle.avro_binary.specs.declared.schema_fault.SchemaFault.TheVariants.{Json, Memory}
use Rattle.avro_binary.specs.SchemaText.{schema_in, schema_of, schema_from}
use Rattle.plain_types.specs.Answers.{Answers}
use Rattle.avro_binary.proofs.schema_reader.read_schema.Goals as goal

parsed : (bytes : List ℕ) (d : Data) → IsUtf8 bytes → read bytes ≡ Some d → schema_of d ≡ schema_from bytes
unfolding schema_from
parsed bytes d text is =
    let one : cond (is_utf8 bytes) (read bytes) None ≡ Some d = ap (λ (b : Bool). cond b (read bytes) None) (is_utf8-from_IsUtf8 bytes text) ∙ is in
    sym (ap schema_in one)

no_text : (b : Bool) (bytes : List ℕ) → is_utf8 bytes ≡ b → (IsUtf8 bytes → read bytes ≡ None) → cond b (read bytes) None ≡ None
no_text true bytes e none = none (IsUtf8-from_is_utf8 bytes e)
no_text false bytes e none = refl

unparsed : (bytes : List ℕ) → (IsUtf8 bytes → read bytes ≡ None) → schema_from bytes ≡ Err Json
unfolding schema_from
unparsed bytes none = ap schema_in (no_text (is_utf8 bytes) bytes refl none)

pub returns-in-Ok : goal.returns-in-Ok
returns-in-Ok c = record { exact = subst (λ (w : Result Schema SchemaFault). Answers Memory (λ x. x) c.schema_of.result w) (parsed c.args.bytes.now (view c.in-Ok.json) c.in-Ok.ensures.ok.0 c.in-Ok.ensures.ok.1) c.schema_of.ensures }

pub returns-else-is_memory : goal.returns-else-is_memory
returns-else-is_memory c = record { exact = λ other. unparsed c.args.bytes.now (c.in-Err.ensures.err (λ memory. false≢true (sym c.if-is_memory.false ∙ c.is_memory.ensures.1 memory))) }

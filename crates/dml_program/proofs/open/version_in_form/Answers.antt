use Rattle.std.proofs.Common.{List, ℕ, Ok, sym, subst, ◌≡◌, ◌∙◌}
use Rattle.table_metadata.specs.Metadata.{parts}
use Rattle.dml_program.specs.TableInForm.{metadata_in_form}
use Rattle.dml_program.proofs.MainRows.{version_is}
use Rattle.dml_program.proofs.open.version_in_form.Goals as goal

pub returns-clause-metadata : goal.returns-clause-metadata
returns-clause-metadata g c files told =
    version_is c.args.table.now c.args.version files c.as_str.result.now c.in_ok-bytes.bytes (parts c.in_ok-metadata.metadata) (c.as_str.ensures.value ∙ c.in_ok-name.ensures) (c.in_ok-bytes.ensures.found files told)
    (subst (λ (name : List ℕ). metadata_in_form name c.args.version c.in_ok-bytes.bytes ≡ Ok (parts c.in_ok-metadata.metadata)) (c.as_str-2.ensures.value ∙ sym c.as_str.ensures.value)
    (subst (λ (bytes : List ℕ). metadata_in_form c.as_str-2.result.now c.args.version bytes ≡ Ok (parts c.in_ok-metadata.metadata)) c.as_slice.ensures c.in_ok-metadata.ensures.found))

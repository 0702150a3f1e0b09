use Rattle.table_metadata.specs.Metadata.{parts}
use Rattle.dml_program.proofs.Beginnings.{opened_rows}
use Rattle.dml_program.proofs.Openings.{refused_rows}
use Rattle.dml_program.proofs.open.open_table.Goals as goal

pub returns-in-Ok-Some-clause-refused : goal.returns-in-Ok-Some-clause-refused
returns-in-Ok-Some-clause-refused g c = refused_rows c.version_in_form.result _ _ c.current_version.ensures.files c.args.table.now _ _ c.in-Ok-Some.field-0-is c.in-Ok-Some.ensures.version c.version_in_form.ensures.refused

pub returns-in-Ok-Some-clause-opened : goal.returns-in-Ok-Some-clause-opened
returns-in-Ok-Some-clause-opened g c = opened_rows (λ opened. opened.rows.items) (λ opened. parts opened.metadata)
    (λ opened. opened.version) c.version_in_form.result _ _ c.current_version.ensures.files c.args.table.now _ _ c.in-Ok-Some.field-0-is c.in-Ok-Some.ensures.version c.version_in_form.ensures.found c.version_in_form.ensures.metadata c.version_in_form.ensures.version

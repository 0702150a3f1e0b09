use Rattle.std.proofs.Common.{to_z-of_z}
use Rattle.std.proofs.lemmas.Result.{IfOk-weaker}
use Rattle.iceberg_schema.proofs.CallerLemmas.{long_fits}
use Rattle.metadata_writer.specs.NewTable.{made}
use Rattle.table_definition.specs.Definition.{asked}
use Rattle.table_definition.proofs.FirstText.{FitsKeys, exact_text, read_text}
use Rattle.table_definition.proofs.new_table.first_text.Goals as goal

pub returns-clause-exact : goal.returns-clause-exact
returns-clause-exact c =
    let table = simp (to_z-of_z, c.ranges.now_ms) at c.in_ok-table.ensures.made in
    IfOk-weaker c.text.result _ _ (λ text written bytes h. exact_text bytes text c.args.location.now c.args.now_ms (asked c.args.definition.now) (made c.in_ok-table.table) _ h table c.in_ok-json.ensures written) c.text.ensures.exact

pub returns-clause-reads : goal.returns-clause-reads
returns-clause-reads c =
    let told = c.in_ok-table.ensures in
    let table = simp (to_z-of_z, c.ranges.now_ms) at told.made in
    let fits : FitsKeys (made c.in_ok-table.table) = record { uuid = told.uuid; last_column = told.last_column; last_partition = told.last_partition } in
    IfOk-weaker c.text.result _ _ (λ text back bytes h. read_text bytes text c.args.location.now c.args.now_ms (asked c.args.definition.now) (made c.in_ok-table.table) _ h table c.in_ok-json.ensures fits (long_fits c.args.now_ms c.ranges.now_ms) back) c.text.ensures.reads_back

use Rattle.std.proofs.Common.{◌≡◌, IfOk, Ok, rules}
use Rattle.avro_rows.specs.Rows.{rows_of}
use Rattle.avro_rows.proofs.RowLaws.{rows_by}
use Rattle.avro_rows.proofs.reading.read_rows.Goals as goal

pub returns-clause-rows : goal.returns-clause-rows
unfolding rows_of
returns-clause-rows c =
    let read : IfOk c.read_records.result (λ rows. rows_of c.args.container.now c.args.schema.now.columns ≡ Ok rows) = search rules in
    rows_by c.args.container.now c.args.schema.now.columns c.read_records.result read

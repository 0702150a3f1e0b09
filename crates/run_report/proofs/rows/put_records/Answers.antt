use Rattle.std.proofs.Common.{take}
use Rattle.std.proofs.lemmas.Result.{err_from_is_err_and}
use Rattle.std.specs.List.{flat_map}
use Rattle.plain_types.proofs.CallerLemmas.{front_of_more}
use Rattle.run_report.specs.Report.{row_line}
use Rattle.run_report.proofs.rows.put_records.Goals as goal

pub returns-in_err-put_row : goal.returns-in_err-put_row
returns-in_err-put_row c =
    let p = err_from_is_err_and c.from_residual.result c.from_residual.ensures.1 in
    rw p.1 (front_of_more c.args.out.now.items (flat_map row_line (take c.loop-text.text-index c.args.records.now)) c.loop-text.out.items c.put_row.new.out.items c.loop-text.invariant c.in_err-put_row.ensures)

use Rattle.table_metadata.specs.Metadata.{parts}
use Rattle.table_scan.proofs.FileRows.{file_is_current}
use Rattle.table_scan.proofs.RowLaws.{are_within}
use Rattle.table_scan.proofs.scanning.read_file.Goals as goal

pub live_rows-requires : goal.live_rows-requires
live_rows-requires g c = are_within (parts c.args.state.now.metadata) c.args.filter.now c.in-Ok.rows c.requires c.in-Ok.ensures.rows

pub returns-clause-rows : goal.returns-clause-rows
returns-clause-rows g c = file_is_current (parts c.args.state.now.metadata) c.args.filter.now c.in_ok-entry.entry c.in-Ok.rows c.in_ok-rows.rows c.in-Ok.ensures.rows c.in_ok-rows.ensures

use Rattle.sql_statements.specs.Filter.{filter_of}
use Rattle.table_scan.proofs.PartingLaws.{is_parted}
use Rattle.table_scan.proofs.CopyLaws.{leaves}
use Rattle.table_scan.proofs.SameFiles.{itself, same_path}
use Rattle.table_scan.proofs.WidthLaws.{kept_by_filter}
use Rattle.table_scan.proofs.copy_laws.copies_do_what_the_statement_does.Goals as goal

pub returns : goal.returns
returns c = λ table parts entries files scanned sources s width rows is found wide.
    leaves itself same_path table parts (filter_of width s) files sources s entries scanned width rows (is_parted table parts (filter_of width s) files entries scanned is) is found (kept_by_filter width sources s) wide

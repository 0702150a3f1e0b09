use Rattle.std.proofs.Common.{◌∙◌, [], List, ap, sym}
use Rattle.plain_types.proofs.CallerLemmas.{told_as}
use Rattle.store_core.specs.Files.{Files}
use Rattle.manifest_files.specs.declared.entry.Entry.{Entry}
use Rattle.table_metadata.specs.Metadata.{parts}
use Rattle.table_state.specs.declared.load_fault.LoadFault.TheVariants as fault
use Rattle.table_state.specs.Live.{data_files_of}
use Rattle.table_scan.specs.Scanning.{scanned_at, scanned_from}
use Rattle.table_scan.proofs.ScanLaws.{same}
use Rattle.table_scan.proofs.scanning.scan.Goals as goal

pub returns-clause-answers : goal.returns-clause-answers
returns-clause-answers g c =
    let table = c.args.state.now.table in
    let p = parts c.args.state.now.metadata in
    let pred = c.args.filter.now in
    let head = data_files_of c.args.state.now.head in
    told_as fault.Store fault.Memory (λ scanned. scanned) c.scan_files.result (g.S.Store.files c.args.store.now)
    (λ files. scanned_from table p pred [] c.data_files_of.result.now files) (λ files. scanned_at table p pred head files)
    (λ (files : Files). sym (ap (λ (entries : List Entry). scanned_from table p pred [] entries files) c.data_files_of.ensures ∙ same table p pred files head))
    c.scan_files.ensures.answers

use Rattle.std.proofs.Common.{List, ◌∙◌, rules, sym, subst}
use Rattle.table_metadata.specs.Metadata.{parts}
use Rattle.change_sets.specs.declared.scanned.ScannedFile.{ScannedFile}
use Rattle.table_scan.specs.Scanning.{AreCurrentFiles}
use Rattle.table_scan.proofs.FileRows.{and_current}
use Rattle.table_scan.proofs.ScanLaws.{steps_on}
use Rattle.table_scan.proofs.scanning.scan_files.Goals as goal

pub loop-rest-preserved : goal.loop-rest-preserved
loop-rest-preserved g c =
    let p = parts c.args.state.now.metadata in
    record {
      same = λ files is.
          steps_on c.args.state.now.table p c.args.filter.now files c.loop-rest.scanned.items c.place_hit.new.files.items c.loop-rest.rest.now c.entry-item.result c.in_ok-file.file
          (c.in-len1-up.len_at_least) (c.entry-item.is) (c.in_ok-file.ensures.answers files (c.loop-rest.invariant.files ∙ is)) c.in_ok-place_hit.ensures
          ∙ c.loop-rest.invariant.same files is;
      rows = subst (λ (files : List ScannedFile). AreCurrentFiles p files) (sym c.in_ok-place_hit.ensures) (and_current p c.in_ok-file.file c.loop-rest.scanned.items c.in_ok-file.ensures.rows c.loop-rest.invariant.rows);
      files = search rules;
      faults = search rules;
      reads = search rules;
    }

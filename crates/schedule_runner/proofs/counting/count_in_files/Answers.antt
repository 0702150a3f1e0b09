use Rattle.std.proofs.Common.{rules, ◌∙◌, arith}
use Rattle.std.proofs.lemmas.List.{nil_from_length}
use Rattle.std.proofs.lemmas.Result.{err_from_is_err_and}
use Rattle.table_metadata.specs.Metadata.{parts}
use Rattle.schedule_runner.proofs.CountLaws.{ends, fails, first_and_rest, goes_on}
use Rattle.schedule_runner.proofs.counting.count_in_files.Goals as goal

pub returns-in_err-more-clause-err : goal.returns-in_err-more-clause-err
returns-in_err-more-clause-err g c =
    let p = err_from_is_err_and c.from_residual.result c.from_residual.ensures.1 in
    rw (p.1, p.2) (λ store memory files is.
    fails c.args.table.now (parts c.args.metadata.now) c.args.entries.now files c.loop-rest.count c.entry-item.result c.loop-rest.rest.now _ (first_and_rest c.loop-rest.rest.now c.entry-item.result c.entry-item.is c.in-len1-up.len_at_least)
    c.as_str.result.now c.as_str.ensures (c.in_err-more.ensures.err store memory files (c.loop-rest.invariant.files ∙ is)) (c.loop-rest.invariant.counts files is))

pub loop-rest-preserved : goal.loop-rest-preserved
loop-rest-preserved g c = record {
  counts = λ files is.
      goes_on c.args.table.now (parts c.args.metadata.now) c.args.entries.now files c.loop-rest.count c.entry-item.result c.loop-rest.rest.now _ (first_and_rest c.loop-rest.rest.now c.entry-item.result c.entry-item.is c.in-len1-up.len_at_least)
      c.as_str.result.now c.as_str.ensures c.in_ok-more.more c.in_ok-count.count (c.in_ok-more.ensures.ok files (c.loop-rest.invariant.files ∙ is)) (search rules) (c.loop-rest.invariant.counts files is);
  files = search rules;
  faults = search rules;
}

pub returns-clause-ok : goal.returns-clause-ok
returns-clause-ok g c = λ files is. ends c.args.table.now (parts c.args.metadata.now) c.args.entries.now files c.loop-rest.count c.loop-rest.rest.now (nil_from_length c.loop-rest.rest.now (omega (arith, c.in_default.len_below))) (c.loop-rest.invariant.counts files is)

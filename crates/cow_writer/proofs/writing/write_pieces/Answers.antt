use Rattle.std.proofs.Common.{◌≡◌, ◌<◌, ◌≤◌, ◌+◌, ◌^◌, List, length, option_map, ap, ◌∙◌, subst, arith}
use Rattle.row_values.specs.declared.value.Value.{Value}
use Rattle.store_core.specs.Files.{with_file}
use Rattle.table_names.specs.declared.names.Names.{Names}
use Rattle.row_writer.specs.RowsText.{rows_text}
use Rattle.cow_writer.specs.Copies.{entry_at, next_name}
use Rattle.cow_writer.proofs.PutLaws.{others_then}
use Rattle.cow_writer.proofs.WriteLaws.{entries_step, files_step, first_and_later, later_of, rows_step, short_step}
use Rattle.cow_writer.proofs.writing.write_pieces.Goals as goal

pub returns-in-Err-clause-raised : goal.returns-in-Err-clause-raised
returns-in-Err-clause-raised g c =
    let inv = c.loop-rest.invariant in
    let some = c.in-len1-up.len_at_least in
    let raised = c.in-Err.ensures.raised in
    (omega (arith, inv.next, inv.left, some, raised.0), omega (arith, inv.next, some, raised.1))

pub returns-in-Err-clause-others : goal.returns-in-Err-clause-others
returns-in-Err-clause-others g c =
    let inv = c.loop-rest.invariant in
    let above : c.args.names.now.next ≤ c.loop-rest.names.next = omega (arith, inv.next, inv.left) in
    others_then c.args.state.now.table c.args.names.now c.loop-rest.names (g.S.Store.files c.args.store.now) (g.S.Store.files c.loop-rest.store) (g.S.Store.files c.write_piece.new.store) inv.run inv.session above inv.others c.in-Err.ensures.others

pub returns-in_err-push-clause-raised : goal.returns-in_err-push-clause-raised
returns-in_err-push-clause-raised g c =
    let inv = c.loop-rest.invariant in
    let some = c.in-len1-up.len_at_least in
    let raised = c.in-Ok.ensures.raised in
    (omega (arith, inv.next, inv.left, some, raised.0), omega (arith, inv.next, some, raised.1))

pub returns-in_err-push-clause-others : goal.returns-in_err-push-clause-others
returns-in_err-push-clause-others g c =
    let inv = c.loop-rest.invariant in
    let above : c.args.names.now.next ≤ c.loop-rest.names.next = omega (arith, inv.next, inv.left) in
    others_then c.args.state.now.table c.args.names.now c.loop-rest.names (g.S.Store.files c.args.store.now) (g.S.Store.files c.loop-rest.store) (g.S.Store.files c.write_piece.new.store) inv.run inv.session above inv.others c.in-Ok.ensures.others

pub loop-rest-preserved : goal.loop-rest-preserved
loop-rest-preserved g c =
    let inv = c.loop-rest.invariant in
    let wrote = c.in-Ok.ensures in
    let metadata = c.args.state.now.metadata in
    let table = c.args.state.now.table in
    let columns = c.args.schema.now.columns in
    let rest = c.loop-rest.rest.now in
    let piece = c.piece-item.result in
    let names = c.loop-rest.names in
    let later = c.write_piece.new.names in
    let same = c.as_slice.ensures in
    let is = first_and_later rest piece c.in-len1-up.len_at_least c.piece-item.is in
    let count : length rest ≡ length (later_of rest) + 1 = ap length is ∙ omega arith in
    let next : later.next ≡ names.next + 1 = ap (λ (n : Names). n.next) wrote.names in
    let above : c.args.names.now.next ≤ names.next = omega (arith, inv.next, inv.left) in
    record {
      entries = entries_step metadata names later c.loop-rest.entries c.push.new.self _ rest piece c.in-Ok.entry is (wrote.entry ∙ ap (λ (rows : List (List Value)). entry_at metadata names rows) same) wrote.names c.in_ok-push.ensures.ok inv.entries;
      files = files_step columns table names later rest piece (g.S.Store.files c.loop-rest.store)
          (g.S.Store.files c.write_piece.new.store) _ is wrote.names
          (wrote.files ∙ ap (λ (rows : List (List Value)). option_map (with_file (next_name table names) (rows_text columns rows))
          (g.S.Store.files c.loop-rest.store)) same) inv.files;
      short = short_step columns rest c.args.pieces.now piece is (subst (λ (rows : List (List Value)). length (rows_text columns rows) < 2 ^ 63) same wrote.short) inv.short;
      next = omega (arith, count, next, inv.next);
      left = omega (arith, count, inv.left);
      run = wrote.session.0 ∙ inv.run;
      session = wrote.session.1 ∙ inv.session;
      rows = (rows_step columns rest piece is inv.rows).1;
      free = wrote.free;
      others = others_then table c.args.names.now names (g.S.Store.files c.args.store.now) (g.S.Store.files c.loop-rest.store) (g.S.Store.files c.write_piece.new.store) inv.run inv.session above inv.others wrote.others;
      told = wrote.told ∙ inv.told;
      kept = λ name bytes there. wrote.kept name bytes (inv.kept name bytes there);
      faults = wrote.cause.kept ∙ inv.faults;
    }

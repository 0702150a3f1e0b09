use Rattle.std.proofs.Common.{◌≡◌, List, ap, ◌∙◌}
use Rattle.row_values.specs.declared.value.Value.{Value}
use Rattle.change_sets.specs.declared.scanned.Decision.{Decision}
use Rattle.change_sets.specs.Deciding.{copied_of, written_of}
use Rattle.cow_writer.specs.Pieces.{Pieces, and_rows, finished, pieces_of, seen}
use Rattle.cow_writer.proofs.PieceLaws.{cut_in_two, ok_with}
use Rattle.cow_writer.proofs.touched.written_pieces.Goals as goal

pub returns : goal.returns
returns c =
    let columns = c.args.schema.now.columns in
    let scanned = c.args.scanned.now in
    let decisions = c.args.decisions.now in
    let copied = seen c.add_copied.new.pieces in
    let all = seen c.add_inserted.new.pieces in
    let first = c.in_ok-add_copied.ensures ∙ ap (λ (ds : List Decision). and_rows columns (seen c.new-pieces.result) (copied_of scanned ds)) c.as_slice-decided.ensures ∙ ap (λ (p : Pieces). and_rows columns p (copied_of scanned decisions.rows)) c.new-pieces.ensures in
    let second = c.in_ok-add_inserted.ensures ∙ ap (λ (rows : List (List Value)). and_rows columns copied rows) c.as_slice.ensures in
    ok_with (λ pieces. pieces.items ≡ finished all) (λ pieces. pieces.items ≡ pieces_of columns (written_of scanned decisions)) c.finish.result
    (λ pieces h. h ∙ cut_in_two columns copied all (copied_of scanned decisions.rows) decisions.inserted first second) c.finish.ensures

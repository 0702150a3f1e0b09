use Rattle.std.proofs.Common.{◌≡◌, ◌∷◌, [], ◌++◌, List, length, sym, ap, ◌∙◌, append_assoc, append-nil, arith}
use Rattle.std.specs.Vec.Iter.{into_iter_items}
use Rattle.manifest_files.specs.declared.entry.Entry.{Entry}
use Rattle.table_state.specs.Gathering.{live_data, live_deletes}
use Rattle.table_state.proofs.GatheringLaws.{data_joined, deletes_joined, joined_more, nothing_left}
use Rattle.table_state.proofs.gathered.move_live.Goals as goal

pub loop-entry-preserved : goal.loop-entry-preserved
loop-entry-preserved c =
    let at = c.loop-entry in
    let x = c.in-Some.entry in
    let steps : into_iter_items at.entry-iterator ≡ x ∷ into_iter_items c.next.new.self = c.in-Some.ensures.steps.0 in (
      append_assoc at.yielded (x ∷ []) _ ∙ rw (← steps) at.invariant.0,
      joined_more live_data data_joined _ _ _ at.yielded x at.invariant.1 c.in_ok-place.ensures.data_files,
      joined_more live_deletes deletes_joined _ _ _ at.yielded x at.invariant.2 c.in_ok-place.ensures.deletes,
      let was = at.invariant.3 in
          let gone = c.in-Some.ensures.steps.1 in
          let short = ap length steps in
          omega arith,
    )

pub returns-clause-data_files : goal.returns-clause-data_files
returns-clause-data_files c =
    let at = c.loop-entry in
    let none = c.in-None.ensures.steps in
    let empty : into_iter_items at.entry-iterator ≡ [] = nothing_left _ (sym at.invariant.3 ∙ none.0) in
    let all = sym (append-nil at.yielded) ∙ rw empty at at.invariant.0 ∙ c.into_iter-entry-iterator.ensures.into_iter_gives.0 ∙ c.into_vec-entry-items.ensures in
    at.invariant.1 ∙ ap (λ (entries : List Entry). c.args.data_files.now.items ++ live_data entries) all

pub returns-clause-deletes : goal.returns-clause-deletes
returns-clause-deletes c =
    let at = c.loop-entry in
    let none = c.in-None.ensures.steps in
    let empty : into_iter_items at.entry-iterator ≡ [] = nothing_left _ (sym at.invariant.3 ∙ none.0) in
    let all = sym (append-nil at.yielded) ∙ rw empty at at.invariant.0 ∙ c.into_iter-entry-iterator.ensures.into_iter_gives.0 ∙ c.into_vec-entry-items.ensures in
    at.invariant.2 ∙ ap (λ (entries : List Entry). c.args.deletes.now.items ++ live_deletes entries) all

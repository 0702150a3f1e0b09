use Rattle.std.proofs.Common.{◌≡◌, ◌++◌, length}
use Rattle.std.specs.Vec.Iter.{into_iter_items, into_iter_len}
use Rattle.table_state.specs.Gathering.{live_data, live_deletes}
use Rattle.table_state.proofs.gathered.move_live.Given as goal

-- what was taken so far is moved
abbrev pub invariant-loop-entry : goal.invariant-loop-entry
invariant-loop-entry l = (l.yielded ++ into_iter_items l.entry-iterator ≡ into_iter_items l.initial.entry-iterator)
    × (l.data_files.items ≡ l.initial.data_files.items ++ live_data l.yielded)
    × (l.deletes.items ≡ l.initial.deletes.items ++ live_deletes l.yielded)
    × (into_iter_len l.entry-iterator ≡ length (into_iter_items l.entry-iterator))

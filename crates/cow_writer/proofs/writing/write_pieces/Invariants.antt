use Rattle.std.proofs.Common.{◌≡◌, ◌≤◌, ◌+◌, ◌++◌, length, is_some, option_map, true}
use Rattle.std.specs.List.{list_all}
use Rattle.std.specs.Option.{ForSome}
use Rattle.row_values.specs.Rows.{is_row}
use Rattle.store_core.specs.Files.{KeepsFiles}
use Rattle.table_names.specs.FileNames.{NoneFrom}
use Rattle.cow_writer.specs.Copies.{entries_from, files_from}
use Rattle.cow_writer.specs.PutNames.{PutsDataFiles}
use Rattle.cow_writer.specs.Reading.{AreShort}
use Rattle.cow_writer.proofs.writing.write_pieces.Given as goal

-- the files that are left, behind those that are written, give the same
abbrev pub invariant-loop-rest : goal.invariant-loop-rest
invariant-loop-rest g l = record {
  entries : l.entries ++ entries_from l.state.metadata l.names l.rest ≡ entries_from l.state.metadata l.initial.names l.pieces;
  files : option_map (λ files. files_from l.schema.columns l.state.table l.names files l.rest)
      (g.S.Store.files l.store) ≡ option_map (λ files. files_from l.schema.columns l.state.table l.initial.names files l.pieces)
      (g.S.Store.files l.initial.store);
  short : AreShort l.schema.columns l.rest → AreShort l.schema.columns l.pieces;
  next : l.names.next + length l.rest ≡ l.initial.names.next + length l.pieces;
  left : length l.rest ≤ length l.pieces;
  run : l.names.run ≡ l.initial.names.run;
  session : l.names.session ≡ l.initial.names.session;
  rows : list_all (list_all (is_row l.schema.columns)) l.rest ≡ true;
  free : ForSome (g.S.Store.files l.store) (NoneFrom l.state.table l.names.run l.names.session l.names.next);
  others : PutsDataFiles l.state.table l.initial.names (g.S.Store.files l.initial.store) (g.S.Store.files l.store);
  told : is_some (g.S.Store.files l.store) ≡ is_some (g.S.Store.files l.initial.store);
  kept : KeepsFiles (g.S.Store.files l.initial.store) (g.S.Store.files l.store);
  faults : g.S.Store.faults l.store ≡ g.S.Store.faults l.initial.store;
}

abbrev pub decreases-loop-rest : goal.decreases-loop-rest
decreases-loop-rest g l = length l.rest

use Rattle.std.proofs.Common.{◌≡◌, []}
use Rattle.serde_json.specs.View.{members_view}
use Rattle.table_metadata.specs.References.{refs_from}
use Rattle.table_metadata.proofs.references.read_members.Given as goal

-- the members that are left give the same refs, behind those that are read
abbrev pub invariant-loop-name : goal.invariant-loop-name
invariant-loop-name l = refs_from l.refs.items (members_view l.name-iterator) ≡ refs_from [] (members_view l.members.entries)

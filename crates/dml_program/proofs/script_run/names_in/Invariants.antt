use Rattle.std.proofs.Common.{◌≡◌, map, take}
use Rattle.dml_parser.specs.declared.script.SessionItem.{SessionItem}
use Rattle.dml_program.proofs.script_run.names_in.Given as goal

abbrev pub invariant-loop-session : goal.invariant-loop-session
invariant-loop-session l = l.names.items ≡ map (λ (item : SessionItem). item.name) (take l.session-index l.script.sessions)

-- How a part of a script is read: a value, mostly with the words after it, or the first fault.
use Rattle.std.specs.Prelude.{Result}
use Rattle.dml_parser.specs.declared.script.ScriptFault.{ScriptFault}

-- a value or the first fault, which is never want of memory
abbrev pub Parsed : Type 0 → Type 0
Parsed A = Result A ScriptFault

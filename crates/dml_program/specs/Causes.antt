-- What a status that says that something failed needs of the counts of faults.
use Rattle.std.specs.Prelude.{◌≡◌, ◌⊎◌, ◌≤◌, ◌<◌, ℕ, Option, None, Some}
use Rattle.std.specs.FinMap as map
use Rattle.std.specs.Option.{ForSome}
use Rattle.plain_types.specs.Causes.{Rose, RoseTwice}
use Rattle.store_core.specs.Files.{Files}
use Rattle.command_line.specs.Words.{Wanted, rows, create, run}
use Rattle.dml_program.specs.declared.status.Status.{Status}
use Rattle.dml_program.specs.declared.status.Status.TheVariants as status

-- A call of the store failed and no read settled it, or two did so.
abbrev pub HasStoreCause : Status → ℕ → ℕ → ℕ → Type 0
HasStoreCause status.StoreFailed before now unsettled = Rose before now × (0 < unsettled)
HasStoreCause (status.StateUnknown session number) before now unsettled = RoseTwice before now × (2 ≤ unsettled)
HasStoreCause other before now unsettled = Unit {0}

-- A read of the input failed, or the input is missing.
abbrev pub HasInputCause : Status → Option Files → ℕ → ℕ → Type 0
HasInputCause (status.InputFailed name) contents before now = Rose before now ⊎ ForSome contents (λ given. map.get given name ≡ None)
HasInputCause other contents before now = Unit {0}

-- Nothing of the store failed, or a read settled what did.
abbrev pub IsSettled : ℕ → ℕ → ℕ → Type 0
IsSettled before now unsettled = (now ≡ before) ⊎ (unsettled ≡ 0)

-- the same of a command that makes no version, or one
abbrev pub IsSettledBy : Option Wanted → ℕ → ℕ → ℕ → Type 0
IsSettledBy None before now unsettled = IsSettled before now unsettled
IsSettledBy (Some (rows table)) before now unsettled = IsSettled before now unsettled
IsSettledBy (Some (create table schema)) before now unsettled = IsSettled before now unsettled
IsSettledBy (Some (run table script)) before now unsettled = Unit {0}

-- a status of a command that stopped
abbrev pub IsStop : Status → Type 0
IsStop status.Done = ⊥
IsStop status.Refused = ⊥
IsStop status.Usage = ⊥
IsStop status.OutputFailed = ⊥
IsStop other = Unit {0}

-- a status of a schema file that is not in form
abbrev pub IsFormStop : Status → Type 0
IsFormStop (status.ScriptBad line reason) = Unit {0}
IsFormStop status.Memory = Unit {0}
IsFormStop other = ⊥

-- a status of a run that could not begin
abbrev pub IsUnbegun : Status → Type 0
IsUnbegun (status.ScriptBad line reason) = Unit {0}
IsUnbegun (status.TableBad kind path) = Unit {0}
IsUnbegun status.StoreFailed = Unit {0}
IsUnbegun (status.InputFailed name) = Unit {0}
IsUnbegun status.Memory = Unit {0}
IsUnbegun other = ⊥

-- What callers see of inputs in memory.
use Rattle.std.specs.Prelude.{ℕ, List, Option, Some}
use Rattle.store_core.specs.Files.{Files}
use Rattle.store_core.specs.Memory.{files_of}
use Rattle.store_core.specs.declared.memory_store.File.{File}
use Rattle.store_core.specs.declared.memory_inputs.MemoryInputs.{MemoryInputs}

abbrev pub input_files : MemoryInputs → List File
input_files inputs = inputs.files

abbrev pub told_inputs : MemoryInputs → Option Files
told_inputs inputs = Some (files_of inputs.files)

-- which of the coming reads fails, counted from 1; with 0 none does
abbrev pub reads_left : MemoryInputs → ℕ
reads_left inputs = inputs.fail_at

abbrev pub input_faults : MemoryInputs → ℕ
input_faults inputs = inputs.faults

-- What callers see of a sink in memory.
use Rattle.std.specs.Prelude.{ℕ, ◌-◌, List, vec_len}
use Rattle.store_core.specs.declared.memory_sink.MemorySink.{MemorySink}

abbrev pub sink_bytes : MemorySink → List ℕ
sink_bytes sink = sink.bytes.items

-- how many bytes more it can take
abbrev pub sink_room : MemorySink → ℕ
sink_room sink = sink.room - vec_len sink.bytes

abbrev pub sink_faults : MemorySink → ℕ
sink_faults sink = sink.faults

-- which of the coming calls fails, counted from 1; with 0 none does
abbrev pub calls_left : MemorySink → ℕ
calls_left sink = sink.fail_at

-- What ends over memory show: their bytes, their calls, and their memory.
use Rattle.std.specs.Prelude.{ℕ, List, Option, Some, drop, vec_capacity}
use Rattle.titan_wire.specs.declared.memory.Calls.{Calls}
use Rattle.titan_wire.specs.declared.memory.MemorySource.{MemorySource}
use Rattle.titan_wire.specs.declared.memory.MemorySink.{MemorySink}

-- the bytes that the source still gives
abbrev pub source_left : MemorySource → Option (List ℕ)
source_left source = Some (drop source.at source.bytes.items)

-- the calls that the source has had
abbrev pub source_calls : MemorySource → Calls
source_calls source = source.calls

-- the bytes that the sink took
abbrev pub sink_written : MemorySink → Option (List ℕ)
sink_written sink = Some sink.bytes.items

-- the calls that the sink has had
abbrev pub sink_calls : MemorySink → Calls
sink_calls sink = sink.calls

-- how many bytes the sink takes in all
abbrev pub sink_capacity : MemorySink → ℕ
sink_capacity sink = sink.capacity

-- for how many bytes the sink holds memory
abbrev pub sink_memory : MemorySink → ℕ
sink_memory sink = vec_capacity sink.bytes

-- What ends over memory that never fail show: their bytes, the room that is left, and their memory.
use Rattle.std.specs.Prelude.{ℕ, ◌-◌, List, Option, Some, drop, vec_len, vec_capacity}
use Rattle.titan_wire.specs.declared.steady.SteadySource.{SteadySource}
use Rattle.titan_wire.specs.declared.steady.SteadySink.{SteadySink}

-- the bytes that the source still gives
abbrev pub steady_left : SteadySource → Option (List ℕ)
steady_left source = Some (drop source.at source.bytes.items)

-- the bytes that the sink took
abbrev pub steady_written : SteadySink → Option (List ℕ)
steady_written sink = Some sink.bytes.items

-- how many bytes the sink still takes
abbrev pub steady_space : SteadySink → Option ℕ
steady_space sink = Some (sink.capacity - vec_len sink.bytes)

-- for how many bytes the sink holds memory
abbrev pub steady_memory : SteadySink → ℕ
steady_memory sink = vec_capacity sink.bytes

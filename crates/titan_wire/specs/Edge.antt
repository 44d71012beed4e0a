-- The reader and the writer under the ends over std.
use Rattle.std.specs.Prelude.{ℕ}
use Rattle.std.specs.declared.io.traits.Read.{Ghosts as ReadGhosts}
use Rattle.std.specs.declared.io.traits.Write.{Ghosts as WriteGhosts}
use Rattle.titan_wire.specs.declared.edge.ReaderSource.{ReaderSource}
use Rattle.titan_wire.specs.declared.edge.WriterSink.{WriterSink}

-- the reader, as the calls so far left it
abbrev pub reader_of : {R : Type 0} {ghosts : ReadGhosts R} → ReaderSource R ghosts → R
reader_of source = source.reader

-- the writer, as the calls so far left it
abbrev pub writer_of : {W : Type 0} {ghosts : WriteGhosts W} → WriterSink W ghosts → W
writer_of sink = sink.writer

-- how often the source has failed
abbrev pub reader_faults : {R : Type 0} {ghosts : ReadGhosts R} → ReaderSource R ghosts → ℕ
reader_faults source = source.faults

-- how often the sink has failed
abbrev pub writer_faults : {W : Type 0} {ghosts : WriteGhosts W} → WriterSink W ghosts → ℕ
writer_faults sink = sink.faults

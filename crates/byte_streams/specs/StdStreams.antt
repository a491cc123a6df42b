-- What a source over a reader and a sink over a writer hold.
use Rattle.std.specs.Prelude.{ℕ}
use Rattle.byte_streams.specs.declared.std_streams.StdSource.{StdSource}
use Rattle.byte_streams.specs.declared.std_streams.StdSink.{StdSink}

-- the reader
abbrev pub inner_reader : {R : Type 0} → StdSource R → R
inner_reader s = s.inner

-- how many of its reads failed
abbrev pub read_faults : {R : Type 0} → StdSource R → ℕ
read_faults s = s.faults

-- the writer
abbrev pub inner_writer : {W : Type 0} → StdSink W → W
inner_writer s = s.inner

-- how many of its writes failed
abbrev pub write_faults : {W : Type 0} → StdSink W → ℕ
write_faults s = s.faults

-- A source and a sink in memory, call by call.
use Rattle.std.specs.Prelude.{ℕ, ◌-◌, ◌==◌, Bool, ◌||◌, ◌&&◌, nat_lt, min, List, [], ◌++◌, length, take, drop, Result, Ok, Err, if◌then◌else◌}
use Rattle.std.specs.List.{list_any}
use Rattle.byte_streams.specs.Causes.{next}
use Rattle.byte_streams.specs.declared.streams.Failed.{Failed}

-- the bytes left, the most that a read gives, the numbers of the calls that fail, and how many calls and faults there were
pub record SourceState : Type 0 where
  pub left : List ℕ
  pub most : ℕ
  pub failing : List ℕ
  pub calls : ℕ
  pub faults : ℕ

-- the bytes taken, the room for them all, the numbers of the calls that fail, and how many calls and faults there were
pub record SinkState : Type 0 where
  pub taken : List ℕ
  pub room : ℕ
  pub failing : List ℕ
  pub calls : ℕ
  pub faults : ℕ

-- whether the call after so many is listed
abbrev pub is_listed : List ℕ → ℕ → Bool
is_listed failing calls = list_any (λ n. n == next calls) failing

-- a source before its first call
abbrev pub fresh_source : List ℕ → ℕ → List ℕ → SourceState
fresh_source bytes most failing = record { left = bytes; most = most; failing = failing; calls = 0; faults = 0 }

-- how many bytes a read gives a buffer of this length
abbrev pub read_count : SourceState → ℕ → ℕ
read_count s len = min s.most (min len (length s.left))

-- what a read answers
abbrev pub read_answer : SourceState → ℕ → Result ℕ Failed
read_answer s len = if is_listed s.failing s.calls then Err (record {}) else Ok (read_count s len)

-- the source after it
abbrev pub after_read : SourceState → ℕ → SourceState
after_read s len = if is_listed s.failing s.calls then record s { calls = next s.calls; faults = next s.faults } else record s { calls = next s.calls; left = drop (read_count s len) s.left }

-- a sink before its first call
abbrev pub fresh_sink : ℕ → List ℕ → SinkState
fresh_sink room failing = record { taken = []; room = room; failing = failing; calls = 0; faults = 0 }

-- how many bytes a write takes of a piece of this length
abbrev pub write_count : SinkState → ℕ → ℕ
write_count s len = min len (s.room - length s.taken)

-- whether a write fails: its call is listed, or the piece is not empty and no room is left
abbrev pub write_fails : SinkState → ℕ → Bool
write_fails s len = is_listed s.failing s.calls || nat_lt 0 len && (s.room - length s.taken == 0)

-- what a write answers
abbrev pub write_answer : SinkState → ℕ → Result ℕ Failed
write_answer s len = if write_fails s len then Err (record {}) else Ok (write_count s len)

-- the sink after it
abbrev pub after_write : SinkState → List ℕ → SinkState
after_write s piece = if write_fails s (length piece) then record s { calls = next s.calls; faults = next s.faults } else record s { calls = next s.calls; taken = s.taken ++ take (write_count s (length piece)) piece }

use Rattle.std.proofs.Common.{◌≡◌, ◌++◌, take}
use Rattle.std.specs.Prelude.{string_bytes}
use Rattle.trace_picture.specs.Escapes.{escaped}
use Rattle.trace_picture.proofs.svg.push_text.Given as goal

-- the bytes before the next one are written
abbrev pub invariant-loop-byte : goal.invariant-loop-byte
invariant-loop-byte l = string_bytes l.out ≡ string_bytes l.fn.out ++ escaped (take l.byte-index l.text)

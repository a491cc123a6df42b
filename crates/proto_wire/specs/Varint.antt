-- Numbers as varints: seven bits a byte, the low ones first, and the top bit on all bytes but the last.
use Rattle.std.specs.Prelude.{ℕ, zero, suc, ◌+◌, ◌-◌, ◌*◌, ◌/◌, ◌%◌, List, [], ◌∷◌, Result, Ok, Err, nat_lt, if◌then◌else◌}
use Rattle.proto_wire.specs.declared.field.WireFault.{WireFault}
use Rattle.proto_wire.specs.declared.field.WireFault.TheVariants.{Cut, LongVarint}
use Rattle.proto_wire.specs.Steps.{◌>>=◌}

-- the shortest varint of a number, of one byte and at most so many more
unfoldable pub groups : ℕ → ℕ → List ℕ
groups zero n = n ∷ []
groups (suc more) n = if nat_lt n 128 then n ∷ [] else (128 + n % 128) ∷ groups more (n / 128)

-- the shortest varint of a number of 64 bits, which are nine groups of seven and one bit
abbrev pub varint : ℕ → List ℕ
varint n = groups 9 n

-- The number that stands at the front, and of how many bytes its varint is: one and at most so many
-- more, of which the last possible one is 0 or 1. A fault carries the offset at.
unfoldable pub number_in : (at more : ℕ) → List ℕ → Result (ℕ × ℕ) WireFault
number_in at more [] = Err (Cut at)
number_in at zero (b ∷ bytes) = if nat_lt 1 b then Err (LongVarint at) else Ok (b, 1)
number_in at (suc more) (b ∷ bytes) = if nat_lt b 128 then Ok (b, 1) else (do
  high ← number_in at more bytes
  Ok (b - 128 + 128 * high.0, 1 + high.1))

abbrev pub varint_at : (at : ℕ) → List ℕ → Result (ℕ × ℕ) WireFault
varint_at at bytes = number_in at 9 bytes

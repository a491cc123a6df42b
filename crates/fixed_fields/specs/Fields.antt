-- The field at the front of bytes.
use Rattle.std.specs.Prelude.{◌≡◌, ℕ, List, length, take, drop, Option, Some, None, nat_lt, if◌then◌else◌}
use Rattle.std.specs.Int.{Width, byte_len, from_be_bytes, to_be_bytes}

-- a number of this width, the high byte first
unfoldable pub number_bytes : Width → ℕ → List ℕ
number_bytes w n = to_be_bytes w n

-- the number at the front of bytes, and the bytes behind it
unfoldable pub number_at : Width → List ℕ → Option (ℕ × List ℕ)
number_at w bytes =
    if nat_lt (length bytes) (byte_len w) then None
    else Some (from_be_bytes w (take (byte_len w) bytes), drop (byte_len w) bytes)

-- a block of so many bytes, and the bytes behind it
unfoldable pub block_at : ℕ → List ℕ → Option (List ℕ × List ℕ)
block_at n bytes = if nat_lt (length bytes) n then None else Some (take n bytes, drop n bytes)

-- a result, seen without where its bytes lie in memory, is what stands there
abbrev pub Gives : {X Y : Type 0} → (X → Y) → Option X → Option Y → Type 0
Gives view (Some x) found = found ≡ Some (view x)
Gives view None found = found ≡ None

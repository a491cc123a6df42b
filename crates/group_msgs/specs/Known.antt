-- The scalars of a known message: of each number the last one, and its default where none stands.
use Rattle.std.specs.Prelude.{ℕ, ◌%◌, ◌^◌, Bool, not, ◌==◌, List, [], map, get_or}
use Rattle.std.specs.List.{range_with_len}
use Rattle.proto_wire.specs.Fields.{Field}
use Rattle.proto_wire.specs.Reading.{u64_of, bytes_of}

-- by the field's number, the numbers of 64 bits and the bytes
pub record Known : Type 0 where
  pub varints : List ℕ
  pub blocks : List (List ℕ)

-- those that fields stand for: no varint of a known message has a number above 9, and no bytes one above 6
abbrev pub known_of : List Field → Known
known_of fs = record { varints = map (λ k. u64_of k fs) (range_with_len 0 10); blocks = map (λ k. bytes_of k fs) (range_with_len 0 7) }

-- the scalar of a number: of 64 bits, of the low 32 bits of one, true where it is not 0, and bytes
abbrev pub u64_at : ℕ → Known → ℕ
u64_at number x = get_or x.varints number 0

abbrev pub u32_at : ℕ → Known → ℕ
u32_at number x = u64_at number x % 2 ^ 32

abbrev pub bool_at : ℕ → Known → Bool
bool_at number x = not (u64_at number x == 0)

abbrev pub bytes_at : ℕ → Known → List ℕ
bytes_at number x = get_or x.blocks number []

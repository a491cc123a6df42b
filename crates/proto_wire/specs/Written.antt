-- Fields as they are written: shortest varints, and what has its default left out.
use Rattle.std.specs.Prelude.{ℕ, zero, suc, ◌+◌, ◌*◌, ◌≤◌, List, [], ◌∷◌, ◌++◌, length}
use Rattle.proto_wire.specs.Varint.{varint}
use Rattle.proto_wire.specs.Fields.{Varint, Block, Field}

-- the numbers that fields are written under
abbrev pub IsNumber : ℕ → Type 0
IsNumber number = (1 ≤ number) × (number ≤ 1000)

-- the tag of a field
abbrev pub tag : (number wire : ℕ) → List ℕ
tag number wire = varint (8 * number + wire)

-- an embedded message, which stands even where it is empty
abbrev pub message_field : ℕ → List ℕ → List ℕ
message_field number bytes = tag number 2 ++ varint (length bytes) ++ bytes

-- bytes, of which none are the default
abbrev pub block_field : ℕ → List ℕ → List ℕ
block_field number [] = []
block_field number (b ∷ bytes) = message_field number (b ∷ bytes)

-- a number, of which 0 is the default
abbrev pub varint_field : ℕ → ℕ → List ℕ
varint_field number zero = []
varint_field number (suc n) = tag number 0 ++ varint (suc n)

-- what is written at an offset, as it is read: a number, and bytes
abbrev pub varint_read : (at number n : ℕ) → Field
varint_read at number n = record { number = number; content = Varint n; at = at; content_at = at + length (tag number 0); next = at + length (tag number 0) + length (varint n) }

abbrev pub block_read : (at number : ℕ) → List ℕ → Field
block_read at number bytes = record { number = number; content = Block bytes; at = at; content_at = at + length (tag number 2) + length (varint (length bytes)); next = at + length (tag number 2) + length (varint (length bytes)) + length bytes }

-- none for the default
abbrev pub varints_read : (at number n : ℕ) → List Field
varints_read at number zero = []
varints_read at number (suc n) = varint_read at number (suc n) ∷ []

abbrev pub blocks_read : (at number : ℕ) → List ℕ → List Field
blocks_read at number [] = []
blocks_read at number (b ∷ bytes) = block_read at number (b ∷ bytes) ∷ []

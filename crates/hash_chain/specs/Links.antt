-- The bytes that the hash of a log's entry is taken of.
use Rattle.std.specs.Prelude.{◌≡◌, ℕ, ◌<◌, ◌^◌, List, ◌∷◌, ◌++◌, length}
use Rattle.byteorder.specs.Endian.{big_bytes}

-- the hash before the entry, its index and its term as 8 bytes each, its kind as one byte, and its body
abbrev pub link_bytes : List ℕ → ℕ → ℕ → ℕ → List ℕ → List ℕ
link_bytes prev index term kind body = prev ++ (big_bytes 8 index ++ (big_bytes 8 term ++ kind ∷ body))

-- the same as one value
pub record LinkInput : Type 0 where
  pub prev : List ℕ
  pub index : ℕ
  pub term : ℕ
  pub kind : ℕ
  pub body : List ℕ

abbrev pub bytes_of : LinkInput → List ℕ
bytes_of i = link_bytes i.prev i.index i.term i.kind i.body

-- the hash before has 32 bytes, index and term have 8 each
pub record IsLinkInput (i : LinkInput) : Type 0 where
  pub prev : length i.prev ≡ 32
  pub index : i.index < 2 ^ 64
  pub term : i.term < 2 ^ 64

-- different inputs have different bytes: so where two of them have one hash, SHA-256 has a collision
abbrev pub BytesTellInputs : Type 0
BytesTellInputs = (a b : LinkInput) → IsLinkInput a → IsLinkInput b → bytes_of a ≡ bytes_of b → a ≡ b

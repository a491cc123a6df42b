-- HMAC-SHA-256 as RFC 2104 has it, for keys of at most a block.
use Rattle.std.specs.Prelude.{ℕ, ◌-◌, List, ◌++◌, length, map, replicate, bit_xor}
use Rattle.sha2.specs.Sha256.{sha256}

-- the key with zero bytes up to 64, each byte changed by the pad's
abbrev pub padded_key : (pad : ℕ) → List ℕ → List ℕ
padded_key pad key = map (λ byte. bit_xor byte pad) (key ++ replicate (64 - length key) 0)

-- the same of any hash function
abbrev pub hmac_by : (List ℕ → List ℕ) → List ℕ → List ℕ → List ℕ
hmac_by hash key text = hash (padded_key 0x5c key ++ hash (padded_key 0x36 key ++ text))

abbrev pub hmac_of : (key text : List ℕ) → List ℕ
hmac_of key text = hmac_by sha256 key text

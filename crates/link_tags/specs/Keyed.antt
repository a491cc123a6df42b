-- Hashers that have taken in the two blocks of a key.
use Rattle.std.specs.Prelude.{List, ℕ}
use Rattle.sha2.specs.Hashers.{Holds256}
use Rattle.link_tags.specs.Hmac.{padded_key}
use Rattle.link_tags.specs.declared.keyed.Keyed.{Keyed}

pub record IsKeyed (keyed : Keyed) (key : List ℕ) : Type 0 where
  pub inner : Holds256 keyed.inner (padded_key 0x36 key)
  pub outer : Holds256 keyed.outer (padded_key 0x5c key)

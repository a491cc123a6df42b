-- Contents that answer one call after another.
use Rattle.std.specs.Prelude.{ℕ, List, []}
use Rattle.byte_streams.specs.Causes.{next}

-- the contents that were answered and those that are left, in their order, and how many faults there were
pub record Echo : Type 0 where
  pub given : List (List ℕ)
  pub left : List (List ℕ)
  pub faults : ℕ

-- before the first call
abbrev pub fresh : List (List ℕ) → Echo
fresh contents = record { given = []; left = contents; faults = 0 }

-- a call failed
abbrev pub failed_once : Echo → Echo
failed_once e = record e { faults = next e.faults }

-- The table of an empty path has one part.
use Rattle.std.proofs.Common.{◌≡◌, ℕ, [], ◌∷◌, length, refl}
use Rattle.replica_model.specs.Path.{Path}
use Rattle.replica_model.specs.Replica.{Named}
use Rattle.replica_model.specs.Tables.{rows_of, parts_of}

pub one_part : (n : Named) (path : Path) → n.path ≡ path → length path ≡ 0 → parts_of (rows_of n) ≡ 1
one_part n [] is empty = rw is refl
one_part n (e ∷ path) is empty = absurd cc

-- Numbers and hashes are the same as themselves.
use Rattle.std.proofs.Common.{◌≡◌, ℕ, ◌==◌, ◌&&◌, true, List, [], ◌∷◌, refl}
use Rattle.std.specs.Prelude.{bytes_eq}
use Rattle.std.proofs.lemmas.Bool.{eq-eqb}
use Rattle.values.specs.declared.entry.Hash.{Hash}
use Rattle.replica_model.specs.Path.{same_hash}

pub same_number : (n : ℕ) → (n == n) ≡ true
same_number n = eq-eqb n n refl

pub same_bytes : (bs : List ℕ) → bytes_eq bs bs ≡ true
same_bytes [] = refl
same_bytes (b ∷ bs) = λ i. same_number b i && same_bytes bs i

pub hash_same : (h : Hash) → same_hash h h ≡ true
hash_same h = same_bytes h.0

-- A number alone is a list of numbers in range.
use Rattle.std.proofs.Common.{ℕ, [], ◌∷◌, true, refl}
use Rattle.std.specs.Prelude.{IsTrue}
use Rattle.std.specs.List.{list_all}
use Rattle.std.proofs.lemmas.Bool.{and_from}
use Rattle.trace_model.specs.TraceLines.{is_u64}

pub one_number : (n : ℕ) → IsTrue (is_u64 n) → IsTrue (list_all is_u64 (n ∷ []))
one_number n h = and_from (is_u64 n) true h refl

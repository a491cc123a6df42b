-- Bytes, as a test and as hexadecimal has them.
use Rattle.std.proofs.Common.{ℕ, zero, suc, List, [], ◌∷◌, refl, arith}
use Rattle.std.specs.Prelude.{IsTrue}
use Rattle.std.specs.List.{list_all}
use Rattle.std.proofs.lemmas.Bool.{and_from, and_parts, lt-ltb, ltb-true}
use Rattle.hex.specs.Hex.{IsBytes}
use Rattle.trace_model.specs.TraceLines.{is_byte}

pub get_byte : (xs : List ℕ) → IsTrue (list_all is_byte xs) → IsBytes xs
get_byte [] h i = omega arith
get_byte (x ∷ xs) h zero = ltb-true x 256 (and_parts (is_byte x) (list_all is_byte xs) h).0
get_byte (x ∷ xs) h (suc i) = get_byte xs (and_parts (is_byte x) (list_all is_byte xs) h).1 i

pub all_bytes : (xs : List ℕ) → IsBytes xs → IsTrue (list_all is_byte xs)
all_bytes [] h = refl
all_bytes (x ∷ xs) h = and_from (is_byte x) (list_all is_byte xs) (lt-ltb x 256 (h 0)) (all_bytes xs (λ i. h (suc i)))

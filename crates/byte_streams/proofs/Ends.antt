-- When a read answers 0.
use Rattle.std.proofs.Common.{arith, ap, ◌∙◌, ◌≡◌, ◌<◌, ◌↔◌, ℕ, List, [], ◌++◌, length, take, Option, Some, None, Ok, length-append}
use Rattle.std.specs.Io.{ReadsAtMost}
use Rattle.std.specs.Io.KnownBytes.{ReadConsumes}

-- a read of told bytes into a buffer with room answers 0 exactly where none was left
pub zero_iff_none_left : (E : Type 0) (left : List ℕ) (now : Option (List ℕ)) (n : ℕ) (buf : List ℕ) → 0 < length buf
    → ReadsAtMost {E = E} (Ok n) buf → ReadConsumes {E = E} (Some left) now (Ok n) buf → (n ≡ 0) ↔ (left ≡ [])
zero_iff_none_left E left None n buf room bound (h, end) = absurd h
zero_iff_none_left E left (Some rest) n buf room bound (h, end) = (
  λ none. h ∙ ap (λ k. take k buf ++ rest) none ∙ end none room,
  λ none. omega (arith, bound.1, ap length h, ap length none, length-append (take n buf) rest),
)

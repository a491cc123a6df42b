-- What a read puts into a buffer, and what of it is played.
use Rattle.std.proofs.Common.{arith, sym, ap, ◌∙◌, ◌≡◌, ◌+◌, ◌≤◌, ◌<◌, min, ℕ, List, ◌++◌, length, take, drop, take-append-drop, length-append, append_assoc, inl, inr}
use Rattle.std.proofs.Math.Seq.{take-append_seam, take-append-add}
use Rattle.std.proofs.lemmas.Bool.{cases_lt}
use Rattle.std.proofs.lemmas.List.{length-take-le, take-take, take_all}
use Rattle.record_stream.specs.Ends.{limit}

-- a read fills the whole buffer, so nothing is left of what it held
pub whole_buffer : (new old : List ℕ) (n : ℕ) → length new ≡ n → take n (new ++ drop (length new) old) ≡ new
whole_buffer new old n e = ap (λ (k : ℕ). take k (new ++ drop (length new) old)) (sym e) ∙ take-append_seam new (drop (length new) old)

-- a piece begins with what is played of it
pub piece_parts : (buf : List ℕ) (count room : ℕ) → take (min count room) buf ++ drop (min count room) (take count buf) ≡ take count buf
piece_parts buf count room =
    ap (λ (l : List ℕ). l ++ drop (min count room) (take count buf)) (sym (take-take (min count room) count buf (omega arith))) ∙ take-append-drop (min count room) (take count buf)

-- which is all of it where there is room
pub piece_all : (buf : List ℕ) (count room : ℕ) → count ≤ room → take (min count room) buf ≡ take count buf
piece_all buf count room le = let same : min count room ≡ count = omega arith in ap (λ (n : ℕ). take n buf) same

-- a piece with more than there is room for passes the limit
pub piece_passes : (read buf : List ℕ) (count room : ℕ) → length read + room ≡ limit → room < count → count ≤ length buf
    → (limit < length (read ++ take count buf)) × (take limit (read ++ take count buf) ≡ read ++ take (min count room) buf)
piece_passes read buf count room full more bound =
    let size = length-append read (take count buf) in
    let taken = length-take-le count buf bound in
    let least : min count room ≡ room = omega arith in
    let first : take room (take count buf) ≡ take (min count room) buf = take-take room count buf (omega arith) ∙ ap (λ (n : ℕ). take n buf) (sym least) in (
      omega (arith, size, taken),
      ap (λ (n : ℕ). take n (read ++ take count buf)) (sym full) ∙ take-append-add read (take count buf) room ∙ ap (λ (l : List ℕ). read ++ l) first,
    )

-- what is played of all that was read
pub piece_limit : (read buf : List ℕ) (count room : ℕ) → length read + room ≡ limit → count ≤ length buf
    → take limit ((read ++ take (min count room) buf) ++ drop (min count room) (take count buf)) ≡ read ++ take (min count room) buf
piece_limit read buf count room full bound =
    same ∙ elim (cases_lt room count) [
      | inl more ↦ (piece_passes read buf count room full more bound).1
      | inr few ↦
          let all = piece_all buf count room few in
          let size = length-append read (take count buf) in
          let taken = length-take-le count buf bound in
          take_all limit (read ++ take count buf) (omega (arith, size, taken)) ∙ ap (λ (l : List ℕ). read ++ l) (sym all)
    ]
  where
    same : take limit ((read ++ take (min count room) buf) ++ drop (min count room) (take count buf)) ≡ take limit (read ++ take count buf)
    same = ap (take limit) (append_assoc read (take (min count room) buf) (drop (min count room) (take count buf)) ∙ ap (λ (l : List ℕ). read ++ l) (piece_parts buf count room))

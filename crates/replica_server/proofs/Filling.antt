-- A buffer of which one more part was filled.
use Rattle.std.proofs.Common.{◌≡◌, ℕ, ◌+◌, ◌-◌, ◌≤◌, List, ◌++◌, length, take, drop, sym, ap, subst, ◌∙◌, arith, length-append, length-drop}
use Rattle.std.proofs.lemmas.List.{take-take, length-take-le}
use Rattle.std.proofs.lemmas.Slice.{take-put_mid, drop-put_mid}
use Rattle.std.proofs.Math.Seq.{take-append-add}
use borrow.Rule.Slice.PartMut.{put_mid}

-- what was filled before, and the first bytes of the part
pub filled : (c k m : ℕ) (xs ys : List ℕ) → c ≤ length xs → m ≤ length ys → take (c + m) (put_mid c k xs ys) ≡ take c xs ++ take m ys
filled c k m xs ys within few =
    let long = length-take-le c xs within in
    sym (take-take (c + m) (c + length ys) (put_mid c k xs ys) (omega arith))
    ∙ (ap (take (c + m)) (take-put_mid c k xs ys (c + length ys) (omega arith) within)
    ∙ subst (λ n. take (n + m) (take c xs ++ ys) ≡ take c xs ++ take m ys) long (take-append-add (take c xs) ys m))

-- the buffer is as long as before
pub same_length : (c k : ℕ) (xs ys : List ℕ) → c + k ≡ length xs → length ys ≡ k → length (put_mid c k xs ys) ≡ length xs
same_length c k xs ys whole size =
    omega (arith, length-append (take c xs) (ys ++ drop k (drop c xs)), length-append ys (drop k (drop c xs)), length-take-le c xs (omega arith), length-drop k (drop c xs), length-drop c xs)

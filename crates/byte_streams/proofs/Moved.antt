-- What a read from memory moves.
use Rattle.std.proofs.Common.{arith, sym, ap, subst, ◌∙◌, ◌≡◌, ◌+◌, ◌≤◌, ℕ, List, [], ◌++◌, length, take, drop, take-append-drop}
use Rattle.std.proofs.Math.Seq.{take-append_seam}
use Rattle.std.proofs.lemmas.List.{drop-drop, drop_all}

-- the moved bytes, which a buffer begins with, and what is left are what there was
pub moved_front : (all moved rest : List ℕ) (at n : ℕ) → moved ≡ take n (drop at all) → length moved ≡ n
    → drop at all ≡ take n (moved ++ rest) ++ drop (at + n) all
moved_front all moved rest at n e len =
    let front : take n (moved ++ rest) ≡ moved = subst (λ (k : ℕ). take k (moved ++ rest) ≡ moved) len (take-append_seam moved rest) in
    sym (take-append-drop n (drop at all)) ∙ ap (λ (l : List ℕ). l ++ drop n (drop at all)) (sym (front ∙ e)) ∙ ap (λ (l : List ℕ). take n (moved ++ rest) ++ l) (drop-drop n at all)

-- nothing is moved only where nothing is left
pub at_end : (all : List ℕ) (at n : ℕ) → length all ≤ at → drop (at + n) all ≡ []
at_end all at n h = drop_all (at + n) all (omega arith)

-- Quorums of two configurations that differ by one voter, whatever their margins, share a voter.
use Rattle.std.proofs.Common.{◌≡◌, ℕ, ◌+◌, ◌≤◌, ◌==◌, Bool, true, false, cond, ◌&&◌, ◌||◌, inl, inr, List, [], ◌∷◌, length, bytes_eq, count_by, ap, arith}
use Rattle.std.proofs.lemmas.Bool.{and_parts, or_cases, eqb-true}
use Rattle.std.proofs.lemmas.List.Sums.{sum_by-cons}
use Rattle.group_quorum.specs.Conf.{Conf}
use Rattle.group_quorum.proofs.Sharing.{counts_overlap}
use Rattle.path_machine.specs.Changes.{Overlap, is_rising, is_one_more, is_single_change}
use Rattle.path_machine.proofs.Same.{bytes_same}

-- a test as a number
abbrev bit : Bool → ℕ
bit b = cond b 1 0

bit_le : (b : Bool) → bit b ≤ 1
bit_le true = omega arith
bit_le false = omega arith

-- one more voter counts at most one more
record OneMore (xs ys : List ℕ) : Type 0 where
  long : length ys ≡ length xs + 1
  counts : (f : ℕ → Bool) → count_by f ys ≤ count_by f xs + 1

put_first : (y : ℕ) (xs ys : List ℕ) → xs ≡ ys → OneMore xs (y ∷ ys)
put_first y xs ys same = record {
  long = let l : length xs ≡ length ys = ap length same in omega (arith, l);
  counts = λ f. let c : count_by f xs ≡ count_by f ys = ap (count_by f) same in omega (arith, c, sum_by-cons (λ v. bit (f v)) y ys, bit_le (f y));
}

one_more_counts : (xs ys : List ℕ) → is_one_more xs ys ≡ true → OneMore xs ys
one_more_counts [] [] h = cc
one_more_counts (x ∷ xs) [] h = cc
one_more_counts [] (y ∷ ys) h = put_first y [] ys (bytes_same [] ys h)
one_more_counts (x ∷ xs) (y ∷ ys) h = elim (or_cases ((x == y) && is_one_more xs ys) (bytes_eq (x ∷ xs) ys) h) [
  | inl both ↦
      let parts = and_parts (x == y) (is_one_more xs ys) both in
      let same : x ≡ y = eqb-true x y parts.0 in
      let rest = one_more_counts xs ys parts.1 in
      record {
        long = omega (arith, rest.long);
        counts = λ f. let b : bit (f x) ≡ bit (f y) = ap (λ z. bit (f z)) same in omega (arith, sum_by-cons (λ v. bit (f v)) x xs, sum_by-cons (λ v. bit (f v)) y ys, rest.counts f, b);
      }
  | inr here ↦ put_first y (x ∷ xs) ys (bytes_same (x ∷ xs) ys here)
]

pub single_change_overlaps : (c d : Conf) → is_single_change c d ≡ true → Overlap c d
single_change_overlaps c d near f g hf hg = elim (or_cases (bytes_eq c.voters d.voters) (is_one_more c.voters d.voters || is_one_more d.voters c.voters) (and_parts (is_rising d.voters) (bytes_eq c.voters d.voters || (is_one_more c.voters d.voters || is_one_more d.voters c.voters)) near).1) [
  | inl same ↦
      let is : c.voters ≡ d.voters = bytes_same c.voters d.voters same in
      let long : length c.voters ≡ length d.voters = ap length is in
      let count : count_by g c.voters ≡ count_by g d.voters = ap (count_by g) is in
      counts_overlap c.voters f g (omega (arith, hf, hg, long, count))
  | inr other ↦ elim (or_cases (is_one_more c.voters d.voters) (is_one_more d.voters c.voters) other) [
    | inl more ↦
        let m = one_more_counts c.voters d.voters more in
        counts_overlap c.voters f g (omega (arith, hf, hg, m.long, m.counts g))
    | inr less ↦
        let m = one_more_counts d.voters c.voters less in
        counts_overlap d.voters f g (omega (arith, hf, hg, m.long, m.counts f))
  ]
]

-- How many elements of a list pass a test.
use Rattle.std.proofs.Common.{◌≡◌, ℕ, ◌+◌, ◌<◌, ◌≤◌, Bool, true, false, cond, not, ◌&&◌, ◌||◌, ◌==◌, List, [], ◌∷◌, length, count_by, refl, sym, ap, ◌∙◌, arith}
use Rattle.std.proofs.lemmas.Bool.{eq-eqb}
use Rattle.std.proofs.lemmas.List.Sums.{sum_by-cons}
use Rattle.group_quorum.specs.Voters.{is_in}

-- a test as a number
abbrev pub bit : Bool → ℕ
bit b = cond b 1 0

pub count-cons : {X : Type 0} (f : X → Bool) (x : X) (xs : List X) → count_by f (x ∷ xs) ≡ bit (f x) + count_by f xs
count-cons f x xs = sum_by-cons (λ y. bit (f y)) x xs

both_bits : (a b : Bool) → bit a + bit b ≤ 1 + bit (a && b)
both_bits true true = omega arith
both_bits true false = omega arith
both_bits false true = omega arith
both_bits false false = omega arith

-- what two tests count, they count together where they overlap
pub count_both : (f g : ℕ → Bool) (xs : List ℕ) → count_by f xs + count_by g xs ≤ length xs + count_by (λ x. f x && g x) xs
count_both f g [] = omega arith
count_both f g (x ∷ xs) =
    omega (arith, count-cons f x xs, count-cons g x xs, count-cons (λ y. f y && g y) x xs, both_bits (f x) (g x), count_both f g xs)

split_bit : (a b : Bool) → bit a ≤ bit b + bit (a && not b)
split_bit true true = omega arith
split_bit true false = omega arith
split_bit false true = omega arith
split_bit false false = omega arith

-- what a test counts, another one counts too, or not
pub count_split : (f r : ℕ → Bool) (xs : List ℕ) → count_by f xs ≤ count_by r xs + count_by (λ x. f x && not (r x)) xs
count_split f r [] = omega arith
count_split f r (x ∷ xs) =
    omega (arith, count-cons f x xs, count-cons r x xs, count-cons (λ y. f y && not (r y)) x xs, split_bit (f x) (r x), count_split f r xs)

-- what stands in a list still does behind one more
later : (x : ℕ) (xs : List ℕ) (y : ℕ) → is_in xs y ≡ true → is_in (x ∷ xs) y ≡ true
later x xs y e = ap (λ b. (x == y) || b) e ∙ or_true (x == y)
  where
    or_true : (a : Bool) → (a || true) ≡ true
    or_true true = refl
    or_true false = refl

first : (x : ℕ) (xs : List ℕ) → is_in (x ∷ xs) x ≡ true
first x xs = ap (λ b. b || is_in xs x) (eq-eqb x x refl)

-- what counts something holds of some element
pub counted : (f : ℕ → Bool) (xs : List ℕ) → 0 < count_by f xs → (x : ℕ) × (is_in xs x ≡ true) × (f x ≡ true)
counted f [] h = absurd (omega arith)
counted f (x ∷ xs) h = counted_at f x xs (f x) refl h (counted f xs)
  where
    counted_at : (f : ℕ → Bool) (x : ℕ) (xs : List ℕ) (b : Bool) → f x ≡ b → 0 < count_by f (x ∷ xs)
        → (0 < count_by f xs → (y : ℕ) × (is_in xs y ≡ true) × (f y ≡ true)) → (y : ℕ) × (is_in (x ∷ xs) y ≡ true) × (f y ≡ true)
    counted_at f x xs true e h rest = (x, first x xs, e)
    counted_at f x xs false e h rest =
        let found = rest (let k : bit (f x) ≡ 0 = rw e refl in omega (arith, count-cons f x xs)) in
        (found.0, later x xs found.0 found.1, found.2)

-- tests that agree on a list count as many of it
pub count_alike : (f g : ℕ → Bool) (xs : List ℕ) → ((x : ℕ) → is_in xs x ≡ true → f x ≡ g x) → count_by f xs ≡ count_by g xs
count_alike f g [] same = refl
count_alike f g (x ∷ xs) same =
    count-cons f x xs
    ∙ ap (λ b. bit b + count_by f xs) (same x (first x xs))
    ∙ ap (λ n. bit (g x) + n) (count_alike f g xs (λ y e. same y (later x xs y e)))
    ∙ sym (count-cons g x xs)

more_bit : (a b : Bool) → (a ≡ true → b ≡ true) → bit a ≤ bit b
more_bit true true h = omega arith
more_bit true false h = absurd (let never : false ≡ true = h refl in cc)
more_bit false true h = omega arith
more_bit false false h = omega arith

-- a test that passes wherever another one does counts as many
pub count_more : (f g : ℕ → Bool) (xs : List ℕ) → ((x : ℕ) → f x ≡ true → g x ≡ true) → count_by f xs ≤ count_by g xs
count_more f g [] more = omega arith
count_more f g (x ∷ xs) more = omega (arith, count-cons f x xs, count-cons g x xs, more_bit (f x) (g x) (more x), count_more f g xs more)

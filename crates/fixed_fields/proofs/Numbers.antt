-- Lists of numbers.
use Rattle.std.proofs.Common.{◌≡◌, ℕ, suc, ◌*◌, ◌<◌, Bool, true, false, cond, eqb, ltb, List, [], ◌∷◌, ◌++◌, length, take, drop, Option, Some, None, refl, sym, ap, subst, ◌∙◌, arith}
use Rattle.std.specs.List.{flat_map}
use Rattle.std.specs.Int.{w8, w32, from_be_bytes}
use Rattle.std.proofs.lemmas.Bool.{ltb-true, eqb-true, eq-eqb, ne_eqb}
use Rattle.std.proofs.lemmas.List.Concat.{flat_map-cons}
use Rattle.byteorder.specs.Endian.{big_number, IsRead}
use Rattle.fixed_fields.specs.Fields.{number_bytes, number_at}
use Rattle.fixed_fields.specs.Formats.{◌>>=◌, number, numbers_in, numbers, if_count, counted, before, IsBytes, IsContent, IsOfWidth, AreWords, AreFewWords}
use Rattle.fixed_fields.proofs.Bytes.{IsBytes-take, wide8, wide32}
use Rattle.fixed_fields.proofs.Laws.{bind_some, some_is, number_is, before_is}

-- a number in front of numbers
numbers_in-number : (n : ℕ) (behind : List ℕ) → IsOfWidth w32 n → numbers_in (number_bytes w32 n ++ behind) ≡ (numbers_in behind >>= λ ns. Some (n ∷ ns))
unfolding numbers_in number_bytes
numbers_in-number n behind lt = ap (λ (m : ℕ). numbers_in behind >>= λ ns. Some (m ∷ ns)) (wide32.again n lt)

pub numbers_in-step : (bytes behind : List ℕ) (n : ℕ) → IsBytes bytes → number_at w32 bytes ≡ Some (n, behind) → numbers_in bytes ≡ (numbers_in behind >>= λ ns. Some (n ∷ ns))
numbers_in-step bytes behind n fits e =
    let t = (number_is w32 wide32).taken bytes n behind fits e in
    ap numbers_in t.0 ∙ numbers_in-number n behind t.1

-- fewer than four bytes are no number
few : (bytes : List ℕ) → length bytes < 4 → 0 < length bytes → numbers_in bytes ≡ None
unfolding numbers_in
few [] lt some = absurd (omega arith)
few (a ∷ []) lt some = refl
few (a ∷ b ∷ []) lt some = refl
few (a ∷ b ∷ c ∷ []) lt some = refl
few (a ∷ b ∷ c ∷ d ∷ bytes) lt some = absurd (omega arith)

short_if : (b : Bool) (p : ℕ × List ℕ) → cond b None (Some p) ≡ None → b ≡ true
short_if true p e = refl
short_if false p e = absurd cc

pub numbers_in-end : (bytes : List ℕ) → number_at w32 bytes ≡ None → 0 < length bytes → numbers_in bytes ≡ None
unfolding number_at
numbers_in-end bytes e some =
    let short = short_if (ltb (length bytes) 4) (from_be_bytes w32 (take 4 bytes), drop 4 bytes) e in
    few bytes (ltb-true _ _ short) some

pub numbers_in-nil : numbers_in [] ≡ Some []
unfolding numbers_in
numbers_in-nil = refl

word_fits : (a b c d : ℕ) (bytes : List ℕ) → IsBytes (a ∷ b ∷ c ∷ d ∷ bytes) → IsBytes (a ∷ b ∷ c ∷ d ∷ [])
word_fits a b c d bytes fits = IsBytes-take 4 (a ∷ b ∷ c ∷ d ∷ bytes) fits

words_taken : (bytes ns : List ℕ) → IsBytes bytes → numbers_in bytes ≡ Some ns → (bytes ≡ flat_map (number_bytes w32) ns) × AreWords ns
unfolding numbers_in number_bytes
words_taken [] ns fits e = subst (λ (ms : List ℕ). ([] ≡ flat_map (number_bytes w32) ms) × AreWords ms) (some_is [] ns e) (refl, tt)
words_taken (a ∷ []) ns fits e = absurd cc
words_taken (a ∷ b ∷ []) ns fits e = absurd cc
words_taken (a ∷ b ∷ c ∷ []) ns fits e = absurd cc
words_taken (a ∷ b ∷ c ∷ d ∷ bytes) ns fits e =
    let four = a ∷ b ∷ c ∷ d ∷ [] in
    let n = from_be_bytes w32 four in
    let fits4 : IsBytes four = word_fits a b c d bytes fits in
    let g = bind_some (numbers_in bytes) (λ ms. Some (n ∷ ms)) ns e in
    let more = words_taken bytes g.value (λ i. fits (suc (suc (suc (suc i))))) g.first in
    let spelled : number_bytes w32 n ≡ four = wide32.back four refl fits4 in
    let whole : four ++ bytes ≡ flat_map (number_bytes w32) (n ∷ g.value) =
    ap (λ (t : List ℕ). t ++ bytes) (sym spelled) ∙ ap (λ (t : List ℕ). number_bytes w32 n ++ t) more.0 ∙ sym (flat_map-cons (number_bytes w32) n g.value) in
    subst (λ (ms : List ℕ). (four ++ bytes ≡ flat_map (number_bytes w32) ms) × AreWords ms) (some_is (n ∷ g.value) ns g.then) (whole, (wide32.below four fits4, more.1))

pub numbers_is : IsContent numbers AreWords
numbers_is = record { again = again; taken = words_taken }
  where
    again : (ns : List ℕ) → AreWords ns → numbers_in (flat_map (number_bytes w32) ns) ≡ Some ns
    again [] fits = numbers_in-nil
    again (n ∷ ns) fits =
        ap numbers_in (flat_map-cons (number_bytes w32) n ns) ∙ numbers_in-number n (flat_map (number_bytes w32) ns) fits.0
        ∙ ap (λ (o : Option (List ℕ)). o >>= λ ms. Some (n ∷ ms)) (again ns fits.1)

-- a test that kept what was given
pub kept_some : {A : Type 0} (b : Bool) (x y : A) → cond b (Some x) None ≡ Some y → (b ≡ true) × (x ≡ y)
kept_some true x y e = (refl, cc)
kept_some false x y e = absurd cc

pub counted_is : IsContent counted AreFewWords
counted_is = record { again = again; taken = taken }
  where
    both : IsContent (before (number w8) numbers) (λ p. IsOfWidth w8 p.0 × AreWords p.1)
    both = before_is (number w8) numbers (IsOfWidth w8) AreWords (number_is w8 wide8) numbers_is

    again : (ns : List ℕ) → AreFewWords ns → ((before (number w8) numbers).read (number_bytes w8 (length ns) ++ flat_map (number_bytes w32) ns) >>= if_count) ≡ Some ns
    again ns fits = ap (λ (o : Option (ℕ × List ℕ)). o >>= if_count) (both.again (length ns, ns) fits) ∙ rw (eq-eqb (length ns) (length ns) refl) refl

    taken : (bytes ns : List ℕ) → IsBytes bytes → ((before (number w8) numbers).read bytes >>= if_count) ≡ Some ns → (bytes ≡ number_bytes w8 (length ns) ++ flat_map (number_bytes w32) ns) × AreFewWords ns
    taken bytes ns fits e =
        let g = bind_some ((before (number w8) numbers).read bytes) if_count ns e in
        let p = g.value in
        let k = kept_some (eqb (length p.1) p.0) p.1 ns g.then in
        let t = both.taken bytes p fits g.first in
        let long : p.0 ≡ length p.1 = sym (eqb-true (length p.1) p.0 k.0) in
        let few : AreFewWords p.1 = (subst (IsOfWidth w8) long t.1.0, t.1.1) in
        let whole : bytes ≡ number_bytes w8 (length p.1) ++ flat_map (number_bytes w32) p.1 = t.0 ∙ ap (λ (n : ℕ). number_bytes w8 n ++ flat_map (number_bytes w32) p.1) long in
        subst (λ (ms : List ℕ). (bytes ≡ number_bytes w8 (length ms) ++ flat_map (number_bytes w32) ms) × AreFewWords ms) k.1 (whole, few)

-- those behind the first one
read_on : (a b c d n : ℕ) (bytes ns : List ℕ) → IsRead big_number 4 (a ∷ b ∷ c ∷ d ∷ bytes) (n ∷ ns) → IsRead big_number 4 bytes ns
read_on a b c d n bytes ns h k lt =
    let next : 4 * suc k ≡ suc (suc (suc (suc (4 * k)))) = omega arith in
    let moved : drop (4 * suc k) (a ∷ b ∷ c ∷ d ∷ bytes) ≡ drop (4 * k) bytes = rw next refl in
    h (suc k) (omega arith) ∙ ap (big_number 4) moved

-- numbers that were read one by one
pub numbers_in-read : (bytes ns : List ℕ) → length bytes ≡ 4 * length ns → IsRead big_number 4 bytes ns → numbers_in bytes ≡ Some ns
unfolding numbers_in
numbers_in-read [] [] long h = refl
numbers_in-read [] (n ∷ ns) long h = absurd (omega (arith, long))
numbers_in-read (a ∷ []) ns long h = absurd (omega (arith, long))
numbers_in-read (a ∷ b ∷ []) ns long h = absurd (omega (arith, long))
numbers_in-read (a ∷ b ∷ c ∷ []) ns long h = absurd (omega (arith, long))
numbers_in-read (a ∷ b ∷ c ∷ d ∷ bytes) [] long h = absurd (omega (arith, long))
numbers_in-read (a ∷ b ∷ c ∷ d ∷ bytes) (n ∷ ns) long h =
    let first : n ≡ from_be_bytes w32 (a ∷ b ∷ c ∷ d ∷ []) = omega (arith, h 0 (omega arith)) in
    let more : numbers_in bytes ≡ Some ns = numbers_in-read bytes ns (omega (arith, long)) (read_on a b c d n bytes ns h) in
    rw (more, ← first) refl

-- each has four bytes
pub length-numbers_in : (bytes ns : List ℕ) → numbers_in bytes ≡ Some ns → length bytes ≡ 4 * length ns
unfolding numbers_in
length-numbers_in [] ns e = let none : length ns ≡ 0 = sym (ap length (some_is [] ns e)) in omega (arith, none)
length-numbers_in (a ∷ []) ns e = absurd cc
length-numbers_in (a ∷ b ∷ []) ns e = absurd cc
length-numbers_in (a ∷ b ∷ c ∷ []) ns e = absurd cc
length-numbers_in (a ∷ b ∷ c ∷ d ∷ bytes) ns e =
    let n = from_be_bytes w32 (a ∷ b ∷ c ∷ d ∷ []) in
    let g = bind_some (numbers_in bytes) (λ ms. Some (n ∷ ms)) ns e in
    let more = length-numbers_in bytes g.value g.first in
    let long : suc (length g.value) ≡ length ns = ap length (some_is (n ∷ g.value) ns g.then) in
    omega (arith, more, long)

-- where a count and the bytes behind it do not agree
pub counted-short : (bytes behind : List ℕ) (count : ℕ) → number_at w8 bytes ≡ Some (count, behind) → (length behind ≡ 4 * count → ⊥) → counted.read bytes ≡ None
counted-short bytes behind count e apart = ap (λ (o : Option (ℕ × List ℕ)). (o >>= λ x. numbers_in x.1 >>= λ y. Some (x.0, y)) >>= if_count) e ∙ of_numbers (numbers_in behind) refl
  where
    of_numbers : (o : Option (List ℕ)) → numbers_in behind ≡ o → ((o >>= λ y. Some (count, y)) >>= if_count) ≡ None
    of_numbers None is = refl
    of_numbers (Some ns) is =
        let other : eqb (length ns) count ≡ false = ne_eqb (length ns) count (λ same. apart (omega (arith, length-numbers_in behind ns is, same))) in
        rw other refl

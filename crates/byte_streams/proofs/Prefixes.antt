-- Known bytes that grew by a text, or by some first bytes of it.
use Rattle.std.proofs.Common.{arith, sym, subst, ◌≡◌, ◌+◌, ℕ, List, ◌++◌, length, take, drop, Option, length-append, take-append-drop}
use Rattle.std.proofs.lemmas.List.{take-append-le, take_all}
use Rattle.std.proofs.Math.Seq.{take-append-add, take-add}
use Rattle.std.specs.Io.KnownBytes.{Appends, Keeps}
use Rattle.std.proofs.KnownBytes.{Appends-nil, Appends-trans, Appends-kept}
use Rattle.byte_streams.specs.Streams.{AppendsPrefix}

-- nothing gained is a prefix of any text
pub AppendsPrefix-none : (a : Option (List ℕ)) (text : List ℕ) → AppendsPrefix a a text
AppendsPrefix-none a text = (0, omega arith, Appends-nil a)

-- the whole text is one
pub AppendsPrefix-whole : (a b : Option (List ℕ)) (text : List ℕ) → Appends a b text → AppendsPrefix a b text
AppendsPrefix-whole a b text h = (length text, omega arith, subst (Appends a b) (sym (take_all (length text) text (omega arith))) h)

-- a prefix of a text is one of a longer text
pub AppendsPrefix-more : (a b : Option (List ℕ)) (text more : List ℕ) → AppendsPrefix a b text → AppendsPrefix a b (text ++ more)
AppendsPrefix-more a b text more (n, bound, h) = (n, omega (arith, length-append text more), subst (Appends a b) (sym (take-append-le n text more bound)) h)

-- a text, and then a prefix of another
pub AppendsPrefix-after : (a b c : Option (List ℕ)) (text more : List ℕ) → Appends a b text → AppendsPrefix b c more → AppendsPrefix a c (text ++ more)
AppendsPrefix-after a b c text more h (n, bound, k) =
    (length text + n, omega (arith, length-append text more), subst (Appends a c) (sym (take-append-add text more n)) (Appends-trans a b c text (take n more) h k))

-- a prefix, and then nothing
pub AppendsPrefix-kept : (a b c : Option (List ℕ)) (text : List ℕ) → AppendsPrefix a b text → Keeps b c → AppendsPrefix a c text
AppendsPrefix-kept a b c text (n, bound, h) k = (n, bound, Appends-kept a b c (take n text) h k)

-- what was gained, and the rest of the text
pub AppendsPrefix-parts : (a b : Option (List ℕ)) (text : List ℕ) → AppendsPrefix a b text → (gained rest : List ℕ) × (text ≡ gained ++ rest) × Appends a b gained
AppendsPrefix-parts a b text (n, bound, h) = (take n text, drop n text, sym (take-append-drop n text), h)

-- the other way round
pub AppendsPrefix-of_parts : (a b : Option (List ℕ)) (text gained rest : List ℕ) → text ≡ gained ++ rest → Appends a b gained → AppendsPrefix a b text
AppendsPrefix-of_parts a b text gained rest e h =
    subst (AppendsPrefix a b) (sym e) (AppendsPrefix-more a b gained rest (AppendsPrefix-whole a b gained h))

-- the first bytes of all, and then the next ones
pub Appends-piece : (a b c : Option (List ℕ)) (all : List ℕ) (i n : ℕ) → Appends a b (take i all) → Appends b c (take n (drop i all)) → Appends a c (take (i + n) all)
Appends-piece a b c all i n p q = subst (Appends a c) (sym (take-add i n all)) (Appends-trans a b c _ _ p q)

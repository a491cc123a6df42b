-- What one more field changes in the scalars of a message.
use Rattle.std.proofs.Common.{◌≡◌, ◌≢◌, ℕ, ◌<◌, ◌≤◌, Bool, true, false, cond, eqb, List, [], ◌∷◌, ◌++◌, length, set, map, Option, None, Some, refl, sym, ap, ◌∙◌, inl, inr, arith}
use Rattle.std.specs.Prelude.{unwrap_or}
use Rattle.std.specs.List.{range_with_len}
use Rattle.std.proofs.lemmas.Bool.{cases_eq, cond-true, cond-false, eq-eqb, ne_eqb}
use Rattle.std.proofs.lemmas.List.{length-set, get_or-set_other}
use Rattle.std.proofs.lemmas.Grind.{get_or-set_at}
use Rattle.std.proofs.lemmas.List.FromFn.{fill_by_all, length-map-range_with_len, get_or-map-range_with_len}
use Rattle.proto_wire.specs.Fields.{Varint, Block, Field}
use Rattle.proto_wire.specs.Reading.{varint_in, block_in, varint_under, block_under, u64_of, bytes_of}
use Rattle.proto_wire.proofs.ReadingLemmas.{u64_of-push, bytes_of-push}
use Rattle.group_msgs.specs.Known.{Known, known_of}

-- a list of a function's values where one changes, and where none does
set_in_map : {X : Type 0} (g h : ℕ → X) (m n : ℕ) (x d : X) → n < m → h n ≡ x → ((k : ℕ) → k ≢ n → h k ≡ g k) → set (map g (range_with_len 0 m)) n x ≡ map h (range_with_len 0 m)
set_in_map g h m n x d lt here others =
    let old = map g (range_with_len 0 m) in
    let long : length old ≡ m = length-map-range_with_len g 0 m in
    fill_by_all h (set old n x) m d (length-set old n x ∙ long) (λ k within.
    elim (cases_eq k n) [
      | inl same ↦ get_or-set_at old n k x d same (omega (arith, long)) ∙ sym here ∙ ap h (sym same)
      | inr other ↦ get_or-set_other old n k x d other ∙ get_or-map-range_with_len g 0 m k k d within (omega arith) ∙ sym (others k other)
    ])

same_map : {X : Type 0} (g h : ℕ → X) (m : ℕ) (d : X) → ((k : ℕ) → k < m → h k ≡ g k) → map g (range_with_len 0 m) ≡ map h (range_with_len 0 m)
same_map g h m d same = fill_by_all h (map g (range_with_len 0 m)) m d (length-map-range_with_len g 0 m) (λ k within. get_or-map-range_with_len g 0 m k k d within (omega arith) ∙ sym (same k within))

-- what stands under a number
under_here : {X : Type 0} (o : Option X) (number k : ℕ) (x d : X) → o ≡ Some x → number ≡ k → unwrap_or (cond (eqb number k) o None) d ≡ x
under_here o number k x d is here = ap (λ (p : Option _). unwrap_or p d) (cond-true (eqb number k) o None (eq-eqb number k here) ∙ is)

under_other : {X : Type 0} (o : Option X) (number k : ℕ) (d : X) → number ≢ k → unwrap_or (cond (eqb number k) o None) d ≡ d
under_other o number k d other = ap (λ (p : Option _). unwrap_or p d) (cond-false (eqb number k) o None (ne_eqb number k other))

pub under_none : {X : Type 0} (b : Bool) (o : Option X) (d : X) → o ≡ None → unwrap_or (cond b o None) d ≡ d
under_none true o d is = ap (λ (p : Option _). unwrap_or p d) is
under_none false o d is = refl

both_same : (x y : Known) → x.varints ≡ y.varints → x.blocks ≡ y.blocks → x ≡ y
both_same x y p q = ap (λ (vs : List ℕ). record { varints = vs; blocks = x.blocks }) p ∙ ap (λ (bs : List (List ℕ)). record { varints = y.varints; blocks = bs }) q

varints_same : (fs : List Field) (f : Field) → ((k : ℕ) → k < 10 → unwrap_or (varint_under k f) (u64_of k fs) ≡ u64_of k fs) → (known_of fs).varints ≡ (known_of (fs ++ f ∷ [])).varints
varints_same fs f same = same_map (λ k. u64_of k fs) (λ k. u64_of k (fs ++ f ∷ [])) 10 0 (λ k within. u64_of-push k fs f ∙ same k within)

blocks_same : (fs : List Field) (f : Field) → ((k : ℕ) → k < 7 → unwrap_or (block_under k f) (bytes_of k fs) ≡ bytes_of k fs) → (known_of fs).blocks ≡ (known_of (fs ++ f ∷ [])).blocks
blocks_same fs f same = same_map (λ k. bytes_of k fs) (λ k. bytes_of k (fs ++ f ∷ [])) 7 [] (λ k within. bytes_of-push k fs f ∙ same k within)

pub known-varint : (x : Known) (fs : List Field) (f : Field) (n : ℕ) → f.content ≡ Varint n → f.number < 10 → x ≡ known_of fs → record { varints = set x.varints f.number n; blocks = x.blocks } ≡ known_of (fs ++ f ∷ [])
known-varint x fs f n is low holds =
    ap (λ (y : Known). record { varints = set y.varints f.number n; blocks = y.blocks }) holds
    ∙ both_same _ (known_of (fs ++ f ∷ []))
    (set_in_map (λ k. u64_of k fs) (λ k. u64_of k (fs ++ f ∷ [])) 10 f.number n 0 low (u64_of-push f.number fs f ∙ under_here (varint_in f.content) f.number f.number n (u64_of f.number fs) (ap varint_in is) refl)
    (λ k other. u64_of-push k fs f ∙ under_other (varint_in f.content) f.number k (u64_of k fs) (λ e. other (sym e))))
    (blocks_same fs f (λ k within. under_none (eqb f.number k) (block_in f.content) (bytes_of k fs) (ap block_in is)))

pub known-block : (x : Known) (fs : List Field) (f : Field) (block : List ℕ) → f.content ≡ Block block → f.number < 7 → x ≡ known_of fs → record { varints = x.varints; blocks = set x.blocks f.number block } ≡ known_of (fs ++ f ∷ [])
known-block x fs f block is low holds =
    ap (λ (y : Known). record { varints = y.varints; blocks = set y.blocks f.number block }) holds
    ∙ both_same _ (known_of (fs ++ f ∷ [])) (varints_same fs f (λ k within. under_none (eqb f.number k) (varint_in f.content) (u64_of k fs) (ap varint_in is)))
    (set_in_map (λ k. bytes_of k fs) (λ k. bytes_of k (fs ++ f ∷ [])) 7 f.number block [] low (bytes_of-push f.number fs f ∙ under_here (block_in f.content) f.number f.number block (bytes_of f.number fs) (ap block_in is) refl)
    (λ k other. bytes_of-push k fs f ∙ under_other (block_in f.content) f.number k (bytes_of k fs) (λ e. other (sym e))))

-- a field that no known message has
pub known-high_varint : (x : Known) (fs : List Field) (f : Field) (n : ℕ) → f.content ≡ Varint n → 10 ≤ f.number → x ≡ known_of fs → x ≡ known_of (fs ++ f ∷ [])
known-high_varint x fs f n is high holds =
    holds ∙ both_same (known_of fs) (known_of (fs ++ f ∷ [])) (varints_same fs f (λ k within. under_other (varint_in f.content) f.number k (u64_of k fs) (λ e. omega (arith, e))))
    (blocks_same fs f (λ k within. under_none (eqb f.number k) (block_in f.content) (bytes_of k fs) (ap block_in is)))

pub known-high_block : (x : Known) (fs : List Field) (f : Field) (block : List ℕ) → f.content ≡ Block block → 7 ≤ f.number → x ≡ known_of fs → x ≡ known_of (fs ++ f ∷ [])
known-high_block x fs f block is high holds =
    holds ∙ both_same (known_of fs) (known_of (fs ++ f ∷ [])) (varints_same fs f (λ k within. under_none (eqb f.number k) (varint_in f.content) (u64_of k fs) (ap varint_in is)))
    (blocks_same fs f (λ k within. under_other (block_in f.content) f.number k (bytes_of k fs) (λ e. omega (arith, e))))

pub known-other : (x : Known) (fs : List Field) (f : Field) → varint_in f.content ≡ None → block_in f.content ≡ None → x ≡ known_of fs → x ≡ known_of (fs ++ f ∷ [])
known-other x fs f no_varint no_block holds =
    holds ∙ both_same (known_of fs) (known_of (fs ++ f ∷ [])) (varints_same fs f (λ k within. under_none (eqb f.number k) (varint_in f.content) (u64_of k fs) no_varint))
    (blocks_same fs f (λ k within. under_none (eqb f.number k) (block_in f.content) (bytes_of k fs) no_block))

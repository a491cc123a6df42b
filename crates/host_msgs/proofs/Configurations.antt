-- Which voters are those of a configuration.
use Rattle.std.proofs.Common.{◌≡◌, ℕ, zero, suc, ◌+◌, get_or, ◌<◌, ◌≤◌, Bool, true, false, cond, ltb, List, [], ◌∷◌, length, Option, Some, None, Result, Ok, Err, refl, sym, ap, subst, ◌∙◌, arith, inl, inr}
use Rattle.std.specs.Prelude.{◌&&◌, nat_le, is_none, IfOk, IsSome}
use Rattle.std.specs.List.{AllByRecursion}
use Rattle.std.specs.List.Sorted.{IsStrictlyIncreasing}
use Rattle.std.specs.Option.{SomeIff}
use Rattle.std.specs.Int.{w8, w64}
use Rattle.std.proofs.lemmas.Bool.{cases_Bool, and_parts, lt-ltb, ltb-true, false≢true}
use Rattle.fixed_fields.specs.Fields.{number_at}
use Rattle.fixed_fields.specs.Formats.{◌>>=◌, numbers_in}
use Rattle.values.specs.Rising.{Rising}
use Rattle.values.specs.declared.memory.Memory.{Memory}
use Rattle.group_quorum.specs.Conf.{Conf}
use Rattle.group_quorum.specs.Voters.{fault_of, conf_or, conf_of}
use Rattle.group_quorum.specs.declared.ConfigFault.{ConfigFault}
use Rattle.host_msgs.specs.Items.{only_if, is_rising, is_conf, members_head, members_fields, members_in}
use Rattle.host_msgs.specs.Reading.{Finds}
use Rattle.values.specs.declared.limits.TheConstants.{TOP}
use Rattle.host_msgs.specs.declared.item.Item.{Item}
use Rattle.host_msgs.specs.declared.item.Item.TheVariants as item

-- ---- rising, as a test and as a fact

and_false : (b : Bool) → (b && false) ≡ false
and_false true = refl
and_false false = refl

below_all : (v w : ℕ) (vs : List ℕ) → v < w → AllByRecursion (λ x. w < x) vs → AllByRecursion (λ x. v < x) vs
below_all v w [] lt h = tt
below_all v w (x ∷ vs) lt h = (omega (arith, h.0), below_all v w vs lt h.1)

pub Rising-is_rising : (ids : List ℕ) → is_rising ids ≡ true → Rising ids
Rising-is_rising [] e = tt
Rising-is_rising (v ∷ []) e = (tt, tt)
Rising-is_rising (v ∷ w ∷ vs) e =
    let both = and_parts (ltb v w) (is_rising (w ∷ vs)) e in
    let more = Rising-is_rising (w ∷ vs) both.1 in
    let lt : v < w = ltb-true v w both.0 in
    ((lt, below_all v w vs lt more.0), more)

pub is_rising-Rising : (ids : List ℕ) → Rising ids → is_rising ids ≡ true
is_rising-Rising [] up = refl
is_rising-Rising (v ∷ []) up = refl
is_rising-Rising (v ∷ w ∷ vs) up = rw (lt-ltb v w up.0.0, is_rising-Rising (w ∷ vs) up.1) refl

-- ---- a configuration that was made, or not

no_fault : (o : Option ConfigFault) (margin : ℕ) (ids : List ℕ) (conf : Conf) → Ok conf ≡ conf_or o margin ids → is_none o ≡ true
no_fault None margin ids conf e = refl
no_fault (Some fault) margin ids conf e = absurd cc

some_fault : (o : Option ConfigFault) (margin : ℕ) (ids : List ℕ) (fault : ConfigFault) → Err fault ≡ conf_or o margin ids → is_none o ≡ false
some_fault None margin ids fault e = absurd cc
some_fault (Some other) margin ids fault e = refl

pub made_not : (margin : ℕ) (ids : List ℕ) (fault : ConfigFault) → Err fault ≡ conf_of margin ids → only_if (is_conf margin ids) ids ≡ None
unfolding is_conf
made_not margin ids fault e = rw (some_fault (fault_of margin ids) margin ids fault e) refl

pub made_other : (margin : ℕ) (ids : List ℕ) (r : Result Conf ConfigFault) → r ≡ conf_of margin ids → ((conf : Conf) → r ≡ Ok conf → ⊥) → only_if (is_conf margin ids) ids ≡ None
made_other margin ids (Ok conf) e never = absurd (never conf refl)
made_other margin ids (Err fault) e never = made_not margin ids fault e

found_if : (margin : ℕ) (ids : List ℕ) (found : Option (List ℕ)) → is_none (fault_of margin ids) ≡ true → SomeIff found (Rising ids) ids → only_if (is_conf margin ids) ids ≡ found
unfolding is_conf
found_if margin ids None none not = by_test (is_rising ids) refl
  where
    by_test : (b : Bool) → is_rising ids ≡ b → only_if (is_none (fault_of margin ids) && is_rising ids) ids ≡ None
    by_test true e = absurd (not (Rising-is_rising ids e))
    by_test false e = rw (none, e) refl
found_if margin ids (Some found) none is = rw (none, is_rising-Rising ids is.0) (ap Some (sym is.1))

pub made : (margin : ℕ) (ids : List ℕ) (conf : Conf) → Ok conf ≡ conf_of margin ids → is_rising ids ≡ true → (r : Result (Option (List ℕ)) Memory) → IfOk r (λ found. SomeIff found (Rising ids) ids)
    → Finds r (only_if (is_conf margin ids) ids)
unfolding is_conf
made margin ids conf e up (Ok found) is = found_if margin ids found (no_fault (fault_of margin ids) margin ids conf e) is
made margin ids conf e up (Err memory) is = rw (no_fault (fault_of margin ids) margin ids conf e, up) refl

-- ---- rising, by their indices

pub is_rising-from : (ids : List ℕ) → IsStrictlyIncreasing ids → is_rising ids ≡ true
is_rising-from [] up = refl
is_rising-from (v ∷ []) up = refl
is_rising-from (v ∷ w ∷ vs) up = rw (lt-ltb v w (up zero (omega arith))) (is_rising-from (w ∷ vs) (λ k within. let e : suc k + 1 ≡ suc (k + 1) = omega arith in subst (λ n. get_or (w ∷ vs) k 0 < get_or (v ∷ w ∷ vs) n 0) e (up (suc k) (omega arith))))

pub increasing-from : (ids : List ℕ) → is_rising ids ≡ true → IsStrictlyIncreasing ids
increasing-from [] e k within = absurd (omega arith)
increasing-from (v ∷ []) e k within = absurd (omega arith)
increasing-from (v ∷ w ∷ vs) e zero within = ltb-true v w (and_parts (ltb v w) (is_rising (w ∷ vs)) e).0
increasing-from (v ∷ w ∷ vs) e (suc k) within =
    let i : suc (k + 1) ≡ suc k + 1 = omega arith in
    subst (λ n. get_or (w ∷ vs) k 0 < get_or (v ∷ w ∷ vs) n 0) i (increasing-from (w ∷ vs) (and_parts (ltb v w) (is_rising (w ∷ vs)) e).1 k (omega arith))

-- a configuration has its voters in another order where the ids do not rise
pub unordered : (margin : ℕ) (ids : List ℕ) (conf : Conf) → (IsStrictlyIncreasing ids → conf.voters ≡ ids) → (conf.voters ≡ ids → ⊥) → only_if (is_conf margin ids) ids ≡ None
unfolding is_conf
unordered margin ids conf in_order other = by (is_rising ids) refl
  where
    by : (b : Bool) → is_rising ids ≡ b → only_if (is_none (fault_of margin ids) && is_rising ids) ids ≡ None
    by true e = absurd (other (in_order (increasing-from ids e)))
    by false e = rw (e, and_false (is_none (fault_of margin ids))) refl

-- ---- more ids than a short list has

too_many : (margin : ℕ) (ids : List ℕ) → 255 < length ids → is_conf margin ids ≡ false
unfolding is_conf
too_many margin ids many = rw (lt-ltb 31 (length ids) (omega (arith, many))) refl

abbrev Head : Type 0
Head = ℕ × (ℕ × List ℕ)

-- the ids are read behind the head
abbrev with_ids : Head → Option Head
with_ids p = numbers_in p.1.1 >>= λ ns. Some (p.0, (p.1.0, ns))

split_ids : (index margin : ℕ) (ids : List ℕ) (o : Option (List ℕ)) → numbers_in ids ≡ o → ((o >>= λ z. Some (margin, z)) >>= λ q. Some (index, q)) ≡ with_ids (index, (margin, ids))
split_ids index margin ids None e = rw e refl
split_ids index margin ids (Some ns) e = rw e refl

split_margin : (index : ℕ) (o : Option (ℕ × List ℕ))
    → ((o >>= λ y. numbers_in y.1 >>= λ z. Some (y.0, z)) >>= λ q. Some (index, q)) ≡ (((o >>= λ y. Some y.1 >>= λ z. Some (y.0, z)) >>= λ q. Some (index, q)) >>= with_ids)
split_margin index None = refl
split_margin index (Some y) = split_ids index y.0 y.1 (numbers_in y.1) refl

split_index : (o : Option (ℕ × List ℕ))
    → (o >>= λ x. (number_at w8 x.1 >>= λ y. numbers_in y.1 >>= λ z. Some (y.0, z)) >>= λ q. Some (x.0, q)) ≡ ((o >>= λ x. (number_at w8 x.1 >>= λ y. Some y.1 >>= λ z. Some (y.0, z)) >>= λ q. Some (x.0, q)) >>= with_ids)
split_index None = refl
split_index (Some x) = split_margin x.0 (number_at w8 x.1)

abbrev members_of : Head → Option Item
members_of p = only_if (nat_le p.0 TOP && is_conf p.1.0 p.1.1) (item.Members p.0 p.1.0 p.1.1)

ids_many : (index margin : ℕ) (ids : List ℕ) (o : Option (List ℕ)) → numbers_in ids ≡ o → ((ns : List ℕ) → o ≡ Some ns → 255 < length ns) → ((o >>= λ ns. Some (index, (margin, ns))) >>= members_of) ≡ None
ids_many index margin ids None e many = refl
ids_many index margin ids (Some ns) e many = rw (too_many margin ns (many ns refl), and_false (nat_le index TOP)) refl

pub members_many : (content : List ℕ) (index margin : ℕ) (ids : List ℕ) → members_head.read content ≡ Some (index, (margin, ids)) → ((ns : List ℕ) → numbers_in ids ≡ Some ns → 255 < length ns) → members_in content ≡ None
members_many content index margin ids head many =
    ap (λ (o : Option Head). o >>= members_of) (split_index (number_at w64 content)) ∙ ap (λ (o : Option Head). (o >>= with_ids) >>= members_of) head ∙ ids_many index margin ids (numbers_in ids) refl many

-- What a list without a fault is, and the configuration that is made of it.
use Rattle.std.proofs.Common.{take, drop, replicate, length-append, ◌-◌, ◌^◌, min, ◌≡◌, ℕ, ◌+◌, ◌*◌, ◌≤◌, Bool, true, false, ◌||◌, List, [], ◌∷◌, ◌++◌, length, eqb, ltb, Option, Some, None, Ok, refl, sym, ap, ◌∙◌, subst, arith}
use Rattle.std.specs.Prelude.{All}
use Rattle.std.specs.List.Sorted.{IsPermutation, IsSorted}
use Rattle.std.specs.Ordering.{nat_cmp}
use Rattle.std.proofs.lemmas.List.Sorted.{IsNonDecreasingBy-from_sort, sum_by-IsPermutation}
use Rattle.std.proofs.lemmas.List.{take_at, drop_at, drop-replicate, length-replicate}
use Rattle.group_quorum.specs.Stored.{IsStored}
use Rattle.std.proofs.lemmas.Bool.{cond-true, cond-false, ltb-true, ltb-false, le-ltb, eqb-true, and_parts, and_from, lt-ltb, not_from_true, not_from_false}
use Rattle.std.proofs.lemmas.List.Elements.{All-cons, All-nil, All-head, All-tail}
use Rattle.group_quorum.specs.Conf.{Conf}
use Rattle.group_quorum.specs.Voters.{is_id, is_in, first_bad, first_double, few_fault, double_fault, bad_fault, fault_of, rising, conf_of, conf_or, IsId, IsSound}
use Rattle.group_quorum.specs.declared.ConfigFault.{ConfigFault}
use Rattle.group_quorum.specs.declared.ConfigFault.TheVariants.{TooMany, TooFew}
use Rattle.group_quorum.specs.declared.TheConstants.{MAX_VOTERS, MAX_ID}
use Rattle.group_quorum.proofs.Counting.{bit}
use Rattle.group_quorum.proofs.Rising.{climbs, copies, copies-cons, copies_same, Climbs, rises, climbs_rising, once, same_in_order, strictly, rising_copies, rising_climbs}
use Rattle.group_quorum.proofs.Inserted.{is_in-push, rising_length, insert_all}

-- no id of the list stands twice, nor in what was seen
abbrev pub Once : List ℕ → List ℕ → Type 0
Once seen ids = (v : ℕ) → bit (is_in seen v) + copies v ids ≤ 1

bit_le : (b : Bool) → bit b ≤ 1
bit_le true = omega arith
bit_le false = omega arith

bit_none : (b : Bool) → bit b + 1 ≤ 1 → b ≡ false
bit_none true h = absurd (omega arith)
bit_none false h = refl

bit_or_new : (a b : Bool) → (b ≡ true → a ≡ false) → bit (a || (b || false)) ≡ bit a + bit b
bit_or_new true true h = absurd (let e : true ≡ false = h refl in cc)
bit_or_new true false h = omega arith
bit_or_new false true h = omega arith
bit_or_new false false h = omega arith

-- an id that was not seen moves from the list to what was seen
moved : (seen : List ℕ) (w : ℕ) (ids : List ℕ) (v : ℕ) → is_in seen w ≡ false → bit (is_in (seen ++ w ∷ []) v) + copies v ids ≡ bit (is_in seen v) + copies v (w ∷ ids)
moved seen w ids v new =
    let apart : bit (is_in seen v || (eqb w v || false)) ≡ bit (is_in seen v) + bit (eqb w v) =
    bit_or_new (is_in seen v) (eqb w v) (λ e. ap (is_in seen) (sym (eqb-true w v e)) ∙ new) in
    omega (arith, ap bit (is_in-push seen w v), apart, copies-cons v w ids)

once_step : (seen : List ℕ) (w : ℕ) (ids : List ℕ) (b : Bool) → is_in seen w ≡ b → (first_double (seen ++ w ∷ []) ids ≡ None → Once (seen ++ w ∷ []) ids) → first_double seen (w ∷ ids) ≡ None → Once seen (w ∷ ids)
once_step seen w ids true was rest e v = absurd (let s : first_double seen (w ∷ ids) ≡ Some w = cond-true _ (Some w) _ was in cc)
once_step seen w ids false was rest e v =
    omega (arith, moved seen w ids v was, rest (sym (cond-false _ (Some w) _ was) ∙ e) v)

once_from : (seen ids : List ℕ) → first_double seen ids ≡ None → Once seen ids
once_from seen [] e v = omega (arith, bit_le (is_in seen v))
once_from seen (w ∷ ids) e v = once_step seen w ids (is_in seen w) refl (once_from (seen ++ w ∷ []) ids) e v

no_double : (seen ids : List ℕ) → Once seen ids → first_double seen ids ≡ None
no_double seen [] h = refl
no_double seen (w ∷ ids) h =
    let new : is_in seen w ≡ false = bit_none (is_in seen w) (omega (arith, h w, copies_same w ids)) in
    cond-false _ (Some w) _ new ∙ no_double (seen ++ w ∷ []) ids (λ v. omega (arith, h v, moved seen w ids v new))

-- the test of an id
id_true : (w : ℕ) → is_id w ≡ true → IsId w
id_true w e =
    let parts = and_parts (ltb 0 w) (ltb w (MAX_ID + 1)) e in
    (omega (arith, ltb-true 0 w parts.0), omega (arith, ltb-true w (MAX_ID + 1) parts.1))

id_from : (w : ℕ) → IsId w → is_id w ≡ true
id_from w h = and_from (ltb 0 w) (ltb w (MAX_ID + 1)) (lt-ltb 0 w (omega (arith, h.0))) (lt-ltb w (MAX_ID + 1) (omega (arith, h.1)))

ids_step : (w : ℕ) (ids : List ℕ) (b : Bool) → is_id w ≡ b → (first_bad ids ≡ None → All IsId ids) → first_bad (w ∷ ids) ≡ None → All IsId (w ∷ ids)
ids_step w ids true good rest e = All-cons IsId w ids (id_true w good) (rest (sym (cond-false _ (Some w) _ (not_from_true _ good)) ∙ e))
ids_step w ids false bad rest e = absurd (let s : first_bad (w ∷ ids) ≡ Some w = cond-true _ (Some w) _ (not_from_false _ bad) in cc)

pub ids_from : (ids : List ℕ) → first_bad ids ≡ None → All IsId ids
ids_from [] e = All-nil IsId
ids_from (w ∷ ids) e = ids_step w ids (is_id w) refl (ids_from ids) e

pub no_bad : (ids : List ℕ) → All IsId ids → first_bad ids ≡ None
no_bad [] h = refl
no_bad (w ∷ ids) h =
    cond-false _ (Some w) _ (not_from_true (is_id w) (id_from w (All-head IsId w ids h))) ∙ no_bad ids (All-tail IsId w ids h)

-- what a list of voters without a fault is
pub record IsFaultless (margin : ℕ) (ids : List ℕ) : Type 0 where
  pub at_most : length ids ≤ MAX_VOTERS
  pub enough : 2 * margin + 1 ≤ length ids
  pub each_id : All IsId ids
  pub once : (v : ℕ) → copies v ids ≤ 1

module _ (margin : ℕ) (ids : List ℕ) where
  few_step : (few : Bool) → ltb (length ids) (2 * margin + 1) ≡ few → few_fault margin ids ≡ None → 2 * margin + 1 ≤ length ids
  few_step true is e = absurd (let s : few_fault margin ids ≡ Some (TooFew (length ids)) = cond-true _ _ _ is in cc)
  few_step false is e = ltb-false (length ids) (2 * margin + 1) is

  double_step : (double : Option ℕ) → double_fault double margin ids ≡ None → (double ≡ None) × (few_fault margin ids ≡ None)
  double_step (Some v) e = absurd (cc)
  double_step None e = (refl, e)

  pub bad_step : (bad : Option ℕ) → bad_fault bad margin ids ≡ None → (bad ≡ None) × (double_fault (first_double [] ids) margin ids ≡ None)
  bad_step (Some v) e = absurd (cc)
  bad_step None e = (refl, e)

  many_step : (many : Bool) → ltb MAX_VOTERS (length ids) ≡ many → fault_of margin ids ≡ None → (length ids ≤ MAX_VOTERS) × (bad_fault (first_bad ids) margin ids ≡ None)
  many_step true is e = absurd (let s = cond-true (ltb MAX_VOTERS (length ids)) (Some (TooMany (min (length ids) (2 ^ 32 - 1)))) (bad_fault (first_bad ids) margin ids) is in cc)
  many_step false is e = (ltb-false MAX_VOTERS (length ids) is, sym (cond-false _ _ _ is) ∙ e)

  pub faultless : fault_of margin ids ≡ None → IsFaultless margin ids
  faultless e =
      let many = many_step (ltb MAX_VOTERS (length ids)) refl e in
      let bad = bad_step (first_bad ids) many.1 in
      let double = double_step (first_double [] ids) bad.1 in
      record {
        at_most = many.0;
        enough = few_step (ltb (length ids) (2 * margin + 1)) refl double.1;
        each_id = ids_from ids bad.0;
        once = λ v. omega (arith, once_from [] ids double.0 v);
      }

  pub no_fault : IsFaultless margin ids → fault_of margin ids ≡ None
  no_fault h =
      cond-false _ _ _ (le-ltb MAX_VOTERS (length ids) h.at_most)
      ∙ ap (λ b. bad_fault b margin ids) (no_bad ids h.each_id)
      ∙ ap (λ d. double_fault d margin ids) (no_double [] ids (λ v. omega (arith, h.once v)))
      ∙ cond-false _ _ _ (le-ltb (length ids) (2 * margin + 1) h.enough)

  -- the ids in another order, which rises
  pub in_rising_order : (sorted : List ℕ) → Climbs sorted → ((v : ℕ) → copies v sorted ≡ copies v ids) → rising ids ≡ sorted
  in_rising_order sorted up same = same_in_order (rising ids) sorted (rising_climbs ids) up (λ v. rising_copies v ids ∙ sym (same v))

-- a sound configuration has no fault, and is made of its own voters
pub sound_faultless : (c : Conf) → IsSound c → fault_of c.margin c.voters ≡ None
sound_faultless c s =
    no_fault c.margin c.voters (record { at_most = s.at_most; enough = s.enough; each_id = s.ids; once = once c.voters (rises c.voters s.in_order) })

pub made : (c : Conf) → IsSound c → conf_of c.margin c.voters ≡ Ok c
made c s =
    let order : rising c.voters ≡ c.voters = in_rising_order c.margin c.voters c.voters (climbs_rising c.voters (rises c.voters s.in_order)) (λ v. refl) in
    ap (λ f. conf_or f c.margin c.voters) (sound_faultless c s) ∙ ap (λ vs. Ok (record { margin = c.margin; voters = vs })) order

-- what is made of a list has its ids in rising order
pub conf_or-made : (o : Option ConfigFault) (margin : ℕ) (ids : List ℕ) (c : Conf) → conf_or o margin ids ≡ Ok c → (o ≡ None) × (rising ids ≡ c.voters)
conf_or-made (Some fault) margin ids c h = cc
conf_or-made None margin ids c h =
    let same : record { margin = margin; voters = rising ids } ≡ c = cc in
    (refl, ap (λ (d : Conf). d.voters) same)

-- what a sort of the ids leaves
pub sorted_is : (ids sorted : List ℕ) → IsPermutation ids sorted → IsSorted nat_cmp sorted → sorted ≡ rising ids
sorted_is ids sorted moved up =
    same_in_order sorted (rising ids) (climbs sorted (IsNonDecreasingBy-from_sort (λ x. x) sorted up)) (rising_climbs ids)
    (λ v. sum_by-IsPermutation (λ x. bit (eqb x v)) ids sorted moved ∙ sym (rising_copies v ids))

pub zeros_behind : (n : ℕ) → drop {A = ℕ} n (replicate MAX_VOTERS 0) ≡ replicate (MAX_VOTERS - n) 0
zeros_behind n = drop-replicate n MAX_VOTERS 0

rising_all : (P : ℕ → Type 0) (xs : List ℕ) → All P xs → All P (rising xs)
rising_all P [] all = all
rising_all P (x ∷ xs) all = insert_all P x (rising xs) (All-head P x xs all) (rising_all P xs (All-tail P x xs all))

module _ (margin : ℕ) (ids : List ℕ) (h : IsFaultless margin ids) where
  sound_of : IsSound (record { margin = margin; voters = rising ids })
  sound_of =
      let long = rising_length ids in
      let at_most = h.at_most in
      let enough = h.enough in
      record {
        at_most = omega arith;
        enough = omega arith;
        ids = rising_all IsId ids h.each_id;
        in_order = strictly (rising ids) (rising_climbs ids) (λ v. omega (arith, rising_copies v ids, h.once v));
      }

  module _ (all : List ℕ) (is : all ≡ rising ids ++ replicate (MAX_VOTERS - length ids) 0) where
    pub front_is : take (length ids) all ≡ rising ids
    front_is = ap (take (length ids)) is ∙ take_at (rising ids) (replicate (MAX_VOTERS - length ids) 0) (length ids) (rising_length ids)

    pub is_stored : IsStored (record { margin = margin; count = length ids; ids = all })
    is_stored =
        let at_most = h.at_most in
        record {
          room = ap length is ∙ length-append (rising ids) (replicate (MAX_VOTERS - length ids) 0) ∙ omega (arith, rising_length ids, length-replicate {A = ℕ} (MAX_VOTERS - length ids) 0);
          zeros = ap (drop (length ids)) is ∙ drop_at (rising ids) (replicate (MAX_VOTERS - length ids) 0) (length ids) (rising_length ids);
          counted = ap length front_is ∙ rising_length ids;
          sound = subst (λ vs. IsSound (record { margin = margin; voters = vs })) (sym front_is) sound_of;
        }

  pub made_is : fault_of margin ids ≡ None → conf_of margin ids ≡ Ok (record { margin = margin; voters = rising ids })
  made_is none = ap (λ f. conf_or f margin ids) none

-- Configurations that are begun and changed have no fault.
use Rattle.std.proofs.Common.{◌≡◌, ℕ, ◌+◌, ◌-◌, ◌*◌, ◌≤◌, Bool, true, false, cond, not, ◌&&◌, ◌||◌, ◌==◌, nat_lt, nat_le, Option, Some, None, List, [], ◌∷◌, ◌++◌, length, refl, sym, ap, ◌∙◌, arith, inl, inr}
use Rattle.std.specs.Prelude.{is_none}
use Rattle.std.proofs.lemmas.Bool.{cond_both, cond-true, cond-false, cases_Bool, cases_lt, and_parts, and_from, leb-true, leb-false, le-leb, ltb-true, ltb-false, le-ltb, lt-ltb, eqb-true, eq-eqb, ne_eqb, or_cases, or_parts}
use Rattle.std.proofs.lemmas.Option.{none-some}
use Rattle.values.specs.Rising.{Rising}
use Rattle.group_quorum.specs.Conf.{Conf}
use Rattle.group_quorum.specs.Voters.{is_in, first_bad, first_double, double_fault, bad_fault, fault_of, insert_rising, rising}
use Rattle.group_quorum.specs.declared.ConfigFault.{ConfigFault}
use Rattle.group_quorum.specs.declared.ConfigFault.TheVariants.{TooFew}
use Rattle.group_quorum.specs.declared.TheConstants.{MAX_VOTERS}
use Rattle.group_quorum.proofs.Inserted.{insert_length, rising_length, is_in-rising}
use Rattle.replica_model.specs.Peers.{others}
use Rattle.replica_model.specs.Changes.{are_few, with_voter, without_voter}
use Rattle.trace_model.specs.TraceLines.{is_rising}
use Rattle.replica_model.proofs.RisingIds.{above_more, rising_inserted, rising_filtered, no_bad, no_double, none_seen, one_less}
use Rattle.replica_model.proofs.RisingIds as rising_ids
use Rattle.range_laws.proofs.Raising.{all_filter, insert_in}
use Rattle.range_laws.specs.Ranges.{IsId, AreIds, ConfIn}

-- an id among those with one more
pub or_left : (a b : Bool) → a ≡ true → (a || b) ≡ true
or_left true b h = refl
or_left false b h = absurd (let e : false ≡ true = h in cc)

pub or_right : (a b : Bool) → b ≡ true → (a || b) ≡ true
or_right true b h = refl
or_right false b h = h

rises : (ids : List ℕ) → is_rising ids ≡ true → Rising ids
rises [] h = tt
rises (v ∷ []) h = (tt, tt)
rises (v ∷ (w ∷ ids)) h =
    let p = and_parts (nat_lt v w) (is_rising (w ∷ ids)) h in
    let rest = rises (w ∷ ids) p.1 in
    let lt = ltb-true v w p.0 in
    ((lt, above_more v w ids lt rest.0), rest)

rises_too : (ids : List ℕ) → Rising ids → is_rising ids ≡ true
rises_too [] h = refl
rises_too (v ∷ []) h = refl
rises_too (v ∷ (w ∷ ids)) h = and_from (nat_lt v w) (is_rising (w ∷ ids)) (lt-ltb v w h.0.0) (rises_too (w ∷ ids) h.1)

ids_too : (ids : List ℕ) → AreIds ids → rising_ids.AreIds ids
ids_too [] h = tt
ids_too (v ∷ ids) h = let p = and_parts (nat_le 1 v) (nat_le v 65535) h.0 in ((leb-true 1 v p.0, leb-true v 65535 p.1), ids_too ids h.1)

no_fault : (margin : ℕ) (ids : List ℕ) → length ids ≤ MAX_VOTERS → AreIds ids → Rising ids → 2 * margin + 1 ≤ length ids → fault_of margin ids ≡ None
no_fault margin ids few are up enough =
    cond-false (nat_lt MAX_VOTERS (length ids)) _ (bad_fault (first_bad ids) margin ids) (le-ltb MAX_VOTERS (length ids) few)
    ∙ ap (λ o. bad_fault o margin ids) (no_bad ids (ids_too ids are))
    ∙ ap (λ o. double_fault o margin ids) (no_double [] ids up (none_seen ids))
    ∙ cond-false (nat_lt (length ids) (2 * margin + 1)) _ None (le-ltb (length ids) (2 * margin + 1) enough)

conf_from : (margin : ℕ) (ids : List ℕ) → margin ≤ 15 → length ids ≤ MAX_VOTERS → AreIds ids → Rising ids → 2 * margin + 1 ≤ length ids → ConfIn (record { margin = margin; voters = ids })
conf_from margin ids le few are up enough = record {
  sound = and_from (nat_le margin 15) _ (le-leb margin 15 le)
      (and_from (nat_le 1 (length ids)) _ (le-leb 1 (length ids) (omega (arith, enough)))
      (and_from (is_rising ids) (is_none (fault_of margin ids)) (rises_too ids up) (ap is_none (no_fault margin ids few are up enough))));
  ids = are;
}

-- what a configuration without a fault is
record Parts (c : Conf) : Type 0 where
  margin : c.margin ≤ 15
  few : length c.voters ≤ MAX_VOTERS
  up : Rising c.voters
  enough : 2 * c.margin + 1 ≤ length c.voters

pub fault_few : (margin : ℕ) (ids : List ℕ) → fault_of margin ids ≡ None → (length ids ≤ MAX_VOTERS) × (first_double [] ids ≡ None) × (2 * margin + 1 ≤ length ids)
fault_few margin ids is =
    cond_both (nat_lt MAX_VOTERS (length ids)) (Some _) (bad_fault (first_bad ids) margin ids) (λ o. o ≡ None → (length ids ≤ MAX_VOTERS) × (first_double [] ids ≡ None) × (2 * margin + 1 ≤ length ids))
    (λ b is. absurd (none-some _ (sym is)))
    (λ b is. let rest = by_bad (first_bad ids) is in (ltb-false MAX_VOTERS (length ids) b, rest.0, rest.1))
    is
  where
    by_double : (o : Option ℕ) → double_fault o margin ids ≡ None → (o ≡ None) × (2 * margin + 1 ≤ length ids)
    by_double (Some v) is = absurd (none-some _ (sym is))
    by_double None is = (
      refl,
      cond_both (nat_lt (length ids) (2 * margin + 1)) (Some (TooFew (length ids))) None (λ o. o ≡ None → 2 * margin + 1 ≤ length ids)
          (λ b is. absurd (none-some (TooFew (length ids)) (sym is)))
          (λ b is. ltb-false (length ids) (2 * margin + 1) b)
          is,
    )

    by_bad : (o : Option ℕ) → bad_fault o margin ids ≡ None → (first_double [] ids ≡ None) × (2 * margin + 1 ≤ length ids)
    by_bad (Some v) is = absurd (none-some _ (sym is))
    by_bad None is = by_double (first_double [] ids) is

is_nothing : (o : Option ConfigFault) → is_none o ≡ true → o ≡ None
is_nothing None h = refl
is_nothing (Some f) h = absurd (let e : false ≡ true = h in cc)

parts_of : (c : Conf) → ConfIn c → Parts c
parts_of c h =
    let a = and_parts (nat_le c.margin 15) (nat_le 1 (length c.voters) && (is_rising c.voters && is_none (fault_of c.margin c.voters))) h.sound in
    let b = and_parts (nat_le 1 (length c.voters)) (is_rising c.voters && is_none (fault_of c.margin c.voters)) a.1 in
    let d = and_parts (is_rising c.voters) (is_none (fault_of c.margin c.voters)) b.1 in
    let f = fault_few c.margin c.voters (is_nothing (fault_of c.margin c.voters) d.1) in
    record { margin = leb-true c.margin 15 a.0; few = f.0; up = rises c.voters d.0; enough = f.2 }

pub admitted_conf : (c : Conf) (id : ℕ) → ConfIn c → IsId id → is_in c.voters id ≡ false → nat_le MAX_VOTERS (length c.voters) ≡ false → ConfIn (with_voter c id)
admitted_conf c id h new fresh room =
    let p = parts_of c h in
    let long = insert_length id c.voters in
    conf_from c.margin (insert_rising id c.voters) p.margin (omega (arith, long, leb-false MAX_VOTERS (length c.voters) room)) (insert_in id c.voters new h.ids) (rising_inserted id c.voters p.up fresh) (omega (arith, long, p.enough))

pub removed_conf : (c : Conf) (id : ℕ) → ConfIn c → not (is_in c.voters id) ≡ false → are_few (length c.voters - 1) c.margin ≡ false → ConfIn (without_voter c id)
removed_conf c id h there enough =
    let p = parts_of c h in
    let long = one_less id c.voters p.up (not_false (is_in c.voters id) there) in
    conf_from c.margin (others id c.voters) p.margin (omega (arith, long, p.few)) (all_filter IsId (λ v. not (v == id)) c.voters h.ids) (rising_filtered (λ v. not (v == id)) c.voters p.up) (omega (arith, long, ltb-false (length c.voters - 1) (2 * c.margin + 1) enough))
  where
    not_false : (b : Bool) → not b ≡ false → b ≡ true
    not_false true h = refl
    not_false false h = absurd (let e : true ≡ false = h in cc)

pub margin_conf : (c : Conf) (margin : ℕ) → ConfIn c → margin ≤ 15 → are_few (length c.voters) margin ≡ false → ConfIn (record c { margin = margin })
margin_conf c margin h le enough =
    let p = parts_of c h in conf_from margin c.voters le p.few h.ids p.up (ltb-false (length c.voters) (2 * margin + 1) enough)

-- the first one
abbrev Apart : List ℕ → Type 0
Apart [] = Unit {0}
Apart (v ∷ ids) = (is_in ids v ≡ false) × Apart ids

seen_more : (seen : List ℕ) (v u : ℕ) → is_in seen u ≡ true → is_in (seen ++ v ∷ []) u ≡ true
seen_more [] v u h = absurd (let e : false ≡ true = h in cc)
seen_more (w ∷ seen) v u h = elim (or_cases (w == u) (is_in seen u) h) [
  | inl e ↦ or_left (w == u) (is_in (seen ++ v ∷ []) u) e
  | inr r ↦ or_right (w == u) (is_in (seen ++ v ∷ []) u) (seen_more seen v u r)
]

seen_last : (seen : List ℕ) (v : ℕ) → is_in (seen ++ v ∷ []) v ≡ true
seen_last [] v = or_left (v == v) false (eq-eqb v v refl)
seen_last (w ∷ seen) v = or_right (w == v) (is_in (seen ++ v ∷ []) v) (seen_last seen v)

double_parts : (seen : List ℕ) (v : ℕ) (ids : List ℕ) → first_double seen (v ∷ ids) ≡ None → (is_in seen v ≡ false) × (first_double (seen ++ v ∷ []) ids ≡ None)
double_parts seen v ids is = by_test (is_in seen v) is
  where
    by_test : (b : Bool) → cond b (Some v) (first_double (seen ++ v ∷ []) ids) ≡ None → (b ≡ false) × (first_double (seen ++ v ∷ []) ids ≡ None)
    by_test true is = absurd (none-some v (sym is))
    by_test false is = (refl, is)

distinct : (seen ids : List ℕ) → first_double seen ids ≡ None → (u : ℕ) → is_in seen u ≡ true → is_in ids u ≡ false
distinct seen [] is u h = refl
distinct seen (v ∷ ids) is u h =
    let p = double_parts seen v ids is in
    let rest = distinct (seen ++ v ∷ []) ids p.1 u (seen_more seen v u h) in
    elim (cases_Bool (v == u)) [
      | inl same ↦ absurd (let e : true ≡ false = sym h ∙ (ap (is_in seen) (sym (eqb-true v u same)) ∙ p.0) in cc)
      | inr other ↦ ap (λ b. b || is_in ids u) other ∙ rest
    ]

apart_of : (seen ids : List ℕ) → first_double seen ids ≡ None → Apart ids
apart_of seen [] is = tt
apart_of seen (v ∷ ids) is = let p = double_parts seen v ids is in (distinct (seen ++ v ∷ []) ids p.1 v (seen_last seen v), apart_of (seen ++ v ∷ []) ids p.1)

rising_rises : (ids : List ℕ) → Apart ids → Rising (rising ids)
rising_rises [] h = tt
rising_rises (v ∷ ids) h = rising_inserted v (rising ids) (rising_rises ids h.1) (is_in-rising ids v ∙ h.0)

rising_in : (ids : List ℕ) → AreIds ids → AreIds (rising ids)
rising_in [] h = tt
rising_in (v ∷ ids) h = insert_in v (rising ids) h.0 (rising_in ids h.1)

pub begun_conf : (margin : ℕ) (voters : List ℕ) → margin ≤ 15 → AreIds voters → fault_of margin voters ≡ None → ConfIn (record { margin = margin; voters = rising voters })
begun_conf margin voters le ids fine =
    let f = fault_few margin voters fine in
    let long = rising_length voters in
    conf_from margin (rising voters) le (omega (arith, long, f.0)) (rising_in voters ids) (rising_rises voters (apart_of [] voters f.1)) (omega (arith, long, f.2))

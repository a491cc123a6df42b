-- A margin and its voters, as they are printed.
use Rattle.std.proofs.Common.{◌≡◌, ℕ, ◌+◌, ◌*◌, ◌<◌, ◌≤◌, ◌&&◌, not, nat_lt, cond, Bool, true, false, Option, Some, None, Ok, Err, List, [], ◌∷◌, ◌++◌, length, map, append-nil, append_assoc, refl, sym, ap, subst, ◌∙◌, arith}
use Rattle.std.specs.Prelude.{IsTrue, decimal, is_none, nat_le}
use Rattle.std.specs.List.{AllByRecursion}
use Rattle.std.proofs.lemmas.Bool.{and_from, and_parts, cond-true, le-leb, leb-true, lt-ltb, ltb-true}
use Rattle.std.proofs.lemmas.Option.{none-some, same_Some}
use Rattle.group_quorum.specs.Voters.{bad_fault, conf_of, conf_or, fault_of, first_bad, is_id}
use Rattle.group_quorum.specs.Conf.{Conf}
use Rattle.group_quorum.specs.declared.ConfigFault.{ConfigFault}
use Rattle.group_quorum.specs.declared.ConfigFault.TheVariants.{TooFew}
use Rattle.values.specs.Rising.{Rising}
use Rattle.group_quorum.specs.declared.TheConstants.{MAX_ID, MAX_MARGIN, MAX_VOTERS}
use Rattle.group_quorum.proofs.Made.{bad_step}
use Rattle.schedule_model.specs.Lines.{Line}
use Rattle.trace_model.specs.TraceLines.{is_members, is_rising}
use Rattle.trace_lines.specs.Fields.{◌>>=◌, if_holds, number_in, replica_in}
use Rattle.trace_lines.specs.Lines.{conf_in, ids_onto, if_members}
use Rattle.trace_lines.proofs.Numbers.{number_found, number_only}
use Rattle.trace_lines.proofs.Steps.{bound, held}

ids_found : (xs : List ℕ) (texts : Line) (ids : List ℕ) → ids_onto xs texts ≡ Some ids → (vs : List ℕ) × (ids ≡ xs ++ vs) × (texts ≡ map decimal vs)
ids_found xs [] ids is = ([], sym (same_Some xs ids is) ∙ sym (append-nil xs), refl)
ids_found xs (text ∷ texts) ids is =
    let a = bound (replica_in text) (λ id. ids_onto (xs ++ id ∷ []) texts) ids is in
    let more = ids_found (xs ++ a.value ∷ []) texts ids a.rest in (
      a.value ∷ more.0,
      more.1 ∙ append_assoc xs (a.value ∷ []) more.0,
      ap (λ t. t ∷ texts) (number_found text 1 MAX_ID a.value (omega arith) a.first).same ∙ ap (λ ts. decimal a.value ∷ ts) more.2,
    )

pub conf_found : (fields : Line) (margin : ℕ) (voters : List ℕ) → conf_in fields ≡ Some (margin, voters) → (fields ≡ decimal margin ∷ map decimal voters) × IsTrue (is_members margin voters)
conf_found [] margin voters is = absurd (none-some (margin, voters) is)
conf_found (text ∷ texts) margin voters is =
    let a = bound (number_in 0 MAX_MARGIN text) (λ m. ids_onto [] texts >>= λ ids. if_members m ids) (margin, voters) is in
    let b = bound (ids_onto [] texts) (λ ids. if_members a.value ids) (margin, voters) a.rest in
    let i = ids_found [] texts b.value b.first in
    let h = held (is_members a.value b.value) (a.value, b.value) (margin, voters) b.rest in
    let m : a.value ≡ margin = ap (λ (p : ℕ × List ℕ). p.0) h.1 in
    let v : b.value ≡ voters = ap (λ (p : ℕ × List ℕ). p.1) h.1 in (
      ap (λ t. t ∷ texts) ((number_found text 0 MAX_MARGIN a.value (omega arith) a.first).same ∙ ap decimal m)
          ∙ ap (λ ts. decimal margin ∷ ts) (i.2 ∙ ap (map decimal) (sym i.1 ∙ v)),
      subst (λ x. IsTrue (is_members x voters)) m (subst (λ x. IsTrue (is_members a.value x)) v h.0),
    )

-- ---- that they are read
none_is : (o : Option ConfigFault) → IsTrue (is_none o) → o ≡ None
none_is None h = refl
none_is (Some f) h = cc h

past_many : (b : Bool) (x : Option ConfigFault) (f : ConfigFault) → cond b (Some f) x ≡ None → x ≡ None
past_many true x f h = cc h
past_many false x f h = h

one_good : (b : Bool) (v : ℕ) (o : Option ℕ) → cond (not b) (Some v) o ≡ None → IsTrue b × (o ≡ None)
one_good true v o h = (refl, h)
one_good false v o h = cc h

ids_only : (xs ids : List ℕ) → first_bad ids ≡ None → ids_onto xs (map decimal ids) ≡ Some (xs ++ ids)
ids_only xs [] h = ap Some (sym (append-nil xs))
ids_only xs (v ∷ ids) h =
    let g = one_good (is_id v) v (first_bad ids) h in
    let p = and_parts (nat_lt 0 v) (nat_lt v (MAX_ID + 1)) g.0 in
    ap (λ o. o >>= λ id. ids_onto (xs ++ id ∷ []) (map decimal ids)) (number_only v 1 MAX_ID (omega (arith, ltb-true 0 v p.0)) (omega (arith, ltb-true v (MAX_ID + 1) p.1)) (omega arith))
    ∙ ids_only (xs ++ v ∷ []) ids g.1
    ∙ ap Some (append_assoc xs (v ∷ []) ids)

pub conf_only : (margin : ℕ) (voters : List ℕ) → IsTrue (is_members margin voters) → conf_in (decimal margin ∷ map decimal voters) ≡ Some (margin, voters)
conf_only margin voters h =
    let p = and_parts (nat_le margin MAX_MARGIN) (nat_le 1 (length voters) && (is_rising voters && is_none (fault_of margin voters))) h in
    let q = and_parts (nat_le 1 (length voters)) (is_rising voters && is_none (fault_of margin voters)) p.1 in
    let r = and_parts (is_rising voters) (is_none (fault_of margin voters)) q.1 in
    let none = none_is (fault_of margin voters) r.1 in
    let good = (bad_step margin voters (first_bad voters) (past_many (nat_lt MAX_VOTERS (length voters)) (bad_fault (first_bad voters) margin voters) _ none)).0 in
    ap (λ o. o >>= λ m. ids_onto [] (map decimal voters) >>= λ ids. if_members m ids) (number_only margin 0 MAX_MARGIN (omega arith) (leb-true margin MAX_MARGIN p.0) (omega arith))
    ∙ ap (λ o. o >>= λ ids. if_members margin ids) (ids_only [] voters good)
    ∙ cond-true (is_members margin voters) (Some (margin, voters)) None h

-- ---- rising ids
all_above : (v w : ℕ) → v < w → (vs : List ℕ) → AllByRecursion (λ (y : ℕ). w < y) vs → AllByRecursion (λ (y : ℕ). v < y) vs
all_above v w lt [] h = tt
all_above v w lt (x ∷ vs) h = (omega (arith, lt, h.0), all_above v w lt vs h.1)

pub rising_from : (ids : List ℕ) → IsTrue (is_rising ids) → Rising ids
rising_from [] h = tt
rising_from (v ∷ []) h = (tt, tt)
rising_from (v ∷ w ∷ vs) h =
    let p = and_parts (nat_lt v w) (is_rising (w ∷ vs)) h in
    let lt = ltb-true v w p.0 in
    let more = rising_from (w ∷ vs) p.1 in
    ((lt, all_above v w lt vs more.0), more)

pub rising_to : (ids : List ℕ) → Rising ids → IsTrue (is_rising ids)
rising_to [] h = refl
rising_to (v ∷ []) h = refl
rising_to (v ∷ w ∷ vs) h = and_from (nat_lt v w) (is_rising (w ∷ vs)) (lt-ltb v w h.0.0) (rising_to (w ∷ vs) h.1)

-- ---- what a configuration tells
few_none : (margin : ℕ) → fault_of margin [] ≡ None → ⊥
few_none margin h = go (nat_lt 0 (2 * margin + 1)) refl h
  where
    go : (b : Bool) → nat_lt 0 (2 * margin + 1) ≡ b → cond b (Some (TooFew 0)) None ≡ None → ⊥
    go true is h = cc h
    go false is h = absurd (let e : true ≡ false = sym (lt-ltb 0 (2 * margin + 1) (omega arith)) ∙ is in cc)

some_voters : (margin : ℕ) (ids : List ℕ) → fault_of margin ids ≡ None → IsTrue (nat_le 1 (length ids))
some_voters margin [] h = absurd (few_none margin h)
some_voters margin (v ∷ ids) h = le-leb 1 (length (v ∷ ids)) (omega arith)

conf_none : (o : Option ConfigFault) (margin : ℕ) (ids : List ℕ) (c : Conf) → conf_or o margin ids ≡ Ok c → o ≡ None
conf_none None margin ids c h = refl
conf_none (Some f) margin ids c h = cc h

conf_some : (o : Option ConfigFault) (margin : ℕ) (ids : List ℕ) (x : ConfigFault) → conf_or o margin ids ≡ Err x → is_none o ≡ false
conf_some None margin ids x h = cc h
conf_some (Some f) margin ids x h = refl

pub members_made : (margin : ℕ) (ids : List ℕ) (c : Conf) → margin ≤ MAX_MARGIN → conf_of margin ids ≡ Ok c → Rising ids → if_members margin ids ≡ Some (margin, ids)
members_made margin ids c le made rising =
    let none = conf_none (fault_of margin ids) margin ids c made in
    let test : IsTrue (is_members margin ids) =
    and_from (nat_le margin MAX_MARGIN) (nat_le 1 (length ids) && (is_rising ids && is_none (fault_of margin ids))) (le-leb margin MAX_MARGIN le)
    (and_from (nat_le 1 (length ids)) (is_rising ids && is_none (fault_of margin ids)) (some_voters margin ids none)
    (and_from (is_rising ids) (is_none (fault_of margin ids)) (rising_to ids rising) (ap is_none none))) in
    cond-true (is_members margin ids) (Some (margin, ids)) None test

not_members : (margin : ℕ) (ids : List ℕ) → (IsTrue (is_members margin ids) → ⊥) → if_members margin ids ≡ None
not_members margin ids h = go (is_members margin ids) refl
  where
    go : (b : Bool) → is_members margin ids ≡ b → if_holds {A = ℕ × List ℕ} b (margin, ids) ≡ None
    go true is = absurd (h is)
    go false is = refl

parts : (margin : ℕ) (ids : List ℕ) → IsTrue (is_members margin ids) → IsTrue (is_rising ids) × IsTrue (is_none (fault_of margin ids))
parts margin ids h =
    let p = and_parts (nat_le margin MAX_MARGIN) (nat_le 1 (length ids) && (is_rising ids && is_none (fault_of margin ids))) h in
    let q = and_parts (nat_le 1 (length ids)) (is_rising ids && is_none (fault_of margin ids)) p.1 in
    and_parts (is_rising ids) (is_none (fault_of margin ids)) q.1

pub members_faulty : (margin : ℕ) (ids : List ℕ) (x : ConfigFault) → conf_of margin ids ≡ Err x → if_members margin ids ≡ None
members_faulty margin ids x h = not_members margin ids (λ is. let e : true ≡ false = sym (parts margin ids is).1 ∙ conf_some (fault_of margin ids) margin ids x h in cc e)

pub members_unsorted : (margin : ℕ) (ids : List ℕ) → ¬ (Rising ids) → if_members margin ids ≡ None
members_unsorted margin ids h = not_members margin ids (λ is. h (rising_from ids (parts margin ids is).0))

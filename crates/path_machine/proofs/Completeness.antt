-- Who is elected holds what was chosen in earlier terms, and is the only one.
use Rattle.std.proofs.Common.{◌≡◌, ℕ, zero, suc, ◌+◌, ◌<◌, ◌≤◌, Bool, true, ◌&&◌, ◌==◌, nat_lt, nat_le, inl, inr, Option, Some, [], ◌∷◌, ◌++◌, length, refl, sym, ap, ◌∙◌, subst, append_assoc, arith}
use Rattle.std.proofs.lemmas.Bool.{and_parts, or_cases, ltb-true, leb-true, eqb-true, cases_order}
use Rattle.std.proofs.lemmas.List.{append-nil, same_from_push, length_push}
use Rattle.values.specs.declared.entry.LogEntry.{LogEntry}
use Rattle.replica_model.specs.Path.{Path, last_term}
use Rattle.group_quorum.specs.Conf.{Conf}
use Rattle.replica_model.specs.Configs.{conf}
use Rattle.group_model.specs.Log.{IsFrontOf}
use Rattle.agreement.specs.Promised.{IsComparable}
use Rattle.agreement.proofs.Fronts.{begins, both_fronts, first_of_front}
use Rattle.path_machine.proofs.Fronts.{front_nil, front_append, front_length, front_long, same_next, last_push, ends}
use Rattle.group_quorum.proofs.Sharing.{counts_overlap}
use Rattle.replica_model.specs.Votes.{as_new}
use Rattle.path_machine.specs.Machine.{Reign, History, Chosen}
use Rattle.path_machine.specs.Changes.{Overlap}
use Rattle.path_machine.proofs.Good.{ledger, Settled, Known, HasAccepted, Safe, Elected, Newer, GoodHistory}

pub overlap_same : (c : Conf) → Overlap c c
overlap_same c f g hf hg = counts_overlap c.voters f g (omega (arith, hf, hg))

pub same_reign : (o : Option Reign) (r s : Reign) → o ≡ Some r → o ≡ Some s → r ≡ s
same_reign o r s a b = let both : Some r ≡ Some s = sym a ∙ b in cc

module _ (first : Conf) (h : History) where
  -- terms rise along a path
  pub terms_rise : (b : ℕ) (c1 : Path) (a1 : LogEntry) (c : Path) (a : LogEntry) → Known first h b (c1 ++ a1 ∷ []) → IsFrontOf (c ++ a ∷ []) (c1 ++ a1 ∷ []) → a.term ≤ a1.term
  terms_rise b c1 a1 c a k pre =
      let is : c ++ a ∷ pre.0 ≡ c1 ++ a1 ∷ [] = sym (append_assoc c (a ∷ []) pre.0) ∙ pre.1 in
      elim (ends pre.0) [
        | inl none ↦
            let same = same_from_push c c1 a a1 (subst (λ y. c ++ a ∷ y ≡ c1 ++ a1 ∷ []) none is) in
            let term : a.term ≡ a1.term = ap (λ e. e.term) same.1 in
            omega (arith, term)
        | inr some ↦
            let is' : (c ++ a ∷ some.front) ++ some.entry ∷ [] ≡ c1 ++ a1 ∷ [] =
            append_assoc c (a ∷ some.front) (some.entry ∷ []) ∙ subst (λ y. c ++ a ∷ y ≡ c1 ++ a1 ∷ []) some.is is in
            let same = same_from_push (c ++ a ∷ some.front) c1 some.entry a1 is' in
            (k c1 a1 [] refl).1.rises c a some.front same.0
      ]

  -- what an older path holds, a path that is as new holds too
  pub as_new_holds : (b t t1 : ℕ) (p pv q : Path) → Known first h b pv → Known first h (t + 1) q → IsFrontOf p pv → last_term p ≡ t1 → Safe h t1 p (t + 1) → as_new pv (length q) (last_term q) ≡ true → IsFrontOf p q
  as_new_holds b t t1 p pv q kv kq pre last safe new = elim (ends p) [
    | inl none ↦ subst (λ y. IsFrontOf y q) (sym none) (front_nil q)
    | inr e ↦ elim (ends pv) [
      | inl none ↦
          let le = front_length p pv pre in
          let long : length p ≡ length e.front + 1 = ap length e.is ∙ length_push e.front e.entry in
          let short : length pv ≡ 0 = ap length none in
          absurd (omega (arith, le, long, short))
      | inr ev ↦ elim (ends q) [
        | inl none ↦
            let long : length pv ≡ length ev.front + 1 = ap length ev.is ∙ length_push ev.front ev.entry in
            let new' : as_new pv 0 0 ≡ true = subst (λ y. as_new pv (length y) (last_term y) ≡ true) none new in
            absurd (elim (or_cases (nat_lt (last_term pv) 0) ((0 == last_term pv) && nat_le (length pv) 0) new') [
              | inl lt ↦ let no : last_term pv < 0 = ltb-true (last_term pv) 0 lt in omega arith
              | inr both ↦ let no : length pv ≤ 0 = leb-true (length pv) 0 (and_parts (0 == last_term pv) (nat_le (length pv) 0) both).1 in omega (arith, long)
            ])
        | inr eq ↦
            let term1 : e.entry.term ≡ t1 = sym (last_push e.front e.entry) ∙ (ap last_term (sym e.is) ∙ last) in
            let termv : last_term pv ≡ ev.entry.term = ap last_term ev.is ∙ last_push ev.front ev.entry in
            let termq : last_term q ≡ eq.entry.term = ap last_term eq.is ∙ last_push eq.front eq.entry in
            let kv' : Known first h b (ev.front ++ ev.entry ∷ []) = subst (Known first h b) ev.is kv in
            let rise : e.entry.term ≤ ev.entry.term =
            terms_rise b ev.front ev.entry e.front e.entry kv' (subst (λ y. IsFrontOf y (ev.front ++ ev.entry ∷ [])) e.is (subst (IsFrontOf p) ev.is pre)) in
            let placeq = kq eq.front eq.entry [] (sym eq.is) in
            let placev = kv ev.front ev.entry [] (sym ev.is) in
            elim (or_cases (nat_lt (last_term pv) (last_term q)) ((last_term q == last_term pv) && nat_le (length pv) (length q)) new) [
              | inl lt ↦
                  let lt' : last_term pv < last_term q = ltb-true (last_term pv) (last_term q) lt in
                  let base : IsFrontOf p placeq.1.reign.base =
                  safe eq.entry.term placeq.1.reign (omega (arith, term1, termv, termq, rise)) placeq.0 placeq.1.is in
                  let upto : IsFrontOf eq.front q = subst (IsFrontOf eq.front) (sym eq.is) (front_append eq.front (eq.entry ∷ [])) in
                  begins p placeq.1.reign.base q base (begins placeq.1.reign.base eq.front q placeq.1.after upto)
              | inr both ↦
                  let parts = and_parts (last_term q == last_term pv) (nat_le (length pv) (length q)) both in
                  let same : ev.entry.term ≡ eq.entry.term = sym termv ∙ (sym (eqb-true (last_term q) (last_term pv) parts.0) ∙ termq) in
                  let one : placev.1.reign ≡ placeq.1.reign = same_reign (h.reigns eq.entry.term) placev.1.reign placeq.1.reign (subst (λ n. h.reigns n ≡ Some placev.1.reign) same placev.1.is) placeq.1.is in
                  let upv : IsFrontOf pv (ledger placeq.1.reign) = subst (λ r. IsFrontOf pv (ledger r)) one (subst (λ y. IsFrontOf y (ledger placev.1.reign)) (sym ev.is) placev.1.upto) in
                  let upq : IsFrontOf q (ledger placeq.1.reign) = subst (λ y. IsFrontOf y (ledger placeq.1.reign)) (sym eq.is) placeq.1.upto in
                  begins p pv q pre (front_long pv q (ledger placeq.1.reign) upv upq (leb-true (length pv) (length q) parts.1))
            ]
      ]
    ]
  ]

  -- each leader of a term below n holds what was chosen before it
  abbrev Complete : ℕ → Type 0
  Complete n = (u : ℕ) (r : Reign) → u < n → h.reigns u ≡ Some r → (t : ℕ) (p : Path) → Chosen h t p → t < u → IsFrontOf p r.base

  abbrev Comparable : ℕ → Type 0
  Comparable n = (t t2 : ℕ) (p p2 : Path) → Chosen h t p → Chosen h t2 p2 → t < n → t2 < n → IsComparable p p2

  swap : (p q : Path) → IsComparable p q → IsComparable q p
  swap p q (inl a) = inr a
  swap p q (inr b) = inl b

  earlier : GoodHistory first h → (n : ℕ) → Complete n → (t t2 : ℕ) (p p2 : Path) → Chosen h t p → Chosen h t2 p2 → t < t2 → t2 < n → IsComparable p p2
  earlier good n complete t t2 p p2 a b lt below =
      let g = good.chosen t2 p2 b in
      let up : IsFrontOf p (ledger g.reign) = begins p g.reign.base (ledger g.reign) (complete t2 g.reign below g.is t p a lt) (front_append g.reign.base g.reign.own) in
      both_fronts p p2 (ledger g.reign) up g.front

  comparable : GoodHistory first h → (n : ℕ) → Complete n → Comparable n
  comparable good n complete t t2 p p2 a b lt lt2 = elim (cases_order t t2) [
    | inl same ↦
        let g = good.chosen t p a in
        let g2 = good.chosen t2 p2 b in
        let one : g.reign ≡ g2.reign = same_reign (h.reigns t2) g.reign g2.reign (subst (λ n. h.reigns n ≡ Some g.reign) same g.is) g2.is in
        both_fronts p p2 (ledger g2.reign) (subst (λ r. IsFrontOf p (ledger r)) one g.front) g2.front
    | inr apart ↦ elim apart [
      | inl less ↦ earlier good n complete t t2 p p2 a b less lt2
      | inr more ↦ swap p2 p (earlier good n complete t2 t p2 p b a more lt)
    ]
  ]

  -- who is elected by voters that had what they accepted holds all that was chosen
  module _ (good : GoodHistory first h) (n : ℕ) (q : Path) (who : ℕ → Bool)
      (elected : Elected first h n q who)
      (agreeing : Comparable n)
      (votes : (v : ℕ) → who v ≡ true → (t : ℕ) (p : Path) → Chosen h t p → t < n → HasAccepted h v t p → IsFrontOf p q) where
    next : (t : ℕ) (p : Path) → Chosen h t p → t < n → (c : Path) (a : LogEntry) (r : Path) → c ++ a ∷ r ≡ p → IsFrontOf c q → IsFrontOf (c ++ a ∷ []) q
    next t p chosen lt c a r is pre =
        let fixed = (good.chosen t p chosen).fixed c a r is in
        elim (elected c pre.0 pre.1) [
          | inl most ↦
              let shared = fixed.near who fixed.who most fixed.enough in
              let term : fixed.settled.term < t + 1 = fixed.settled.below in
              begins (c ++ a ∷ []) fixed.settled.path q fixed.settled.front
              (votes shared.0 shared.1 fixed.settled.term fixed.settled.path fixed.settled.chosen (omega arith) (fixed.each shared.0 shared.2))
          | inr o ↦
              let s = o.3 in
              let mine : IsFrontOf (c ++ a ∷ []) p = subst (IsFrontOf (c ++ a ∷ [])) is (first_of_front c a r) in
              let same : a ≡ o.0 = elim (agreeing t s.term p s.path chosen s.chosen lt s.below) [
                | inl x ↦ same_next c a o.0 s.path (begins (c ++ a ∷ []) p s.path mine x) s.front
                | inr x ↦ same_next c a o.0 p mine (begins (c ++ o.0 ∷ []) s.path p s.front x)
              ] in
              let whole : c ++ o.0 ∷ o.1 ≡ q = subst (λ d. c ++ d ≡ q) o.2 pre.1 in
              subst (λ e. IsFrontOf (c ++ e ∷ []) q) (sym same) (subst (IsFrontOf (c ++ o.0 ∷ [])) whole (first_of_front c o.0 o.1))
        ]

    along : (t : ℕ) (p : Path) → Chosen h t p → t < n → (c r : Path) → c ++ r ≡ p → IsFrontOf c q → IsFrontOf (c ++ r) q
    along t p chosen lt c [] is pre = subst (λ y. IsFrontOf y q) (sym (append-nil c)) pre
    along t p chosen lt c (a ∷ r) is pre =
        subst (λ y. IsFrontOf y q) (append_assoc c (a ∷ []) r)
        (along t p chosen lt (c ++ a ∷ []) r (append_assoc c (a ∷ []) r ∙ is) (next t p chosen lt c a r is pre))

    pub elected_holds : (t : ℕ) (p : Path) → Chosen h t p → t < n → IsFrontOf p q
    elected_holds t p chosen lt = along t p chosen lt [] p refl (front_nil q)

  complete_upto : GoodHistory first h → (n : ℕ) → Complete n
  complete_upto good zero u r lt is = absurd (omega arith)
  complete_upto good (suc n) u r lt is =
      let g = good.reigns u r is in
      let before : Complete u = λ x s less at. complete_upto good n x s (omega arith) at in
      elected_holds good u r.base r.who g.elected (comparable good u before)
      (λ v some t p chosen less acc. g.newer v some t p acc (good.chosen t p chosen).last less (λ x s more less' at. before x s less' at t p chosen more))

  -- each leader holds what was chosen in an earlier term
  pub complete : GoodHistory first h → (u : ℕ) (r : Reign) → h.reigns u ≡ Some r → (t : ℕ) (p : Path) → Chosen h t p → t < u → IsFrontOf p r.base
  complete good u r is = complete_upto good (u + 1) u r (omega arith) is

  -- what was chosen does not differ
  pub chosen_agree : GoodHistory first h → (t t2 : ℕ) (p p2 : Path) → Chosen h t p → Chosen h t2 p2 → IsComparable p p2
  chosen_agree good t t2 p p2 a b = comparable good (t + t2 + 1) (complete_upto good (t + t2 + 1)) t t2 p p2 a b (omega arith) (omega arith)

  -- a candidate with enough votes holds it too
  pub candidate_holds : GoodHistory first h → (n : ℕ) (q : Path) (who : ℕ → Bool) → Elected first h n q who → ((v : ℕ) → who v ≡ true → Newer h v n (n + 1) q) → (t : ℕ) (p : Path) → Chosen h t p → t < n → IsFrontOf p q
  candidate_holds good n q who elected newer =
      elected_holds good n q who elected (comparable good n (complete_upto good n))
      (λ v some t p chosen less acc. newer v some t p acc (good.chosen t p chosen).last less (λ x s more less' at. complete good x s at t p chosen more))

  -- two that are elected in one term share a voter
  module _ (n : ℕ) (q1 q2 : Path) (who1 who2 : ℕ → Bool)
      (elected1 : Elected first h n q1 who1)
      (elected2 : Elected first h n q2 who2)
      (holds1 : (t : ℕ) (p : Path) → Chosen h t p → t < n → IsFrontOf p q1)
      (holds2 : (t : ℕ) (p : Path) → Chosen h t p → t < n → IsFrontOf p q2) where
    abbrev Shared : Type 0
    Shared = (v : ℕ) × (who1 v ≡ true) × (who2 v ≡ true)

    short : (c : Path) (b : LogEntry) → IsFrontOf (c ++ b ∷ []) c → ⊥
    short c b pre = let le = front_length (c ++ b ∷ []) c pre in omega (arith, le, length_push c b)

    follows : (c : Path) (a : LogEntry) (r : Path) (b : LogEntry) → c ++ a ∷ r ≡ q1 → Settled h n (c ++ b ∷ []) → IsFrontOf (c ++ a ∷ []) q2
    follows c a r b is1 s =
        let mine : IsFrontOf (c ++ a ∷ []) q1 = subst (IsFrontOf (c ++ a ∷ [])) is1 (first_of_front c a r) in
        let pre1 : IsFrontOf (c ++ b ∷ []) q1 = begins (c ++ b ∷ []) s.path q1 s.front (holds1 s.term s.path s.chosen s.below) in
        let pre2 : IsFrontOf (c ++ b ∷ []) q2 = begins (c ++ b ∷ []) s.path q2 s.front (holds2 s.term s.path s.chosen s.below) in
        subst (λ e. IsFrontOf (c ++ e ∷ []) q2) (sym (same_next c a b q1 mine pre1)) pre2

    walk : (c d1 d2 : Path) → c ++ d1 ≡ q1 → c ++ d2 ≡ q2 → Shared
    walk c [] d2 is1 is2 = elim (elected1 c [] is1) [
      | inl most1 ↦ elim (elected2 c d2 is2) [
        | inl most2 ↦ overlap_same (conf first c) who1 who2 most1 most2
        | inr o ↦
            let pre : IsFrontOf (c ++ o.0 ∷ []) q1 = begins (c ++ o.0 ∷ []) o.3.path q1 o.3.front (holds1 o.3.term o.3.path o.3.chosen o.3.below) in
            absurd (short c o.0 (subst (IsFrontOf (c ++ o.0 ∷ [])) (sym is1 ∙ append-nil c) pre))
      ]
      | inr o ↦ absurd (let none : [] ≡ o.0 ∷ o.1 = o.2 in cc)
    ]
    walk c (a ∷ r) d2 is1 is2 =
        let go_on : IsFrontOf (c ++ a ∷ []) q2 → Shared = λ pre. walk (c ++ a ∷ []) r pre.0 (append_assoc c (a ∷ []) r ∙ is1) pre.1 in
        elim (elected1 c (a ∷ r) is1) [
          | inr o ↦ go_on (follows c a r o.0 is1 o.3)
          | inl most1 ↦ elim (elected2 c d2 is2) [
            | inl most2 ↦ overlap_same (conf first c) who1 who2 most1 most2
            | inr o ↦ go_on (follows c a r o.0 is1 o.3)
          ]
        ]

    pub shared : Shared
    shared = walk [] q1 q2 refl refl

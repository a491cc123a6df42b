-- Voters in rising order stay so where one is put in or taken out, and that is a single change; so is another margin.
use Rattle.std.proofs.Common.{◌≡◌, ℕ, ◌<◌, ◌≤◌, ◌==◌, true, false, not, ◌&&◌, ◌||◌, nat_lt, bytes_eq, inl, inr, Option, Some, None, Ok, List, [], ◌∷◌, ◌++◌, length, refl, sym, ap, ◌∙◌, subst, arith}
use Rattle.std.proofs.lemmas.Bool.{and_parts, and_from, or_parts, or_cases, or_left, or_right, cond_both, cond-true, cond-false, ltb-true, ltb-false, lt-ltb, eqb-true, eqb-false, eq-eqb, ne_eqb, cases_Bool, cases_eq}
use Rattle.std.proofs.lemmas.List.Folds.{list_any-append}
use Rattle.group_quorum.specs.Conf.{Conf}
use Rattle.group_quorum.specs.Voters.{is_in, first_bad, first_double, double_fault, bad_fault, fault_of, insert_rising, rising, conf_of}
use Rattle.group_quorum.specs.declared.ConfigFault.TheVariants.{TooMany}
use Rattle.group_quorum.specs.declared.TheConstants.{MAX_VOTERS}
use Rattle.group_quorum.proofs.Inserted.{is_in-rising}
use Rattle.group_quorum.proofs.Made.{conf_or-made}
use Rattle.replica_model.specs.Peers.{others}
use Rattle.replica_model.specs.Changes.{with_voter, without_voter}
use Rattle.path_machine.specs.Changes.{rises_from, is_rising, is_one_more, is_single_change}
use Rattle.path_machine.proofs.Fronts.{bytes_refl}

-- ids above v are above each that is not above v
weaken : (v w : ℕ) (ws : List ℕ) → v ≤ w → rises_from w ws ≡ true → rises_from v ws ≡ true
weaken v w [] le h = refl
weaken v w (x ∷ xs) le h =
    let parts = and_parts (nat_lt w x) (rises_from x xs) h in
    let lt : w < x = ltb-true w x parts.0 in
    and_from (nat_lt v x) (rises_from x xs) (lt-ltb v x (omega arith)) parts.1

-- an id put in where it does not stand
module _ (id : ℕ) where
  -- what is not the head's own id, and not below it, is above it
  above_head : (w : ℕ) (ws : List ℕ) → is_in (w ∷ ws) id ≡ false → nat_lt id w ≡ false → w < id
  above_head w ws out other =
      let apart = eqb-false w id (or_parts (w == id) (is_in ws id) out).0 in
      let le : w ≤ id = ltb-false id w other in
      elim (cases_eq w id) [ inl same ↦ absurd (apart same) | inr ne ↦ omega (arith, ne) ]

  insert_from : (v : ℕ) (ws : List ℕ) → v < id → rises_from v ws ≡ true → is_in ws id ≡ false → rises_from v (insert_rising id ws) ≡ true
  insert_from v [] lt h out = and_from (nat_lt v id) true (lt-ltb v id lt) refl
  insert_from v (w ∷ ws) lt h out =
      let parts = and_parts (nat_lt v w) (rises_from w ws) h in
      cond_both (nat_lt id w) (id ∷ w ∷ ws) (w ∷ insert_rising id ws) (λ xs. rises_from v xs ≡ true)
      (λ b. and_from (nat_lt v id) (nat_lt id w && rises_from w ws) (lt-ltb v id lt) (and_from (nat_lt id w) (rises_from w ws) b parts.1))
      (λ b. and_from (nat_lt v w) (rises_from w (insert_rising id ws)) parts.0
      (insert_from w ws (above_head w ws out b) parts.1 (or_parts (w == id) (is_in ws id) out).1))

  pub insert_rises : (ws : List ℕ) → is_rising ws ≡ true → is_in ws id ≡ false → is_rising (insert_rising id ws) ≡ true
  insert_rises [] h out = refl
  insert_rises (w ∷ ws) h out = cond_both (nat_lt id w) (id ∷ w ∷ ws) (w ∷ insert_rising id ws) (λ xs. is_rising xs ≡ true)
      (λ b. and_from (nat_lt id w) (rises_from w ws) b h)
      (λ b. insert_from w ws (above_head w ws out b) h (or_parts (w == id) (is_in ws id) out).1)

  insert_one : (ws : List ℕ) → is_one_more ws (insert_rising id ws) ≡ true
  insert_one [] = refl
  insert_one (w ∷ ws) = cond_both (nat_lt id w) (id ∷ w ∷ ws) (w ∷ insert_rising id ws) (λ xs. is_one_more (w ∷ ws) xs ≡ true)
      (λ b. or_right (w == id && is_one_more ws (w ∷ ws)) (bytes_eq (w ∷ ws) (w ∷ ws)) (bytes_refl (w ∷ ws)))
      (λ b. or_left (w == w && is_one_more ws (insert_rising id ws)) (bytes_eq (w ∷ ws) (insert_rising id ws))
      (and_from (w == w) (is_one_more ws (insert_rising id ws)) (eq-eqb w w refl) (insert_one ws)))

  -- an id taken out
  head_out : (w : ℕ) (ws : List ℕ) → (w == id) ≡ true → others id (w ∷ ws) ≡ others id ws
  head_out w ws same = cond-false (not (w == id)) (w ∷ others id ws) (others id ws) (ap not same)

  head_stays : (w : ℕ) (ws : List ℕ) → (w == id) ≡ false → others id (w ∷ ws) ≡ w ∷ others id ws
  head_stays w ws apart = cond-true (not (w == id)) (w ∷ others id ws) (others id ws) (ap not apart)

  none_out : (v : ℕ) (ws : List ℕ) → id ≤ v → rises_from v ws ≡ true → others id ws ≡ ws
  none_out v [] le h = refl
  none_out v (w ∷ ws) le h =
      let parts = and_parts (nat_lt v w) (rises_from w ws) h in
      let lt : v < w = ltb-true v w parts.0 in
      head_stays w ws (ne_eqb w id (λ same. omega (arith, same))) ∙ ap (λ xs. w ∷ xs) (none_out w ws (omega arith) parts.1)

  out_from : (v : ℕ) (ws : List ℕ) → rises_from v ws ≡ true → rises_from v (others id ws) ≡ true
  out_from v [] h = refl
  out_from v (w ∷ ws) h =
      let parts = and_parts (nat_lt v w) (rises_from w ws) h in
      let lt : v < w = ltb-true v w parts.0 in
      let rest : rises_from w (others id ws) ≡ true = out_from w ws parts.1 in
      elim (cases_Bool (w == id)) [
        | inl same ↦ subst (λ xs. rises_from v xs ≡ true) (sym (head_out w ws same)) (weaken v w (others id ws) (omega arith) rest)
        | inr apart ↦ subst (λ xs. rises_from v xs ≡ true) (sym (head_stays w ws apart)) (and_from (nat_lt v w) (rises_from w (others id ws)) parts.0 rest)
      ]

  rising_of_from : (v : ℕ) (ws : List ℕ) → rises_from v ws ≡ true → is_rising ws ≡ true
  rising_of_from v [] h = refl
  rising_of_from v (w ∷ ws) h = (and_parts (nat_lt v w) (rises_from w ws) h).1

  pub out_rises : (ws : List ℕ) → is_rising ws ≡ true → is_rising (others id ws) ≡ true
  out_rises [] h = refl
  out_rises (w ∷ ws) h = elim (cases_Bool (w == id)) [
    | inl same ↦ subst (λ xs. is_rising xs ≡ true) (sym (head_out w ws same)) (rising_of_from w (others id ws) (out_from w ws h))
    | inr apart ↦ subst (λ xs. is_rising xs ≡ true) (sym (head_stays w ws apart)) (out_from w ws h)
  ]

  one_first : (y : ℕ) (xs : List ℕ) → is_one_more xs (y ∷ xs) ≡ true
  one_first y [] = refl
  one_first y (x ∷ xs) = or_right (x == y && is_one_more xs (x ∷ xs)) (bytes_eq (x ∷ xs) (x ∷ xs)) (bytes_refl (x ∷ xs))

  out_one : (ws : List ℕ) → is_rising ws ≡ true → is_in ws id ≡ true → is_one_more (others id ws) ws ≡ true
  out_one [] h here = cc
  out_one (w ∷ ws) h here = elim (cases_Bool (w == id)) [
    | inl same ↦
        let is : w ≡ id = eqb-true w id same in
        subst (λ xs. is_one_more xs (w ∷ ws) ≡ true) (sym (head_out w ws same ∙ none_out w ws (omega (arith, is)) h)) (one_first w ws)
    | inr apart ↦
        let rest : is_in ws id ≡ true = elim (or_cases (w == id) (is_in ws id) here) [ inl same ↦ absurd (let never : true ≡ false = sym same ∙ apart in cc) | inr more ↦ more ] in
        subst (λ xs. is_one_more xs (w ∷ ws) ≡ true) (sym (head_stays w ws apart))
        (or_left (w == w && is_one_more (others id ws) ws) (bytes_eq (w ∷ others id ws) ws)
        (and_from (w == w) (is_one_more (others id ws) ws) (eq-eqb w w refl) (out_one ws (rising_of_from w ws h) rest)))
  ]

single : (c d : Conf) → is_rising d.voters ≡ true → (bytes_eq c.voters d.voters || (is_one_more c.voters d.voters || is_one_more d.voters c.voters)) ≡ true → is_single_change c d ≡ true
single c d rises change = and_from (is_rising d.voters) (bytes_eq c.voters d.voters || (is_one_more c.voters d.voters || is_one_more d.voters c.voters)) rises change

-- an admission
pub admission_is_single : (c : Conf) (id : ℕ) → is_rising c.voters ≡ true → is_in c.voters id ≡ false → is_single_change c (with_voter c id) ≡ true
admission_is_single c id rises out =
    let more : List ℕ = insert_rising id c.voters in
    single c (with_voter c id) (insert_rises id c.voters rises out)
    (or_right (bytes_eq c.voters more) (is_one_more c.voters more || is_one_more more c.voters) (or_left (is_one_more c.voters more) (is_one_more more c.voters) (insert_one id c.voters)))

-- a removal
pub removal_is_single : (c : Conf) (id : ℕ) → is_rising c.voters ≡ true → is_in c.voters id ≡ true → is_single_change c (without_voter c id) ≡ true
removal_is_single c id rises here =
    let less : List ℕ = others id c.voters in
    single c (without_voter c id) (out_rises id c.voters rises)
    (or_right (bytes_eq c.voters less) (is_one_more c.voters less || is_one_more less c.voters) (or_right (is_one_more c.voters less) (is_one_more less c.voters) (out_one id c.voters rises here)))

-- another margin
pub margin_is_single : (c : Conf) (margin : ℕ) → is_rising c.voters ≡ true → is_single_change c (record c { margin = margin }) ≡ true
margin_is_single c margin rises =
    single c (record c { margin = margin }) rises
    (or_left (bytes_eq c.voters c.voters) (is_one_more c.voters c.voters || is_one_more c.voters c.voters) (bytes_refl c.voters))

-- what followed a single change is in rising order
pub rising_after : (c d : Conf) → is_single_change c d ≡ true → is_rising d.voters ≡ true
rising_after c d near = (and_parts (is_rising d.voters) (bytes_eq c.voters d.voters || (is_one_more c.voters d.voters || is_one_more d.voters c.voters)) near).0

-- where no id stands twice, none that was seen stands later
seen_out : (seen ids : List ℕ) (x : ℕ) → first_double seen ids ≡ None → is_in seen x ≡ true → is_in ids x ≡ false
seen_out seen [] x none here = refl
seen_out seen (w ∷ ids) x double stands = cond_both (is_in seen w) (Some w) (first_double (seen ++ w ∷ []) ids) (λ o. o ≡ None → is_in seen x ≡ true → is_in (w ∷ ids) x ≡ false)
    (λ b none here. absurd (let never : Some w ≡ None = none in cc))
    (λ b none here.
    let apart : (w == x) ≡ false = ne_eqb w x (λ same. absurd (let never : true ≡ false = sym here ∙ (ap (is_in seen) (sym same) ∙ b) in cc)) in
    let more : is_in (seen ++ w ∷ []) x ≡ true = list_any-append (λ y. y == x) seen (w ∷ []) ∙ or_left (is_in seen x) (is_in (w ∷ []) x) here in
    let rest : is_in ids x ≡ false = seen_out (seen ++ w ∷ []) ids x none more in
    ap (λ y. y || is_in ids x) apart ∙ rest)
    double stands

rising_rises : (seen ids : List ℕ) → first_double seen ids ≡ None → is_rising (rising ids) ≡ true
rising_rises seen [] none = refl
rising_rises seen (v ∷ ids) double = cond_both (is_in seen v) (Some v) (first_double (seen ++ v ∷ []) ids) (λ o. o ≡ None → is_rising (rising (v ∷ ids)) ≡ true)
    (λ b none. absurd (let never : Some v ≡ None = none in cc))
    (λ b none.
    let here : is_in (seen ++ v ∷ []) v ≡ true =
    list_any-append (λ y. y == v) seen (v ∷ []) ∙ or_right (is_in seen v) (is_in (v ∷ []) v) (or_left (v == v) false (eq-eqb v v refl)) in
    let out : is_in ids v ≡ false = seen_out (seen ++ v ∷ []) ids v none here in
    let out' : is_in (rising ids) v ≡ false = is_in-rising ids v ∙ out in
    insert_rises v (rising ids) (rising_rises (seen ++ v ∷ []) ids none) out')
    double

no_double : (o : Option ℕ) (margin : ℕ) (ids : List ℕ) → double_fault o margin ids ≡ None → o ≡ None
no_double None margin ids h = refl
no_double (Some v) margin ids h = cc

no_bad : (o : Option ℕ) (margin : ℕ) (ids : List ℕ) → bad_fault o margin ids ≡ None → first_double [] ids ≡ None
no_bad None margin ids h = no_double (first_double [] ids) margin ids h
no_bad (Some v) margin ids h = cc

no_fault : (margin : ℕ) (ids : List ℕ) → fault_of margin ids ≡ None → first_double [] ids ≡ None
no_fault margin ids = cond_both (nat_lt MAX_VOTERS (length ids)) (Some (TooMany _)) (bad_fault (first_bad ids) margin ids) (λ o. o ≡ None → first_double [] ids ≡ None)
    (λ b h. cc)
    (λ b h. no_bad (first_bad ids) margin ids h)

-- a configuration that was made is in rising order
pub made_rises : (margin : ℕ) (ids : List ℕ) (c : Conf) → conf_of margin ids ≡ Ok c → is_rising c.voters ≡ true
made_rises margin ids c h =
    let made = conf_or-made (fault_of margin ids) margin ids c h in
    subst (λ vs. is_rising vs ≡ true) made.1 (rising_rises [] ids (no_fault margin ids made.0))

-- A sound configuration with one voter more or less.
use Rattle.std.proofs.Common.{◌≡◌, ℕ, ◌+◌, ◌-◌, ◌*◌, ◌<◌, ◌≤◌, Bool, true, false, cond, not, List, [], ◌∷◌, ◌++◌, length, refl, ap, ◌∙◌, arith}
use Rattle.std.specs.Prelude.{◌==◌, min, Result, Ok, Err, Some, None}
use Rattle.std.proofs.lemmas.Bool.{le-ltb}
use Rattle.std.proofs.lemmas.List.{length-append}
use Rattle.std.proofs.lemmas.List.Elements.{recursion_from_All}
use Rattle.values.specs.Rising.{Rising}
use Rattle.values.proofs.RisingLists.{rising_from_increasing}
use Rattle.group_quorum.specs.Conf.{Conf}
use Rattle.group_quorum.specs.Voters.{is_in, IsId, IsSound, bad_fault, double_fault, few_fault, conf_or, conf_of, first_bad, first_double, rising}
use Rattle.group_quorum.specs.declared.ConfigFault.{ConfigFault}
use Rattle.group_quorum.specs.declared.ConfigFault.TheVariants.{TooFew, TooMany}
use Rattle.replica_model.specs.Peers.{others}
use Rattle.replica_model.specs.Changes.{are_few, with_voter, without_voter}
use Rattle.member_rules.specs.declared.fault.MemberFault.{MemberFault}
use Rattle.member_rules.specs.declared.fault.MemberFault.TheVariants.{TooFew as MemberTooFew}
use Rattle.replica_model.proofs.RisingIds.{AreIds, each_pushed, each_filtered, rising_filtered, no_bad, no_double, none_seen, no_double_pushed, rising_same, rising_pushed, one_less}

-- ids with no bad one and no double, and not too many
of_good : (margin : ℕ) (ids : List ℕ) → length ids ≤ 31 → first_bad ids ≡ None → first_double [] ids ≡ None
    → conf_of margin ids ≡ conf_or (few_fault margin ids) margin ids
of_good margin ids few no_bads no_doubles =
    ap (λ b. conf_or (cond b (Some (TooMany (min (length ids) 4294967295))) (bad_fault (first_bad ids) margin ids)) margin ids) (le-ltb 31 (length ids) few)
    ∙ ap (λ f. conf_or (bad_fault f margin ids) margin ids) no_bads
    ∙ ap (λ f. conf_or (double_fault f margin ids) margin ids) no_doubles

-- a fault of one voter less is that too few are left
abbrev pub told : ℕ → Result Conf ConfigFault → Result Conf MemberFault
told n (Ok k) = Ok k
told n (Err fault) = Err (MemberTooFew n)

module _ (c : Conf) (sound : IsSound c) where
  rises : Rising c.voters
  rises = rising_from_increasing c.voters sound.in_order

  are_ids : AreIds c.voters
  are_ids = recursion_from_All IsId c.voters sound.ids

  -- one more
  pub with_one : (id : ℕ) → IsId id → is_in c.voters id ≡ false → length c.voters < 31 → conf_of c.margin (c.voters ++ id ∷ []) ≡ Ok (with_voter c id)
  with_one id is_id absent room =
      let ids : List ℕ = c.voters ++ id ∷ [] in
      let l : length ids ≡ length c.voters + 1 = length-append c.voters (id ∷ []) in
      let enough = sound.enough in
      of_good c.margin ids (omega (arith, l, room)) (no_bad ids (each_pushed IsId c.voters id are_ids is_id))
      (no_double_pushed [] c.voters id rises (none_seen c.voters) refl absent)
      ∙ ap (λ b. conf_or (cond b (Some (TooFew (length ids))) None) c.margin ids) (le-ltb (length ids) (2 * c.margin + 1) (omega (arith, l, enough)))
      ∙ ap (λ voters. Ok (record { margin = c.margin; voters = voters })) (rising_pushed c.voters id rises absent)

  few_left : (n : ℕ) (ids : List ℕ) (b : Bool) → told n (conf_or (cond b (Some (TooFew (length ids))) None) c.margin ids)
      ≡ cond b (Err (MemberTooFew n)) (Ok (record { margin = c.margin; voters = rising ids }))
  few_left n ids true = refl
  few_left n ids false = refl

  -- one less
  pub without_one : (id : ℕ) (r : Result Conf ConfigFault) → is_in c.voters id ≡ true → r ≡ conf_of c.margin (others id c.voters)
      → told (length c.voters - 1) r ≡ cond (are_few (length c.voters - 1) c.margin) (Err (MemberTooFew (length c.voters - 1))) (Ok (without_voter c id))
  without_one id r present is =
      let ids : List ℕ = others id c.voters in
      let n : ℕ = length c.voters - 1 in
      let l : length ids + 1 ≡ length c.voters = one_less id c.voters rises present in
      let count : length ids ≡ n = omega (arith, l) in
      let most = sound.at_most in
      let good = of_good c.margin ids (omega (arith, l, most)) (no_bad ids (each_filtered IsId (λ v. not (v == id)) c.voters are_ids))
      (no_double [] ids (rising_filtered (λ v. not (v == id)) c.voters rises) (none_seen ids)) in
      ap (told n) (is ∙ good) ∙ few_left n ids (are_few (length ids) c.margin)
      ∙ ap (λ k. cond (are_few k c.margin) (Err (MemberTooFew n)) (Ok (record { margin = c.margin; voters = rising ids }))) count
      ∙ ap (λ voters. cond (are_few n c.margin) (Err (MemberTooFew n)) (Ok (record { margin = c.margin; voters = voters })))
      (rising_same ids (rising_filtered (λ v. not (v == id)) c.voters rises))

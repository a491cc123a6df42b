-- The numbers of a fault are in range.
use Rattle.std.proofs.Common.{ℕ, ◌+◌, ◌-◌, ◌≤◌, Bool, not, ◌||◌, nat_lt, nat_le, List, [], ◌∷◌, ◌++◌, arith}
use Rattle.std.specs.Prelude.{◌==◌, Err, IfErr}
use Rattle.std.proofs.lemmas.Bool.{cond_both}
use Rattle.group_quorum.specs.Voters.{is_in}
use Rattle.group_quorum.specs.declared.TheConstants.{MAX_MARGIN, MAX_VOTERS}
use Rattle.values.specs.declared.limits.TheConstants.{TOP}
use Rattle.replica_model.specs.declared.TheConstants.{MAX_LEARNERS}
use Rattle.replica_model.specs.Changes.{are_few, with_voter, without_voter}
use Rattle.member_rules.specs.declared.fault.MemberFault.{MemberFault}
use Rattle.member_rules.specs.declared.fault.MemberFault.TheVariants.{AlreadyVoter, NotVoter, TooFew, TooMany, NotCaughtUp, NoLink, SameMargin}
use Rattle.member_rules.specs.declared.standing.Standing.{Standing}
use Rattle.member_rules.specs.Faults.{unless_fault, closed, count_of, join_of, admit_of, remove_of, margin_of}
use Rattle.member_rules.specs.InRange.{IsStandingInRange, IsFaultInRange}

-- each fault that may be told is in range
abbrev pub AreRanged : List (Bool × MemberFault) → Type 0
AreRanged [] = Unit {0}
AreRanged ((holds, fault) ∷ more) = IsFaultInRange fault × AreRanged more

pub told-in : {A : Type 0} (rules : List (Bool × MemberFault)) (answer : A) → AreRanged rules → IfErr (unless_fault rules answer) IsFaultInRange
told-in [] answer all = tt
told-in ((holds, fault) ∷ more) answer all =
    cond_both holds (Err fault) (unless_fault more answer) (λ r. IfErr r IsFaultInRange) (λ t. all.0) (λ f. told-in more answer all.1)

module _ (s : Standing) (ranged : IsStandingInRange s) where
  committed-in : s.committed ≤ TOP
  committed-in = let a = ranged.committed in let b = ranged.last in omega (arith, a, b)

  newest-in : s.newest_index ≤ TOP
  newest-in = let a = ranged.newest_index in let b = ranged.last in omega (arith, a, b)

  pub join-in : (id : ℕ) (linked : Bool) (learners : ℕ) → IfErr (join_of s id linked learners) IsFaultInRange
  join-in id linked learners =
      told-in
      ((is_in s.newest.voters id, AlreadyVoter id) ∷ (not linked, NoLink id) ∷ (nat_le MAX_LEARNERS learners, TooMany (MAX_LEARNERS + 1)) ∷ [])
      tt (tt, (tt, (tt, tt)))

  pub admit-in : (id mark : ℕ) → mark ≤ TOP → IfErr (admit_of s id mark) IsFaultInRange
  admit-in id mark le =
      told-in
      (closed s ++ (is_in s.newest.voters id, AlreadyVoter id)
      ∷ (nat_le MAX_VOTERS (count_of s), TooMany (count_of s + 1))
      ∷ (mark == 0 || nat_lt mark s.committed, NotCaughtUp mark s.committed)
      ∷ []) (with_voter s.newest id)
      (ranged.last, ((newest-in, committed-in), (tt, (tt, ((le, committed-in), tt)))))

  pub remove-in : (id : ℕ) → IfErr (remove_of s id) IsFaultInRange
  remove-in id =
      told-in
      (closed s ++ (not (is_in s.newest.voters id), NotVoter id)
      ∷ (are_few (count_of s - 1) s.newest.margin, TooFew (count_of s - 1))
      ∷ []) (without_voter s.newest id)
      (ranged.last, ((newest-in, committed-in), (tt, (tt, tt))))

  pub margin-in : (margin : ℕ) → margin ≤ MAX_MARGIN → IfErr (margin_of s margin) IsFaultInRange
  margin-in margin le =
      told-in
      (closed s ++ (s.newest.margin == margin, SameMargin margin) ∷ (are_few (count_of s) margin, TooFew (count_of s)) ∷ [])
      (record (s.newest) { margin = margin })
      (ranged.last, ((newest-in, committed-in), (le, (tt, tt))))

-- Why a change of the members is refused, in order, and what it makes of a configuration.
use Rattle.std.specs.Prelude.{ℕ, ◌+◌, ◌-◌, Bool, cond, not, ◌||◌, ◌==◌, nat_lt, nat_le, Result, Ok, Err, List, [], ◌∷◌, ◌++◌, length}
use Rattle.group_quorum.specs.Conf.{Conf}
use Rattle.group_quorum.specs.Voters.{is_in}
use Rattle.group_quorum.specs.declared.TheConstants.{MAX_VOTERS}
use Rattle.values.specs.declared.limits.TheConstants.{TOP}
use Rattle.replica_model.specs.declared.TheConstants.{MAX_LEARNERS}
use Rattle.replica_model.specs.Changes.{are_few, with_voter, without_voter}
use Rattle.member_rules.specs.declared.standing.Standing.{Standing}
use Rattle.member_rules.specs.declared.fault.MemberFault.{MemberFault}
use Rattle.member_rules.specs.declared.fault.MemberFault.TheVariants.{LogFull, ChangePending, AlreadyVoter, NotVoter, TooFew, TooMany, NotCaughtUp, NoLink, SameMargin}

-- the first fault whose test holds, or the answer where none does
abbrev pub unless_fault : {A : Type 0} → List (Bool × MemberFault) → A → Result A MemberFault
unless_fault [] answer = Ok answer
unless_fault ((holds, fault) ∷ more) answer = cond holds (Err fault) (unless_fault more answer)

-- the log is full, or a change is pending
abbrev pub closed : Standing → List (Bool × MemberFault)
closed s =
    (s.last == TOP, LogFull s.last)
    ∷ (nat_lt s.committed s.newest_index, ChangePending s.newest_index s.committed)
    ∷ []

-- no change is pending
abbrev pub is_open : Standing → Result (Unit {0}) MemberFault
is_open s = unless_fault (closed s) tt

-- the number of voters
abbrev pub count_of : Standing → ℕ
count_of s = length s.newest.voters

-- a join: a voter, no link, or too many learners
abbrev pub join_of : Standing → ℕ → Bool → ℕ → Result (Unit {0}) MemberFault
join_of s id linked learners =
    unless_fault (
    (is_in s.newest.voters id, AlreadyVoter id)
    ∷ (not linked, NoLink id)
    ∷ (nat_le MAX_LEARNERS learners, TooMany (MAX_LEARNERS + 1))
    ∷ []
    ) tt

-- an admission
abbrev pub admit_of : Standing → ℕ → ℕ → Result Conf MemberFault
admit_of s id mark =
    unless_fault (
    closed s
    ++ (is_in s.newest.voters id, AlreadyVoter id)
    ∷ (nat_le MAX_VOTERS (count_of s), TooMany (count_of s + 1))
    ∷ (mark == 0 || nat_lt mark s.committed, NotCaughtUp mark s.committed)
    ∷ []
    ) (with_voter s.newest id)

-- a removal
abbrev pub remove_of : Standing → ℕ → Result Conf MemberFault
remove_of s id =
    unless_fault (
    closed s
    ++ (not (is_in s.newest.voters id), NotVoter id)
    ∷ (are_few (count_of s - 1) s.newest.margin, TooFew (count_of s - 1))
    ∷ []
    ) (without_voter s.newest id)

-- another margin
abbrev pub margin_of : Standing → ℕ → Result Conf MemberFault
margin_of s margin =
    unless_fault (
    closed s
    ++ (s.newest.margin == margin, SameMargin margin)
    ∷ (are_few (count_of s) margin, TooFew (count_of s))
    ∷ []
    ) (record (s.newest) { margin = margin })

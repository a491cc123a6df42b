-- The ranges of what a change looks at, and of what is told where it is refused.
use Rattle.std.specs.Prelude.{◌≤◌}
use Rattle.group_quorum.specs.declared.TheConstants.{MAX_MARGIN}
use Rattle.values.specs.declared.limits.TheConstants.{TOP}
use Rattle.member_rules.specs.declared.fault.MemberFault.{MemberFault}
use Rattle.member_rules.specs.declared.fault.MemberFault.TheVariants.{LogFull, ChangePending, NotCaughtUp, SameMargin}
use Rattle.member_rules.specs.declared.standing.Standing.{Standing}

-- no index is above the last one, which is at most the greatest there is
pub record IsStandingInRange (s : Standing) : Type 0 where
  pub last : s.last ≤ TOP
  pub committed : s.committed ≤ s.last
  pub newest_index : s.newest_index ≤ s.last

-- indices and marks are at most the greatest index there is, and a margin is one
abbrev pub IsFaultInRange : MemberFault → Type 0
IsFaultInRange (LogFull last) = last ≤ TOP
IsFaultInRange (ChangePending index committed) = (index ≤ TOP) × (committed ≤ TOP)
IsFaultInRange (NotCaughtUp mark committed) = (mark ≤ TOP) × (committed ≤ TOP)
IsFaultInRange (SameMargin margin) = margin ≤ MAX_MARGIN
IsFaultInRange _ = Unit {0}

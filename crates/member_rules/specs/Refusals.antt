-- Faults as the model's refusals.
use Rattle.std.specs.Prelude.{◌≡◌, Option, Some, None, Result, Ok, Err}
use Rattle.values.specs.declared.batch.Refusal.{Refusal}
use Rattle.values.specs.declared.batch.Refusal.TheVariants.{LogFull as RefusalLogFull, ChangePending as RefusalChangePending, AlreadyVoter as RefusalAlreadyVoter, NotVoter as RefusalNotVoter, TooFew as RefusalTooFew, TooMany as RefusalTooMany, NotCaughtUp as RefusalNotCaughtUp, NoLink as RefusalNoLink, SameMargin as RefusalSameMargin}
use Rattle.group_quorum.specs.Conf.{Conf}
use Rattle.member_rules.specs.declared.fault.MemberFault.{MemberFault}
use Rattle.member_rules.specs.declared.fault.MemberFault.TheVariants.{LogFull, ChangePending, AlreadyVoter, NotVoter, TooFew, TooMany, NotCaughtUp, NoLink, SameMargin}

-- the refusal that a fault is told as
abbrev pub refusal_of : MemberFault → Refusal
refusal_of (LogFull last) = RefusalLogFull last
refusal_of (ChangePending index committed) = RefusalChangePending index committed
refusal_of (AlreadyVoter id) = RefusalAlreadyVoter id
refusal_of (NotVoter id) = RefusalNotVoter id
refusal_of (TooFew count) = RefusalTooFew count
refusal_of (TooMany count) = RefusalTooMany count
refusal_of (NotCaughtUp mark committed) = RefusalNotCaughtUp mark committed
refusal_of (NoLink id) = RefusalNoLink id
refusal_of (SameMargin margin) = RefusalSameMargin margin

-- the model refuses as the answer says, or does not refuse
abbrev pub Refuses : {A : Type 0} → Result A MemberFault → Option Refusal → Type 0
Refuses (Ok answer) refusal = refusal ≡ None
Refuses (Err fault) refusal = refusal ≡ Some (refusal_of fault)

-- the same, and the answer is the configuration that the model pushes
abbrev pub RefusesOr : Result Conf MemberFault → Option Refusal → Conf → Type 0
RefusesOr (Ok c) refusal wanted = (refusal ≡ None) × (c ≡ wanted)
RefusesOr (Err fault) refusal wanted = refusal ≡ Some (refusal_of fault)

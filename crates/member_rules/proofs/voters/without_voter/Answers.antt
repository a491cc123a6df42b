use Rattle.std.proofs.Common.{Ok, Err, ap, ◌∙◌, ◌-◌, length}
use Rattle.std.specs.Prelude.{Result}
use Rattle.group_quorum.specs.Conf.{Conf}
use Rattle.member_rules.specs.declared.fault.MemberFault.{MemberFault}
use Rattle.member_rules.specs.declared.fault.MemberFault.TheVariants.{TooFew}
use Rattle.member_rules.proofs.Changed.{without_one}
use Rattle.member_rules.proofs.voters.without_voter.Goals as goal

pub returns-in-Ok : goal.returns-in-Ok
returns-in-Ok c = without_one c.args.config.now c.voters.ensures.sound c.args.id (Ok c.in-Ok.config) c.requires c.in-Ok.ensures

pub returns-in-Err : goal.returns-in-Err
returns-in-Err c =
    ap {B = Result Conf MemberFault} (λ voters. Err (TooFew (length voters - 1))) c.voters.ensures.voters
    ∙ without_one c.args.config.now c.voters.ensures.sound c.args.id (Err c.in-Err.field-0) c.requires c.in-Err.ensures

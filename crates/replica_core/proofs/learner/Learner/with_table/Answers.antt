use Rattle.std.proofs.Common.{ap, ◌∙◌}
use Rattle.group_quorum.specs.Conf.{Conf}
use Rattle.group_quorum.specs.Voters.{conf_of}
use Rattle.group_quorum.proofs.Made.{made}
use Rattle.replica_core.proofs.learner.Learner.with_table.Goals as goal

pub unreachable-requires : goal.unreachable-requires
unreachable-requires c =
    let conf : Conf = record { margin = c.args.part.now.margin; voters = c.args.part.now.voters } in
    c.in_default.not-Ok conf (c.new.ensures.made ∙ (ap (conf_of conf.margin) c.as_slice.ensures.same ∙ made conf c.requires.conf))

use Rattle.std.proofs.Common.{◌≡◌, ◌∙◌, Ok, Err}
use Rattle.std.specs.Prelude.{Result}
use Rattle.group_quorum.specs.Conf.{Conf}
use Rattle.group_quorum.specs.declared.ConfigFault.{ConfigFault}
use Rattle.replica_model.specs.Changes.{with_voter}
use Rattle.member_rules.proofs.Changed.{with_one}
use Rattle.member_rules.proofs.voters.with_voter.Goals as goal

pub unreachable-requires : goal.unreachable-requires
unreachable-requires c =
    let fault : Result Conf ConfigFault = Err c.in-Err.field-0 in
    let clash : fault ≡ Ok (with_voter c.args.config.now c.args.id) =
    c.in-Err.ensures ∙ with_one c.args.config.now c.voters-sound.ensures.sound c.args.id c.requires.id c.requires.absent c.requires.room in
    cc

pub returns : goal.returns
returns c =
    let config : Result Conf ConfigFault = Ok c.in-Ok.config in
    let same : config ≡ Ok (with_voter c.args.config.now c.args.id) =
    c.in-Ok.ensures ∙ with_one c.args.config.now c.voters-sound.ensures.sound c.args.id c.requires.id c.requires.absent c.requires.room in
    cc

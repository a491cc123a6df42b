use Rattle.host_msgs.proofs.Ranged.{sound_margin, sound_words, sound_conf}
use Rattle.host_msgs.proofs.Shorts.{short_conf}
use Rattle.host_msgs.proofs.bodies.push_configuration.Goals as goal

pub returns-clause-grammar : goal.returns-clause-grammar
returns-clause-grammar c =
    let margin = c.args.margin in
    let voters = c.args.voters.now in
    (sound_margin margin voters c.requires, (sound_words margin voters c.requires, sound_conf margin voters c.requires))

pub returns-clause-short : goal.returns-clause-short
returns-clause-short c = short_conf c.args.margin c.args.voters.now c.requires.at_most

use Rattle.host_msgs.proofs.Ranged.{sound_margin, sound_words, sound_conf}
use Rattle.host_msgs.proofs.Shorts.{short_members}
use Rattle.host_msgs.proofs.contents.Tuple3U64U8IdsContent.push.Goals as goal

pub returns-clause-grammar : goal.returns-clause-grammar
returns-clause-grammar c =
    let m = c.args.self.now in
    (c.requires.0, (sound_margin m.1 m.2 c.requires.1, ((sound_words m.1 m.2 c.requires.1).1, sound_conf m.1 m.2 c.requires.1)))

pub returns-clause-short : goal.returns-clause-short
returns-clause-short c = let m = c.args.self.now in short_members m.0 m.1 m.2 c.requires.1.at_most

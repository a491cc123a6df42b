use Rattle.group_msgs.specs.Known.{u32_at}
use Rattle.group_msgs.specs.Gathered.{seen}
use Rattle.group_msgs.specs.Rules.{index_rule, kind_fault}
use Rattle.client_msgs.proofs.SizesLemmas.{or-none}
use Rattle.group_msgs.proofs.read.entry.Goals as goal

pub body-requires : goal.body-requires
body-requires c =
    let x = seen c.args.scalars.now in
    let place = c.requires.0 in
    (place, (or-none (kind_fault place (u32_at 2 x) x) _ (or-none (index_rule 1 x) _ c.requires.1).1).0)

use Rattle.std.proofs.Common.{rules}
use Rattle.group_world.proofs.ClosingLines.{closing_text}
use Rattle.group_world.proofs.world.World.close.Goals as goal

pub returns-clause-ok : goal.returns-clause-ok
returns-clause-ok c =
    closing_text c.args.self.now c.finish.result.items c.args.out.now.items c.is_within.result c.messages.result c.answers.result (search rules) c.is_within.ensures.bears c.messages.ensures.count c.answers.ensures.count

use Rattle.std.proofs.Common.{arith}
use Rattle.std.specs.Int.{w8, w32}
use Rattle.host_msgs.proofs.Walks.{behind_number, behind_block}
use Rattle.host_msgs.proofs.read.item_at.Goals as goal

pub returns-clause-shorter : goal.returns-clause-shorter
returns-clause-shorter c =
    omega (
      arith,
      behind_number w8 c.args.bytes.now c.in_ok-kind.kind c.in_ok-kind.rest.now c.in_ok-kind.ensures,
      behind_number w32 c.in_ok-kind.rest.now c.in_ok-size.size c.in_ok-size.rest.now c.in_ok-size.ensures,
      behind_block c.in_ok-size.size c.in_ok-size.rest.now c.in_ok-content.content.now c.in_ok-content.behind.now c.in_ok-content.ensures,
    )

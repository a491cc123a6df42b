use Rattle.std.proofs.Common.{sym, subst}
use Rattle.group_msgs.specs.Batches.{IsReplyInRange}
use Rattle.replica_core.proofs.Replies.{reply-in}
use Rattle.replica_core.proofs.raise.apply_body.Goals as goal

pub returns-in_ok-apply_owned-in-Ok-clause-in_range : goal.returns-in_ok-apply_owned-in-Ok-clause-in_range
returns-in_ok-apply_owned-in-Ok-clause-in_range c = subst IsReplyInRange (sym c.in_ok-apply_owned-in-Ok.ensures.reply) (reply-in c.args.table.now c.count.ensures.sound _ _ _)

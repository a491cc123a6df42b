use Rattle.std.proofs.Common.{sym, subst}
use Rattle.host_msgs.specs.Contents.{reply_content}
use Rattle.host_msgs.specs.Needs.{IsBlock}
use Rattle.host_msgs.proofs.Ranged.{on_ok}
use Rattle.host_msgs.proofs.Shorts.{word_block, long_block}
use Rattle.host_msgs.proofs.replies.push_reply.Goals as goal

pub returns-in-Stale-clause-short : goal.returns-in-Stale-clause-short
returns-in-Stale-clause-short c = on_ok c.push_long.result (subst (λ r. IsBlock (reply_content r)) (sym c.in-Stale.is) (long_block c.in-Stale.last))

pub returns-in-TableFull-clause-short : goal.returns-in-TableFull-clause-short
returns-in-TableFull-clause-short c = on_ok c.push_word.result (subst (λ r. IsBlock (reply_content r)) (sym c.in-TableFull.is) (word_block c.in-TableFull.rows))

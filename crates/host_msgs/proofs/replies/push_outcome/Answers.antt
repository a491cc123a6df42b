use Rattle.std.proofs.lemmas.Result.{on_ok_weaker}
use Rattle.host_msgs.specs.Contents.{reply_kind, reply_content}
use Rattle.host_msgs.proofs.Shorts.{short_outcome}
use Rattle.host_msgs.proofs.replies.push_outcome.Goals as goal

pub returns-clause-short : goal.returns-clause-short
returns-clause-short c =
    let reply = c.args.reply.now in
    on_ok_weaker c.push_reply.result (λ few. short_outcome c.args.index (reply_kind reply) (reply_content reply) few) c.push_reply.ensures.short

use Rattle.host_msgs.specs.Contents.{answer_kind, answer_bytes}
use Rattle.host_msgs.proofs.Shorts.{short_answer}
use Rattle.host_msgs.proofs.contents.Tuple3ClientIdU64AnswerContent.push.Goals as goal

pub returns-clause-short : goal.returns-clause-short
returns-clause-short c =
    let a = c.args.self.now in
    short_answer a.0.0 a.1 (answer_kind a.2) (answer_bytes a.2) c.push_client.ensures.size c.in_ok-push_answer.ensures.short

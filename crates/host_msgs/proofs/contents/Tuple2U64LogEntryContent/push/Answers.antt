use Rattle.host_msgs.specs.Contents.{body_kind, body_content}
use Rattle.host_msgs.proofs.Shorts.{short_commit}
use Rattle.host_msgs.proofs.contents.Tuple2U64LogEntryContent.push.Goals as goal

pub returns-clause-short : goal.returns-clause-short
returns-clause-short c =
    let e = c.args.self.now.1 in
    short_commit c.args.self.now.0 e.term (body_kind e.body) (body_content e.body) c.in_ok-push_body.ensures.short

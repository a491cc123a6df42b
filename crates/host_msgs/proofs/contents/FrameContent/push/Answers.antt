use Rattle.std.proofs.Common.{◌≡◌, subst, rules}
use Rattle.std.proofs.lemmas.Result.{on_ok_weaker}
use Rattle.group_msgs.specs.Canonical.{canonical_peer}
use Rattle.host_msgs.specs.Needs.{IsBlock}
use Rattle.host_msgs.proofs.Shorts.{short_sent}
use Rattle.host_msgs.proofs.contents.FrameContent.push.Goals as goal

pub returns-clause-short : goal.returns-clause-short
returns-clause-short c =
    let f = c.args.self.now in
    let same : c.as_slice.result.now ≡ canonical_peer f.message.now = search rules in
    on_ok_weaker c.push_block.result (λ few. short_sent f.from f.to (canonical_peer f.message.now) (subst IsBlock same few)) c.push_block.ensures.short

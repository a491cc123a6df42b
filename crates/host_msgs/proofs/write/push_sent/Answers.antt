use Rattle.std.proofs.Common.{◌≡◌, ◌++◌, rules}
use Rattle.host_msgs.specs.Batches.{item_bytes}
use Rattle.host_msgs.specs.Again.{IsSentItem}
use Rattle.host_msgs.specs.Contents.{sent_content}
use Rattle.host_msgs.specs.Needs.{IsShort}
use Rattle.values.proofs.Loops.{all_more, written_more}
use Rattle.host_msgs.proofs.write.push_sent.Goals as goal

pub loop-to-preserved : goal.loop-to-preserved
loop-to-preserved c =
    let xs = c.args.sent.now in
    let i = c.loop-to.to-index in
    let x = c.loop-to-item.result in
    let content = sent_content c.args.me in (
      search rules,
      (
        written_more (λ y. item_bytes 7 (content y)) xs i x c.args.out.now.tail c.loop-to.out.tail c.push_item.new.out.tail c.loop-to-test.true c.loop-to-item.is c.loop-to.invariant.1.0 (search rules),
        (
          all_more (IsSentItem c.args.me) xs i x c.loop-to-test.true c.loop-to-item.is c.loop-to.invariant.1.1.0 (search rules),
          all_more (λ y. IsShort (content y)) xs i x c.loop-to-test.true c.loop-to-item.is c.loop-to.invariant.1.1.1 (search rules),
        ),
      ),
    )

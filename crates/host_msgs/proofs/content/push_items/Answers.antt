use Rattle.std.proofs.Common.{◌≡◌, ◌++◌, rules}
use Rattle.host_msgs.specs.Batches.{item_bytes}
use Rattle.host_msgs.specs.Needs.{IsShort}
use Rattle.values.proofs.Loops.{all_more, written_more}
use Rattle.host_msgs.proofs.content.push_items.Goals as goal

pub loop-item-preserved : goal.loop-item-preserved
loop-item-preserved g c =
    let xs = c.args.items.now in
    let i = c.loop-item.item-index in
    let x = c.item-item.result in
    let content = g.T.Content.content in (
      search rules,
      (
        written_more (λ y. item_bytes c.args.kind (content y)) xs i x c.args.out.now.tail c.loop-item.out.tail c.push_item.new.out.tail c.loop-item-test.true c.item-item.is c.loop-item.invariant.1.0 (search rules),
        (
          all_more g.T.Content.grammar xs i x c.loop-item-test.true c.item-item.is c.loop-item.invariant.1.1.0 (search rules),
          all_more (λ y. IsShort (content y)) xs i x c.loop-item-test.true c.item-item.is c.loop-item.invariant.1.1.1 (search rules),
        ),
      ),
    )

use Rattle.std.proofs.Common.{◌≡◌, ◌++◌, take}
use Rattle.std.specs.Prelude.{All}
use Rattle.host_msgs.specs.Contents.{each}
use Rattle.host_msgs.specs.Needs.{IsShort}
use Rattle.host_msgs.proofs.content.push_items.Given as goal

abbrev pub invariant-loop-item : goal.invariant-loop-item
invariant-loop-item g l =
    (l.out.front ≡ l.initial.out.front)
    × ((l.out.tail ≡ l.initial.out.tail ++ each l.kind g.T.Content.content (take l.item-index l.items))
    × (All g.T.Content.grammar (take l.item-index l.items) × All (λ item. IsShort (g.T.Content.content item)) (take l.item-index l.items)))

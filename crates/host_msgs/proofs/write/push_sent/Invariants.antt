use Rattle.std.proofs.Common.{◌≡◌, ◌++◌, take}
use Rattle.std.specs.Prelude.{All}
use Rattle.host_msgs.specs.Again.{IsSentItem}
use Rattle.host_msgs.specs.Contents.{each, sent_content}
use Rattle.host_msgs.specs.Needs.{IsShort}
use Rattle.host_msgs.proofs.write.push_sent.Given as goal

abbrev pub invariant-loop-to : goal.invariant-loop-to
invariant-loop-to l =
    (l.out.front ≡ l.initial.out.front)
    × ((l.out.tail ≡ l.initial.out.tail ++ each 7 (sent_content l.me) (take l.to-index l.sent))
    × (All (IsSentItem l.me) (take l.to-index l.sent) × All (λ s. IsShort (sent_content l.me s)) (take l.to-index l.sent)))

use Rattle.std.proofs.Common.{refl, sym, ap, ◌∙◌, rules}
use Rattle.group_world.specs.Queues.{waits_in}
use Rattle.group_world.proofs.Queued.{front_first, passed_first, passed_sent}
use Rattle.group_world.proofs.post.shorten.Goals as goal

pub loop-number-preserved : goal.loop-number-preserved
loop-number-preserved c =
    let first_is = front_first c.front.result c.loop-number.queue.items c.front.ensures.item.3 c.front.ensures.item.1 in
    let at = sym first_is ∙ sym c.copied.ensures ∙ c.in-Some.is in
    let idle = sym c.waits.ensures ∙ c.if-waits.false in
    record {
      holds = ap (λ r. Rattle.std.proofs.Common.filter (waits_in c.args.letters.now) r) c.pop_front.ensures.rest ∙ passed_first (waits_in c.args.letters.now) c.in-Some.number c.loop-number.queue.items at idle ∙ c.loop-number.invariant.holds;
      sent = λ n h. rw c.pop_front.ensures.rest (passed_sent n c.loop-number.queue.items (c.loop-number.invariant.sent n h));
    }

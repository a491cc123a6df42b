use Rattle.std.proofs.Common.{sym, ap, ap₂, ◌∙◌, take, get_or}
use Rattle.std.proofs.lemmas.List.{take_more}
use Rattle.group_world.specs.Posted.{next_in}
use Rattle.group_world.specs.Queues.{earlier}
use Rattle.group_world.proofs.Queued.{next_more, next_none}
use Rattle.group_world.proofs.post.Post.next.Goals as goal

pub loop-id-init : goal.loop-id-init
loop-id-init c = sym (next_none c.args.self.now)

pub loop-id-preserved : goal.loop-id-preserved
loop-id-preserved c =
    let ids = c.args.running.now in
    let i = c.loop-id.id-index in
    c.earlier-next.ensures ∙ ap₂ earlier c.loop-id.invariant c.next_for.ensures
    ∙ sym (next_more (take i ids) (get_or ids i 0) c.args.self.now) ∙ ap (λ r. next_in r c.args.self.now) (sym (take_more ids i 0 c.loop-id-test.true))

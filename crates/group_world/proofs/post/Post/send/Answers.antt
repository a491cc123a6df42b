use Rattle.std.proofs.Common.{ap, rules}
use Rattle.group_world.specs.Posted.{is_waiting}
use Rattle.group_world.specs.Queues.{queue_of}
use Rattle.group_world.proofs.Queued.{queue_sent}
use Rattle.group_world.proofs.post.Post.send.Goals as goal

pub invariant_of-self-in-Ok : goal.invariant_of-self-in-Ok
invariant_of-self-in-Ok c = λ id.
    queue_sent c.self.inside.letters.items c.push.new.self.items c.args.letter c.len-number.result id (queue_of c.self.inside.queues id) (queue_of c.enqueue.new.queues id) (ap is_waiting c.requires) c.in_ok-push.ensures.items (search rules) (c.in-Ok.ensures.queued id)
    (c.self.invariant id)

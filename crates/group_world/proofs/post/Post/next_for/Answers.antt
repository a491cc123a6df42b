use Rattle.std.proofs.Common.{ap, ◌∙◌, ℕ, [], ◌∷◌, Option, Global, option_map, unwrap_or}
use Rattle.std.specs.declared.collections.VecDeque.{VecDeque}
use Rattle.group_world.specs.Posted.{next_in}
use Rattle.group_world.specs.Queues.{first, queue_of}
use Rattle.group_world.proofs.Queued.{first_is_next, front_first}
use Rattle.group_world.proofs.post.Post.next_for.Goals as goal

pub returns-in_err-get : goal.returns-in_err-get
returns-in_err-get c =
    c.from_residual.ensures ∙ ap (λ (o : Option (VecDeque ℕ Global)). first (unwrap_or (option_map (λ q. q.items) o) [])) c.in_err-get.ensures.value
    ∙ first_is_next c.self.inside.letters.items c.args.id (queue_of c.self.inside.queues c.args.id) (c.self.invariant c.args.id) ∙ ap (next_in (c.args.id ∷ [])) c.self.view_is

pub returns : goal.returns
returns c =
    c.copied.ensures ∙ front_first c.front.result c.in_ok-get.field-0.now.items c.front.ensures.item.3 c.front.ensures.item.1
    ∙ ap (λ (o : Option (VecDeque ℕ Global)). first (unwrap_or (option_map (λ q. q.items) o) [])) c.in_ok-get.ensures.value
    ∙ first_is_next c.self.inside.letters.items c.args.id (queue_of c.self.inside.queues c.args.id) (c.self.invariant c.args.id) ∙ ap (next_in (c.args.id ∷ [])) c.self.view_is

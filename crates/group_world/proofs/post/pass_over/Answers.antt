use Rattle.std.proofs.Common.{sym, ap, subst, ◌≡◌, rules, ℕ, List, ◌≤◌, Option, option_map, unwrap_or, Global, []}
use Rattle.std.specs.List.{AllByRecursion}
use Rattle.std.specs.declared.collections.VecDeque.{VecDeque}
use Rattle.group_world.specs.Queues.{queue_of}
use Rattle.group_world.proofs.post.pass_over.Goals as goal

pub returns-in-Some-clause-sent : goal.returns-in-Some-clause-sent
returns-in-Some-clause-sent c = λ n h.
    let old : c.in-Some.queue.now.items ≡ queue_of c.args.queues.now c.args.to = ap (λ (o : Option (VecDeque ℕ Global)). unwrap_or (option_map (λ q. q.items) o) []) c.in-Some.ensures.value in
    let new : queue_of (c.get_mut.follows.lender c.shorten.new.queue) c.args.to ≡ c.shorten.new.queue.items = search rules in
    subst (λ (q : List ℕ). AllByRecursion (λ k. k ≤ n) q) (sym new) (c.shorten.ensures.sent n (subst (λ (q : List ℕ). AllByRecursion (λ k. k ≤ n) q) (sym old) h))

use Rattle.std.proofs.Common.{ℕ, ◌≡◌, ◌≤◌, filter}
use Rattle.std.specs.List.{AllByRecursion}
use Rattle.group_world.specs.Queues.{waits_in}
use Rattle.group_world.proofs.post.shorten.Given as goal

abbrev pub invariant-loop-number : goal.invariant-loop-number
invariant-loop-number l =
    record {
      holds : filter (waits_in l.letters) l.queue.items ≡ filter (waits_in l.letters) l.initial.queue.items;
      sent : (n : ℕ) → AllByRecursion (λ k. k ≤ n) l.initial.queue.items → AllByRecursion (λ k. k ≤ n) l.queue.items;
    }

abbrev pub decreases-loop-number : goal.decreases-loop-number
decreases-loop-number l = l.queue.len

use Rattle.std.proofs.Common.{◌≡◌, ◌<◌, ◌≤◌, ℕ, false}
use Rattle.promise_rules.specs.Raising.{is_of_term}
use Rattle.promise_rules.proofs.greatest.last_of_term.Given as goal

-- no entry that was passed over is of the term
abbrev pub invariant-loop-index : goal.invariant-loop-index
invariant-loop-index l =
    record {
      within : l.index ≤ l.top;
      none : (k : ℕ) → l.index < k → k ≤ l.top → is_of_term l.log l.term k ≡ false;
    }

abbrev pub decreases-loop-index : goal.decreases-loop-index
decreases-loop-index l = l.index

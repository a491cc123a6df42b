use Rattle.std.proofs.Common.{◌≡◌, ◌≤◌}
use Rattle.group_quorum.specs.Marks.{mark_of}
use Rattle.replica_model.specs.Enough.{greatest_upto}
use Rattle.promise_rules.specs.Raising.{passes}
use Rattle.promise_rules.proofs.greatest.greatest_enough.Given as goal

-- no index that was passed over is enough
abbrev pub invariant-loop-top : goal.invariant-loop-top
invariant-loop-top l =
    record {
      within : l.top ≤ l.fn.top;
      so_far : greatest_upto (passes l.log l.term (mark_of l.marks)) l.had l.fn.top ≡ greatest_upto (passes l.log l.term (mark_of l.marks)) l.had l.top;
    }

abbrev pub decreases-loop-top : goal.decreases-loop-top
decreases-loop-top l = l.top

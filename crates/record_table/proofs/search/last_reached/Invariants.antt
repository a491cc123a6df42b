use Rattle.std.proofs.Common.{◌+◌, ◌<◌, ◌≤◌, true, false}
use Rattle.record_table.proofs.search.last_reached.Given as goal

abbrev pub invariant-loop-size : goal.invariant-loop-size
invariant-loop-size g l = record {
  some : 0 < l.size;
  within : l.base + l.size ≤ l.n;
  reached : 0 < l.base → goal.F-post g l.is_reached l.base true;
  next : l.base + l.size < l.n → goal.F-post g l.is_reached (l.base + l.size) false;
}

abbrev pub decreases-loop-size : goal.decreases-loop-size
decreases-loop-size g l = l.size

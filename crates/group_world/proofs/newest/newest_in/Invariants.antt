use Rattle.std.proofs.Common.{◌≡◌, ◌+◌, drop, fold, option_map}
use Rattle.std.specs.List.{enumerate_from}
use Rattle.group_world.specs.Newest.{found_after, last_kept}
use Rattle.group_world.proofs.newest.newest_in.Given as goal

-- the one found so far, and what the rest makes of it
abbrev pub invariant-loop-kept : goal.invariant-loop-kept
invariant-loop-kept l = record {
  at : l.at ≡ l.past + l.kept-index;
  found : fold (found_after l.client l.number) (option_map (λ f. (f.0, f.1.now)) l.newest) (enumerate_from (l.at + 1) (drop l.kept-index l.answers)) ≡ last_kept l.client l.number (enumerate_from (l.past + 1) l.answers);
}

use Rattle.std.proofs.Common.{◌≡◌, take, length, map}
use Rattle.group_quorum.specs.Marks.{mark_of}
use Rattle.group_quorum.proofs.config.Config.greatest_met.Given as goal

-- the marks of the voters that were looked up
abbrev pub invariant-loop-place : goal.invariant-loop-place
invariant-loop-place l =
    record {
      room : length l.reached ≡ 31;
      found : take l.place l.reached ≡ map (mark_of l.marks) (take l.place l.voters);
    }

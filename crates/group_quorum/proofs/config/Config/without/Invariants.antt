use Rattle.std.proofs.Common.{◌≡◌, ◌≤◌, ◌==◌, take, length, filter, not}
use Rattle.group_quorum.proofs.config.Config.without.Given as goal

-- the kept ids of those that were looked at
abbrev pub invariant-loop-voter : goal.invariant-loop-voter
invariant-loop-voter l =
    record {
      no_more : l.count ≤ l.voter-index;
      room : length l.ids ≡ 31;
      kept : take l.count l.ids ≡ filter (λ v. not (v == l.id)) (take l.voter-index l.self.voters);
    }

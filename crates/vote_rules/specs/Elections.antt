-- Whose votes count, and when an election is won.
use Rattle.std.specs.Prelude.{◌≡◌, ℕ, Bool, cond, ◌&&◌, ◌||◌, ◌==◌, nat_lt, nat_le, List, filter, length}
use Rattle.group_quorum.specs.Conf.{met}
use Rattle.group_quorum.specs.Voters.{is_in}
use Rattle.replica_model.specs.Replica.{Replica}
use Rattle.replica_model.specs.Peers.{united}
use Rattle.replica_log.specs.declared.configs.Configs.{Configs}
use Rattle.replica_log.specs.Models.{AreConfigs}

-- the voters that count: those of the newest configuration and, while that is above the committed index, those of the
-- older, in rising order
abbrev pub voters_by : Configs → ℕ → List ℕ
voters_by c committed = cond (nat_lt committed c.newest_index) (united c.older.voters c.newest.voters) c.newest.voters

-- those of them that have voted before, or vote now
abbrev pub counted : Configs → ℕ → List ℕ → ℕ → List ℕ
counted c committed before from = filter (λ v. v == from || is_in before v) (voters_by c committed)

-- the votes are a quorum of the newest configuration and, while that is above the committed index, one of the older
abbrev pub is_won : Configs → ℕ → List ℕ → Bool
is_won c committed votes = met c.newest (is_in votes) && (nat_le c.newest_index committed || met c.older (is_in votes))

-- the configurations and the committed index are the replica's
pub record CountsBy (s : Replica) (c : Configs) (committed : ℕ) : Type 0 where
  pub are_configs : AreConfigs s (length s.path) c
  pub is_committed : s.committed ≡ committed

-- The timer of a replica has run out.
use Rattle.std.specs.Prelude.{ℕ, ◌+◌, cond, ◌==◌, max, List, [], ◌∷◌, filter_map, option_map}
use Rattle.replica_model.specs.declared.Progress.{Progress}
use Rattle.replica_model.specs.Path.{Link}
use Rattle.replica_model.specs.Keyed.{value_at, has}
use Rattle.replica_model.specs.Message.{Message}
use Rattle.replica_model.specs.Replica.{Role, Learner, Follower, Candidate, Leader, Leading, Replica}
use Rattle.replica_model.specs.Peers.{peers, progress_of, with_progress, leads_with}
use Rattle.replica_model.specs.Call.{Call, still}
use Rattle.replica_model.specs.Raise.{to_every_peer}
use Rattle.replica_model.specs.Votes.{stand}
use Rattle.replica_model.specs.Tables.{part_message}

-- next goes back to what follows the mark, or the base where that is higher
abbrev pub sent_again : Replica → Progress → Progress
sent_again s p = cond (p.mark == 0) p (record p { next = max p.mark s.base + 1 })

-- the same for each peer to which no table is being sent
abbrev pub all_again : Replica → Leading → List ℕ → Leading
all_again s l [] = l
all_again s l (v ∷ vs) =
    all_again s (cond (has l.sendings v) l (with_progress l v (sent_again s (progress_of l v)))) vs

-- the outstanding parts of the tables that are being sent to peers, in rising id
abbrev pub parts_again : Link → Replica → Leading → List (ℕ × Message)
parts_again link s l =
    filter_map (λ v. option_map (λ sending. (v, part_message link s sending)) (value_at l.sendings v)) (peers s l)

-- parts go first, and then appends
abbrev pub leader_tick : Link → Replica → Leading → Call
leader_tick link s l =
    to_every_peer (record (still (leads_with s (all_again s l (peers s l)))) { sent = parts_again link s l }) l

-- tick: a leader sends parts again, and appends to the other peers; a follower or a candidate stands for election
abbrev pub tick : Link → Replica → Role → Call
tick link s (Learner taking) = still s
tick link s Follower = stand s
tick link s (Candidate votes) = stand s
tick link s (Leader l) = leader_tick link s l

-- What a leader makes of a reply to an append.
use Rattle.std.specs.Prelude.{◌≡◌, ℕ, ◌+◌, Bool, not, cond, ◌&&◌, ◌==◌, nat_lt, min}
use Rattle.replica_model.specs.declared.Progress.{Progress}
use Rattle.replica_model.specs.Replica.{Replica, Leading}
use Rattle.replica_model.specs.Peers.{progress_of, with_progress, leads_with}
use Rattle.replica_model.specs.Call.{still}
use Rattle.replica_model.specs.Heard.{to_peer, rejected_by}
use Rattle.replica_log.specs.Window.{Window, base_index, last_index}

-- the entry after the hint, or after the last one
abbrev pub next_after : Window → ℕ → ℕ
next_after w hint = min hint (last_index w) + 1

-- that is kept, and is not the peer's next entry already
abbrev pub is_sent_anew : Window → Progress → ℕ → Bool
is_sent_anew w p hint = not (nat_lt hint (base_index w)) && not (next_after w hint == p.next)

-- a leader that knows this of a peer does so in the model
abbrev pub HearsRejected : Replica → Progress → ℕ → Bool → Progress → Type 0
HearsRejected s before hint sent after =
    (l : Leading) (v : ℕ) → progress_of l v ≡ before
    → rejected_by s l v hint ≡ cond sent (to_peer (still (leads_with s (with_progress l v after))) v) (still (leads_with s l))

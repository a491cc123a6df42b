-- What a leader hears of its appends.
use Rattle.std.specs.Prelude.{ℕ, ◌+◌, cond, ◌&&◌, ◌||◌, ◌==◌, nat_lt, nat_le, min, max, [], ◌∷◌, length}
use Rattle.values.specs.declared.entry.Point.{Point}
use Rattle.replica_model.specs.declared.Progress.{Progress}
use Rattle.replica_model.specs.Path.{Link}
use Rattle.replica_model.specs.Keyed.{without}
use Rattle.replica_model.specs.Replica.{Role, Leader, Leading, Replica}
use Rattle.replica_model.specs.Peers.{is_peer, progress_of, with_progress, leads_with}
use Rattle.replica_model.specs.Call.{Call, still}
use Rattle.replica_model.specs.Raise.{raise, to_every_peer}
use Rattle.replica_model.specs.Graft.{matches}

-- one peer is to be sent an append
abbrev pub to_peer : Call → ℕ → Call
to_peer c v = record c { appends = v ∷ [] }

-- mark and promised become at least the end index and what is promised up to it, next at least the index after it
abbrev pub accepted_upto : Progress → ℕ → ℕ → Progress
accepted_upto p end promised =
    record { next = max p.next (end + 1); mark = max p.mark end; promised = max p.promised (min promised end) }

-- where promised or committed rose, to every peer; else to the peer, where it lacks entries
abbrev pub after_raise : Replica → Call → Leading → ℕ → Call
after_raise s c l v =
    cond (nat_lt s.promised c.state.promised || nat_lt s.committed c.state.committed) (to_every_peer c l)
    (cond (nat_le (progress_of l v).next (length s.path)) (to_peer c v) c)

-- the leader with the peer's new progress raises
abbrev pub accepted_by : Replica → Leading → ℕ → Call
accepted_by s l v = after_raise s (raise (still (leads_with s l)) l) l v

-- accepted heard, of the replica's own term: at a leader, from a peer, where the log matches the end point
abbrev pub accepted_heard : Link → Replica → Role → ℕ → Point → ℕ → Call
accepted_heard link s (Leader l) from end promised =
    cond (is_peer s l from && matches link s end)
    (accepted_by s (with_progress l from (accepted_upto (progress_of l from) end.index promised)) from)
    (still s)
accepted_heard link s _ from end promised = still s

-- where that is not the peer's next entry already, it becomes so, and the peer is sent an append
abbrev pub sent_from : Replica → Leading → ℕ → ℕ → Call
sent_from s l v next =
    cond (next == (progress_of l v).next) (still (leads_with s l))
    (to_peer (still (leads_with s (with_progress l v (record (progress_of l v) { next = next })))) v)

-- where the hint is below the base nothing more happens; else the peer lacks what follows the hint, or the last index
abbrev pub rejected_by : Replica → Leading → ℕ → ℕ → Call
rejected_by s l v hint =
    cond (nat_lt hint s.base) (still (leads_with s l)) (sent_from s l v (min hint (length s.path) + 1))

-- rejected heard, of the replica's own term: at a leader, from a peer. A table being sent to it ends
abbrev pub rejected_heard : Replica → Role → ℕ → ℕ → Call
rejected_heard s (Leader l) from hint =
    cond (is_peer s l from) (rejected_by s (record l { sendings = without l.sendings from }) from hint) (still s)
rejected_heard s _ from hint = still s

-- The end of a call: appends, a leader that stops, and the base.
use Rattle.std.specs.Prelude.{ℕ, ◌+◌, ◌-◌, Bool, cond, not, ◌&&◌, nat_lt, nat_le, max, Option, Some, None, List, [], ◌∷◌, length, take, drop, map}
use Rattle.values.specs.declared.entry.Hash.{Hash}
use Rattle.values.specs.declared.peer.PeerMsg.{PeerMsg}
use Rattle.values.specs.declared.peer.PeerMsg.TheVariants.{Append}
use Rattle.replica_model.specs.declared.Progress.{Progress}
use Rattle.values.specs.declared.limits.TheConstants.{MAX_ENTRIES}
use Rattle.replica_model.specs.declared.TheConstants.{KEPT_BELOW}
use Rattle.replica_model.specs.Path.{Path, Link, point}
use Rattle.replica_model.specs.Configs.{conf_index}
use Rattle.replica_model.specs.Keyed.{has}
use Rattle.replica_model.specs.Message.{plain}
use Rattle.replica_model.specs.Replica.{Role, Follower, Leader, Leading, Replica}
use Rattle.replica_model.specs.Peers.{progress_of, with_progress, leads_with, is_voter}
use Rattle.replica_model.specs.Call.{Call, send_to}

-- the entries from an index on, at most as many as one append holds
abbrev pub entries_from : Path → ℕ → Path
entries_from p next = take MAX_ENTRIES (drop (next - 1) p)

-- the append that a peer is sent: what follows the entry before its next one
abbrev pub append_from : Link → Replica → ℕ → PeerMsg
append_from link s next = Append s.term (point link s.path (next - 1)) (entries_from s.path next) s.promised s.committed

-- no table is being sent to the peer, and the hash before its next entry is kept
abbrev pub can_append : Replica → Leading → ℕ → Bool
can_append s l v = not (has l.sendings v) && nat_lt s.base (progress_of l v).next

-- next is the index after the last entry sent
abbrev pub sent_on : Path → Progress → Progress
sent_on p progress = record progress { next = progress.next + length (entries_from p progress.next) }

-- the peer is sent its append
abbrev pub appended_to : Link → Call → Leading → ℕ → Call
appended_to link c l v =
    send_to
    (record c { state = leads_with c.state (with_progress l v (sent_on c.state.path (progress_of l v))) })
    v (plain (append_from link c.state (progress_of l v).next))

-- send an append to a peer, at a leader
abbrev pub send_append : Link → Call → Role → ℕ → Call
send_append link c (Leader l) v = cond (can_append c.state l v) (appended_to link c l v) c
send_append link c _ v = c

-- an append to each of these peers, in their order
abbrev pub send_appends : Link → Call → List ℕ → Call
send_appends link c [] = record c { appends = [] }
send_appends link c (v ∷ vs) = send_appends link (send_append link c c.state.role v) vs

-- a leader that is no voter of its newest configuration, once that is committed, follows with no known leader
abbrev pub stepped_down : Replica → Role → Replica
stepped_down s (Leader l) =
    cond (not (is_voter s) && nat_le (conf_index s.path) s.committed) (record s { role = Follower; known = 0 }) s
stepped_down s _ = s

-- move the base: it never falls
abbrev pub base_moved : Replica → Replica
base_moved s = record s { base = max s.base (s.committed - KEPT_BELOW) }

-- after the appends a leader may stop, and the base moves last of all
abbrev pub concluded : Call → Call
concluded c = record c { state = base_moved (stepped_down c.state c.state.role) }

-- the end of a call: appends in rising id after everything else, and then its conclusion. Where the replica halted in
-- it nothing else happens
abbrev pub ended : Link → Call → Option (ℕ × Hash × Hash) → Call
ended link c (Some halted) = c
ended link c None = concluded (send_appends link c c.appends)

-- the messages stand in the batch
abbrev pub with_sent : Call → Call
with_sent c = record c { batch = record (c.batch) { sent = map (λ m. (m.0, m.1.msg)) c.sent } }

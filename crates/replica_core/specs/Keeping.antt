-- What holds of every replica, and the lists that it keeps.
use Rattle.std.specs.Prelude.{ℕ, ◌+◌, ◌≤◌, ◌<◌, Bool, true, false, cond, not, ◌&&◌, ◌||◌, ◌==◌, nat_lt, List, [], ◌∷◌, map, length, unwrap_or, All}
use Rattle.group_quorum.specs.Voters.{is_in}
use Rattle.values.specs.Rising.{Rising}
use Rattle.table_transfer.specs.SentTable.{SentTable}
use Rattle.values.specs.declared.limits.TheConstants.{TOP}
use Rattle.replica_model.specs.declared.Progress.{Progress}
use Rattle.replica_model.specs.declared.TheConstants.{MAX_LEARNERS}
use Rattle.replica_core.specs.declared.role.Leading.{Leading}
use Rattle.replica_model.specs.Keyed.{value_at}
use Rattle.replica_model.specs.Peers.{united, others}
use Rattle.replica_log.specs.Window.{Window, last_index, conf_at, conf_index_at, older_conf_at}
use Rattle.replica_core.specs.declared.role.Role.{Role}
use Rattle.replica_core.specs.declared.role.Role.TheVariants.{Follower, Candidate, Leader}
use Rattle.replica_core.specs.declared.role.Mark.{Mark}
use Rattle.replica_core.specs.declared.role.Mark.TheVariants.{Accepted, Promised}
use Rattle.replica_core.specs.declared.tickets.Ticket.{Ticket}
use Rattle.replica_core.specs.declared.holder.Holder.{Holder}
use Rattle.replica_core.specs.declared.replica.State.{State}
use Rattle.replica_core.specs.declared.replica.State.TheVariants as state

-- nothing is known of a peer
abbrev pub unknown : Progress
unknown = record { next = 0; mark = 0; promised = 0 }

-- what is known of a peer
abbrev pub progress_in : List (ℕ × Progress) → ℕ → Progress
progress_in progress v = unwrap_or (value_at progress v) unknown

-- a mark of a peer
abbrev pub mark_in : Mark → Progress → ℕ
mark_in Accepted p = p.mark
mark_in Promised p = p.promised

-- the marks of the peers, and first the replica's own
abbrev pub marks_by : Mark → ℕ → ℕ → List (ℕ × Progress) → List (ℕ × ℕ)
marks_by mark me own progress = (me, own) ∷ map (λ (p : ℕ × Progress). (p.0, mark_in mark p.1)) progress

-- a peer has accepted no more than the log holds, and its next entry is at most the one after the last
pub record IsWithin (last : ℕ) (p : Progress) : Type 0 where
  pub next : p.next ≤ last + 1
  pub mark : p.mark ≤ last

-- tickets are in rising index, above this one
abbrev pub AreTickets : ℕ → List Ticket → Type 0
AreTickets above [] = Unit {0}
AreTickets above (t ∷ ts) = (above < t.index) × AreTickets t.index ts

-- tickets are of entries up to this index
abbrev pub AreWithin : ℕ → List Ticket → Type 0
AreWithin last [] = Unit {0}
AreWithin last (t ∷ ts) = (t.index ≤ last) × AreWithin last ts

-- one table is sent to an id, and it stands after an entry of the log
pub record AreSendings (last : ℕ) (sendings : List (ℕ × SentTable)) : Type 0 where
  pub rising : Rising (map (λ (k : ℕ × SentTable). k.0) sendings)
  pub within : All (λ (k : ℕ × SentTable). k.1.point.index ≤ last) sendings

-- what a leader knows and sends is within its log, and it has no learner too many
pub record IsSoundLeading (last : ℕ) (l : Leading) : Type 0 where
  pub progress : All (λ (p : ℕ × Progress). IsWithin last p.1) l.progress
  pub learners : length l.learners ≤ MAX_LEARNERS
  pub sendings : AreSendings last l.sendings

-- a candidate's log has room for its first entry as a leader
abbrev pub IsSoundRole : ℕ → Role → Type 0
IsSoundRole last Follower = Unit {0}
IsSoundRole last (Candidate votes) = last < TOP
IsSoundRole last (Leader l) = IsSoundLeading last l

-- what holds of every replica that holds a log
pub record IsSound (h : Holder) : Type 0 where
  pub term : h.ballot.term ≤ TOP
  pub last : last_index h.log ≤ TOP
  pub role : IsSoundRole (last_index h.log) h.role
  pub tickets : AreTickets h.log.committed h.tickets
  pub within : AreWithin (last_index h.log) h.tickets

-- what holds of every replica
abbrev pub IsSoundState : State → Type 0
IsSoundState state.Spent = Unit {0}
IsSoundState (state.Learner l) = l.term ≤ TOP
IsSoundState (state.Holder h) = IsSound h

-- it is the role of a leader
abbrev pub leads_now : Role → Bool
leads_now Follower = false
leads_now (Candidate votes) = false
leads_now (Leader l) = true

-- the learners of a leader; of nobody else there are any
abbrev pub learners_in : Role → List ℕ
learners_in Follower = []
learners_in (Candidate votes) = []
learners_in (Leader l) = l.learners

-- the newest configuration of a log is above its committed index
abbrev pub is_pending_at : Window → Bool
is_pending_at w = nat_lt w.committed (conf_index_at w (last_index w))

-- the voters of a log's newest configuration, and of the one before it while the newest is above the committed index
abbrev pub counted_at : Window → List ℕ
counted_at w =
    cond (is_pending_at w)
    (united (older_conf_at w (last_index w)).voters (conf_at w (last_index w)).voters)
    (conf_at w (last_index w)).voters

-- these without the replica itself
abbrev pub others_counted : ℕ → Window → List ℕ
others_counted me w = others me (counted_at w)

-- the same with learners
abbrev pub peers_at : ℕ → Window → List ℕ → List ℕ
peers_at me w learners = others me (united learners (counted_at w))

-- the id is one of them
abbrev pub is_peer_at : ℕ → Window → List ℕ → ℕ → Bool
is_peer_at me w learners id =
    not (id == me)
    && (is_in learners id
    || (is_in (conf_at w (last_index w)).voters id || (is_pending_at w && is_in (older_conf_at w (last_index w)).voters id)))

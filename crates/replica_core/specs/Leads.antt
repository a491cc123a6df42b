-- What a leader keeps, rule by rule, beside its log.
use Rattle.std.specs.Prelude.{ℕ, Bool, false, not, cond, ◌&&◌, ◌||◌, nat_lt, nat_le}
use Rattle.values.specs.declared.entry.Point.{Point}
use Rattle.replica_model.specs.declared.Progress.{Progress}
use Rattle.group_quorum.specs.Voters.{is_in}
use Rattle.table_transfer.specs.SentTable.{SentTable}
use Rattle.replica_model.specs.Peers.{with_id}
use Rattle.replica_model.specs.Keyed.{has, put, without}
use Rattle.replica_model.specs.Linked.{sha_link}
use Rattle.replica_model.specs.Heard.{accepted_upto}
use Rattle.replica_log.specs.Window.{Window, base_index, last_index, matches}
use Rattle.append_rules.specs.Sent.{after_append}
use Rattle.append_rules.specs.Replies.{is_sent_anew, next_after}
use Rattle.replica_core.specs.declared.role.Leading.{Leading}
use Rattle.replica_core.specs.declared.role.Role.{Role}
use Rattle.replica_core.specs.declared.role.Role.TheVariants.{Follower, Candidate, Leader}
use Rattle.replica_core.specs.declared.holder.Holder.{Holder}
use Rattle.replica_core.specs.declared.send.Appends.{Appends}
use Rattle.replica_core.specs.declared.send.Appends.TheVariants.{Nobody, One, Everyone}
use Rattle.replica_core.specs.Keeping.{progress_in}

-- other progress of a peer
abbrev pub with_progress_in : Leading → ℕ → Progress → Leading
with_progress_in l v p = record l { progress = put l.progress v p }

-- no table is being sent to the peer, and the hash before its next entry is kept
abbrev pub can_append_at : Leading → Window → ℕ → Bool
can_append_at l w v = not (has l.sendings v) && nat_lt (base_index w) (progress_in l.progress v).next

-- the leader after a peer was sent its append
abbrev pub after_sent : Leading → Window → ℕ → Leading
after_sent l w v = cond (can_append_at l w v) (with_progress_in l v (after_append w (progress_in l.progress v))) l

-- the leader after a peer has accepted its log up to a point that matches
abbrev pub after_accepted : Leading → Window → ℕ → Point → ℕ → Leading
after_accepted l w v end promised =
    cond (matches sha_link w end) (with_progress_in l v (accepted_upto (progress_in l.progress v) end.index promised)) l

-- a table that is being sent to a peer is no more
abbrev pub without_sending : Leading → ℕ → Leading
without_sending l v = record l { sendings = without l.sendings v }

-- the leader after a peer has refused an append
abbrev pub after_rejected : Leading → Window → ℕ → ℕ → Leading
after_rejected l w v hint =
    cond (is_sent_anew w (progress_in l.progress v) hint)
    (with_progress_in (without_sending l v) v (record (progress_in l.progress v) { next = next_after w hint }))
    (without_sending l v)

abbrev pub role_leading : Role → (Leading → Leading) → Role
role_leading Follower f = Follower
role_leading (Candidate votes) f = Candidate votes
role_leading (Leader l) f = Leader (f l)

-- the replica with what it keeps as a leader changed
abbrev pub holder_leading : Holder → (Leading → Leading) → Holder
holder_leading h f = record h { role = role_leading h.role f }

abbrev pub if_leading : Role → (Leading → Bool) → Bool
if_leading Follower p = false
if_leading (Candidate votes) p = false
if_leading (Leader l) p = p l

-- it leads, and the peer's next entry is in the log
abbrev pub lacks_entries_at : Holder → ℕ → Bool
lacks_entries_at h v = if_leading h.role (λ l. nat_le (progress_in l.progress v).next (last_index h.log))

-- who is to be sent an append where promised and committed were these before a raise
abbrev pub appends_after : Holder → ℕ → ℕ → ℕ → Appends
appends_after h promised committed v =
    cond (nat_lt promised h.log.promised || nat_lt committed h.log.committed) Everyone (cond (lacks_entries_at h v) (One v) Nobody)

-- it leads, and the peer is to be sent an append anew
abbrev pub is_sent_anew_at : Holder → ℕ → ℕ → Bool
is_sent_anew_at h v hint = if_leading h.role (λ l. is_sent_anew h.log (progress_in l.progress v) hint)

-- a learner anew: nothing is known of it, and a table is sent to it
abbrev pub with_learner : Leading → ℕ → ℕ → SentTable → Leading
with_learner l v next kept =
    record l {
      progress = put l.progress v (record { next = next; mark = 0; promised = 0 });
      learners = with_id v l.learners;
      sendings = put l.sendings v kept;
    }

-- the mark of a learner; of any other id it is 0
abbrev pub learner_mark_in : Role → ℕ → ℕ
learner_mark_in Follower v = 0
learner_mark_in (Candidate votes) v = 0
learner_mark_in (Leader l) v = cond (is_in l.learners v) (progress_in l.progress v).mark 0

-- What a leader hears of the tables that it sends.
use Rattle.std.specs.Prelude.{ℕ, cond, List, Option, Some, None}
use Rattle.values.specs.declared.entry.Point.{Point}
use Rattle.group_quorum.specs.Voters.{is_in}
use Rattle.replica_model.specs.Keyed.{value_at, put}
use Rattle.table_transfer.specs.declared.sending.Sent.{Sent}
use Rattle.table_transfer.specs.declared.sending.Sent.TheVariants.{Next, Done, Ignored}
use Rattle.table_transfer.specs.SentTable.{SentTable, heard}
use Rattle.replica_core.specs.declared.role.Leading.{Leading}
use Rattle.replica_core.specs.declared.role.Role.{Role}
use Rattle.replica_core.specs.declared.role.Role.TheVariants.{Follower, Candidate, Leader}

-- a later part of a table is outstanding
abbrev pub sendings_after : List (ℕ × SentTable) → ℕ → SentTable → ℕ → Sent → List (ℕ × SentTable)
sendings_after sendings v kept next Next = put sendings v (record kept { part = next })
sendings_after sendings v kept next Done = sendings
sendings_after sendings v kept next Ignored = sendings

-- what it means that the parts before a number were taken, of a table that is being sent, or of none
abbrev pub sent_by : Option SentTable → Point → ℕ → Sent
sent_by None point next = Ignored
sent_by (Some kept) point next = heard kept point next

abbrev pub sendings_by : List (ℕ × SentTable) → ℕ → Option SentTable → Point → ℕ → List (ℕ × SentTable)
sendings_by sendings v None point next = sendings
sendings_by sendings v (Some kept) point next = sendings_after sendings v kept next (heard kept point next)

-- what it means to a leader: only what a learner has taken counts
abbrev pub taken_heard : Leading → ℕ → Point → ℕ → Sent
taken_heard l v point next = cond (is_in l.learners v) (sent_by (value_at l.sendings v) point next) Ignored

-- the leader after it
abbrev pub after_taken : Leading → ℕ → Point → ℕ → Leading
after_taken l v point next =
    cond (is_in l.learners v) (record l { sendings = sendings_by l.sendings v (value_at l.sendings v) point next }) l

abbrev pub taken_heard_by : Role → ℕ → Point → ℕ → Sent
taken_heard_by Follower v point next = Ignored
taken_heard_by (Candidate votes) v point next = Ignored
taken_heard_by (Leader l) v point next = taken_heard l v point next

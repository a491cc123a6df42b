-- The promised and the committed index: to where they rise, and what comes of it.
use Rattle.std.specs.Prelude.{ℕ, ◌+◌, Bool, cond, not, ◌&&◌, ◌==◌, nat_lt, nat_le, max, Option, List, [], ◌∷◌, ◌++◌, length, take, drop, filter, filter_map, option_map}
use Rattle.values.specs.declared.ids.ClientId.{ClientId}
use Rattle.values.specs.declared.entry.Body.{Body}
use Rattle.values.specs.declared.entry.LogEntry.{LogEntry}
use Rattle.values.specs.declared.message.Answer.{Answer}
use Rattle.values.specs.declared.message.Answer.TheVariants.{Outcome}
use Rattle.replica_model.specs.Path.{Path, term_at}
use Rattle.replica_model.specs.Enough.{is_enough, greatest_upto}
use Rattle.replica_model.specs.Folds.{reply_of}
use Rattle.replica_model.specs.Replica.{Ticket, Leading, Replica}
use Rattle.replica_model.specs.Peers.{progress_of, peers}
use Rattle.replica_model.specs.Call.{Call, moment}

-- entries with their indices, the first of which is k
abbrev pub numbered_from : ℕ → Path → List (ℕ × LogEntry)
numbered_from k [] = []
numbered_from k (e ∷ p) = (k, e) ∷ numbered_from (k + 1) p

-- the committed index passes the ticket's as it rises to i
abbrev pub is_due : Replica → ℕ → Ticket → Bool
is_due s i ticket = nat_lt s.committed ticket.index && nat_le ticket.index i

-- the outcome of a ticket: the reply that its place gives
abbrev pub outcome_of : Replica → Ticket → Option (ClientId × ℕ × Answer)
outcome_of s ticket =
    option_map (λ reply. (ticket.client, ticket.number, Outcome ticket.index reply)) (reply_of s.limit s.path ticket.index)

-- the committed index rises to i: the entries up to it are applied, and each with a ticket gives its outcome and ends
-- the ticket
abbrev pub commit_to : Call → ℕ → Call
commit_to c i =
    let s = c.state in
    record c {
      state = record s { committed = max s.committed i; tickets = filter (λ ticket. not (is_due s i ticket)) s.tickets };
      batch = record (c.batch) {
        commits = c.batch.commits ++ numbered_from (s.committed + 1) (drop s.committed (take i s.path));
        answers = c.batch.answers ++ filter_map (outcome_of s) (filter (is_due s i) s.tickets);
      };
    }

-- the accepted mark of a voter; the leader's own is its last index
abbrev pub accepted_mark : Replica → Leading → ℕ → ℕ
accepted_mark s l v = cond (v == s.me) (length s.path) (progress_of l v).mark

-- the promised mark of a voter, the leader's own included
abbrev pub promised_mark : Replica → Leading → ℕ → ℕ
promised_mark s l v = cond (v == s.me) s.promised (progress_of l v).promised

-- an entry of the leader's own term that is enough for the accepted marks
abbrev pub may_promise : Replica → Leading → ℕ → Bool
may_promise s l i = term_at s.path i == s.term && is_enough s.first s.path i (accepted_mark s l) s.committed

-- an entry that is enough for the promised marks
abbrev pub may_commit : Replica → Leading → ℕ → Bool
may_commit s l i = is_enough s.first s.path i (promised_mark s l) s.committed

-- the greatest index that may be promised, or what it had promised before, whichever is higher
abbrev pub promise_index : Replica → Leading → ℕ
promise_index s l = greatest_upto (may_promise s l) s.promised (length s.path)

-- the greatest index up to its own promised index that may be committed, or what it had
abbrev pub commit_index : Replica → Leading → ℕ
commit_index s l = greatest_upto (may_commit s l) s.committed s.promised

-- the promised index is raised
abbrev pub promise_raised : Call → Leading → Call
promise_raised c l = record c { state = record (c.state) { promised = promise_index c.state l } }

-- the committed index is raised
abbrev pub commit_raised : Call → Leading → Call
commit_raised c l = commit_to c (commit_index c.state l)

-- raise: the promised index, then the committed one
abbrev pub raise : Call → Leading → Call
raise c l = moment (commit_raised (moment (promise_raised (moment c) l)) l)

-- each peer is to be sent an append
abbrev pub to_every_peer : Call → Leading → Call
to_every_peer c l = record c { appends = peers c.state l }

-- raise, and send to every peer
abbrev pub raise_and_send : Call → Leading → Call
raise_and_send c l = to_every_peer (raise c l) l

-- an entry of the replica's term at the end of its path
abbrev pub pushed : Replica → Body → Replica
pushed s body = record s { path = s.path ++ record { term = s.term; body = body } ∷ [] }

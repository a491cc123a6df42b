-- What committed entries make of a table and of the tickets.
use Rattle.std.specs.Prelude.{ℕ, ◌+◌, ◌-◌, cond, ◌==◌, Option, Some, None, option_map, List, [], ◌∷◌, ◌++◌, take, drop, fold}
use Rattle.values.specs.declared.batch.Batch.{Batch}
use Rattle.values.specs.declared.entry.Body.{Body}
use Rattle.values.specs.declared.entry.LogEntry.{LogEntry}
use Rattle.values.specs.declared.ids.ClientId.{ClientId}
use Rattle.values.specs.declared.message.Answer.{Answer}
use Rattle.values.specs.declared.message.Answer.TheVariants.{Outcome}
use Rattle.values.specs.declared.message.Reply.{Reply}
use Rattle.record_rules.specs.Table.{RecordTable}
use Rattle.record_rules.specs.Rules.{apply}
use Rattle.record_rules.specs.Places.{ClientAsk, apply_place}
use Rattle.replica_model.specs.Path.{Path}
use Rattle.replica_model.specs.Folds.{place_of}
use Rattle.replica_model.specs.Raise.{numbered_from}
use Rattle.replica_log.specs.Window.{Window, base_index}
use Rattle.replica_core.specs.declared.tickets.Ticket.{Ticket}
use Rattle.replica_core.specs.declared.holder.Holder.{Holder}

-- a table and tickets, with the entries that were applied and the answers that were given
pub record Applied : Type 0 where
  pub table : RecordTable
  pub tickets : List Ticket
  pub commits : List (ℕ × LogEntry)
  pub answers : List (ClientId × ℕ × Answer)

-- the reply of a table to an entry, where it is an ask
abbrev pub reply_in : RecordTable → Body → Option Reply
reply_in table body = option_map (λ (ask : ClientAsk). (apply table ask.client ask.number ask.request).1) (place_of body)

-- the first ticket, where it is that of the index
abbrev pub due_at : List Ticket → ℕ → Option Ticket
due_at [] i = None
due_at (t ∷ ts) i = cond (t.index == i) (Some t) None

-- the tickets without it
abbrev pub rest_of : List Ticket → ℕ → List Ticket
rest_of [] i = []
rest_of (t ∷ ts) i = cond (t.index == i) ts (t ∷ ts)

abbrev pub outcome_at : Ticket → Option Reply → List (ClientId × ℕ × Answer)
outcome_at t None = []
outcome_at t (Some reply) = (t.client, t.number, Outcome t.index reply) ∷ []

abbrev pub answers_at : List Ticket → ℕ → Option Reply → List (ClientId × ℕ × Answer)
answers_at [] i reply = []
answers_at (t ∷ ts) i reply = cond (t.index == i) (outcome_at t reply) []

-- one entry is applied: it is told, and a ticket of its index is answered with its reply
abbrev pub applied_one : Applied → ℕ × LogEntry → Applied
applied_one a e =
    record {
      table = apply_place a.table (place_of e.1.body);
      tickets = rest_of a.tickets e.0;
      commits = a.commits ++ e ∷ [];
      answers = a.answers ++ answers_at a.tickets e.0 (reply_in a.table e.1.body);
    }

-- entries are applied, one after another
abbrev pub applied_all : Applied → List (ℕ × LogEntry) → Applied
applied_all a entries = fold applied_one a entries

-- the kept entries above one index and up to another
abbrev pub kept_between : Window → ℕ → ℕ → Path
kept_between w low high = drop (low - base_index w) (take (high - base_index w) w.entries)

-- a replica, and a batch, before entries are applied
abbrev pub before_applied : Holder → Batch → Applied
before_applied h b = record { table = h.table; tickets = h.tickets; commits = b.commits; answers = b.answers }

-- the entries above an index are applied, up to the committed one
abbrev pub applied_from : Holder → Batch → ℕ → Applied
applied_from h b had = applied_all (before_applied h b) (numbered_from (had + 1) (kept_between h.log had h.log.committed))

-- the replica has applied them
abbrev pub holder_applied : Holder → Applied → Holder
holder_applied h a = record h { table = a.table; tickets = a.tickets }

-- the batch tells them
abbrev pub batch_applied : Batch → Applied → Batch
batch_applied b a = record b { commits = a.commits; answers = a.answers }

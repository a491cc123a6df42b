-- Worlds in which laws do not hold, since their premises do not.
use Rattle.std.specs.Prelude.{ℕ, ◌*◌, ◌≤◌, List, [], ◌∷◌, ◌++◌, length, unwrap_or}
use Rattle.values.specs.declared.entry.Body.TheVariants.{Noop}
use Rattle.values.specs.declared.entry.Hash.{Hash}
use Rattle.values.specs.declared.entry.LogEntry.{LogEntry}
use Rattle.values.specs.declared.event.Event.TheVariants.{Want}
use Rattle.values.specs.declared.ids.ClientId.{ClientId}
use Rattle.values.specs.declared.want.Want.TheVariants.{Store}
use Rattle.replica_model.specs.Path.{Link, first_hash, entry_at}
use Rattle.group_model.specs.Log.{log_of}
use Rattle.group_model.specs.Run.{World}
use Rattle.schedule_model.specs.Lines.{event_line}
use Rattle.trace_model.specs.Schedules.{trace_of, world_of}
use Rattle.trace_model.specs.TraceLines.{TraceLine, Says, joined, max_line}
use Rattle.model_rows.specs.Shown.{bytes_of}
use Rattle.model_rows.specs.Toy.{toy_link}
use Rattle.model_rows.specs.Rows.BeyondTheBound as fork
use Rattle.model_rows.specs.Rows.OldVotesHaltTwo as votes
use Rattle.model_rows.specs.Rows.OneVoterOneBackup as two

-- a fork: two entries are committed at one index
abbrev pub forked : World
forked = world_of toy_link (bytes_of fork.schedule)

-- a replica was rolled back, and leads by old votes
abbrev pub revoted : World
revoted = world_of toy_link (bytes_of votes.schedule)

-- a link that gives one hash to all
abbrev pub constant_link : Link
constant_link h index entry = first_hash

-- two entries under that link
abbrev pub collided : World
collided = world_of constant_link (bytes_of two.schedule)

-- the entry at an index of its log
abbrev pub entry : ℕ → LogEntry
entry i = unwrap_or (entry_at (log_of collided) i) (record { term = 0; body = Noop })

-- a link whose hashes have a byte more than 32, and a schedule in which a learner takes a table
abbrev pub long_link : Link
long_link h index entry = record { 0 = (toy_link h index entry).0 ++ 0 ∷ [] }

abbrev pub table_taken : List ℕ
table_taken = bytes_of ("begin,0,100,1" ∷ "tick,1" ∷ "start,2" ∷ "join,1,2" ∷ "deliver,1" ∷ [])

abbrev pub long_hashed : World
long_hashed = world_of long_link table_taken

abbrev pub long_trace : List ℕ
long_trace = trace_of long_link table_taken

-- the line of a want whose secret has more digits than a line may have says nothing
abbrev pub LongWantsAreRefused : Type 0
LongWantsAreRefused =
    (number : ℕ) (client : ClientId) (secret : List ℕ) (pin : Hash) (tries : ℕ) → max_line ≤ 2 * length secret
    → (what : TraceLine) → ¬ (Says (joined (event_line number (Want client (Store secret pin tries)))) what)

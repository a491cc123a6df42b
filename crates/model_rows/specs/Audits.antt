-- Traces by what their lines say.
use Rattle.std.specs.Prelude.{ℕ, true, List, [], ◌∷◌, ◌++◌, map, replicate, Some}
use Rattle.values.specs.declared.entry.Body.TheVariants.{Noop}
use Rattle.values.specs.declared.entry.LogEntry.{LogEntry}
use Rattle.values.specs.declared.event.Event.TheVariants as event
use Rattle.values.specs.declared.ids.ClientId.{ClientId}
use Rattle.values.specs.declared.message.Reply.TheVariants.{Applied}
use Rattle.values.specs.declared.message.Response.TheVariants.{Backup}
use Rattle.trace_model.specs.Audit.{Verdict, verdict, new_audit}
use Rattle.trace_model.specs.TraceLines.{TraceLine, EventLine, Commit, Outcome, LogEnd, Rollbacks, End, Other}
use Rattle.model_rows.specs.Broken.{entry}

-- the client and the two entries of the run of one voter and one backup
abbrev pub client : ClientId
client = record { 0 = replicate 15 0 ++ 1 ∷ [] }

abbrev pub noop_of : ℕ → LogEntry
noop_of term = record { term = term; body = Noop }

abbrev pub judged : List TraceLine → Verdict
judged lines = verdict 0 new_audit (map (λ line. Some line) lines)

abbrev pub begins : List TraceLine
begins = EventLine 1 (event.Begin 0 100 (1 ∷ [])) ∷ EventLine 2 (event.Tick 1) ∷ Other ∷ Commit 1 1 (entry 1) ∷ Other ∷ Commit 1 2 (entry 2) ∷ []

abbrev pub backed_up : TraceLine
backed_up = Outcome client 1 2 (Applied (Backup 1))

abbrev pub ends : ℕ → List TraceLine
ends log = LogEnd log ∷ Rollbacks true ∷ End ∷ []

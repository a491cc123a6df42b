-- What holds of the drills.
use Rattle.std.specs.Prelude.{◌≡◌, ℕ, zero, suc, ◌+◌, ◌-◌, ◌*◌, ◌%◌, ◌==◌, ◌≤◌, if◌then◌else◌, List, [], ◌∷◌, length, None, IsTrue, IsSomeAnd}
use Rattle.std.specs.List.{AllByRecursion}
use Rattle.values.specs.declared.event.Event.{Event}
use Rattle.values.specs.declared.event.Event.TheVariants as event
use Rattle.replica_model.specs.Path.{Link}
use Rattle.replica_model.specs.Message.{Message}
use Rattle.replica_model.specs.Replica.{Role, Learner}
use Rattle.schedule_model.specs.Drill.{word, drill_events}
use Rattle.schedule_model.specs.Written.{last_of, stop_of}
use Rattle.group_model.specs.Group.{numbered, is_within}
use Rattle.group_model.specs.Run.{Recorded, Enclaves, World, enclaves, empty_world}
use Rattle.trace_model.specs.Trace.{Playing, playing, expanded}
use Rattle.trace_model.specs.Summary.{drill_played, halts}

-- the most clients of a drill
abbrev pub most_clients : ℕ
most_clients = 2000

-- of every drill that can be asked for
abbrev pub OfEachDrill : (Link → ℕ → ℕ → Type 0) → Type 0
OfEachDrill P = (link : Link) (seed clients : ℕ) → 1 ≤ clients → clients ≤ most_clients → P link seed clients

-- nothing stops it: all of its events are played, and no limit is met
abbrev pub DrillIsPlayed : Type 0
DrillIsPlayed = OfEachDrill (λ link seed clients. stop_of (drill_played link seed clients) ≡ None)

-- how many of the n clients from client i on want something in the leader's next round
abbrev pub rounds : ℕ → ℕ → ℕ → ℕ
rounds seed zero i = 0
rounds seed (suc n) i = (if word seed (i - 1) % 4 == 3 then 1 else 0) + rounds seed n (i + 1)

-- what the world at the end of a drill has come to: so many events, messages and answers; nobody halted, and nobody was
-- rolled back, so that the run is within the bound
pub record ComesTo (seed clients : ℕ) (w : World) : Type 0 where
  pub events : length w.past ≡ 34 + 80 * clients + 9 * rounds seed clients 1
  pub messages : length w.messages ≡ 32 + 72 * clients + 8 * rounds seed clients 1
  pub answers : length w.answers ≡ 3 * clients
  pub no_halt : halts w ≡ 0
  pub within : IsTrue (is_within w)

abbrev pub DrillComesTo : Type 0
DrillComesTo = OfEachDrill (λ link seed clients. ComesTo seed clients (last_of (drill_played link seed clients)).group)

-- a replica holds a log once it is no learner that still takes a table
abbrev pub HoldsALog : Role → Type 0
HoldsALog (Learner taking) = ⊥
HoldsALog _ = Unit {0}

-- no learner is ever called: whoever was called held a log before
abbrev pub AllHoldLogs : World → Type 0
AllHoldLogs w = AllByRecursion (λ (r : Recorded). HoldsALog r.before.role) w.field.history

abbrev pub NobodyLearns : Type 0
NobodyLearns = OfEachDrill (λ link seed clients. AllHoldLogs (last_of (drill_played link seed clients)).group)

-- where an event is a hear, the answer that it names is the newest one, as answers are counted from 1, and one to its client
abbrev pub NamesTheNewest : World → Event → Type 0
NamesTheNewest w (event.Hear client number) = (number ≡ length w.answers) × IsSomeAnd (numbered w.answers number) (λ a. a.client ≡ client)
NamesTheNewest w e = Unit {0}

-- each of the events names the newest answer where it comes, as they are played one after another
abbrev pub EachNamesTheNewest : Link → Playing Message Enclaves → List Event → Type 0
EachNamesTheNewest link p [] = Unit {0}
EachNamesTheNewest link p (e ∷ events) =
    NamesTheNewest p.group e × EachNamesTheNewest link (last_of (expanded (enclaves link) p e)) events

abbrev pub HearsNameTheNewest : Type 0
HearsNameTheNewest = OfEachDrill (λ link seed clients. EachNamesTheNewest link (playing empty_world) (drill_events seed clients))

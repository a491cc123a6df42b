-- What holds of schedules, traces and sessions, beside the laws over runs: each of these statements is proved, as a law of
-- the crates above.
use Rattle.std.specs.Prelude.{◌≡◌, ℕ, ◌≤◌, ◌↔◌, List, map, length, reverse, filter, is_some, IsTrue, Ok}
use Rattle.std.specs.List.{AllByRecursion}
use Rattle.values.specs.declared.batch.Batch.{Batch}
use Rattle.values.specs.declared.entry.Point.{Point}
use Rattle.values.specs.declared.event.Event.{Event}
use Rattle.replica_model.specs.Path.{Link}
use Rattle.replica_model.specs.Replica.{Named}
use Rattle.schedule_model.specs.Written.{last_of}
use Rattle.group_model.specs.Group.{is_within}
use Rattle.group_model.specs.Run.{Recorded, Enclaves, World, run}
use Rattle.trace_model.specs.Audit.{Accepts, Audits}
use Rattle.trace_model.specs.Hashing.{GivesHashes}
use Rattle.values.specs.declared.limits.TheConstants.{MAX_SOURCE}
use Rattle.trace_model.specs.Schedules.{trace_of, world_of, enclaves_of}
use Rattle.trace_model.specs.Contents.{ReadsBatch, trace_from, TakesAll, TakesFront}
use Rattle.trace_model.specs.Driven.{driven, driven_world}
use Rattle.trace_model.specs.PartMap.{IsNamedAt, ServesSessions}
use Rattle.trace_model.specs.Session.{Wording, Tagging, session_of}
use Rattle.trace_model.specs.Summary.{drill_played, halts}
use Rattle.group_model.specs.Log.{log_of, WithinBound, NoCollision}
use Rattle.group_model.specs.Laws.{OneLogLaws, ActsOnce}

-- a schedule's world is that of a run, of the events that were played
abbrev pub ScheduleIsARun : Type 0
ScheduleIsARun = (link : Link) (bytes : List ℕ) → world_of link bytes ≡ run link (reverse (world_of link bytes).past)

-- and so is a driven schedule's
abbrev pub DrivenIsARun : Type 0
DrivenIsARun = (link : Link) (bytes : List ℕ) → driven_world link bytes ≡ run link (driven link bytes)

-- the closing lines tell the length of the log, and whether the run is within the bound
pub record ClosingTells (w : World) : Type 0 where
  pub log : w.committed ≡ length (log_of w)
  pub bound : IsTrue (is_within w) ↔ WithinBound w

abbrev pub ClosingLinesTell : Type 0
ClosingLinesTell = (link : Link) (events : List Event) → ClosingTells (run link events)

-- the headline, of every schedule: within the bound and without a collision, every outcome that is written is the one
-- table's answer at its request's place in one log
abbrev pub Headline : Type 0
Headline =
    (link : Link) (bytes : List ℕ) → WithinBound (world_of link bytes) → NoCollision link (world_of link bytes)
    → OneLogLaws (world_of link bytes)

-- the same of every driven schedule, in which each number acts at most once
abbrev pub DrivenHeadline : Type 0
DrivenHeadline =
    (link : Link) (bytes : List ℕ) → WithinBound (driven_world link bytes) → NoCollision link (driven_world link bytes)
    → OneLogLaws (driven_world link bytes) × ActsOnce (driven_world link bytes)

-- what enclaves answered to all that they were ever handed, call by call
abbrev pub contents_of : (ℕ → Batch → List ℕ) → Enclaves → List (List ℕ)
contents_of batch_bytes f =
    map (λ (r : Recorded). batch_bytes r.replica r.call.batch) (filter (λ (r : Recorded). is_some r.input) (reverse f.history))

-- these batches are read as they were written
abbrev pub AreReadBack : (ℕ → Batch → List ℕ) → ReadsBatch → Enclaves → Type 0
AreReadBack batch_bytes batch_of f =
    AllByRecursion (λ (r : Recorded). batch_of (batch_bytes r.replica r.call.batch) ≡ Ok r.call.batch) f.history

-- a trace is the one from the contents that its own enclaves give, all of which it takes
pub record IsFrom (batch_of : ReadsBatch) (link : Link) (bytes : List ℕ) (given : List (List ℕ)) : Type 0 where
  pub text : trace_from batch_of bytes given ≡ trace_of link bytes
  pub takes : TakesAll batch_of bytes given

-- so it is of every schedule, where batches are read as they were written
abbrev pub TraceFromItsContents : Type 0
TraceFromItsContents =
    (batch_bytes : ℕ → Batch → List ℕ) (batch_of : ReadsBatch) (link : Link) (bytes : List ℕ)
    → AreReadBack batch_bytes batch_of (enclaves_of link bytes)
    → IsFrom batch_of link bytes (contents_of batch_bytes (enclaves_of link bytes))

-- whatever contents are given, a text takes a front of them: batches, and at most one that is none, at which it ends
abbrev pub TextTakesAFront : Type 0
TextTakesAFront = (batch_of : ReadsBatch) (bytes : List ℕ) (given : List (List ℕ)) → TakesFront batch_of bytes given

-- without a collision all parts that a run hands to learners that hold nothing have one map from points to paths
abbrev pub PartsHaveAMap : Type 0
PartsHaveAMap =
    (link : Link) (events : List Event) → NoCollision link (run link events)
    → (names : Point → Named)
    × AllByRecursion (λ (r : Recorded). IsNamedAt link names r.before.role r.input) (run link events).field.history

-- and so have the frames that it hands to each of its enclaves: a map such as a session of them needs
abbrev pub FramesHaveAMap : {E : Type 0} → Wording E → Type 0
FramesHaveAMap wording =
    (tagging : Tagging) (link : Link) (events : List Event) → NoCollision link (run link events)
    → (names : Point → Named) × ServesSessions wording tagging link (run link events) names

-- the end of a session does not depend on the map
abbrev pub EndIgnoresTheMap : {E : Type 0} → Wording E → Type 0
EndIgnoresTheMap wording =
    (link : Link) (names others : Point → Named) (bytes : List ℕ)
    → (session_of wording link names bytes).end ≡ (session_of wording link others bytes).end

-- of every drill: no replica halts, and the one-log laws hold, without a collision
abbrev pub drill_world : Link → ℕ → ℕ → World
drill_world link seed clients = (last_of (drill_played link seed clients)).group

abbrev pub DrillHolds : Type 0
DrillHolds =
    (link : Link) (seed clients : ℕ) → NoCollision link (drill_world link seed clients)
    → OneLogLaws (drill_world link seed clients) × (halts (drill_world link seed clients) ≡ 0)

-- a trace of a run within the bound and without a collision is accepted, whether its schedule was played to
-- its end or it stops at a bad record or at a limit
abbrev pub TraceIsAccepted : Type 0
TraceIsAccepted =
    (link : Link) (bytes : List ℕ) → GivesHashes link → length bytes ≤ MAX_SOURCE
    → WithinBound (world_of link bytes) → NoCollision link (world_of link bytes)
    → (lines : ℕ) × Audits (trace_of link bytes) (Accepts lines)

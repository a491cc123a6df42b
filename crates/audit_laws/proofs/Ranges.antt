-- What is in range: the records of a source, the events of a run, and the lines of an event.
use Rattle.std.proofs.Common.{◌≡◌, ℕ, ◌+◌, ◌*◌, ◌≤◌, arith, Bool, false, None, Err, List, [], ◌∷◌, length}
use Rattle.std.specs.Prelude.{IsTrue}
use Rattle.std.proofs.lemmas.Bool.{le-leb}
use Rattle.std.specs.List.{AllByRecursion}
use Rattle.values.specs.declared.event.Event.{Event}
use Rattle.record_cutting.specs.Lines.{Record, records_of}
use Rattle.schedule_model.specs.Reading.{RecordFault, max_u64}
use Rattle.schedule_model.specs.Records.{event_of}
use Rattle.replica_model.specs.Path.{Link}
use Rattle.group_model.specs.Group.{is_within}
use Rattle.group_model.specs.Happens.{Came, Happened, happens}
use Rattle.group_model.specs.Run.{World, enclaves}
use Rattle.trace_model.specs.Limits.{passed_before, passed_after}
use Rattle.trace_model.specs.TraceLines.{EventForm, LogForm, RollbacksForm, EndForm, StoppedAtRecord, is_u64}
use Rattle.trace_model.specs.Hashing.{GivesHashes}
use Rattle.values.specs.declared.limits.TheConstants.{MAX_EVENTS, MAX_SOURCE}
use Rattle.audit_laws.proofs.Texts.{IsFine}
use Rattle.audit_laws.proofs.Sources.{IsWithin, source_within}
use Rattle.audit_laws.proofs.Stepping.{came_forms}
use Rattle.range_laws.proofs.Rules.{u64_of}
use Rattle.range_laws.proofs.Worlds.{IsShort}
use Rattle.audit_laws.proofs.ReadFaults.{read_fault as field_of_fault}
use Rattle.audit_laws.proofs.ReadRecords.{record_short, record_reads}
use Rattle.audit_laws.proofs.Lines.{decimal_size, fine_of, came_fine, ends_fine, stopped_fine}
use Rattle.headline_laws.proofs.Ranged.{Ranged, ranged_on}
use Rattle.range_laws.specs.Ranges.{EventIn}

-- a record no field of which is longer than a source
abbrev pub IsShortRecord : Record → Type 0
IsShortRecord fields = IsWithin MAX_SOURCE fields

-- the most records of a source
abbrev pub max_records : ℕ
max_records = 2 * MAX_SOURCE

pub record AreShort (records : List Record) : Type 0 where
  pub each : AllByRecursion IsShortRecord records
  pub few : length records ≤ max_records

pub source_short : (bytes : List ℕ) → length bytes ≤ MAX_SOURCE → AreShort (records_of bytes)
source_short bytes le = let all = source_within bytes le in record { each = all.0; few = all.1 }

pub read_fault : (begun : Bool) (fields : Record) (f : RecordFault) → IsShortRecord fields → event_of false begun fields ≡ Err f → IsTrue (is_u64 f.field)
read_fault begun fields f short is = le-leb f.field max_u64 (omega (arith, field_of_fault (length fields + 6) fields (omega arith) begun f is, short.few))

pub record RangedEvent (g : World) (e : Event) (came : Came) (h : World) : Type 0 where
  pub ranged : Ranged h
  pub fine : AllByRecursion IsFine (EventForm (length g.past + 1) e ∷ came_forms (length g.messages + 1) (length g.answers + 1) came)

event_fine : (number : ℕ) (e : Event) → number ≤ MAX_EVENTS → EventIn e → IsShort MAX_SOURCE e → IsFine (EventForm number e)
event_fine number e le h short =
    let n = u64_of number (omega (arith, le)) in
    fine_of (EventForm number e) (omega (arith, decimal_size number n, record_short e h short)) (n, record_reads e h)

pub ranged_event : (link : Link) → GivesHashes link → (g h : World) (e : Event) (came : Came) → Ranged g → EventIn e → IsShort MAX_SOURCE e → happens (enclaves link) e g ≡ Happened came h → passed_before g e ≡ None → passed_after h ≡ None → RangedEvent g e came h
ranged_event link hashes g h e came r x short is before after =
    let on = ranged_on link hashes MAX_SOURCE (omega arith) g h e came r x is before after in
    record {
      ranged = on.ranged;
      fine = (
        event_fine (length g.past + 1) e on.before x short,
        came_fine (length g.past + 1) (omega (arith, on.before)) (length g.messages + 1) (length g.answers + 1) h came (IsShort MAX_SOURCE e) short on.came_in (omega (arith, r.messages, on.ranged.messages)) (omega (arith, r.answers, on.ranged.answers)),
      );
    }

pub ranged_closing : (g : World) → Ranged g → AllByRecursion IsFine (LogForm g.committed ∷ RollbacksForm (is_within g) ∷ EndForm (length g.past) (length g.messages) (length g.answers) ∷ [])
ranged_closing g r = ends_fine g.committed (is_within g) (length g.past) (length g.messages) (length g.answers) (omega (arith, r.within.committed, r.events)) (omega (arith, r.events)) (omega (arith, r.messages)) (omega (arith, r.answers))

pub stop_fine : (number : ℕ) (f : RecordFault) → number ≤ max_records → IsTrue (is_u64 f.field) → IsFine (StoppedAtRecord number f)
stop_fine number f few field = stopped_fine number f (le-leb number max_u64 (omega (arith, few))) field

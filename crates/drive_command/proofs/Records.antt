-- One record of a driven schedule, and the closing lines.
use Rattle.std.proofs.Common.{refl, sym, ap, subst, ◌∙◌, ◌≡◌, ℕ, ◌+◌, Bool, true, not, List, [], ◌∷◌, ◌++◌, Option, Some, None, Result, Ok, Err, append-nil}
use Rattle.std.specs.Prelude.{⊤}
use Rattle.values.specs.declared.event.Event.{Event}
use Rattle.record_cutting.specs.Lines.{Record}
use Rattle.record_stream.specs.Alone.{none_asked}
use Rattle.record_stream.specs.Course.{Advances, Cuts, Halts, Outlook, PlaysTo}
use Rattle.record_stream.specs.declared.player.Stop.{Stop as Stopping}
use Rattle.record_stream.specs.declared.player.Stop.TheVariants as stop
use Rattle.schedule_model.specs.Reading.{RecordFault}
use Rattle.schedule_model.specs.Records.{event_of}
use Rattle.schedule_model.specs.Written.{On, Off, AtRecord, stopped_text}
use Rattle.trace_model.specs.Driven.{driven_record, driven_said, drives_on}
use Rattle.written_course.specs.Openings.{closing_written, holds_here}
use Rattle.written_course.specs.Steps.{gone_on, next}
use Rattle.written_course.proofs.Records.{begins_one, goes_held, goes_kept, goes_one, stops_one}
use Rattle.group_world.specs.Closing.{closing_of}
use Rattle.group_world.specs.Halted.{Halts as Halted, stop_by}
use Rattle.group_world.specs.Meanings.{OfEnclaves, SaysMessage}
use Rattle.group_world.specs.declared.halt.Halt.{Halt}
use Rattle.group_world.specs.declared.halt.Halt.TheVariants as halt
use Rattle.group_world.proofs.ClosingLines.{closing_same}
use Rattle.group_world.proofs.Playing.{halt_back}
use Rattle.drive_command.specs.Course.{Drives, course, field, is_unanswered, steps}
use Rattle.drive_command.specs.Pieces.{IsNamedTill, Piece, PlaysOff, PlaysOn, PlaysSome, Writes, counted_in}
use Rattle.drive_command.specs.Standing.{Stands, Takes}
use Rattle.drive_command.specs.declared.player.DrivePlayer.{DrivePlayer}
use Rattle.drive_command.proofs.Composed.{some_none}
use Rattle.drive_command.proofs.Tame.{Keeps, driven_steps}

abbrev pub takes : DrivePlayer → Outlook Drives ⊤
takes p fails given d = Takes p d

answered : (h : Halt) → not (is_unanswered (Some (stop_by h))) ≡ true
answered (halt.Record number cause field) = refl
answered (halt.Limit which) = refl
answered (halt.Frame at) = refl

-- ---- what a record says

module _ (p : DrivePlayer) (r : Record) where
  pub says : (d : Drives) (x : Result (Option Event) RecordFault) → event_of true p.group.world.begun r ≡ x → Stands p d → driven_record field d r ≡ driven_said field d x
  says d x is st =
      let sees = st.sees.0 in
      ap (driven_said field d) (ap (λ (b : Bool). event_of true b r) (sym sees.world.begun) ∙ is)

  pub says_event : (e : Event) → event_of true p.group.world.begun r ≡ Ok (Some e) → (d : Drives) → Stands p d → driven_record field d r ≡ drives_on field (counted_in d) e
  says_event e is d st = says d (Ok (Some e)) is st

  pub says_nothing : event_of true p.group.world.begun r ≡ Ok None → (d : Drives) → Stands p d → driven_record field d r ≡ On [] (counted_in d)
  says_nothing is d st = says d (Ok None) is st

  pub fault_writes : {T : Type 0} (why : Halt) (fault : RecordFault) (before after : List ℕ) (o : Result T (Stopping Halt)) → event_of true p.group.world.begun r ≡ Err fault → why ≡ halt.Record (p.group.records + 1) fault.cause fault.field
      → Halted why before after o → Writes (λ d. driven_record field d r) p p before after o
  fault_writes why fault before after (Ok done) is so h = absurd h
  fault_writes why fault before after (Err (stop.Stopped said)) is so (same, grown) = (
    [],
    grown ∙ ap (λ (h : Halt). before ++ stopped_text (stop_by h)) (sym same),
    λ d st named. (
      d,
      says d (Err fault) is st ∙ ap (λ (n : ℕ). Off [] (AtRecord (n + 1) fault) d) st.records ∙ ap (λ (h : Halt). Off [] (stop_by h) d) (sym (same ∙ so)),
    ),
  )
  fault_writes why fault before after (Err stop.Memory) is so grown = ([], grown ∙ sym (append-nil before), some_none (λ d. driven_record field d r) p)
  fault_writes why fault before after (Err stop.Failed) is so h = absurd h

-- ---- what became of a record

module _ (p q : DrivePlayer) (r : Record) where
  abbrev whole : Piece
  whole d = driven_record field d r

  stands_by : (d : Drives) → Takes p d → IsNamedTill (whole d) → Stands p d
  stands_by d taken till = taken.sees (driven_steps.before d r taken.stands till)

  advances : (text : List ℕ) → PlaysOn whole p text q → Advances none_asked takes course (next steps) p (r ∷ []) q text
  advances text on = record {
    given = [];
    gained = refl;
    goes = λ fails later d taken. (
      goes_one steps Keeps driven_steps d taken.stands r text (λ till. let (e, it, next) = on d (stands_by d taken till) till in (e, it)),
      record {
        stands = goes_kept steps Keeps driven_steps (whole d) (driven_steps.on d r taken.stands);
        sees = λ held.
            let till = goes_held steps Keeps driven_steps (whole d) held in
            let (e, it, next) = on d (stands_by d taken till) till in
            subst (λ w. Stands q (gone_on steps w)) (sym it) next;
      },
    );
  }

  halts : (text : List ℕ) (why : Halt) → PlaysOff whole p text (stop_by why) → Halts none_asked takes course (next steps) p (r ∷ []) q why (text ++ stopped_text (stop_by why))
  halts text why off = record {
    given = [];
    gained = refl;
    stops = λ d taken. stops_one steps Keeps driven_steps d taken.stands r text (stop_by why) why (halt_back why) (λ till. let (e, it) = off d (stands_by d taken till) till in (e, it, answered why));
  }

  cuts : (text : List ℕ) → PlaysSome whole p text → Cuts none_asked takes course (next steps) p (r ∷ []) q text
  cuts text some = record {
    given = [];
    gained = refl;
    begins = λ d taken. begins_one steps Keeps driven_steps d taken.stands r text (λ till. some d (stands_by d taken till) till);
  }

  pub plays_to : {T : Type 0} (before after : List ℕ) (o : Result T (Stopping Halt)) → Writes whole p q before after o → PlaysTo none_asked takes course (next steps) p (r ∷ []) q before after o
  plays_to before after (Ok done) (text, grown, on) = (text, advances text on, grown)
  plays_to before after (Err (stop.Stopped why)) (text, grown, off) = (text ++ stopped_text (stop_by why), halts text why off, grown)
  plays_to before after (Err stop.Memory) (text, grown, some) = (text, cuts text some, grown)
  plays_to before after (Err stop.Failed) h = absurd h

-- ---- the closing lines

pub closes_so : (p : DrivePlayer) (d : Drives) → Takes p d → (course d).holds [] → (course d).text true [] ≡ closing_of p.group.world
closes_so p d taken here =
    let sees = (taken.sees (holds_here steps d here)).sees.0 in
    closing_written steps d ∙ closing_same (SaysMessage OfEnclaves) p.group.world d.playing sees.world

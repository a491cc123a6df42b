-- What the end of a driven play says of a run.
use Rattle.std.proofs.Common.{refl, sym, ap, ◌∙◌, ◌≡◌, ◌≢◌, ◌≤◌, ℕ, List, length, true, false, Option, Some, None, IfSome, inr}
use Rattle.record_stream.specs.Course.{Course, Outlook}
use Rattle.record_cutting.specs.Lines.{Record, records_of, whole_records}
use Rattle.record_stream.specs.Ends.{PlayedOver, Unstopped}
use Rattle.record_stream.specs.declared.source.Ended.{Ended}
use Rattle.schedule_model.specs.Written.{Stop, AtRecord, AtLimit, AtFrame, AtField, Off, On, Written, stop_of, text_with}
use Rattle.replica_model.specs.Linked.{sha_link}
use Rattle.replica_model.specs.Message.{Message}
use Rattle.group_model.specs.Run.{Enclaves, empty_world}
use Rattle.trace_model.specs.Driven.{Driving}
use Rattle.trace_model.specs.Driver.{new_driver}
use Rattle.trace_model.specs.Trace.{closing, playing}
use Rattle.group_world.specs.declared.halt.Halt.{Halt}
use Rattle.group_world.specs.declared.halt.Halt.TheVariants as halt
use Rattle.part_laws.specs.Named.{DrivenCallsAreNamed}
use Rattle.drive_command.specs.Course as driven
use Rattle.drive_command.specs.Standing.{Takes}
use Rattle.drive_command.specs.declared.player.DrivePlayer.{DrivePlayer}
use Rattle.svr2_run.specs.Run.{EndsStopped, Holds, RunsOver, StoppedBy, driven_by, status_by, status_halted, text_of}
use Rattle.svr2_run.specs.declared.exit.Status.TheVariants as status
use Rattle.svr2_run.specs.declared.words.Play.TheVariants.{Drive}
use Rattle.svr2_run.proofs.Ended.{IsCourseOf, Said}
use Rattle.svr2_run.proofs.Unbroken.{never_driven_at_frame}

abbrev Driven : Type 0
Driven = Driving Message Enclaves

abbrev pub course : Course Halt
course = driven.course driven.start

-- a text that ends before its schedule ends with the line that says why
off_ends : (w : Written Driven) (stop : Stop) → stop_of w ≡ Some stop → EndsStopped (text_with (λ (d : Driven). closing d.playing) w)
off_ends (On text d) stop e = cc e
off_ends (Off text why d) stop e = record { before = text; stop = why; parts = refl }

-- no reason and no ask left: nothing stopped it
all_played : (rs : List Record) → Unstopped course rs → stop_of (driven_by rs) ≡ None
all_played rs (none, asked) = by (stop_of (driven_by rs)) refl none asked
  where
    by : (o : Option Stop) → stop_of (driven_by rs) ≡ o → course.reason rs ≡ None → course.takes_all rs ≡ true → stop_of (driven_by rs) ≡ None
    by None is none asked = is
    by (Some (AtRecord number fault)) is none asked = absurd (cc (rw is at none))
    by (Some (AtLimit passed)) is none asked = absurd (cc (rw is at none))
    by (Some (AtFrame at)) is none asked = absurd (cc (rw is at none))
    by (Some AtField) is none asked = absurd (cc (rw is at asked))

-- what the reason says of the status
means : (bytes : List ℕ) (why : Halt) → course.reason (records_of bytes) ≡ Some why → (status_by (stop_of (driven_by (records_of bytes))) ≡ status_halted why) × EndsStopped (text_of Drive bytes)
means bytes why says = by (stop_of (driven_by (records_of bytes))) refl says
  where
    by : (o : Option Stop) → stop_of (driven_by (records_of bytes)) ≡ o → course.reason (records_of bytes) ≡ Some why
        → (status_by (stop_of (driven_by (records_of bytes))) ≡ status_halted why) × EndsStopped (text_of Drive bytes)
    by None is says = absurd (cc (rw is at says))
    by (Some (AtRecord number fault)) is says = (cc (is, rw is at says), off_ends (driven_by (records_of bytes)) (AtRecord number fault) is)
    by (Some (AtLimit passed)) is says = (cc (is, rw is at says), off_ends (driven_by (records_of bytes)) (AtLimit passed) is)
    by (Some (AtFrame at)) is says = absurd (never_driven_at_frame sha_link (record { playing = playing empty_world; driver = new_driver 0 }) (records_of bytes) at is)
    by (Some AtField) is says = absurd (cc (rw is at says))

module _ (law : DrivenCallsAreNamed) where
  ends : (why : Halt) (all : List ℕ) (left x y : Option (List ℕ)) → StoppedBy Drive (status_halted why) all x y → RunsOver Drive all left x y (status_halted why)
  ends (halt.Record number cause field) all left x y said = said
  ends (halt.Limit which) all left x y said = inr said
  ends (halt.Frame at) all left x y said = λ holds. frame_never (stop_of (driven_by (records_of all))) refl (said holds).0
    where
      frame_never : (o : Option Stop) → stop_of (driven_by (records_of all)) ≡ o → status_by (stop_of (driven_by (records_of all))) ≡ status.Frame → ⊥
      frame_never None is f = cc (rw is at f)
      frame_never (Some (AtRecord number fault)) is f = cc (rw is at f)
      frame_never (Some (AtLimit passed)) is f = cc (rw is at f)
      frame_never (Some (AtFrame at)) is f = never_driven_at_frame sha_link (record { playing = playing empty_world; driver = new_driver 0 }) (records_of all) at is
      frame_never (Some AtField) is f = cc (rw is at f)

  pub is_driven : IsCourseOf Drive course status_halted
  is_driven = record {
    named = λ rs holds. law sha_link rs holds;
    text = λ bytes. refl;
    lines = λ bytes. refl;
    whole = λ bytes unstopped. ap status_by (all_played (whole_records bytes) unstopped);
    done = λ bytes unstopped. ap status_by (all_played (records_of bytes) unstopped);
    stopped = means;
    ends = ends;
  }

  pub one_ends : {G : Type 0} (gains : DrivePlayer → DrivePlayer → List G → Type 0) (step : Driven → Record → Driven) (p q : DrivePlayer) (left left' x y : Option (List ℕ)) (e : Ended Halt) → Takes p driven.start
      → IfSome left (λ all. PlayedOver gains (λ p fails given d. Takes p d) driven.course step p q all left' x y e) → IfSome left (λ all. Said Drive course status_halted is_driven all left' x y e)
  one_ends gains step p q None left' x y e took h = tt
  one_ends gains step p q (Some all) left' x y e took h = (h.ends driven.start took, h.reason driven.start took)

pub means_no_field : (why : Halt) → status_halted why ≢ status.FieldFault
means_no_field (halt.Record number cause field) f = cc f
means_no_field (halt.Limit which) f = cc f
means_no_field (halt.Frame at) f = cc f

pub means_no_refusal : (why : Halt) → status_halted why ≢ status.Refused
means_no_refusal (halt.Record number cause field) f = cc f
means_no_refusal (halt.Limit which) f = cc f
means_no_refusal (halt.Frame at) f = cc f

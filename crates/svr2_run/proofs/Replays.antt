-- What the end of a group's playing says of a run.
use Rattle.std.proofs.Common.{arith, refl, sym, ap, ◌∙◌, ◌≡◌, ◌≢◌, ◌≤◌, ℕ, List, length, take, Option, Some, None, IfSome, IsSome, inl, inr, ◌⊎◌}
use Rattle.std.specs.Io.KnownBytes.{IsAtEnd}
use Rattle.byte_streams.specs.Causes.{Rose}
use Rattle.record_cutting.specs.Lines.{Record, records_of, whole_records}
use Rattle.record_stream.specs.Ends as stream
use Rattle.record_stream.specs.Ends.{limit}
use Rattle.schedule_model.specs.Quantities as quantity
use Rattle.schedule_model.specs.Written.{Stop, AtRecord, AtLimit, AtFrame, AtField, Written, On, Off, stop_of, text_with}
use Rattle.replica_model.specs.Linked.{sha_link}
use Rattle.replica_model.specs.Message.{Message}
use Rattle.group_model.specs.Run.{Enclaves, empty_world, enclaves, no_enclaves}
use Rattle.trace_model.specs.Trace.{Playing, closing, playing}
use Rattle.trace_model.specs.Schedules.{played_of, stop_in}
use Rattle.enclave_host.specs.Fields.{Map}
use Rattle.part_laws.specs.Named.{PlayedCallsAreNamed}
use Rattle.group_world.specs.declared.schedule.Played.{Played}
use Rattle.group_world.specs.declared.schedule.Played.TheVariants as end
use Rattle.group_world.specs.declared.schedule.Which.TheVariants as which
use Rattle.group_world.specs.Runs as world
use Rattle.group_world.specs.Runs.{DecidedOver, IsNamedOver, IsWithoutCollision, OverEnclaves, any, played_for}
use Rattle.svr2_run.specs.Run.{CutOff, EndsStopped, Holds, RunsOver, StoppedBy, WroteLines, lines_of, status_by, status_in, status_played, text_of}
use Rattle.svr2_run.specs.declared.exit.Status.{Status}
use Rattle.svr2_run.specs.declared.exit.Status.TheVariants as status
use Rattle.svr2_run.specs.declared.words.Play.TheVariants.{Replay}
use Rattle.svr2_run.proofs.Unbroken.{never_at_frame}

-- a trace that ends before its schedule ends with the line that says why
off_ends : (w : Written (Playing Message Enclaves)) (stop : Stop) → stop_of w ≡ Some stop → EndsStopped (text_with closing w)
off_ends (On text p) stop e = cc e
off_ends (Off text why p) stop e = record { before = text; stop = why; parts = refl }

pub none_rose : Rose 0 0 → ⊥
none_rose (inl lt) = omega arith
none_rose (inr e) = omega arith

module _ (law : PlayedCallsAreNamed) where
  -- without a collision each call was named as it is meant
  named : (rs : List Record) → Holds Replay rs → IsNamedOver (enclaves sha_link) no_enclaves IsWithoutCollision any rs
  named rs none = law sha_link rs none

  stopped_by : (all : List ℕ) (x y : Option (List ℕ)) (stop : Stop) (why : Status) → status_by (Some stop) ≡ why
      → world.EndsAs (enclaves sha_link) no_enclaves IsWithoutCollision any (Some stop) all x y → StoppedBy Replay why all x y
  stopped_by all x y stop why is said = λ none.
      let (ends, text) = said (named (records_of all) none) in
      (ap status_by ends.stopped ∙ is, off_ends (played_of sha_link all) stop ends.stopped, text)

  wrote_lines : (bytes : List ℕ) (x y : Option (List ℕ)) → world.WroteLines (enclaves sha_link) no_enclaves IsWithoutCollision any bytes x y → WroteLines Replay bytes x y
  wrote_lines bytes x y said = λ none.
      let (ends, lines) = said (named (whole_records bytes) none) in
      (ap status_by ends.stopped, lines)

  of_read : (read : List ℕ) (left : Option (List ℕ)) (written : List ℕ) → world.IsOfRead (enclaves sha_link) no_enclaves IsWithoutCollision any read left written
      → (Holds Replay (whole_records (take limit read)) → stream.IsFrontOf written (lines_of Replay (take limit read)))
      ⊎ (IsAtEnd left × (length read ≤ limit) × (Holds Replay (records_of read) → stream.IsFrontOf written (text_of Replay read)))
  of_read read left written (inl said) = inl (λ none. said (named (whole_records (take limit read)) none))
  of_read read left written (inr (end, few, said)) = inr (end, few, λ none. said (named (records_of read) none))

  cut_off : (all : List ℕ) (left x y : Option (List ℕ)) → world.CutOff (enclaves sha_link) no_enclaves IsWithoutCollision any all left x y → CutOff Replay all left x y
  cut_off all left x y cut = record {
    read = cut.read;
    consumed = cut.consumed;
    written = cut.written;
    of_read = of_read cut.read left cut.written cut.of_read;
    before = cut.before;
    piece = cut.piece;
    rest = cut.rest;
    parts = cut.parts;
    short = cut.short;
    lines = λ none. cut.lines (named (whole_records cut.before) none);
    gained = cut.gained;
  }

  runs_over : (all : List ℕ) (left x y : Option (List ℕ)) (r : Played) → (r ≢ end.FieldFault) → OverEnclaves all left x y r → RunsOver Replay all left x y (status_played r)
  runs_over all left x y end.Done never (end, small, said) =
      (end, small, λ none. let (ends, text) = said (named (records_of all) none) in (ap status_by ends.stopped, text))
  runs_over all left x y (end.Schedule line cause at) never said = stopped_by all x y (AtRecord line (record { cause = cause; field = at })) status.Schedule refl said
  runs_over all left x y (end.Limit which.Bytes) never (long, said) = inl (long, wrote_lines (take limit all) x y said)
  runs_over all left x y (end.Limit which.Events) never said = inr (stopped_by all x y (AtLimit quantity.Events) status.Limit refl said)
  runs_over all left x y (end.Limit which.Messages) never said = inr (stopped_by all x y (AtLimit quantity.Messages) status.Limit refl said)
  runs_over all left x y (end.Limit which.Answers) never said = inr (stopped_by all x y (AtLimit quantity.Answers) status.Limit refl said)
  runs_over all left x y (end.Limit which.Replicas) never said = inr (stopped_by all x y (AtLimit quantity.Replicas) status.Limit refl said)
  runs_over all left x y (end.Limit which.States) never said = inr (stopped_by all x y (AtLimit quantity.States) status.Limit refl said)
  runs_over all left x y (end.Limit which.Clients) never said = inr (stopped_by all x y (AtLimit quantity.Clients) status.Limit refl said)
  runs_over all left x y (end.Frame at) never said = λ none. never_at_frame sha_link (playing empty_world) (records_of all) at (said (named (records_of all) none)).0.stopped
  runs_over all left x y end.ReadFault never (read, consumed, said) = (read, consumed, wrote_lines read x y said)
  runs_over all left x y end.WriteFault never cut = cut_off all left x y cut
  runs_over all left x y end.Memory never cut = cut_off all left x y cut
  runs_over all left x y end.FieldFault never cut = absurd (never refl)

  pub told_replays : (map : Option Map) (left left' x y : Option (List ℕ)) (r : Played) (s : Status) → s ≡ status_played r → IsSome map → (r ≢ end.FieldFault)
      → IfSome left (λ all. IsSome map → OverEnclaves all left' x y r) → IfSome left (λ all. RunsOver Replay all left' x y s)
  told_replays map None left' x y r s is told never h = tt
  told_replays map (Some all) left' x y r s is told never h = rw is (runs_over all left' x y r never (h told))

  -- where the records decide
  status_decided : (o : Option Stop) → status_played (played_for o) ≡ status_by o
  status_decided None = refl
  status_decided (Some (AtRecord number fault)) = refl
  status_decided (Some (AtLimit passed)) = refl
  status_decided (Some (AtFrame at)) = refl
  status_decided (Some AtField) = refl

  not_memory : (r : Played) (s : Status) → s ≡ status_played r → s ≢ status.Memory → r ≢ end.Memory
  not_memory r s is not e = not (is ∙ ap status_played e)

  pub told_decided : (map : Option Map) (told told' : Option (List (List ℕ))) (left : Option (List ℕ)) (r : Played) (s : Status) (A B C : Type 0) → s ≡ status_played r → IsSome map → (C → ⊥)
      → IfSome left (λ all. length all ≤ limit → r ≢ end.Memory → (A → ⊥) → (B → ⊥) → (C → ⊥) → DecidedOver map told told' all r)
      → IfSome left (λ all. length all ≤ limit → Holds Replay (records_of all) → (A → ⊥) → (B → ⊥) → s ≢ status.Memory → s ≡ status_in Replay all)
  told_decided map told told' None r s A B C is is_told nc h = tt
  told_decided map told told' (Some all) r s A B C is is_told nc h = λ small none na nb nm.
      is ∙ (ap status_played ((h small (not_memory r s is nm) na nb nc).enclaves_decide is_told (named (records_of all) none)) ∙ status_decided (stop_in sha_link all))

-- how a play ended, where its status is no fault of the field
pub not_failed : (r : Played) (s : Status) → s ≡ status_played r → s ≢ status.FieldFault → r ≢ end.FieldFault
not_failed r s is never e = never (is ∙ ap status_played e)

pub never_fails : (r : Played) (s : Status) → s ≡ status_played r → (r ≡ end.FieldFault → Rose 0 0) → s ≢ status.FieldFault
never_fails end.Done s is never f = cc (sym is ∙ f)
never_fails end.Memory s is never f = cc (sym is ∙ f)
never_fails (end.Schedule line cause at) s is never f = cc (sym is ∙ f)
never_fails end.ReadFault s is never f = cc (sym is ∙ f)
never_fails end.WriteFault s is never f = cc (sym is ∙ f)
never_fails end.FieldFault s is never f = none_rose (never refl)
never_fails (end.Limit which) s is never f = cc (sym is ∙ f)
never_fails (end.Frame at) s is never f = cc (sym is ∙ f)

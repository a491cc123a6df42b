-- What the end of a player's playing says of a run.
use Rattle.std.proofs.Common.{refl, sym, ap, subst, ◌∙◌, ◌≡◌, ◌≢◌, ◌≤◌, ◌++◌, ℕ, List, length, take, true, false, Option, Some, None, IfSome, inl, inr, ◌⊎◌}
use Rattle.std.specs.Io.KnownBytes.{Appends, Consumes, IsAtEnd}
use Rattle.byte_streams.specs.Causes.{Rose}
use Rattle.record_stream.specs.Course.{Course}
use Rattle.record_cutting.specs.Lines.{Record, records_of, whole_records}
use Rattle.record_stream.specs.Ends as stream
use Rattle.record_stream.specs.Ends.{CanDecide, EndsOver, Unstopped, ended_for, limit}
use Rattle.record_stream.specs.declared.source.Ended.{Ended}
use Rattle.record_stream.specs.declared.source.Ended.TheVariants as ended
use Rattle.svr2_run.specs.Run.{CutOff, EndsStopped, Holds, RunsOver, StoppedBy, WroteLines, lines_of, status_ended, status_in, text_of, whole_status_in}
use Rattle.svr2_run.specs.declared.exit.Status.{Status}
use Rattle.svr2_run.specs.declared.exit.Status.TheVariants as status
use Rattle.svr2_run.specs.declared.words.Play.{Play}
use Rattle.svr2_run.proofs.Replays.{none_rose}

-- the course of a player is what a play writes, and each reason for a stop means a status
pub record IsCourseOf {R : Type 0} (play : Play) (course : Course R) (status_for : R → Status) : Type 0 where
  pub named : (rs : List Record) → Holds play rs → course.holds rs
  pub text : (bytes : List ℕ) → course.text true (records_of bytes) ≡ text_of play bytes
  pub lines : (bytes : List ℕ) → course.text false (whole_records bytes) ≡ lines_of play bytes
  pub whole : (bytes : List ℕ) → Unstopped course (whole_records bytes) → whole_status_in play bytes ≡ status.Done
  pub done : (bytes : List ℕ) → Unstopped course (records_of bytes) → status_in play bytes ≡ status.Done
  pub stopped : (bytes : List ℕ) (why : R) → course.reason (records_of bytes) ≡ Some why → (status_in play bytes ≡ status_for why) × EndsStopped (text_of play bytes)
  pub ends : (why : R) (all : List ℕ) (left x y : Option (List ℕ)) → StoppedBy play (status_for why) all x y → RunsOver play all left x y (status_for why)

module _ {R : Type 0} (play : Play) (course : Course R) (status_for : R → Status) (is : IsCourseOf play course status_for) where
  wrote_lines : (bytes : List ℕ) (x y : Option (List ℕ)) → stream.WroteWhole course bytes x y → WroteLines play bytes x y
  wrote_lines bytes x y said = λ holds.
      let (unstopped, lines) = said (is.named (whole_records bytes) holds) in
      (is.whole bytes unstopped, subst (Appends x y) (is.lines bytes) lines)

  of_read : (read : List ℕ) (left : Option (List ℕ)) (written : List ℕ) → stream.IsOfRead course read left written
      → (Holds play (whole_records (take limit read)) → stream.IsFrontOf written (lines_of play (take limit read)))
      ⊎ (IsAtEnd left × (length read ≤ limit) × (Holds play (records_of read) → stream.IsFrontOf written (text_of play read)))
  of_read read left written (inl said) =
      inl (λ holds. subst (stream.IsFrontOf written) (is.lines (take limit read)) (said (is.named (whole_records (take limit read)) holds)))
  of_read read left written (inr (end, few, said)) =
      inr (end, few, λ holds. subst (stream.IsFrontOf written) (is.text read) (said (is.named (records_of read) holds)))

  cut_off : (all : List ℕ) (left x y : Option (List ℕ)) → (read : List ℕ) × Consumes (Some all) left read × stream.CutOff course read left x y → CutOff play all left x y
  cut_off all left x y (read, consumed, cut) = record {
    read = read;
    consumed = consumed;
    written = cut.written;
    of_read = of_read read left cut.written cut.of_read;
    before = cut.ahead.before;
    piece = cut.ahead.piece;
    rest = cut.ahead.rest;
    parts = cut.ahead.parts;
    short = cut.ahead.short;
    lines = λ holds. cut.ahead.gained (is.named (whole_records cut.ahead.before) holds) ∙ ap (λ (l : List ℕ). l ++ cut.ahead.rest) (is.lines cut.ahead.before);
    gained = cut.gained;
  }

  runs_over : (all : List ℕ) (left x y : Option (List ℕ)) (e : Ended R) → (e ≡ ended.Failed → Rose 0 0) → EndsOver course all left x y e → RunsOver play all left x y (status_ended status_for e)
  runs_over all left x y ended.Done never (end, small, said) =
      (end, small, λ holds. let (unstopped, text) = said (is.named (records_of all) holds) in (is.done all unstopped, subst (Appends x y) (is.text all) text))
  runs_over all left x y (ended.Stopped why) never said =
      is.ends why all left x y (λ holds.
      let (halted, text) = said (is.named (records_of all) holds) in
      let (means, last) = is.stopped all why halted.0 in
      (means, last, subst (Appends x y) (is.text all) text))
  runs_over all left x y ended.ReadFault never (read, consumed, said) = (read, consumed, wrote_lines read x y said)
  runs_over all left x y ended.Limit never (long, said) = inl (long, wrote_lines (take limit all) x y said)
  runs_over all left x y ended.Memory never cut = cut_off all left x y cut
  runs_over all left x y ended.WriteFault never cut = cut_off all left x y cut
  runs_over all left x y ended.Failed never cut = absurd (none_rose (never refl))

  -- what is said of a player on this course
  abbrev pub Said : List ℕ → (left x y : Option (List ℕ)) → Ended R → Type 0
  Said all left x y e = EndsOver course all left x y e × (course.holds (records_of all) → length all ≤ limit → CanDecide e → e ≡ ended_for (course.reason (records_of all)))

  pub told_runs : (left left' x y : Option (List ℕ)) (e : Ended R) (s : Status) → s ≡ status_ended status_for e → (e ≡ ended.Failed → Rose 0 0)
      → IfSome left (λ all. Said all left' x y e) → IfSome left (λ all. RunsOver play all left' x y s)
  told_runs None left' x y e s by never h = tt
  told_runs (Some all) left' x y e s by never h = subst (RunsOver play all left' x y) (sym by) (runs_over all left' x y e never h.0)

  -- no other cause than the records
  can_decide : (e : Ended R) (A B : Type 0) → status_ended status_for e ≢ status.Memory → (e ≡ ended.ReadFault → A) → (e ≡ ended.WriteFault → B) → (e ≡ ended.Failed → Rose 0 0) → (A → ⊥) → (B → ⊥) → CanDecide e
  can_decide e A B nm read write never na nb = ((λ at. nm (ap (status_ended status_for) at)), ((λ at. na (read at)), ((λ at. nb (write at)), (λ at. none_rose (never at)))))

  decided_by : (all : List ℕ) (left x y : Option (List ℕ)) (e : Ended R) → course.holds (records_of all) → EndsOver course all left x y e
      → (o : Option R) → course.reason (records_of all) ≡ o → e ≡ ended_for o → status_ended status_for e ≡ status_in play all
  decided_by all left x y e holds over None says at =
      let (end, small, said) = subst (EndsOver course all left x y) at over in
      ap (status_ended status_for) at ∙ sym (is.done all (said holds).0)
  decided_by all left x y e holds over (Some why) says at = ap (status_ended status_for) at ∙ sym (is.stopped all why says).0

  pub told_decided : (left left' x y : Option (List ℕ)) (e : Ended R) (s : Status) (A B : Type 0) → s ≡ status_ended status_for e
      → (e ≡ ended.ReadFault → A) → (e ≡ ended.WriteFault → B) → (e ≡ ended.Failed → Rose 0 0)
      → IfSome left (λ all. Said all left' x y e)
      → IfSome left (λ all. length all ≤ limit → Holds play (records_of all) → (A → ⊥) → (B → ⊥) → s ≢ status.Memory → s ≡ status_in play all)
  told_decided None left' x y e s A B by read write never h = tt
  told_decided (Some all) left' x y e s A B by read write never h = λ small holds na nb nm.
      let named = is.named (records_of all) holds in
      by ∙ decided_by all left' x y e named h.0 (course.reason (records_of all)) refl (h.1 named small (can_decide e A B (λ m. nm (by ∙ m)) read write never na nb))

-- a status that no end but a failure has, and no reason for a stop means
module _ {R : Type 0} (status_for : R → Status) where
  pub never_field : ((why : R) → status_for why ≢ status.FieldFault) → (e : Ended R) (s : Status) → s ≡ status_ended status_for e → (e ≡ ended.Failed → Rose 0 0) → s ≢ status.FieldFault
  never_field none ended.Done s by never f = cc (sym by ∙ f)
  never_field none (ended.Stopped why) s by never f = none why (sym by ∙ f)
  never_field none ended.ReadFault s by never f = cc (sym by ∙ f)
  never_field none ended.Limit s by never f = cc (sym by ∙ f)
  never_field none ended.Memory s by never f = cc (sym by ∙ f)
  never_field none ended.WriteFault s by never f = cc (sym by ∙ f)
  never_field none ended.Failed s by never f = none_rose (never refl)

  pub never_refused : ((why : R) → status_for why ≢ status.Refused) → (e : Ended R) (s : Status) → s ≡ status_ended status_for e → s ≢ status.Refused
  never_refused none ended.Done s by f = cc (sym by ∙ f)
  never_refused none (ended.Stopped why) s by f = none why (sym by ∙ f)
  never_refused none ended.ReadFault s by f = cc (sym by ∙ f)
  never_refused none ended.Limit s by f = cc (sym by ∙ f)
  never_refused none ended.Memory s by f = cc (sym by ∙ f)
  never_refused none ended.WriteFault s by f = cc (sym by ∙ f)
  never_refused none ended.Failed s by f = cc (sym by ∙ f)

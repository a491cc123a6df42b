-- The whole trace is accepted.
use Rattle.std.proofs.Common.{◌≡◌, ℕ, ◌==◌, Bool, true, false, Option, Some, None, Result, Ok, List, [], ◌∷◌, ◌++◌, length, take, map, refl, sym, ap, subst, ◌∙◌, append-nil, arith}
use Rattle.std.specs.Prelude.{IsTrue, IfSome, unwrap_or, reverse}
use Rattle.std.specs.List.{AllByRecursion, AllZip, list_all}
use Rattle.std.proofs.lemmas.Bool.{eq-eqb}
use Rattle.std.proofs.lemmas.List.{length-take}
use Rattle.group_quorum.specs.Conf.{Conf}
use Rattle.record_cutting.specs.Lines.{records_of, lines_of}
use Rattle.schedule_model.specs.Lines.{line_text}
use Rattle.schedule_model.specs.Written.{Written, On, Off, Stop, AtRecord, AtLimit, AtFrame, AtField, last_of, text_with, stopped_text}
use Rattle.replica_model.specs.Path.{Path, Link}
use Rattle.group_model.specs.Group.{Setup, bears, is_within}
use Rattle.group_model.specs.Run.{Recorded, World, empty_world, run}
use Rattle.group_model.specs.Log.{IsFrontOf, committed_path, state_of, log_of, WithinBound, NoCollision}
use Rattle.group_model.specs.Laws.{limit_of}
use Rattle.log_laws.specs.OneLog.{IsOneLog, RunsHaveOneLog}
use Rattle.headline_laws.proofs.Played.{IsRun}
use Rattle.closing_laws.proofs.Events.{run_keeps}
use Rattle.closing_laws.proofs.Closing.{closing}
use Rattle.outcome_laws.proofs.Moved.{OutcomesKept}
use Rattle.outcome_laws.proofs.Events.{FairWorld, run_fair}
use Rattle.trace_model.specs.Claims.{ClosingTells, ScheduleIsARun}
use Rattle.trace_model.specs.Schedules.{played_of, trace_of, world_of}
use Rattle.trace_model.specs.Trace.{playing}
use Rattle.trace_model.specs.Trace as trace
use Rattle.trace_model.specs.TraceLines.{Form, Stopped, said_by, LogForm, RollbacksForm, EndForm, StoppedAtRecord, StoppedAtLimit, StoppedAtFrame, form_fields}
use Rattle.trace_model.specs.Claims.{TraceIsAccepted}
use Rattle.trace_model.specs.Audit.{Audit, Why, Stage, AfterLog, AfterRollbacks, Over, Accepts, Audits, Reads, new_audit, audited, same_bool, WrongLog, WrongRollbacks}
use Rattle.audit_laws.proofs.Texts.{IsFine, said, text_says}
use Rattle.audit_laws.proofs.Passing.{then_on, passes, required, verdict_of}
use Rattle.audit_laws.proofs.Stepping.{Agrees, start}
use Rattle.audit_laws.proofs.Walking.{Lawful}
use Rattle.audit_laws.proofs.Ranges.{source_short, ranged_closing}
use Rattle.headline_laws.proofs.Ranged.{ranged_first}
use Rattle.audit_laws.proofs.Playing.{Told, told_on, Stands, Onward, Play, Sound, StopFine, Wholly, records_play}

-- a text is accepted where its forms are fine and leave an audit that is over
accepted : (text : List ℕ) (b : Audit) → Told text new_audit b → b.stage ≡ Over → (lines : ℕ) × Audits text (Accepts lines)
accepted text b t over = (
  length t.forms,
  (
    said t.forms,
    subst (λ x. AllZip Reads (lines_of x) (said t.forms)) (sym t.text_is) (text_says t.forms t.fine),
    sym (verdict_of t.forms 0 new_audit b t.passed over ∙ ap Accepts (omega arith)),
  ),
)

-- ---- the end of a text
abbrev closed : Option Setup → Path → List Conf → List ℕ → Audit
closed o book confs rolled = record { stage = Over; setup = o; book = book; confs = confs; rolled = rolled; rolling = [] }

same_itself : (b : Bool) → IsTrue (same_bool b b)
same_itself true = refl
same_itself false = refl

abbrev staged : Stage → Option Setup → Path → List Conf → List ℕ → Audit
staged stage o book confs rolled = record { stage = stage; setup = o; book = book; confs = confs; rolled = rolled; rolling = [] }

after_rollbacks : (within : Bool) (o : Option Setup) (book : Path) (confs : List Conf) (rolled : List ℕ) (x y z : ℕ) → within ≡ list_all (bears rolled) confs
    → passes (staged AfterLog o book confs rolled) (RollbacksForm within ∷ EndForm x y z ∷ []) ≡ Ok (closed o book confs rolled)
after_rollbacks within None book confs rolled x y z is =
    ap (λ (r : Result Audit Why). then_on r (λ b. passes b (EndForm x y z ∷ [])))
    (required (same_bool within (list_all (bears rolled) confs)) WrongRollbacks (staged AfterRollbacks None book confs rolled) (subst (λ b. IsTrue (same_bool within b)) is (same_itself within)))
after_rollbacks within (Some s) book confs rolled x y z is =
    ap (λ (r : Result Audit Why). then_on r (λ b. passes b (EndForm x y z ∷ [])))
    (required (same_bool within (list_all (bears rolled) confs)) WrongRollbacks (staged AfterRollbacks (Some s) book confs rolled) (subst (λ b. IsTrue (same_bool within b)) is (same_itself within)))

closing_passes : (o : Option Setup) (book : Path) (confs : List Conf) (rolled rolling : List ℕ) (n : ℕ) (within : Bool) (x y z : ℕ) → n ≡ length book → within ≡ list_all (bears (rolling ++ rolled)) confs
    → passes (start o book confs rolled rolling) (LogForm n ∷ RollbacksForm within ∷ EndForm x y z ∷ []) ≡ Ok (closed o book confs (rolling ++ rolled))
closing_passes None book confs rolled rolling n within x y z n_is within_is =
    ap (λ (r : Result Audit Why). then_on r (λ b. passes b (RollbacksForm within ∷ EndForm x y z ∷ []))) (required (n == length book) WrongLog (staged AfterLog None book confs (rolling ++ rolled)) (eq-eqb n (length book) n_is))
    ∙ after_rollbacks within None book confs (rolling ++ rolled) x y z within_is
closing_passes (Some s) book confs rolled rolling n within x y z n_is within_is =
    ap (λ (r : Result Audit Why). then_on r (λ b. passes b (RollbacksForm within ∷ EndForm x y z ∷ []))) (required (n == length book) WrongLog (staged AfterLog (Some s) book confs (rolling ++ rolled)) (eq-eqb n (length book) n_is))
    ∙ after_rollbacks within (Some s) book confs (rolling ++ rolled) x y z within_is

-- a line that says that the text stops
stopped_told : (f : Form) → said_by f ≡ Stopped → IsFine f → (o : Option Setup) (book : Path) (confs : List Conf) (rolled rolling : List ℕ) → Told (line_text (form_fields f)) (start o book confs rolled rolling) (closed o book confs (rolling ++ rolled))
stopped_told f says fine o book confs rolled rolling = record {
  forms = f ∷ [];
  text_is = sym (append-nil (line_text (form_fields f)));
  fine = (fine, tt);
  passed = ap (λ l. then_on (audited (start o book confs rolled rolling) l) (λ b. Ok b)) says ∙ by_setup o;
}
  where
    by_setup : (o : Option Setup) → then_on (audited (start o book confs rolled rolling) Stopped) (λ b. Ok b) ≡ Ok (closed o book confs (rolling ++ rolled))
    by_setup None = refl
    by_setup (Some s) = refl

stop_told : (o : Option Setup) (book : Path) (confs : List Conf) (rolled rolling : List ℕ) (stop : Stop) → StopFine stop → Told (stopped_text stop) (start o book confs rolled rolling) (closed o book confs (rolling ++ rolled))
stop_told o book confs rolled rolling (AtRecord number fault) fine = stopped_told (StoppedAtRecord number fault) refl fine o book confs rolled rolling
stop_told o book confs rolled rolling (AtLimit passed) fine = stopped_told (StoppedAtLimit passed) refl fine o book confs rolled rolling
stop_told o book confs rolled rolling (AtFrame at) fine = stopped_told StoppedAtFrame refl fine o book confs rolled rolling
stop_told o book confs rolled rolling AtField fine = absurd fine

-- an audit that is over, after a text
record Closes (text : List ℕ) (a : Audit) : Type 0 where
  after : Audit
  told : Told text a after
  over : after.stage ≡ Over

module _ (limit : ℕ) (log : Path) (link : Link) where
  closing_told : (p : Play) (a : Audit) → Sound link p → Stands log a p.group → p.group.committed ≡ length log → Closes (trace.closing p) a
  closing_told p a sound s reaches =
      let g : World = p.group in
      let book : Path = take g.committed log in
      let rolls : List ℕ = s.rolling ++ s.rolled in
      let long : g.committed ≡ length book = omega (arith, length-take g.committed log, reaches) in
      let within : is_within g ≡ list_all (bears rolls) s.confs = sym (s.bear g.rolled) ∙ ap (λ (vs : List ℕ). list_all (bears vs) s.confs) (sym s.gone) in
      record {
        after = closed g.setup book s.confs rolls;
        told = record {
          forms = LogForm g.committed ∷ RollbacksForm (is_within g) ∷ EndForm (length g.past) (length g.messages) (length g.answers) ∷ [];
          text_is = refl;
          fine = ranged_closing g sound.ranged;
          passed = ap (λ (x : Audit). passes x (LogForm g.committed ∷ RollbacksForm (is_within g) ∷ EndForm (length g.past) (length g.messages) (length g.answers) ∷ [])) s.is
              ∙ closing_passes g.setup book s.confs s.rolled s.rolling g.committed (is_within g) (length g.past) (length g.messages) (length g.answers) long within;
        };
        over = refl;
      }

  stops_told : (text : List ℕ) (stop : Stop) (a : Audit) (g : World) → Onward log text a g → StopFine stop → Closes (text ++ stopped_text stop) a
  stops_told text stop a g o fine =
      let s = o.stands in
      let b : Audit = closed g.setup (take g.committed log) s.confs (s.rolling ++ s.rolled) in
      record {
        after = b;
        told = told_on text (stopped_text stop) a o.after b o.told (subst (λ (x : Audit). Told (stopped_text stop) x b) (sym s.is) (stop_told g.setup (take g.committed log) s.confs s.rolled s.rolling stop fine));
        over = refl;
      }

  whole_told : (p : Play) (x : Written Play) (a : Audit) → Stands log a p.group → Wholly limit log link p x → Lawful limit log (last_of x).group → (last_of x).group.committed ≡ length log → Closes (text_with trace.closing x) a
  whole_told p (On text q) a s w lawful reaches =
      let o = w.1.on lawful a s in
      let c = closing_told q o.after w.0 o.stands reaches in
      record { after = c.after; told = told_on text (trace.closing q) a o.after c.after o.told c.told; over = c.over }
  whole_told p (Off text stop q) a s w lawful reaches = stops_told text stop a q.group (w.to.on lawful a s) w.fine

-- ---- the laws of the run
lawful_of : (limit : ℕ) (log : Path) (history : List Recorded) → AllByRecursion (λ p. IsFrontOf p log) (map (λ r. committed_path (state_of r)) history) → OutcomesKept limit history → Agrees limit log history
lawful_of limit log [] fronts kept = tt
lawful_of limit log (r ∷ history) fronts kept = ((fronts.0, kept.0), lawful_of limit log history fronts.1 kept.1)

limit_told : (o : Option Setup) (other : Setup) → IfSome o (λ s. s.limit ≡ (unwrap_or o other).limit)
limit_told None other = tt
limit_told (Some s) other = refl

pub traces_accepted : ScheduleIsARun → RunsHaveOneLog → TraceIsAccepted
traces_accepted are_runs one_log link bytes hashes short bound none =
    let w : World = world_of link bytes in
    let is : IsRun link w = are_runs link bytes in
    let one : IsOneLog w = subst IsOneLog (sym is) (one_log link (reverse w.past) (subst WithinBound is bound) (subst (NoCollision link) is none)) in
    let fair : FairWorld w = subst FairWorld (sym is) (run_fair link (reverse w.past)) in
    let closes : ClosingTells w = subst ClosingTells (sym is) (closing (run link (reverse w.past)) (run_keeps link (reverse w.past))) in
    let lawful : Lawful (limit_of w) (log_of w) w = record { agrees = lawful_of (limit_of w) (log_of w) w.field.history one fair.outcomes; limit_is = limit_told w.setup _ } in
    let begin : Play = playing empty_world in
    let sound : Sound link begin = record { run_is = refl; running = λ v h. absurd (let e : false ≡ true = h in cc); ranged = ranged_first } in
    let records = source_short bytes short in
    let whole : Wholly (limit_of w) (log_of w) link begin (played_of link bytes) = records_play (limit_of w) (log_of w) link hashes (records_of bytes) begin sound (omega (arith, records.few)) records.each in
    let told = whole_told (limit_of w) (log_of w) link begin (played_of link bytes) new_audit (record { confs = []; rolled = []; rolling = []; is = refl; gone = refl; bear = λ rolled. refl }) whole lawful closes.log in
    accepted (trace_of link bytes) told.after told.told told.over

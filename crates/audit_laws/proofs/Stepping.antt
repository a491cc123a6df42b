-- What every event does: its lines pass, and what they leave is what the group then tells.
use Rattle.std.proofs.Common.{◌≡◌, ℕ, ◌==◌, ◌&&◌, ◌≤◌, not, max, Bool, true, false, cond, Option, Some, Ok, List, [], ◌∷◌, ◌++◌, length, take, map, refl, sym, ap, ◌∙◌, arith, inl, inr}
use Rattle.std.specs.Prelude.{find, option_map}
use Rattle.std.specs.List.{AllByRecursion, list_all}
use Rattle.std.proofs.lemmas.Bool.{cond_both, or_cases, eqb-true, eqb-false}
use Rattle.std.proofs.lemmas.List.{length-take, length-append}
use Rattle.group_quorum.specs.Conf.{Conf}
use Rattle.group_quorum.specs.Voters.{is_in}
use Rattle.values.specs.declared.event.Event.{Event}
use Rattle.replica_model.specs.Path.{Path, Link}
use Rattle.replica_model.specs.Keyed.{value_at, without}
use Rattle.replica_model.specs.Message.{Message}
use Rattle.replica_model.specs.Replica.{Replica}
use Rattle.group_model.specs.Enclave.{HostInput, Enclave, Called, called}
use Rattle.group_model.specs.Group.{Setup, but, bears, conf_told, committed_in}
use Rattle.group_model.specs.Happens.{Came, Refused, Replied, Reported, Passed, Happening, Happened, Broken, Unanswered}
use Rattle.group_model.specs.Run.{Recorded, Enclaves, World, moves}
use Rattle.group_model.specs.Log.{AnyByRecursion, IsFrontOf, committed_path, state_of}
use Rattle.log_laws.proofs.Lookups.{put_cases, put_same, past_head}
use Rattle.closing_laws.proofs.Tells.{TellsState}
use Rattle.closing_laws.proofs.Moved.{KnownHostInput, called_kept}
use Rattle.closing_laws.proofs.Events.{KeptWorld}
use Rattle.outcome_laws.proofs.Recorded.{AnswerKept}
use Rattle.trace_model.specs.TraceLines.{Form, EventForm, RefusedByGroup, ClientForm}
use Rattle.trace_model.specs.Audit.{Audit, Playing}
use Rattle.audit_laws.proofs.Passing.{passes, confs_after}
use Rattle.audit_laws.proofs.Batches.{batch_forms, TellsLog}
use Rattle.range_laws.proofs.Confs.{or_left, or_right}

-- each recorded call's committed front is a front of the log, and its outcomes are those of it
abbrev pub Agrees : ℕ → Path → List Recorded → Type 0
Agrees limit log [] = Unit {0}
Agrees limit log (r ∷ rs) = (IsFrontOf (committed_path (state_of r)) log × AllByRecursion (AnswerKept limit r (r ∷ rs)) r.call.batch.answers) × Agrees limit log rs

-- a replica runs
abbrev pub Running : Enclaves → ℕ → Type 0
Running f v = (x : Enclave) × (value_at f.running v ≡ Some x)

abbrev pub AllRun : List ℕ → Enclaves → Type 0
AllRun running f = (v : ℕ) → is_in running v ≡ true → Running f v

-- two lists of configurations bear the same
abbrev pub BearSame : List Conf → List Conf → Type 0
BearSame confs told = (rolled : List ℕ) → list_all (bears rolled) confs ≡ list_all (bears rolled) told

-- the forms of what came of an event
abbrev pub came_forms : ℕ → ℕ → Came → List Form
came_forms first_message first_answer (Refused refusal) = RefusedByGroup refusal ∷ []
came_forms first_message first_answer (Replied r batch) = batch_forms r first_message first_answer batch
came_forms first_message first_answer (Reported client report) = ClientForm client report ∷ []
came_forms first_message first_answer Passed = []

abbrev pub start : Option Setup → Path → List Conf → List ℕ → List ℕ → Audit
start o book confs rolled rolling = record { stage = Playing; setup = o; book = book; confs = confs; rolled = rolled; rolling = rolling }

-- where an audit goes by these forms, from the group's setup, greatest index, configurations and rolled-back ones to later ones
pub record Audited (log : Path) (before after : Option Setup) (seen seen' : ℕ) (told told' : List Conf) (gone gone' : List ℕ) (forms : List Form) (confs : List Conf) (rolled rolling : List ℕ) : Type 0 where
  pub confs' : List Conf
  pub rolled' : List ℕ
  pub rolling' : List ℕ
  pub passed : passes (start before (take seen log) confs rolled rolling) forms ≡ Ok (start after (take seen' log) confs' rolled' rolling')
  pub gone_is : rolling' ++ rolled' ≡ gone'
  pub bear : BearSame confs' told'

-- a group goes on
pub record Goes (limit : ℕ) (log : Path) (e : Event) (g : World) (came : Came) (h : World) : Type 0 where
  pub setup_is : h.setup ≡ g.setup
  pub back : Agrees limit log h.field.history → Agrees limit log g.field.history
  pub running : AllRun h.running h.field
  pub on : Agrees limit log h.field.history → (number first_message first_answer : ℕ) (confs : List Conf) (rolled rolling : List ℕ) → rolling ++ rolled ≡ g.rolled → BearSame confs g.confs
      → Audited log g.setup g.setup g.committed h.committed g.confs h.confs g.rolled h.rolled (EventForm number e ∷ came_forms first_message first_answer came) confs rolled rolling

abbrev pub Steps : ℕ → Path → Event → World → Happening Message Enclaves → Type 0
Steps limit log e g (Happened came h) = Goes limit log e g came h
Steps limit log e g (Broken at f) = ⊥
Steps limit log e g Unanswered = ⊥

-- ---- replicas that run
pub moved_runs : (f : Enclaves) (r : ℕ) (before : Replica) (input : Option (HostInput Message)) (c : Called) (v : ℕ) → Running f v → Running (moves f r before input c) v
moved_runs f r before input c v h = elim (put_cases f.running r c.enclave v) [
  | inl here ↦ (c.enclave, here.1)
  | inr there ↦ (h.0, there.1 ∙ h.1)
]

pub now_runs : (f : Enclaves) (r : ℕ) (before : Replica) (input : Option (HostInput Message)) (c : Called) → Running (moves f r before input c) r
now_runs f r before input c = (c.enclave, put_same f.running r c.enclave)

but_in : (r : ℕ) (ids : List ℕ) (v : ℕ) → is_in (but r ids) v ≡ true → (r ≡ v → ⊥) × (is_in ids v ≡ true)
but_in r [] v h = absurd (let e : false ≡ true = h in cc)
but_in r (w ∷ ids) v h =
    cond_both (not (w == r)) (w ∷ but r ids) (but r ids) (λ ys. is_in ys v ≡ true → (r ≡ v → ⊥) × (is_in (w ∷ ids) v ≡ true))
    (λ stays h. elim (or_cases (w == v) (is_in (but r ids) v) h) [
      | inl e ↦ ((λ same. eqb-false w r (not_true (w == r) stays) (eqb-true w v e ∙ sym same)), or_left (w == v) (is_in ids v) e)
      | inr more ↦ let rest = but_in r ids v more in (rest.0, or_right (w == v) (is_in ids v) rest.1)
    ])
    (λ gone h. let rest = but_in r ids v h in (rest.0, or_right (w == v) (is_in ids v) rest.1))
    h
  where
    not_true : (b : Bool) → not b ≡ true → b ≡ false
    not_true true h = absurd (let e : false ≡ true = h in cc)
    not_true false h = refl

without_other : (xs : List (ℕ × Enclave)) (k u : ℕ) → (k ≡ u → ⊥) → value_at (without xs k) u ≡ value_at xs u
without_other [] k u apart = refl
without_other (x ∷ xs) k u apart = cond_both (not (x.0 == k)) (x ∷ without xs k) (without xs k) (λ ys. value_at ys u ≡ value_at (x ∷ xs) u)
    (λ stays. by_head (x.0 == u) (without_other xs k u apart))
    (λ gone. without_other xs k u apart ∙ sym (past_head x xs u (λ here. apart (sym (eqb-true x.0 k (not_false (x.0 == k) gone)) ∙ here))))
  where
    not_false : (b : Bool) → not b ≡ false → b ≡ true
    not_false true h = refl
    not_false false h = absurd (let e : true ≡ false = h in cc)

    by_head : (b : Bool) → value_at (without xs k) u ≡ value_at xs u → option_map (λ (y : ℕ × Enclave). y.1) (cond b (Some x) (find (λ y. y.0 == u) (without xs k))) ≡ option_map (λ (y : ℕ × Enclave). y.1) (cond b (Some x) (find (λ y. y.0 == u) xs))
    by_head true rest = refl
    by_head false rest = rest

pub without_runs : (f : Enclaves) (r : ℕ) (ids : List ℕ) (v : ℕ) → AllRun ids f → is_in (but r ids) v ≡ true → Running (record f { running = without f.running r }) v
without_runs f r ids v all h =
    let stays = but_in r ids v h in
    let run = all v stays.1 in (run.0, without_other f.running r v stays.0 ∙ run.1)

-- ---- configurations
module _ (test : Conf → Bool) where
  and_swap : (a b c : Bool) → (a && (b && c)) ≡ (b && (a && c))
  and_swap true true c = refl
  and_swap true false c = refl
  and_swap false true c = refl
  and_swap false false c = refl

  all_swap : (xs : List Conf) (c : Conf) (ys : List Conf) → list_all test (xs ++ c ∷ ys) ≡ (test c && list_all test (xs ++ ys))
  all_swap [] c ys = refl
  all_swap (x ∷ xs) c ys = ap (λ b. test x && b) (all_swap xs c ys) ∙ and_swap (test x) (test c) (list_all test (xs ++ ys))

pub bear_after : (members : List (ℕ × ℕ × List ℕ)) (confs told : List Conf) → BearSame confs told → BearSame (confs_after members confs) (map conf_told members ++ told)
bear_after [] confs told h rolled = h rolled
bear_after (m ∷ members) confs told h rolled =
    bear_after members (conf_told m ∷ confs) (conf_told m ∷ told) (λ rolled. ap (λ b. bears rolled (conf_told m) && b) (h rolled)) rolled
    ∙ all_swap (bears rolled) (map conf_told members) (conf_told m) told

-- ---- a call
front_long : (s : Replica) → s.committed ≤ s.promised → s.promised ≤ length s.path → length (committed_path s) ≡ s.committed
front_long s within fits = omega (arith, length-take s.committed s.path, within, fits)

-- what it tells, against the log
pub call_tells : (limit : ℕ) (log : Path) (link : Link) (g : World) → KeptWorld g → (v : ℕ) (x : Enclave) (input : HostInput Message) → value_at g.field.running v ≡ Some x → KnownHostInput g.committed g.confs input
    → Agrees limit log (moves g.field v x.replica (Some input) (called link x input)).history
    → TellsLog limit g.committed log (record { replica = v; before = x.replica; input = Some input; call = (called link x input).call }) (moves g.field v x.replica (Some input) (called link x input)).history
call_tells limit log link g k v x input is known agrees =
    let t = (called_kept link g.committed g.confs x (k.standing.states v x is) input known).call in
    let long : length (committed_path (called link x input).call.state) ≡ (called link x input).call.state.committed = front_long (called link x input).call.state t.within t.fits in
    record {
      front = agrees.0.0;
      start = t.from.start;
      known = t.from.known;
      upto = omega (arith, long, t.from.upto);
      commits = t.from.are;
      answers = agrees.0.1;
    }

-- where the greatest index stands after it
pub call_reaches : (link : Link) (g : World) → KeptWorld g → (v : ℕ) (x : Enclave) (input : HostInput Message) → value_at g.field.running v ≡ Some x → KnownHostInput g.committed g.confs input
    → max g.committed (length (committed_path (called link x input).call.state)) ≡ max g.committed (committed_in (called link x input).call.batch)
call_reaches link g k v x input is known =
    let t = (called_kept link g.committed g.confs x (k.standing.states v x is) input known).call in
    omega (arith, front_long (called link x input).call.state t.within t.fits, t.below, t.above)

-- the greatest index is within the log
pub seen_fits : (limit : ℕ) (log : Path) (g : World) → KeptWorld g → Agrees limit log g.field.history → g.committed ≤ length log
seen_fits limit log g k agrees = elim k.reached [
  | inl none ↦ omega (arith, none)
  | inr some ↦ some_fits g.field.history k.history agrees some
]
  where
    some_fits : (history : List Recorded) → AllByRecursion (λ (r : Recorded). TellsState g.committed g.confs (state_of r)) history → Agrees limit log history → AnyByRecursion (λ (r : Recorded). g.committed ≤ (state_of r).committed) history → g.committed ≤ length log
    some_fits [] t a h = absurd h
    some_fits (r ∷ history) t a (inl h) =
        let long : length (committed_path (state_of r)) ≡ (state_of r).committed = front_long (state_of r) t.0.within t.0.fits in
        omega (arith, long, h, ap length a.0.0.1, length-append (committed_path (state_of r)) a.0.0.0)
    some_fits (r ∷ history) t a (inr h) = some_fits history t.1 a.1 h

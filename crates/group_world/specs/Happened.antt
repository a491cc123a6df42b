-- What an event tells its caller of what came of it, and what that says of the group before the event and after it.
use Rattle.std.specs.Prelude.{ℕ, ◌≡◌, ◌+◌, Bool, true, false, if◌then◌else◌, List, [], ◌∷◌, ◌++◌, length, map, Option, Some, None, is_some, option_and_then, option_to_list}
use Rattle.values.specs.declared.event.Event.{Event}
use Rattle.values.specs.declared.ids.ClientId.{ClientId}
use Rattle.values.specs.declared.message.Answer.{Answer}
use Rattle.values.specs.declared.want.Report.{Report}
use Rattle.group_model.specs.Group.{Group, Hearing, answered_by, nothing_started}
use Rattle.group_model.specs.Happens.{Came, Refused, Replied, Reported, Happened as Happens, happens}
use Rattle.group_model.specs.Run.{Enclaves}
use Rattle.trace_model.specs.Summary.{halts}
use Rattle.group_world.specs.declared.happened.Happened.{Happened}
use Rattle.group_world.specs.Meanings.{Meaning, OfEnclaves, MessageOf, StateOf, model_of}

-- ---- what came

abbrev pub is_refused : Came → Bool
is_refused (Refused refusal) = true
is_refused came = false

-- a replica halted in the call that came
abbrev pub has_halted : Came → Bool
has_halted (Replied r batch) = is_some batch.halt
has_halted came = false

abbrev pub answers_in : Came → List (ClientId × ℕ × Answer)
answers_in (Replied r batch) = batch.answers
answers_in came = []

abbrev pub report_in : Came → Option Report
report_in (Reported client report) = Some report
report_in came = None

-- this is told of what came, where the next answer of the run has this number
pub record TellsCame (came : Came) (next : ℕ) (h : Happened) : Type 0 where
  pub refused : h.refused ≡ is_refused came
  pub halted : h.halted ≡ has_halted came
  pub first : h.answers.first ≡ next
  pub answers : h.answers.answers ≡ answers_in came
  pub report : h.report ≡ report_in came

-- ---- what it says of the group

-- how many calls of these enclaves ended with a halt
abbrev pub halts_in : Enclaves → ℕ
halts_in f = halts (nothing_started f)

-- one call more of the field ended with a halt, or none, where its calls are known
abbrev pub HaltsMore : (m : Meaning) → Bool → StateOf m → StateOf m → Type 0
HaltsMore OfEnclaves halted f f' = halts_in f' ≡ halts_in f + (if halted then 1 else 0)
HaltsMore m halted f f' = Unit {0}

-- this is told of an event that happened to one group and left the other
pub record TellsEvent (m : Meaning) (e : Event) (h : Happened) (g g' : Group (MessageOf m) (StateOf m)) : Type 0 where
  pub came : Came
  pub happens_so : happens (model_of m) e g ≡ Happens came g'
  pub told : TellsCame came (length g.answers + 1) h
  -- the event is counted
  pub past : g'.past ≡ e ∷ g.past
  -- one replica gave the answers that are told, and no others were given
  pub replica : ℕ
  pub answers : g'.answers ≡ g.answers ++ map (answered_by replica) h.answers.answers
  -- a client heard an answer, or none did; and what it then reported is told
  pub heard : Option Hearing
  pub hearings : g'.hearings ≡ option_to_list heard ++ g.hearings
  pub reports : h.report ≡ option_and_then (λ (x : Hearing). x.report) heard
  -- so often the replicas halted
  pub halts_more : HaltsMore m h.halted g.field g'.field

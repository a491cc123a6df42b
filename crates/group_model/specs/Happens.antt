-- What each event does to a group, with its refusals in their order.
use Rattle.std.specs.Prelude.{ℕ, zero, suc, nat_le, not, Bool, true, false, if◌then◌else◌, List, [], ◌∷◌, Option, Some, None, is_none, unwrap_or, Result, Ok, Err}
use Rattle.group_quorum.specs.Conf.{Conf}
use Rattle.group_quorum.specs.Voters.{conf_of, insert_rising, is_in}
use Rattle.group_quorum.specs.declared.ConfigFault.{ConfigFault}
use Rattle.values.specs.declared.batch.Batch.{Batch}
use Rattle.values.specs.declared.event.Event.{Event}
use Rattle.values.specs.declared.event.Event.TheVariants as event
use Rattle.values.specs.declared.ids.ClientId.{ClientId}
use Rattle.values.specs.declared.want.Report.{Report}
use Rattle.values.specs.declared.want.WantFault.{WantFault}
use Rattle.values.specs.declared.want.WantFault.TheVariants as want
use Rattle.schedule_model.specs.Client.{Core, new_core, wanted, said, heard}
use Rattle.schedule_model.specs.Refusals.{GroupRefusal, NoMessage, Lost, NotRunning, AlreadyStarted, NoSuchState, ClientBusy, WrongSize, NumbersOut, NothingInFlight, NoAnswer, NotYours}
use Rattle.group_model.specs.Enclave.{Begin, Learn, HostInput, Tick, Peer, Client, Join, Admit, Remove, Save, Roll, Connect, Margin}
use Rattle.group_model.specs.Field.{Field, Reply, Answers, Unreadable, Nothing}
use Rattle.group_model.specs.Group.{Setup, Group, Sent, Answered, Hearing, numbered, but, is_client, core_of, put_core, saves_of, keeps}

-- what came of an event, beside the group after it
pub data Came : Type 0 where
  Refused : (refusal : GroupRefusal) → Came
  Replied : (replica : ℕ) (batch : Batch) → Came
  Reported : (client : ClientId) (report : Report) → Came
  Passed : Came

-- an event happened, or the field answered it by what is no batch, and stands there, or not at all
pub data Happening (M F : Type 0) : Type 0 where
  Happened : (came : Came) (group : Group M F) → Happening M F
  Broken : (at : ℕ) (field : F) → Happening M F
  Unanswered : Happening M F

module _ {M F : Type 0} (field : Field M F) where
  abbrev pub refused : GroupRefusal → Group M F → Happening M F
  refused refusal g = Happened (Refused refusal) g

  -- what follows where a test passes; else the refusal
  abbrev pub refused_if : Bool → GroupRefusal → Group M F → (Group M F → Happening M F) → Happening M F
  refused_if true refusal g next = refused refusal g
  refused_if false refusal g next = next g

  abbrev pub running : ℕ → Group M F → (Group M F → Happening M F) → Happening M F
  running r g next = refused_if (not (is_in g.running r)) (NotRunning r) g next

  abbrev pub replied : ℕ → Group M F → Reply M F → Happening M F
  replied r g (Answers batch sent f) = Happened (Replied r batch) (keeps g r batch sent f)
  replied r g (Unreadable at f) = Broken at f
  replied r g Nothing = Unanswered

  -- the replica is called
  abbrev pub calls : ℕ → HostInput M → Group M F → Happening M F
  calls r input g = replied r g (field.call g.field r input)

  -- the replica is told so, where it runs
  abbrev pub tells : ℕ → HostInput M → Group M F → Happening M F
  tells r input g = running r g (calls r input)

  -- begin starts the voters in rising order
  abbrev pub starts_all : F → Conf → ℕ → List ℕ → F
  starts_all f c limit [] = f
  starts_all f c limit (v ∷ vs) = starts_all (field.start f (Begin v c.margin limit c.voters)) c limit vs

  abbrev pub begins : ℕ → Result Conf ConfigFault → Group M F → Happening M F
  begins limit (Err fault) g = Happened Passed g
  begins limit (Ok c) g =
      Happened Passed
      (record g {
        setup = Some (record { limit = limit; first = c });
        running = c.voters;
        started = c.voters;
        confs = c ∷ g.confs;
        field = starts_all g.field c limit c.voters;
      })

  -- a learner starts, linked with every running replica: it with them, and then each of them with it, in rising order
  abbrev pub connected : ℕ → List ℕ → F → (F → Happening M F) → Happening M F
  connected x [] f next = next f
  connected x (r ∷ rs) f next =
      elim (field.call f r (Connect x)) [ Answers batch sent g ↦ connected x rs g next | Unreadable at g ↦ Broken at g | Nothing ↦ Unanswered ]

  abbrev pub starts : ℕ → Group M F → Happening M F
  starts x g =
      connected x g.running (field.start g.field (Learn x g.running))
      (λ f. Happened Passed (record g { running = insert_rising x g.running; started = x ∷ g.started; field = f }))

  -- an id starts once. 0 stands for no replica, so it starts nothing
  abbrev pub starts_new : ℕ → Group M F → Happening M F
  starts_new zero g = Happened Passed g
  starts_new (suc k) g = refused_if (is_in g.started (suc k)) (AlreadyStarted (suc k)) g (starts (suc k))

  abbrev pub hands : ℕ → Sent M → Group M F → Happening M F
  hands k m g = calls m.to (Peer m.from m.to m.message) (record g { waiting = but k g.waiting })

  abbrev pub delivers : ℕ → Option (Sent M) → Group M F → Happening M F
  delivers k None g = refused (NoMessage k) g
  delivers k (Some m) g = refused_if (is_in g.lost k) (Lost k) g (λ g. running m.to g (hands k m))

  abbrev pub loses : ℕ → Option (Sent M) → Group M F → Happening M F
  loses k None g = refused (NoMessage k) g
  loses k (Some m) g =
      refused_if (is_in g.lost k) (Lost k) g (λ g. Happened Passed (record g { lost = k ∷ g.lost; waiting = but k g.waiting }))

  abbrev pub crashes : ℕ → Group M F → Happening M F
  crashes r g = Happened Passed (record g { running = but r g.running; field = field.stop g.field r })

  -- an accepted roll makes its replica a rolled-back one
  abbrev pub rolled_back : ℕ → Batch → Group M F → Group M F
  rolled_back r b g = if is_none b.refused then record g { rolled = r ∷ g.rolled } else g

  abbrev pub rolled : ℕ → Group M F → Reply M F → Happening M F
  rolled r g (Answers batch sent f) = Happened (Replied r batch) (rolled_back r batch (keeps g r batch sent f))
  rolled r g (Unreadable at f) = Broken at f
  rolled r g Nothing = Unanswered

  abbrev pub rolls : ℕ → ℕ → Group M F → Happening M F
  rolls r k g = refused_if (not (nat_le k (saves_of g.saves r))) (NoSuchState k) g (λ g. rolled r g (field.call g.field r (Roll k)))

  abbrev pub refusal_of : WantFault → GroupRefusal
  refusal_of want.ClientBusy = ClientBusy
  refusal_of (want.Size part length) = WrongSize part length
  refusal_of (want.NumbersOut last) = NumbersOut last

  -- a client's core is made at its first accepted want
  abbrev pub wants : ClientId → Result Core WantFault → Group M F → Happening M F
  wants c (Err fault) g = refused (refusal_of fault) g
  wants c (Ok core) g = Happened Passed (record g { cores = put_core g.cores c core })

  abbrev pub says : ClientId → ℕ → Option (ℕ × List ℕ) → Group M F → Happening M F
  says c r None g = refused NothingInFlight g
  says c r (Some (number, request)) g = tells r (Client c number request) g

  abbrev pub came_of : ClientId → Option Report → Came
  came_of c None = Passed
  came_of c (Some report) = Reported c report

  abbrev pub hearing : ClientId → Core → Answered → Option Report → Hearing
  hearing c core a report = record { client = c; flight = core.flight; answered = a; report = report }

  abbrev pub hears_report : ClientId → Core → Answered → Core × Option Report → Group M F → Happening M F
  hears_report c core a (after, report) g =
      Happened (came_of c report) (record g { cores = put_core g.cores c after; hearings = hearing c core a report ∷ g.hearings })

  -- a client without a core hears nothing
  abbrev pub hears_with : ClientId → Answered → Option Core → Group M F → Happening M F
  hears_with c a None g = Happened Passed g
  hears_with c a (Some core) g = hears_report c core a (heard core a.number a.answer) g

  abbrev pub hears : ClientId → ℕ → Option Answered → Group M F → Happening M F
  hears c k None g = refused (NoAnswer k) g
  hears c k (Some a) g = refused_if (not (is_client a.client c)) (NotYours k) g (hears_with c a (core_of g.cores c))

  abbrev pub said_if_any : Option Core → Option (ℕ × List ℕ)
  said_if_any None = None
  said_if_any (Some core) = said core

  -- an event of a group that has begun. A schedule has no second begin, and `settle` and `again` are no events
  abbrev pub acts : Event → Group M F → Happening M F
  acts (event.Begin margin limit voters) g = Happened Passed g
  acts (event.Start r) g = starts_new r g
  acts (event.Tick r) g = tells r Tick g
  acts (event.Deliver k) g = delivers k (numbered g.messages k) g
  acts (event.Lose k) g = loses k (numbered g.messages k) g
  acts (event.Settle n) g = Happened Passed g
  acts (event.Crash r) g = running r g (crashes r)
  acts (event.Save r) g = tells r Save g
  acts (event.Roll r k) g = running r g (rolls r k)
  acts (event.Join r x) g = tells r (Join x) g
  acts (event.Admit r x) g = tells r (Admit x) g
  acts (event.Remove r x) g = tells r (Remove x) g
  acts (event.Ask r c n request) g = tells r (Client c n request) g
  acts (event.Want c w) g = wants c (wanted (unwrap_or (core_of g.cores c) new_core) w) g
  acts (event.Say c r) g = says c r (said_if_any (core_of g.cores c)) g
  acts (event.Hear c k) g = hears c k (numbered g.answers k) g
  acts (event.Margin r m) g = tells r (Margin m) g
  acts (event.Again c) g = Happened Passed g

  -- before the begin event nothing happens
  abbrev pub acts_first : Event → Group M F → Happening M F
  acts_first (event.Begin margin limit voters) g = begins limit (conf_of margin voters) g
  acts_first e g = Happened Passed g

  abbrev pub acts_in : Option Setup → Event → Group M F → Happening M F
  acts_in (Some setup) e g = acts e g
  acts_in None e g = acts_first e g

  -- what an event does. It is counted whatever comes of it
  abbrev pub happens : Event → Group M F → Happening M F
  happens e g = acts_in g.setup e (record g { past = e ∷ g.past })

-- What an event tells of halts is what its call told, and histories only grow.
use Rattle.std.proofs.Common.{◌≡◌, ℕ, suc, not, Bool, true, false, Option, Some, None, Result, Ok, Err, List, [], ◌∷◌, refl}
use Rattle.std.specs.Prelude.{nat_le, is_none, unwrap_or}
use Rattle.std.specs.List.{AllByRecursion}
use Rattle.std.proofs.lemmas.Bool.{cond_both}
use Rattle.group_quorum.specs.Conf.{Conf}
use Rattle.group_quorum.specs.Voters.{conf_of, is_in}
use Rattle.group_quorum.specs.declared.ConfigFault.{ConfigFault}
use Rattle.values.specs.declared.event.Event.{Event}
use Rattle.values.specs.declared.event.Event.TheVariants as event
use Rattle.values.specs.declared.ids.ClientId.{ClientId}
use Rattle.values.specs.declared.want.Report.{Report}
use Rattle.values.specs.declared.want.WantFault.{WantFault}
use Rattle.schedule_model.specs.Client.{Core, new_core, wanted}
use Rattle.schedule_model.specs.Refusals.{GroupRefusal}
use Rattle.replica_model.specs.Path.{Link}
use Rattle.replica_model.specs.Keyed.{value_at}
use Rattle.replica_model.specs.Message.{Message}
use Rattle.group_model.specs.Enclave.{Begin, Learn, HostInput, Tick, Join, Admit, Remove, Save, Roll, Connect, Margin, Client, Peer, Enclave, called}
use Rattle.group_model.specs.Field.{Answers, Unreadable, Nothing}
use Rattle.group_model.specs.Group.{Setup, Sent, Answered, numbered, but, core_of, saves_of, is_client, keeps}
use Rattle.group_model.specs.Happens as happening
use Rattle.group_model.specs.Happens.{Came, Refused, Replied, Passed, Happening, Happened, Broken, Unanswered, happens}
use Rattle.group_model.specs.Run.{Recorded, Enclaves, World, moves, start_enclave, call_enclave, enclaves}

-- no call of a history told a halt
abbrev pub IsUntold : Enclaves → Type 0
IsUntold f = AllByRecursion (λ (r : Recorded). r.call.batch.halt ≡ None) f.history

-- what came of an event tells no halt
abbrev pub CameCalm : Came → Type 0
CameCalm (Replied r batch) = batch.halt ≡ None
CameCalm other = Unit {0}

-- the event is no roll
abbrev pub IsNoRoll : Event → Type 0
IsNoRoll (event.Roll r k) = ⊥
IsNoRoll e = Unit {0}

-- from one group to the next: where no halt is told up to now none was told before, nor by what came; and where the event
-- is no roll nobody more was rolled back
pub record Goes (NoRoll : Type 0) (rolled : List ℕ) (before : Enclaves) (came : Came) (rolled' : List ℕ) (after : Enclaves) : Type 0 where
  pub back : IsUntold after → IsUntold before
  pub told : IsUntold after → CameCalm came
  pub same : NoRoll → rolled' ≡ rolled

abbrev pub Calm : Type 0 → World → Happening Message Enclaves → Type 0
Calm NoRoll g (Happened came h) = Goes NoRoll g.rolled g.field came h.rolled h.field
Calm NoRoll g (Broken at f) = Unit {0}
Calm NoRoll g Unanswered = Unit {0}

module _ (link : Link) (NoRoll : Type 0) (g : World) where
  passes : (came : Came) → CameCalm came → Calm NoRoll g (Happened came g)
  passes came fine = record { back = λ h. h; told = λ h. fine; same = λ n. refl }

  refused_if_calm : (b : Bool) (refusal : GroupRefusal) (next : World → Happening Message Enclaves) → Calm NoRoll g (next g) → Calm NoRoll g (happening.refused_if (enclaves link) b refusal g next)
  refused_if_calm true refusal next h = passes (Refused refusal) tt
  refused_if_calm false refusal next h = h

  replied_calm : (v : ℕ) (input : HostInput Message) (o : Option Enclave) → Calm NoRoll g (happening.replied (enclaves link) v g (call_enclave link g.field v input o))
  replied_calm v input None = tt
  replied_calm v input (Some e) = record { back = λ h. h.1; told = λ h. h.0; same = λ n. refl }

  tells_calm : (v : ℕ) (input : HostInput Message) → Calm NoRoll g (happening.tells (enclaves link) v input g)
  tells_calm v input = refused_if_calm (not (is_in g.running v)) _ (happening.calls (enclaves link) v input) (replied_calm v input (value_at g.field.running v))

  delivers_calm : (k : ℕ) (o : Option (Sent Message)) → Calm NoRoll g (happening.delivers (enclaves link) k o g)
  delivers_calm k None = passes _ tt
  delivers_calm k (Some m) =
      refused_if_calm (is_in g.lost k) _ (λ g. happening.running (enclaves link) m.to g (happening.hands (enclaves link) k m))
      (refused_if_calm (not (is_in g.running m.to)) _ (happening.hands (enclaves link) k m) (handed (value_at g.field.running m.to)))
    where
      handed : (o : Option Enclave) → Calm NoRoll g (happening.replied (enclaves link) m.to (record g { waiting = but k g.waiting }) (call_enclave link g.field m.to (Peer m.from m.to m.message) o))
      handed None = tt
      handed (Some e) = record { back = λ h. h.1; told = λ h. h.0; same = λ n. refl }

  loses_calm : (k : ℕ) (o : Option (Sent Message)) → Calm NoRoll g (happening.loses (enclaves link) k o g)
  loses_calm k None = passes _ tt
  loses_calm k (Some m) = refused_if_calm (is_in g.lost k) _ (λ g. Happened Passed (record g { lost = k ∷ g.lost; waiting = but k g.waiting })) (record { back = λ h. h; told = λ h. tt; same = λ n. refl })

  rolls_calm : (NoRoll → ⊥) → (v k : ℕ) → Calm NoRoll g (happening.rolls (enclaves link) v k g)
  rolls_calm never v k = refused_if_calm (not (nat_le k (saves_of g.saves v))) _ (λ g. happening.rolled (enclaves link) v g ((enclaves link).call g.field v (Roll k))) (put_back (value_at g.field.running v))
    where
      put_back : (o : Option Enclave) → Calm NoRoll g (happening.rolled (enclaves link) v g (call_enclave link g.field v (Roll k) o))
      put_back None = tt
      put_back (Some e) =
          let c = called link e (Roll k) in
          let f : Enclaves = moves g.field v e.replica (Some (Roll k)) c in
          let h : World = keeps g v c.call.batch c.call.sent f in
          cond_both (is_none c.call.batch.refused) (record h { rolled = v ∷ h.rolled }) h (λ (x : World). Goes NoRoll g.rolled g.field (Replied v c.call.batch) x.rolled x.field)
          (λ b. record { back = λ u. u.1; told = λ u. u.0; same = λ n. absurd (never n) })
          (λ b. record { back = λ u. u.1; told = λ u. u.0; same = λ n. absurd (never n) })

  -- links are made
  connected_calm : (x : ℕ) (rs running : List ℕ) (f : Enclaves) → (IsUntold f → IsUntold g.field) → Calm NoRoll g (happening.connected (enclaves link) x rs f (λ f. Happened Passed (record g { running = running; started = x ∷ g.started; field = f })))
  connected_calm x [] running f back = record { back = back; told = λ h. tt; same = λ n. refl }
  connected_calm x (r ∷ rs) running f back = linked (value_at f.running r) (λ f back. connected_calm x rs running f back)
    where
      linked : (o : Option Enclave) → ((f : Enclaves) → (IsUntold f → IsUntold g.field) → Calm NoRoll g (happening.connected (enclaves link) x rs f (λ f. Happened Passed (record g { running = running; started = x ∷ g.started; field = f }))))
          → Calm NoRoll g (elim (call_enclave link f r (Connect x) o) [ Answers batch sent h ↦ happening.connected (enclaves link) x rs h (λ f. Happened Passed (record g { running = running; started = x ∷ g.started; field = f })) | Unreadable at g ↦ Broken at g | Nothing ↦ Unanswered ])
      linked None rest = tt
      linked (Some e) rest = rest (moves f r e.replica (Some (Connect x)) (called link e (Connect x))) (λ u. back u.1)

  wants_calm : (c : ClientId) (r : Result Core WantFault) → Calm NoRoll g (happening.wants (enclaves link) c r g)
  wants_calm c (Err fault) = passes _ tt
  wants_calm c (Ok core) = record { back = λ h. h; told = λ h. tt; same = λ n. refl }

  says_calm : (c : ClientId) (v : ℕ) (o : Option (ℕ × List ℕ)) → Calm NoRoll g (happening.says (enclaves link) c v o g)
  says_calm c v None = passes _ tt
  says_calm c v (Some (number, request)) = tells_calm v (Client c number request)

  hears_with_calm : (c : ClientId) (a : Answered) (o : Option Core) → Calm NoRoll g (happening.hears_with (enclaves link) c a o g)
  hears_with_calm c a None = passes _ tt
  hears_with_calm c a (Some core) = reported (Rattle.schedule_model.specs.Client.heard core a.number a.answer)
    where
      came_calm : (o : Option Report) → CameCalm (happening.came_of (enclaves link) c o)
      came_calm None = tt
      came_calm (Some report) = tt

      reported : (x : Core × Option Report) → Calm NoRoll g (happening.hears_report (enclaves link) c core a x g)
      reported (after, report) = record { back = λ h. h; told = λ h. came_calm report; same = λ n. refl }

  hears_calm : (c : ClientId) (k : ℕ) (o : Option Answered) → Calm NoRoll g (happening.hears (enclaves link) c k o g)
  hears_calm c k None = passes _ tt
  hears_calm c k (Some a) = refused_if_calm (not (is_client a.client c)) _ (happening.hears_with (enclaves link) c a (core_of g.cores c)) (hears_with_calm c a (core_of g.cores c))

  voters_back : (c : Conf) (limit : ℕ) (vs : List ℕ) (f : Enclaves) → IsUntold (happening.starts_all (enclaves link) f c limit vs) → IsUntold f
  voters_back c limit [] f h = h
  voters_back c limit (v ∷ vs) f h = (voters_back c limit vs (start_enclave f (Begin v c.margin limit c.voters)) h).1

  begins_calm : (limit : ℕ) (r : Result Conf ConfigFault) → Calm NoRoll g (happening.begins (enclaves link) limit r g)
  begins_calm limit (Err fault) = passes _ tt
  begins_calm limit (Ok c) = record { back = voters_back c limit c.voters g.field; told = λ h. tt; same = λ n. refl }

module _ (link : Link) (g : World) where
  acts_calm : (e : Event) → Calm (IsNoRoll e) g (happening.acts (enclaves link) e g)
  acts_calm (event.Start (suc x)) = refused_if_calm link _ g (is_in g.started (suc x)) _ (happening.starts (enclaves link) (suc x)) (connected_calm link _ g (suc x) g.running _ (start_enclave g.field (Learn (suc x) g.running)) (λ u. u.1))
  acts_calm (event.Tick v) = tells_calm link _ g v Tick
  acts_calm (event.Deliver k) = delivers_calm link _ g k (numbered g.messages k)
  acts_calm (event.Lose k) = loses_calm link _ g k (numbered g.messages k)
  acts_calm (event.Crash v) = refused_if_calm link _ g (not (is_in g.running v)) _ (happening.crashes (enclaves link) v) (record { back = λ h. h; told = λ h. tt; same = λ n. refl })
  acts_calm (event.Save v) = tells_calm link _ g v Save
  acts_calm (event.Roll v k) = refused_if_calm link _ g (not (is_in g.running v)) _ (happening.rolls (enclaves link) v k) (rolls_calm link _ g (λ never. never) v k)
  acts_calm (event.Join v x) = tells_calm link _ g v (Join x)
  acts_calm (event.Admit v x) = tells_calm link _ g v (Admit x)
  acts_calm (event.Remove v x) = tells_calm link _ g v (Remove x)
  acts_calm (event.Ask v c n request) = tells_calm link _ g v (Client c n request)
  acts_calm (event.Want c w) = wants_calm link _ g c (wanted (unwrap_or (core_of g.cores c) new_core) w)
  acts_calm (event.Say c v) = says_calm link _ g c v (happening.said_if_any (enclaves link) (core_of g.cores c))
  acts_calm (event.Hear c k) = hears_calm link _ g c k (numbered g.answers k)
  acts_calm (event.Margin v m) = tells_calm link _ g v (Margin m)
  acts_calm other = passes link _ g _ tt

  acts_in_calm : (o : Option Setup) (e : Event) → Calm (IsNoRoll e) g (happening.acts_in (enclaves link) o e g)
  acts_in_calm None (event.Begin margin limit voters) = begins_calm link _ g limit (conf_of margin voters)
  acts_in_calm None e = passes link _ g _ tt
  acts_in_calm (Some setup) e = acts_calm e

-- every event is calm where no halt is told
pub happens_calm : (link : Link) (e : Event) (g : World) → Calm (IsNoRoll e) g (happens (enclaves link) e g)
happens_calm link e g = acts_in_calm link (record g { past = e ∷ g.past }) g.setup e

-- Every event that happens is counted, and nothing else is.
use Rattle.std.proofs.Common.{◌≡◌, ℕ, suc, not, Bool, true, false, Option, Some, None, Result, Ok, Err, List, [], ◌∷◌, refl}
use Rattle.std.specs.Prelude.{nat_le, is_none, unwrap_or}
use Rattle.std.proofs.lemmas.Bool.{cond_both}
use Rattle.group_quorum.specs.Conf.{Conf}
use Rattle.group_quorum.specs.Voters.{conf_of, is_in}
use Rattle.group_quorum.specs.declared.ConfigFault.{ConfigFault}
use Rattle.values.specs.declared.event.Event.{Event}
use Rattle.values.specs.declared.event.Event.TheVariants as event
use Rattle.values.specs.declared.ids.ClientId.{ClientId}
use Rattle.values.specs.declared.want.WantFault.{WantFault}
use Rattle.schedule_model.specs.Client.{Core, new_core, wanted}
use Rattle.schedule_model.specs.Refusals.{GroupRefusal}
use Rattle.group_model.specs.Enclave.{Learn, HostInput, Tick, Join, Admit, Remove, Save, Roll, Connect, Margin, Client}
use Rattle.group_model.specs.Field.{Field, Reply, Answers, Unreadable, Nothing}
use Rattle.group_model.specs.Group.{Setup, Group, Sent, Answered, numbered, but, core_of, saves_of, is_client, keeps}
use Rattle.group_model.specs.Happens as happening
use Rattle.group_model.specs.Happens.{Happening, Happened, Broken, Unanswered, happens}

module _ {M F : Type 0} where
  -- the group after what happened has these events behind it
  abbrev pub HasPast : List Event → Happening M F → Type 0
  HasPast past (Happened came g) = g.past ≡ past
  HasPast past (Broken at f) = Unit {0}
  HasPast past Unanswered = Unit {0}

  refused_if_past : (field : Field M F) (b : Bool) (refusal : GroupRefusal) (g : Group M F) (next : Group M F → Happening M F) → HasPast g.past (next g) → HasPast g.past (happening.refused_if field b refusal g next)
  refused_if_past field true refusal g next h = refl
  refused_if_past field false refusal g next h = h

  module _ (field : Field M F) (g : Group M F) where
    replied_past : (r : ℕ) (reply : Reply M F) → HasPast g.past (happening.replied field r g reply)
    replied_past r (Answers batch sent f) = refl
    replied_past r (Unreadable at f) = tt
    replied_past r Nothing = tt

    tells_past : (r : ℕ) (input : HostInput M) → HasPast g.past (happening.tells field r input g)
    tells_past r input = refused_if_past field (not (is_in g.running r)) _ g (happening.calls field r input) (replied_past r (field.call g.field r input))

    connected_past : (past : List Event) (x : ℕ) (rs : List ℕ) (f : F) (next : F → Happening M F) → ((f : F) → HasPast past (next f)) → HasPast past (happening.connected field x rs f next)
    connected_past past x [] f next h = h f
    connected_past past x (r ∷ rs) f next h = by_reply (λ f. connected_past past x rs f next h) (field.call f r (Connect x))
      where
        by_reply : ((f : F) → HasPast past (happening.connected field x rs f next)) → (reply : Reply M F) → HasPast past (elim reply [ Answers batch sent f ↦ happening.connected field x rs f next | Unreadable at g ↦ Broken at g | Nothing ↦ Unanswered ])
        by_reply rest (Answers batch sent f) = rest f
        by_reply rest (Unreadable at f) = tt
        by_reply rest Nothing = tt

    starts_past : (x : ℕ) → HasPast g.past (happening.starts field x g)
    starts_past x = connected_past g.past x g.running (field.start g.field (Learn x g.running)) _ (λ f. refl)

    delivers_past : (k : ℕ) (o : Option (Sent M)) → HasPast g.past (happening.delivers field k o g)
    delivers_past k None = refl
    delivers_past k (Some m) =
        refused_if_past field (is_in g.lost k) _ g (λ g. happening.running field m.to g (happening.hands field k m))
        (refused_if_past field (not (is_in g.running m.to)) _ g (happening.hands field k m) (handed (field.call g.field m.to _)))
      where
        handed : (reply : Reply M F) → HasPast g.past (happening.replied field m.to (record g { waiting = but k g.waiting }) reply)
        handed (Answers batch sent f) = refl
        handed (Unreadable at f) = tt
        handed Nothing = tt

    loses_past : (k : ℕ) (o : Option (Sent M)) → HasPast g.past (happening.loses field k o g)
    loses_past k None = refl
    loses_past k (Some m) = refused_if_past field (is_in g.lost k) _ g (λ g. Happened happening.Passed (record g { lost = k ∷ g.lost; waiting = but k g.waiting })) refl

    rolled_past : (r : ℕ) (reply : Reply M F) → HasPast g.past (happening.rolled field r g reply)
    rolled_past r (Answers batch sent f) =
        let h : Group M F = keeps g r batch sent f in
        cond_both (is_none batch.refused) (record h { rolled = r ∷ h.rolled }) h (λ (x : Group M F). x.past ≡ g.past) (λ b. refl) (λ b. refl)
    rolled_past r (Unreadable at f) = tt
    rolled_past r Nothing = tt

    rolls_past : (r k : ℕ) → HasPast g.past (happening.rolls field r k g)
    rolls_past r k = refused_if_past field (not (nat_le k (saves_of g.saves r))) _ g (λ g. happening.rolled field r g (field.call g.field r (Roll k))) (rolled_past r (field.call g.field r (Roll k)))

    wants_past : (c : ClientId) (r : Result Core WantFault) → HasPast g.past (happening.wants field c r g)
    wants_past c (Err fault) = refl
    wants_past c (Ok core) = refl

    says_past : (c : ClientId) (r : ℕ) (o : Option (ℕ × List ℕ)) → HasPast g.past (happening.says field c r o g)
    says_past c r None = refl
    says_past c r (Some (number, request)) = tells_past r (Client c number request)

    hears_with_past : (c : ClientId) (a : Answered) (o : Option Core) → HasPast g.past (happening.hears_with field c a o g)
    hears_with_past c a None = refl
    hears_with_past c a (Some core) = refl

    hears_past : (c : ClientId) (k : ℕ) (o : Option Answered) → HasPast g.past (happening.hears field c k o g)
    hears_past c k None = refl
    hears_past c k (Some a) = refused_if_past field (not (is_client a.client c)) _ g (happening.hears_with field c a (core_of g.cores c)) (hears_with_past c a (core_of g.cores c))

    begins_past : (limit : ℕ) (r : Result Conf ConfigFault) → HasPast g.past (happening.begins field limit r g)
    begins_past limit (Err fault) = refl
    begins_past limit (Ok c) = refl

    acts_past : (e : Event) → HasPast g.past (happening.acts field e g)
    acts_past (event.Start (suc r)) = refused_if_past field (is_in g.started (suc r)) _ g (happening.starts field (suc r)) (starts_past (suc r))
    acts_past (event.Tick r) = tells_past r Tick
    acts_past (event.Deliver k) = delivers_past k (numbered g.messages k)
    acts_past (event.Lose k) = loses_past k (numbered g.messages k)
    acts_past (event.Crash r) = refused_if_past field (not (is_in g.running r)) _ g (happening.crashes field r) refl
    acts_past (event.Save r) = tells_past r Save
    acts_past (event.Roll r k) = refused_if_past field (not (is_in g.running r)) _ g (happening.rolls field r k) (rolls_past r k)
    acts_past (event.Join r x) = tells_past r (Join x)
    acts_past (event.Admit r x) = tells_past r (Admit x)
    acts_past (event.Remove r x) = tells_past r (Remove x)
    acts_past (event.Ask r c n request) = tells_past r (Client c n request)
    acts_past (event.Want c w) = wants_past c (wanted (unwrap_or (core_of g.cores c) new_core) w)
    acts_past (event.Say c r) = says_past c r (happening.said_if_any field (core_of g.cores c))
    acts_past (event.Hear c k) = hears_past c k (numbered g.answers k)
    acts_past (event.Margin r m) = tells_past r (Margin m)
    acts_past other = refl

    acts_in_past : (o : Option Setup) (e : Event) → HasPast g.past (happening.acts_in field o e g)
    acts_in_past None (event.Begin margin limit voters) = begins_past limit (conf_of margin voters)
    acts_in_past None e = refl
    acts_in_past (Some setup) e = acts_past e

  pub happens_past : (field : Field M F) (e : Event) (g : Group M F) → HasPast (e ∷ g.past) (happens field e g)
  happens_past field e g = acts_in_past field (record g { past = e ∷ g.past }) g.setup e

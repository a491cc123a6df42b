-- One event of a drill, and one piece after another.
use Rattle.std.proofs.Common.{refl, sym, ap, subst, ◌∙◌, ◌≡◌, ◌-◌, ◌+◌, ◌<◌, ℕ, zero, suc, Bool, List, [], ◌∷◌, ◌++◌, Option, Some, None, Result, Ok, Err, OnOk}
use Rattle.sha2.specs.Hashers.{Holds256}
use Rattle.values.specs.declared.event.Event.{Event}
use Rattle.values.specs.declared.event.Event.TheVariants as event
use Rattle.schedule_model.specs.Written.{Written, On, all_written, follow, onto}
use Rattle.group_model.specs.Group.{next_message}
use Rattle.trace_model.specs.Trace.{Playing, expanded, played, settled}
use Rattle.enclave_host.specs.Fields.{Map}
use Rattle.group_world.specs.declared.happened.Happened.{Happened}
use Rattle.group_world.specs.declared.world.World.{World}
use Rattle.group_world.specs.Given.{Given}
use Rattle.group_world.specs.Meanings.{Meaning, OfEnclaves, Fits, AreNamed, model_of}
use Rattle.group_world.specs.Playable.{IsPlayable}
use Rattle.group_world.specs.Plays.{IsNamedBy, Plays, SeesPlaying}
use Rattle.group_world.specs.Scripts.{map_of}
use Rattle.group_world.proofs.Named.{IsNamedTill, follow-till, onto-till, played_so}
use Rattle.group_world.proofs.Pieces.{IsNext as IsNextMessage}
use Rattle.drill_command.specs.declared.player.Player.{Player}
use Rattle.drill_command.specs.Counting.{AreCounts, counted}
use Rattle.drill_command.specs.Drilled.{Goes, IsNext, IsWhole, KeepsNames, Model, Stands, to_play}
use Rattle.drill_command.proofs.Counted.{counts_more, few_events, short_more}
use Rattle.drill_command.proofs.Names.{events_keep, settle_keeps}
use Rattle.drill_command.proofs.Written.{follow_follow, onto_none, onto_onto, played_first}

-- the same of what is still to be written in other words
pub restated : (d : Player) (whole : Written Model) (f g : Model → Written Model) (st : Stands d whole f) → f st.at ≡ g st.at → Stands d whole g
restated d whole f g st same = record {
  at = st.at;
  text = st.text;
  goes = st.goes ∙ ap (onto st.text) same;
  sees = st.sees;
  hashed = st.hashed;
  counted = st.counted;
  short = st.short;
}

-- the model's enclaves are seen alike whatever a field answers
any_given : (w : World) (map : Option Map) (given others : List Given) (p : Model) → SeesPlaying OfEnclaves w map given p → SeesPlaying OfEnclaves w map others p
unfolding Fits
any_given w map given others p (sees, stands) = (record { world = sees.world; field = sees.field }, stands)

-- ---- one event

module _ (d d' : Player) (e : Event) (told : Happened) (given : List Given) (lines : List ℕ)
    (plays : Plays d.world d'.world (Some (map_of d.field)) (Some (map_of d'.field)) given e [] lines (Ok told))
    (hashed : (m : List ℕ) → Holds256 d.hasher m → Holds256 d'.hasher (m ++ lines)) (counts : d'.counts ≡ counted d.counts told.halted told.report) where
  pub event_goes : Goes d d' (λ p. played (model_of OfEnclaves) p e)
  event_goes whole next is_whole keeps st =
      let (text, grown, all) = plays in
      let (q, on, seen, records, tells) = all OfEnclaves [] st.at (any_given d.world (Some (map_of d.field)) [] (given ++ []) st.at st.sees) named in
      record {
        at = q;
        text = st.text ++ text;
        goes = st.goes ∙ ap (λ (w : Written Model). onto st.text (follow w next)) on ∙ onto_onto st.text text (next q);
        sees = seen;
        hashed = subst (λ (l : List ℕ). Holds256 d'.hasher (st.text ++ l)) grown (hashed st.text st.hashed);
        counted = subst (λ c. AreCounts c q.group) (sym counts)
            (counts_more d.counts st.at.group q.group e told.halted tells.heard told.report tells.past tells.hearings tells.reports tells.halts_more
            (few_events (model_of OfEnclaves) st.at e text q on) st.short st.counted);
        short = short_more d.counts st.at.group q.group e told.halted tells.heard told.report tells.past tells.hearings tells.reports tells.halts_more st.short;
      }
    where
      named : IsNamedBy OfEnclaves st.at e
      named =
          follow-till OfEnclaves (played (model_of OfEnclaves) st.at e) next (played_so OfEnclaves st.at e) keeps
          (onto-till OfEnclaves st.text (follow (played (model_of OfEnclaves) st.at e) next) (subst (IsNamedTill OfEnclaves) st.goes is_whole.named))

-- ---- deliveries

-- of a settle, so many deliveries are left
abbrev pub Left : Player → Player → ℕ → ℕ → Type 0
Left d d' n left =
    (whole : Written Model) (next : Model → Written Model) → IsWhole whole → KeepsNames next → Stands d whole (λ p. follow (settled (model_of OfEnclaves) n p) next)
    → Stands d' whole (λ p. follow (settled (model_of OfEnclaves) left p) next)

abbrev settling : ℕ → Model → Option ℕ → Written Model
settling n p o = elim o [ None ↦ On [] p | Some k ↦ follow (played (model_of OfEnclaves) p (event.Deliver k)) (settled (model_of OfEnclaves) n) ]

module _ (d d1 : Player) (n left : ℕ) (so_far : Left d d1 n (suc left)) where
  pub one_delivered : (d2 : Player) (k : ℕ) → IsNextMessage d1.world (Some k) → Goes d1 d2 (λ p. played (model_of OfEnclaves) p (event.Deliver k)) → Left d d2 n left
  one_delivered d2 k is_next goes whole next is_whole keeps st =
      let st1 = so_far whole next is_whole keeps st in
      let delivery = played (model_of OfEnclaves) st1.at (event.Deliver k) in
      let rest : Model → Written Model = λ p. follow (settled (model_of OfEnclaves) left p) next in
      goes whole rest is_whole (settle_keeps left next keeps)
      (restated d1 whole (λ p. follow (settled (model_of OfEnclaves) (suc left) p) next) (λ p. follow (played (model_of OfEnclaves) p (event.Deliver k)) rest) st1
      (ap (λ (o : Option ℕ). follow (settling left st1.at o) next) (sym (is_next OfEnclaves st1.at.group st1.sees.0.world))
      ∙ follow_follow delivery (settled (model_of OfEnclaves) left) next))

  -- there is no next one
  pub none_next : IsNextMessage d1.world None → Goes d d1 (settled (model_of OfEnclaves) n)
  none_next is_next whole next is_whole keeps st =
      let st1 = so_far whole next is_whole keeps st in
      restated d1 whole (λ p. follow (settled (model_of OfEnclaves) (suc left) p) next) next st1
      (ap (λ (o : Option ℕ). follow (settling left st1.at o) next) (sym (is_next OfEnclaves st1.at.group st1.sees.0.world)) ∙ onto_none (next st1.at))

-- none is left
pub none_left : (d d1 : Player) (n : ℕ) → Left d d1 n 0 → Goes d d1 (settled (model_of OfEnclaves) n)
none_left d d1 n so_far whole next is_whole keeps st =
    let st1 = so_far whole next is_whole keeps st in
    restated d1 whole (λ p. follow (settled (model_of OfEnclaves) 0 p) next) next st1 (onto_none (next st1.at))

-- ---- events of a list

on_ok : {T E : Type 0} (r : Result T E) (A B : Type 0) → (A → B) → OnOk r A → OnOk r B
on_ok (Ok x) A B f h = f h
on_ok (Err e) A B f h = tt

alone : (begun : Bool) (e : Event) (p : Model) → IsPlayable begun e → expanded (model_of OfEnclaves) p e ≡ played (model_of OfEnclaves) p e
alone begun (event.Settle n) p playable = absurd playable
alone begun e p playable = refl

-- an event that is no settle
pub next_alone : (begun : Bool) (e : Event) → IsNext begun e → ((n : ℕ) → e ≡ event.Settle n → ⊥) → IsPlayable begun e
next_alone begun (event.Settle n) next other = absurd (other n refl)
next_alone begun e next other = next

-- the first of these events was played
abbrev pub PlaysFirst : Player → Player → Event → Type 0
PlaysFirst d d' e = (whole : Written Model) (rest : List Event) → IsWhole whole → Stands d whole (to_play (e ∷ rest)) → Stands d' whole (to_play rest)

module _ {T E : Type 0} (r : Result T E) (d d' : Player) where
  pub settle_plays : (n : ℕ) → OnOk r (Goes d d' (settled (model_of OfEnclaves) n)) → OnOk r (PlaysFirst d d' (event.Settle n))
  settle_plays n ok = on_ok r (Goes d d' (settled (model_of OfEnclaves) n)) (PlaysFirst d d' (event.Settle n)) (λ goes whole rest is_whole st.
      goes whole (to_play rest) is_whole (events_keep rest)
      (restated d whole (to_play (event.Settle n ∷ rest)) (λ p. follow (settled (model_of OfEnclaves) n p) (to_play rest)) st (played_first (event.Settle n) rest st.at))) ok

  pub event_plays : (begun : Bool) (e : Event) → IsPlayable begun e → OnOk r (Goes d d' (λ p. played (model_of OfEnclaves) p e)) → OnOk r (PlaysFirst d d' e)
  event_plays begun e playable ok = on_ok r (Goes d d' (λ p. played (model_of OfEnclaves) p e)) (PlaysFirst d d' e) (λ goes whole rest is_whole st.
      goes whole (to_play rest) is_whole (events_keep rest)
      (restated d whole (to_play (e ∷ rest)) (λ p. follow (played (model_of OfEnclaves) p e) (to_play rest)) st
      (played_first e rest st.at ∙ ap (λ (w : Written Model). follow w (to_play rest)) (alone begun e st.at playable)))) ok

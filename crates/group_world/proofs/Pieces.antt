-- What is played of a schedule, piece after piece.
use Rattle.std.proofs.Common.{refl, sym, ap, subst, ◌∙◌, ◌≡◌, ℕ, suc, Bool, List, [], ◌++◌, Option, Some, None, Result, Ok, Err, append-nil, append_assoc}
use Rattle.values.specs.declared.event.Event.{Event}
use Rattle.values.specs.declared.event.Event.TheVariants as event
use Rattle.record_stream.specs.declared.player.Stop.{Stop as Stopping}
use Rattle.record_stream.specs.declared.player.Stop.TheVariants as stop
use Rattle.schedule_model.specs.Written.{Written, On, follow, onto, stopped_text}
use Rattle.group_model.specs.Group.{Group, next_message}
use Rattle.trace_model.specs.Trace.{Playing, expanded, played, settled}
use Rattle.enclave_host.specs.Fields.{Map}
use Rattle.group_world.specs.declared.halt.Halt.{Halt}
use Rattle.group_world.specs.declared.world.World.{World}
use Rattle.group_world.specs.Given.{Given}
use Rattle.group_world.specs.Halted.{Halts, stop_by}
use Rattle.group_world.specs.Meanings.{Meaning, Until, MessageOf, StateOf, SaysMessage, model_of}
use Rattle.group_world.specs.Playable.{IsPlayable}
use Rattle.group_world.specs.Plays.{SeesPlaying}
use Rattle.group_world.specs.Playing.{IsNamedPiece, Piece, PlaysOff, PlaysOn, PlaysSome, PlaysUpTo, Writes, all_of, deliveries, one_event}
use Rattle.group_world.specs.Standing.{IsWorld}
use Rattle.group_world.proofs.Before.{follow_onto, named_delivery, onto_none, onto_onto}
use Rattle.group_world.proofs.Named.{IsNamedTill, onto-till}

-- ---- one event

module _ (what : Piece) (w w' : World) (map map' : Option Map) (given : List Given) where
  -- nothing of it was written yet
  pub some_none : PlaysSome what w w' map map' given []
  some_none m p sees named = (what m p, sym (onto_none (what m p)))

  pub memory_writes : (T : Type 0) (before after : List ℕ) → after ≡ before → Writes {T = T} what w w' map map' given before after (Err stop.Memory)
  memory_writes T before after same = ([], same ∙ sym (append-nil before), some_none)

  pub failed_writes : (T : Type 0) (before after : List ℕ) → after ≡ before → PlaysUpTo what w w' map map' given [] → Writes {T = T} what w w' map map' given before after (Err stop.Failed)
  failed_writes T before after same up_to = ([], same ∙ sym (append-nil before), some_none, up_to)

  -- it ended the text, and why was said
  pub halted_writes : {T : Type 0} (why : Halt) (before lines after : List ℕ) (o : Result T (Stopping Halt)) → lines ≡ before → PlaysOff what w w' map map' given [] (stop_by why) → Halts why lines after o
      → Writes what w w' map map' given before after o
  halted_writes why before lines after (Ok done) same off h = absurd h
  halted_writes why before lines after (Err (stop.Stopped said)) same off (is, grown) = (
    [],
    grown ∙ ap (λ (l : List ℕ). l ++ stopped_text (stop_by why)) same ∙ ap (λ (h : Halt). before ++ stopped_text (stop_by h)) (sym is),
    subst (λ (h : Halt). PlaysOff what w w' map map' given [] (stop_by h)) (sym is) off,
  )
  halted_writes why before lines after (Err stop.Memory) same off grown = ([], grown ∙ same ∙ sym (append-nil before), some_none)
  halted_writes why before lines after (Err stop.Failed) same off h = absurd h

-- ---- deliveries

-- so many were made of these, and wrote this text; so many are left
pub record Delivered (n : ℕ) (w w' : World) (map map' : Option Map) (given : List Given) (text : List ℕ) (left : ℕ) : Type 0 where
  pub on : (m : Meaning) (later : List Given) (p : Playing (MessageOf m) (StateOf m)) → SeesPlaying m w map (given ++ later) p → IsNamedPiece (deliveries n) m p
      → (q : Playing (MessageOf m) (StateOf m)) × (settled (model_of m) n p ≡ onto text (settled (model_of m) left q)) × SeesPlaying m w' map' later q × (q.records ≡ p.records)

-- this is the next message, on every understanding
abbrev pub IsNext : World → Option ℕ → Type 0
IsNext w o = (m : Meaning) (g : Group (MessageOf m) (StateOf m)) → IsWorld (SaysMessage m) w g → o ≡ next_message g

pub none_delivered : (n : ℕ) (w : World) (map : Option Map) → Delivered n w w map map [] [] n
none_delivered n w map = record { on = λ m later p sees named. (p, sym (onto_none (settled (model_of m) n p)), sees, refl) }

module _ (n : ℕ) (w w1 : World) (map map1 : Option Map) (given : List Given) (text : List ℕ) (left : ℕ) (d : Delivered n w w1 map map1 given text (suc left)) where
  module _ (k : ℕ) (is_next : IsNext w1 (Some k)) where
    -- where the next delivery stands
    at_next : (m : Meaning) (later : List Given) (p : Playing (MessageOf m) (StateOf m)) → SeesPlaying m w map (given ++ later) p → IsNamedPiece (deliveries n) m p
        → (q : Playing (MessageOf m) (StateOf m)) × (settled (model_of m) n p ≡ onto text (follow (played (model_of m) q (event.Deliver k)) (settled (model_of m) left))) × SeesPlaying m w1 map1 later q
        × (q.records ≡ p.records) × IsNamedPiece (one_event (event.Deliver k)) m q
    at_next m later p sees named =
        let (q, is, (seen, stands), same) = d.on m later p sees named in
        let step : settled (model_of m) (suc left) q ≡ follow (played (model_of m) q (event.Deliver k)) (settled (model_of m) left) =
        ap (λ (o : Option ℕ). elim o [ None ↦ On [] q | Some k ↦ follow (played (model_of m) q (event.Deliver k)) (settled (model_of m) left) ]) (sym (is_next m q.group seen.world)) in
        let all = is ∙ ap (onto text) step in (
          q,
          all,
          (seen, stands),
          same,
          named_delivery m q stands left k (onto-till m text (follow (played (model_of m) q (event.Deliver k)) (settled (model_of m) left)) (subst (IsNamedTill m) all named)),
        )

    -- one more was made
    pub one_delivered : (w2 : World) (map2 : Option Map) (more : List Given) (t : List ℕ) → PlaysOn (one_event (event.Deliver k)) w1 w2 map1 map2 more t → Delivered n w w2 map map2 (given ++ more) (text ++ t) left
    one_delivered w2 map2 more t plays = record {
      on = λ m later p sees named.
          let (q, is, seen, same, named_so) = at_next m (more ++ later) p (subst (λ (ds : List Given). SeesPlaying m w map ds p) (append_assoc given more later) sees) named in
          let (v, it, next, still) = plays m later q seen named_so in
          (v, is ∙ ap (λ (x : Written (Playing (MessageOf m) (StateOf m))). onto text (follow x (settled (model_of m) left))) it ∙ onto_onto text t (settled (model_of m) left v), next, still ∙ same);
    }

    -- it ended the text, or memory ran out in it, or the field failed
    module _ (w2 : World) (map2 : Option Map) (more : List Given) (t : List ℕ) where
      some_then : PlaysSome (one_event (event.Deliver k)) w1 w2 map1 map2 more t → PlaysSome (deliveries n) w w2 map map2 (given ++ more) (text ++ t)
      some_then plays m p sees named =
          let (q, is, seen, same, named_so) = at_next m more p sees named in
          let (rest, it) = plays m q seen named_so in
          let tail = follow rest (settled (model_of m) left) in
          (tail, is ∙ ap (λ (x : Written (Playing (MessageOf m) (StateOf m))). onto text (follow x (settled (model_of m) left))) it ∙ ap (onto text) (follow_onto t rest (settled (model_of m) left)) ∙ onto_onto text t tail)

      off_then : (why : Halt) → PlaysOff (one_event (event.Deliver k)) w1 w2 map1 map2 more t (stop_by why) → PlaysOff (deliveries n) w w2 map map2 (given ++ more) (text ++ t) (stop_by why)
      off_then why plays m p sees named =
          let (q, is, seen, same, named_so) = at_next m more p sees named in
          let (v, it, fits) = plays m q seen named_so in
          (v, is ∙ ap (λ (x : Written (Playing (MessageOf m) (StateOf m))). onto text (follow x (settled (model_of m) left))) it, fits)

      up_to_then : PlaysUpTo (one_event (event.Deliver k)) w1 w2 map1 map2 more t → PlaysUpTo (deliveries n) w w2 map map2 (given ++ more) (text ++ t)
      up_to_then plays m p sees named =
          let (q, is, seen, same, named_so) = at_next (Until m) more p sees named in
          let (v, it) = plays m q seen named_so in
          (v, is ∙ ap (λ (x : Written (Playing (MessageOf (Until m)) (StateOf (Until m)))). onto text (follow x (settled (model_of (Until m)) left))) it)

    pub delivery_stops : {T U : Type 0} (w2 : World) (map2 : Option Map) (more : List Given) (before lines after : List ℕ) (e : Stopping Halt) (o : Result T (Stopping Halt)) (u : Result U (Stopping Halt)) → o ≡ Err e → u ≡ Err e
        → lines ≡ before ++ text → Writes (one_event (event.Deliver k)) w1 w2 map1 map2 more lines after o → Writes (deliveries n) w w2 map map2 (given ++ more) before after u
    delivery_stops {T = T} {U = U} w2 map2 more before lines after e o u was is so_far h =
        subst (Writes (deliveries n) w w2 map map2 (given ++ more) before after) (sym is) (by_stop e (subst (Writes (one_event (event.Deliver k)) w1 w2 map1 map2 more lines after) was h))
      where
        grown : (t end : List ℕ) → after ≡ lines ++ (t ++ end) → after ≡ before ++ ((text ++ t) ++ end)
        grown t end same = same ∙ ap (λ (l : List ℕ). l ++ (t ++ end)) so_far ∙ append_assoc before text (t ++ end) ∙ ap (λ (l : List ℕ). before ++ l) (sym (append_assoc text t end))

        grown_so : (t : List ℕ) → after ≡ lines ++ t → after ≡ before ++ (text ++ t)
        grown_so t same = same ∙ ap (λ (l : List ℕ). l ++ t) so_far ∙ append_assoc before text t

        by_stop : (e : Stopping Halt) → Writes {T = T} (one_event (event.Deliver k)) w1 w2 map1 map2 more lines after (Err e) → Writes {T = U} (deliveries n) w w2 map map2 (given ++ more) before after (Err e)
        by_stop (stop.Stopped why) (t, same, off) = (text ++ t, grown t (stopped_text (stop_by why)) same, off_then w2 map2 more t why off)
        by_stop stop.Memory (t, same, some) = (text ++ t, grown_so t same, some_then w2 map2 more t some)
        by_stop stop.Failed (t, same, some, up_to) = (text ++ t, grown_so t same, some_then w2 map2 more t some, up_to_then w2 map2 more t up_to)

  -- there is no next one
  pub deliveries_end : IsNext w1 None → PlaysOn (deliveries n) w w1 map map1 given text
  deliveries_end is_next m later p sees named =
      let (q, is, (seen, stands), same) = d.on m later p sees named in
      let step : settled (model_of m) (suc left) q ≡ On [] q =
      ap (λ (o : Option ℕ). elim o [ None ↦ On [] q | Some k ↦ follow (played (model_of m) q (event.Deliver k)) (settled (model_of m) left) ]) (sym (is_next m q.group seen.world)) in
      (q, is ∙ ap (onto text) step ∙ ap (λ (l : List ℕ). On l q) (append-nil text), (seen, stands), same)

-- none is left
pub deliveries_done : (n : ℕ) (w w1 : World) (map map1 : Option Map) (given : List Given) (text : List ℕ) → Delivered n w w1 map map1 given text 0 → PlaysOn (deliveries n) w w1 map map1 given text
deliveries_done n w w1 map map1 given text d m later p sees named =
    let (q, is, seen, same) = d.on m later p sees named in
    (q, is ∙ ap (λ (l : List ℕ). On l q) (append-nil text), seen, same)

-- ---- an event that stands for itself

alone : (m : Meaning) (p : Playing (MessageOf m) (StateOf m)) (e : Event) (begun : Bool) → IsPlayable begun e → expanded (model_of m) p e ≡ played (model_of m) p e
alone m p (event.Settle n) begun playable = absurd playable
alone m p (event.Begin margin limit voters) begun playable = refl
alone m p (event.Start r) begun playable = refl
alone m p (event.Tick r) begun playable = refl
alone m p (event.Deliver k) begun playable = refl
alone m p (event.Lose k) begun playable = refl
alone m p (event.Crash r) begun playable = refl
alone m p (event.Save r) begun playable = refl
alone m p (event.Roll r k) begun playable = refl
alone m p (event.Join r x) begun playable = refl
alone m p (event.Admit r x) begun playable = refl
alone m p (event.Remove r x) begun playable = refl
alone m p (event.Margin r x) begun playable = refl
alone m p (event.Ask r c n request) begun playable = refl
alone m p (event.Want c x) begun playable = refl
alone m p (event.Say c r) begun playable = refl
alone m p (event.Hear c k) begun playable = refl
alone m p (event.Again c) begun playable = absurd playable

-- what is said of the event alone is said of what it stands for
module _ (e : Event) (begun : Bool) (playable : IsPlayable begun e) (w w' : World) (map map' : Option Map) (given : List Given) where
  named_alone : (m : Meaning) (p : Playing (MessageOf m) (StateOf m)) → IsNamedPiece (all_of e) m p → IsNamedPiece (one_event e) m p
  named_alone m p named = subst (IsNamedTill m) (alone m p e begun playable) named

  some_alone : (text : List ℕ) → PlaysSome (one_event e) w w' map map' given text → PlaysSome (all_of e) w w' map map' given text
  some_alone text plays m p sees named = let (rest, it) = plays m p sees (named_alone m p named) in (rest, alone m p e begun playable ∙ it)

  pub event_writes : {T : Type 0} (before after : List ℕ) (o : Result T (Stopping Halt)) → Writes (one_event e) w w' map map' given before after o → Writes (all_of e) w w' map map' given before after o
  event_writes before after (Ok done) (text, grown, plays) = (
    text,
    grown,
    λ m later p sees named.
        let (q, it, seen, same) = plays m later p sees (named_alone m p named) in
        (q, alone m p e begun playable ∙ it, seen, same),
  )
  event_writes before after (Err (stop.Stopped why)) (text, grown, plays) = (
    text,
    grown,
    λ m p sees named.
        let (q, it, rest) = plays m p sees (named_alone m p named) in
        (q, alone m p e begun playable ∙ it, rest),
  )
  event_writes before after (Err stop.Memory) (text, grown, plays) = (text, grown, some_alone text plays)
  event_writes before after (Err stop.Failed) (text, grown, some, plays) = (
    text,
    grown,
    some_alone text some,
    λ m p sees named.
        let (q, it) = plays m p sees (named_alone (Until m) p named) in
        (q, alone (Until m) p e begun playable ∙ it),
  )

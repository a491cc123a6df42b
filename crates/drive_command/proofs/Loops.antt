-- Turns, one after another.
use Rattle.std.proofs.Common.{refl, sym, ap, subst, ◌∙◌, ◌≡◌, ℕ, suc, List, [], ◌++◌, Option, Some, None, Result, Ok, Err, append_assoc}
use Rattle.values.specs.declared.ids.ClientId.{ClientId}
use Rattle.record_stream.specs.declared.player.Stop.{Stop as Stopping}
use Rattle.record_stream.specs.declared.player.Stop.TheVariants as stop
use Rattle.schedule_model.specs.Written.{follow, onto, stopped_text}
use Rattle.trace_model.specs.Driven.{takes_turn, takes_turns, turns_end}
use Rattle.trace_model.specs.Driver.{Driver, Turn, next_turn}
use Rattle.written_course.proofs.Texts.{follow_till, onto_none, onto_onto, onto_till}
use Rattle.group_world.specs.Halted.{stop_by}
use Rattle.group_world.specs.declared.halt.Halt.{Halt}
use Rattle.drive_command.specs.Course.{Drives, field}
use Rattle.drive_command.specs.Pieces.{IsNamedTill, Piece, PlaysOn, Writes}
use Rattle.drive_command.specs.Standing.{Stands}
use Rattle.drive_command.specs.Turns.{turns}
use Rattle.drive_command.specs.declared.player.DrivePlayer.{DrivePlayer}
use Rattle.drive_command.proofs.Composed.{first_stops, kept_by, writes_as, writes_from}
use Rattle.drive_command.proofs.Tame.{Holds, IsTame, Keeps, tame_turn, tame_turns, tame_with}

-- a piece has written this text, and this is left of it
pub record Reached (what left : Piece) (p q : DrivePlayer) (text : List ℕ) : Type 0 where
  pub on : (d : Drives) → Stands p d → IsNamedTill (what d) → (e : Drives) × (what d ≡ onto text (left e)) × Stands q e

pub none_reached : (what : Piece) (p : DrivePlayer) → Reached what what p p []
none_reached what p = record { on = λ d st named. (d, sym (onto_none (what d)), st) }

module _ (what left : Piece) (p q : DrivePlayer) (text : List ℕ) (reached : Reached what left p q text) where
  at_left : (d : Drives) → Stands p d → IsNamedTill (what d) → (e : Drives) × (what d ≡ onto text (left e)) × Stands q e × IsNamedTill (left e)
  at_left d st named =
      let (e, it, stands) = reached.on d st named in
      (e, it, stands, onto_till Keeps Holds text (left e) (subst IsNamedTill it named))

  -- what is left was played, or ended
  pub reached_writes : {T : Type 0} (v : DrivePlayer) (before middle after : List ℕ) (o : Result T (Stopping Halt)) → middle ≡ before ++ text → Writes left q v middle after o → Writes what p v before after o
  reached_writes v before middle after (Ok done) so (t, grown, plays) = (
    text ++ t,
    grown ∙ ap (λ l. l ++ t) so ∙ append_assoc before text t,
    λ d st named.
        let (e, all, stands, till) = at_left d st named in
        let (x, it, end) = plays e stands till in
        (x, all ∙ ap (onto text) it, end),
  )
  reached_writes v before middle after (Err (stop.Stopped why)) so (t, grown, off) = (
    text ++ t,
    grown ∙ ap (λ l. l ++ (t ++ stopped_text (stop_by why))) so ∙ append_assoc before text (t ++ stopped_text (stop_by why)) ∙ ap (λ l. before ++ l) (sym (append_assoc text t (stopped_text (stop_by why)))),
    λ d st named.
        let (e, all, stands, till) = at_left d st named in
        let (x, it) = off e stands till in
        (x, all ∙ ap (onto text) it),
  )
  reached_writes v before middle after (Err stop.Memory) so (t, grown, some) = (
    text ++ t,
    grown ∙ ap (λ l. l ++ t) so ∙ append_assoc before text t,
    λ d st named.
        let (e, all, stands, till) = at_left d st named in
        let (more, it) = some e stands till in
        (more, all ∙ ap (onto text) it ∙ onto_onto text t more),
  )
  reached_writes v before middle after (Err stop.Failed) so h = absurd h

  -- the first part of what is left was played
  pub reached_more : (first next : Piece) → ((e : Drives) → Stands q e → left e ≡ follow (first e) next) → IsTame first → IsTame next → (v : DrivePlayer) (t : List ℕ) → PlaysOn first q t v → Reached what next p v (text ++ t)
  reached_more first next is tame rest v t on = record {
    on = λ d st named.
        let (e, it, stands, till) = at_left d st named in
        let named_first = follow_till Keeps Holds (first e) next (tame.on e (kept_by q e stands)) (λ x so held. rest.before x so held) (subst IsNamedTill (is e stands) till) in
        let (x, one, end) = on e stands named_first in
        (x, it ∙ ap (onto text) (is e stands ∙ ap (λ w. follow w next) one) ∙ onto_onto text t (next x), end);
  }

-- ---- a turn of several

tame_named : (n : ℕ) (c : ClientId) → IsTame (turns n c)
unfolding turns
tame_named n c = tame_turns n c

module _ (c : ClientId) (n : ℕ) (q r : DrivePlayer) (t : Turn) (taken : next_turn q.driver ≡ Some (t, r.driver)) (same : (e : Drives) → Stands q e → Stands r (record e { driver = r.driver })) where
  abbrev pub first : Piece
  first e = takes_turn field c t (record e { driver = r.driver })

  turned : (e : Drives) → Stands q e → turns (suc n) c e ≡ follow (first e) (turns n c)
  unfolding turns
  turned e st = ap (λ (o : Option (Turn × Driver)). elim o [ None ↦ turns_end c e | Some next ↦ follow (takes_turn field c next.0 (record e { driver = next.1 })) (takes_turns field n c) ]) (ap next_turn st.driver ∙ taken)

  tame_first : IsTame first
  tame_first = tame_with (λ e. r.driver) (takes_turn field c t) (tame_turn c t)

  pub turn_more : (what : Piece) (p : DrivePlayer) (text : List ℕ) → Reached what (turns (suc n) c) p q text → (v : DrivePlayer) (more : List ℕ) → PlaysOn (takes_turn field c t) r more v → Reached what (turns n c) p v (text ++ more)
  turn_more what p text reached v more on =
      reached_more what (turns (suc n) c) p q text reached first (turns n c) turned tame_first (tame_named n c) v more (λ e st named. on (record e { driver = r.driver }) (same e st) named)

  pub turn_stops : (what : Piece) (p : DrivePlayer) (text : List ℕ) → Reached what (turns (suc n) c) p q text → {T U : Type 0} (v : DrivePlayer) (before middle after : List ℕ) (s : Stopping Halt) (o : Result T (Stopping Halt)) (u : Result U (Stopping Halt)) → o ≡ Err s → u ≡ Err s
      → middle ≡ before ++ text → Writes (takes_turn field c t) r v middle after o → Writes what p v before after u
  turn_stops what p text reached {T = T} {U = U} v before middle after s o u was so grown h =
      reached_writes what (turns (suc n) c) p q text reached v before middle after u grown
      (writes_as (turns (suc n) c) (λ e. follow (first e) (turns n c)) q v middle after u turned
      (first_stops (λ e. follow (first e) (turns n c)) first (λ e. turns n c) (λ e. refl) tame_first (λ e. tame_named n c) q v middle after s o u was so (writes_from (takes_turn field c t) q r v (λ e. record e { driver = r.driver }) same middle after o h)))

-- no turn is left to the driver, or of the turns
pub turns_over : (c : ClientId) (n : ℕ) (q : DrivePlayer) → next_turn q.driver ≡ None → (e : Drives) → Stands q e → turns (suc n) c e ≡ turns_end c e
unfolding turns
turns_over c n q none e st = ap (λ (o : Option (Turn × Driver)). elim o [ None ↦ turns_end c e | Some next ↦ follow (takes_turn field c next.0 (record e { driver = next.1 })) (takes_turns field n c) ]) (ap next_turn st.driver ∙ none)

pub none_left : (c : ClientId) (e : Drives) → turns 0 c e ≡ turns_end c e
unfolding turns
none_left c e = refl

-- no turn is left, and the turns end here
pub turns_ended : {T : Type 0} (c : ClientId) (n : ℕ) (what : Piece) (p q : DrivePlayer) (text : List ℕ) → Reached what (turns n c) p q text → ((e : Drives) → Stands q e → turns n c e ≡ turns_end c e) → (before middle after : List ℕ) (o : Result T (Stopping Halt)) → middle ≡ before ++ text
    → Writes (turns_end c) q q middle after o → Writes what p q before after o
turns_ended c n what p q text reached over before middle after o grown h =
    reached_writes what (turns n c) p q text reached q before middle after o grown (writes_as (turns n c) (turns_end c) q q middle after o over h)

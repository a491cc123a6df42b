-- Pieces one after another, as the player plays them.
use Rattle.std.proofs.Common.{sym, ap, subst, ◌∙◌, ◌≡◌, ℕ, List, [], ◌++◌, Result, Ok, Err, append-nil, append_assoc}
use Rattle.record_stream.specs.declared.player.Stop.{Stop as Stopping}
use Rattle.record_stream.specs.declared.player.Stop.TheVariants as stop
use Rattle.schedule_model.specs.Written.{follow, onto, stopped_text}
use Rattle.written_course.proofs.Texts.{follow_onto, follow_till, onto_none, onto_onto, onto_till}
use Rattle.group_world.specs.Halted.{stop_by}
use Rattle.group_world.specs.declared.halt.Halt.{Halt}
use Rattle.drive_command.specs.Course.{Drives}
use Rattle.drive_command.specs.Pieces.{IsNamedTill, Piece, PlaysOn, PlaysSome, Writes}
use Rattle.drive_command.specs.Standing.{Stands}
use Rattle.drive_command.specs.declared.player.DrivePlayer.{DrivePlayer}
use Rattle.drive_command.proofs.Tame.{Holds, IsTame, Keeps}

pub kept_by : (p : DrivePlayer) (d : Drives) → Stands p d → Keeps d
kept_by p d st = st.sees.1

-- nothing is written
pub nothing_plays : {T : Type 0} (what : Piece) (p q : DrivePlayer) (before : List ℕ) (done : T) → PlaysOn what p [] q → Writes {T = T} what p q before before (Ok done)
nothing_plays what p q before done on = ([], sym (append-nil before), on)

pub some_none : (what : Piece) (p : DrivePlayer) → PlaysSome what p []
some_none what p d st named = (what d, sym (onto_none (what d)))

-- want of memory, with the lines as they were
pub memory_writes : {T : Type 0} (what : Piece) (p q : DrivePlayer) (before after : List ℕ) (o : Result T (Stopping Halt)) → o ≡ Err stop.Memory → after ≡ before → Writes what p q before after o
memory_writes what p q before after o is same = subst (Writes what p q before after) (sym is) ([], same ∙ sym (append-nil before), some_none what p)

-- a piece that is another one in each such state
pub writes_as : {T : Type 0} (what other : Piece) (p q : DrivePlayer) (before after : List ℕ) (o : Result T (Stopping Halt)) → ((d : Drives) → Stands p d → what d ≡ other d) → Writes other p q before after o → Writes what p q before after o
writes_as what other p q before after (Ok done) is (text, grown, on) =
    (text, grown, λ d st named. let (e, it, next) = on d st (subst IsNamedTill (is d st) named) in (e, is d st ∙ it, next))
writes_as what other p q before after (Err (stop.Stopped why)) is (text, grown, off) = (text, grown, λ d st named. let (e, it) = off d st (subst IsNamedTill (is d st) named) in (e, is d st ∙ it))
writes_as what other p q before after (Err stop.Memory) is (text, grown, some) = (text, grown, λ d st named. let (rest, it) = some d st (subst IsNamedTill (is d st) named) in (rest, is d st ∙ it))
writes_as what other p q before after (Err stop.Failed) is h = absurd h

-- a piece that is played from another state, where another player stands
pub writes_from : {T : Type 0} (what : Piece) (p q v : DrivePlayer) (to : Drives → Drives) → ((d : Drives) → Stands p d → Stands q (to d)) → (before after : List ℕ) (o : Result T (Stopping Halt)) → Writes what q v before after o → Writes (λ d. what (to d)) p v before after o
writes_from what p q v to stands before after (Ok done) (text, grown, on) = (text, grown, λ d st named. on (to d) (stands d st) named)
writes_from what p q v to stands before after (Err (stop.Stopped why)) (text, grown, off) = (text, grown, λ d st named. off (to d) (stands d st) named)
writes_from what p q v to stands before after (Err stop.Memory) (text, grown, some) = (text, grown, λ d st named. some (to d) (stands d st) named)
writes_from what p q v to stands before after (Err stop.Failed) h = absurd h

-- first one, and then another that may depend on where the first began
module _ (what first : Piece) (next : Drives → Piece) (is : (d : Drives) → what d ≡ follow (first d) (next d)) (tame : IsTame first) (rest : (d : Drives) → IsTame (next d)) (p q : DrivePlayer) where
  named_first : (d : Drives) → Stands p d → IsNamedTill (what d) → IsNamedTill (first d)
  named_first d st named =
      follow_till Keeps Holds (first d) (next d) (tame.on d (kept_by p d st)) (λ e so till. (rest d).before e so till) (subst IsNamedTill (is d) named)

  -- the first one ended
  pub first_stops : {T U : Type 0} (before after : List ℕ) (e : Stopping Halt) (o : Result T (Stopping Halt)) (u : Result U (Stopping Halt)) → o ≡ Err e → u ≡ Err e → Writes first p q before after o → Writes what p q before after u
  first_stops {T = T} {U = U} before after e o u was so h =
      subst (Writes what p q before after) (sym so) (by_stop e (subst (Writes first p q before after) was h))
    where
      by_stop : (e : Stopping Halt) → Writes {T = T} first p q before after (Err e) → Writes {T = U} what p q before after (Err e)
      by_stop (stop.Stopped why) (text, grown, off) = (text, grown, λ d st named. let (x, it) = off d st (named_first d st named) in (x, is d ∙ ap (λ w. follow w (next d)) it))
      by_stop stop.Memory (text, grown, some) = (
        text,
        grown,
        λ d st named.
            let (more, it) = some d st (named_first d st named) in
            (follow more (next d), is d ∙ ap (λ w. follow w (next d)) it ∙ follow_onto text more (next d)),
      )
      by_stop stop.Failed h = absurd h

  -- the first one was played, and the second is this one
  module _ (second : Piece) (same : (d e : Drives) → Stands p d → Stands q e → next d e ≡ second e) (text : List ℕ) (on : PlaysOn first p text q) where
    at_second : (d : Drives) → Stands p d → IsNamedTill (what d) → (e : Drives) × (what d ≡ onto text (second e)) × Stands q e × IsNamedTill (second e)
    at_second d st named =
        let (e, it, stands) = on d st (named_first d st named) in
        let all : what d ≡ onto text (second e) = is d ∙ ap (λ w. follow w (next d)) it ∙ ap (onto text) (same d e st stands) in
        (e, all, stands, onto_till Keeps Holds text (second e) (subst IsNamedTill all named))

    pub then_writes : {T : Type 0} (v : DrivePlayer) (before middle after : List ℕ) (o : Result T (Stopping Halt)) → middle ≡ before ++ text → Writes second q v middle after o → Writes what p v before after o
    then_writes v before middle after (Ok done) so (t, grown, plays) = (
      text ++ t,
      grown ∙ ap (λ l. l ++ t) so ∙ append_assoc before text t,
      λ d st named.
          let (e, all, stands, till) = at_second d st named in
          let (x, it, end) = plays e stands till in
          (x, all ∙ ap (onto text) it, end),
    )
    then_writes v before middle after (Err (stop.Stopped why)) so (t, grown, off) = (
      text ++ t,
      grown ∙ ap (λ l. l ++ (t ++ stopped_text (stop_by why))) so ∙ append_assoc before text (t ++ stopped_text (stop_by why)) ∙ ap (λ l. before ++ l) (sym (append_assoc text t (stopped_text (stop_by why)))),
      λ d st named.
          let (e, all, stands, till) = at_second d st named in
          let (x, it) = off e stands till in
          (x, all ∙ ap (onto text) it),
    )
    then_writes v before middle after (Err stop.Memory) so (t, grown, some) = (
      text ++ t,
      grown ∙ ap (λ l. l ++ t) so ∙ append_assoc before text t,
      λ d st named.
          let (e, all, stands, till) = at_second d st named in
          let (more, it) = some e stands till in
          (more, all ∙ ap (onto text) it ∙ onto_onto text t more),
    )
    then_writes v before middle after (Err stop.Failed) so h = absurd h

use Rattle.std.proofs.Common.{refl, ap, ◌∙◌, is_some, [], Ok, Err}
use Rattle.std.proofs.lemmas.Result.{err_from_is_err_and}
use Rattle.schedule_model.specs.Written.{On}
use Rattle.trace_model.specs.Driven.{drives, drives_want, flight_of}
use Rattle.drive_command.specs.Course.{field}
use Rattle.drive_command.specs.Turns.{carried, wants_carried}
use Rattle.drive_command.proofs.Composed.{first_stops, nothing_plays, then_writes}
use Rattle.drive_command.proofs.Tame.{tame_drives, tame_want}
use Rattle.drive_command.proofs.Wanted.{busy_before, not_taken_up, taken_up}
use Rattle.drive_command.proofs.player.DrivePlayer.want.Goals as goal
use Rattle.drive_command.proofs.player.DrivePlayer.want.Goals.{else-not-busy-via-then-not-busy+else-is_busy, else-not-busy-via-else-not-busy}

pub returns-in_err-event-clause-writes : goal.returns-in_err-event-clause-writes
returns-in_err-event-clause-writes c =
    let p = err_from_is_err_and c.from_residual.result c.from_residual.ensures.1 in
    let client = c.args.client.now in
    let e = c.args.want.now in
    first_stops (wants_carried e client) (λ d. drives field d e) (λ d. drives_want field client (is_some (flight_of d client))) (λ d. refl) (tame_drives e) (λ d. tame_want client (is_some (flight_of d client)))
    c.args.self.now c.event.new.self _ _ _ c.event.result c.from_residual.result c.in_err-event.was (p.1 ∙ ap Err p.2) c.event.ensures.writes

pub returns-then-is_busy-clause-writes : goal.returns-then-is_busy-clause-writes
returns-then-is_busy-clause-writes c =
    let (text, grown, on) = c.in_ok-event.ensures.writes in
    let client = c.args.client.now in
    let e = c.args.want.now in
    let p = c.args.self.now in
    let q = c.event.new.self in
    then_writes (wants_carried e client) (λ d. drives field d e) (λ d. drives_want field client (is_some (flight_of d client))) (λ d. refl) (tame_drives e) (λ d. tame_want client (is_some (flight_of d client))) p q
    (carried client) (taken_up client p q c.is_busy-busy.result c.is_busy.result c.is_busy-busy.ensures c.is_busy.ensures c.if-not-busy.true c.if-is_busy.true) text on _ _ _ _ c.carry.result grown c.carry.ensures.writes

pub returns-clause-writes : goal.returns-clause-writes
returns-clause-writes c =
    let (text, grown, on) = c.in_ok-event.ensures.writes in
    let client = c.args.client.now in
    let e = c.args.want.now in
    let p = c.args.self.now in
    let q = c.event.new.self in
    then_writes (wants_carried e client) (λ d. drives field d e) (λ d. drives_want field client (is_some (flight_of d client))) (λ d. refl) (tame_drives e) (λ d. tame_want client (is_some (flight_of d client))) p q
    (λ e. On [] e) (
    elim c.else-not-busy.branch [
      | else-not-busy-via-then-not-busy+else-is_busy w ↦ not_taken_up client p q c.is_busy-busy.result w.is_busy.result c.is_busy-busy.ensures w.is_busy.ensures w.if-not-busy.true w.if-is_busy.false
      | else-not-busy-via-else-not-busy w ↦ (λ d e s t. busy_before client p c.is_busy-busy.result c.is_busy-busy.ensures w.if-not-busy.false d e s)
    ]
    ) text on q _ _ _ (Ok (tt {0})) grown (nothing_plays (λ e. On [] e) q q _ (tt {0}) (λ d st named. (d, refl, st)))

use Rattle.std.proofs.Common.{refl, sym, ◌∙◌, ap, List, ℕ, Option, [], Ok, Err, slice_get, unwrap_or}
use Rattle.std.proofs.lemmas.Result.{err_from_is_err_and}
use Rattle.drive_command.specs.Course.{field}
use Rattle.trace_model.specs.Driven.{drives, driver_made}
use Rattle.trace_model.specs.Driver.{new_driver}
use Rattle.schedule_model.specs.Written.{On}
use Rattle.drive_command.specs.Turns.{begins_driver}
use Rattle.drive_command.proofs.Composed.{first_stops, nothing_plays, then_writes}
use Rattle.drive_command.proofs.Tame.{tame_begin, tame_drives}
use Rattle.drive_command.proofs.player.DrivePlayer.begin.Goals as goal

pub returns-in_err-event-clause-writes : goal.returns-in_err-event-clause-writes
returns-in_err-event-clause-writes c =
    let p = err_from_is_err_and c.from_residual.result c.from_residual.ensures.1 in
    let e = c.args.begin.now in
    first_stops (begins_driver e) (λ d. drives field d e) (λ d e. On [] (driver_made e)) (λ d. refl) (tame_drives e) (λ d. tame_begin)
    c.args.self.now c.event.new.self _ _ _ c.event.result c.from_residual.result c.in_err-event.was (p.1 ∙ ap Err p.2) c.event.ensures.writes

pub returns-clause-writes : goal.returns-clause-writes
returns-clause-writes c =
    let (text, grown, on) = c.in_ok-event.ensures.writes in
    let e = c.args.begin.now in
    then_writes (begins_driver e) (λ d. drives field d e) (λ d e. On [] (driver_made e)) (λ d. refl) (tame_drives e) (λ d. tame_begin)
    c.args.self.now c.event.new.self (λ e. On [] (driver_made e)) (λ d e s t. refl) text on _ _ _ _ (Ok (tt {0})) grown
    (nothing_plays (λ e. On [] (driver_made e)) c.event.new.self _ _ (tt {0}) (λ d st named. (
      _,
      refl,
      record {
        sees = st.sees;
        driver =
            ap (λ (ids : List ℕ). new_driver (unwrap_or (slice_get ids 0) 0)) (sym (c.running.ensures ∙ st.sees.0.world.running))
            ∙ ap (λ (first : Option ℕ). new_driver (unwrap_or first 0)) (sym (c.copied.ensures ∙ c.first.ensures.value)) ∙ ap new_driver (sym c.unwrap_or-least.ensures) ∙ sym c.new-self.ensures;
        records = st.records;
      },
    )))

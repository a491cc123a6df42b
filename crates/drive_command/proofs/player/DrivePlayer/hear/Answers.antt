use Rattle.std.proofs.Common.{refl, sym, subst, ◌∙◌, ap, Err, Ok, Some, option_map}
use Rattle.std.proofs.lemmas.Result.{err_from_is_err_and}
use Rattle.values.specs.declared.event.Event.TheVariants as event
use Rattle.client_driver.specs.Turns.{seen_of}
use Rattle.trace_model.specs.Driven.{drives}
use Rattle.drive_command.specs.Course.{field}
use Rattle.drive_command.specs.Pieces.{Writes}
use Rattle.drive_command.specs.Turns.{hears_shown, sees_heard, shown_by}
use Rattle.drive_command.proofs.Composed.{first_stops, nothing_plays, then_writes}
use Rattle.drive_command.proofs.Turning.{tame_shown}
use Rattle.drive_command.proofs.Tame.{tame_drives}
use Rattle.drive_command.proofs.player.DrivePlayer.hear.Goals as goal

pub returns-in_err-event-clause-writes : goal.returns-in_err-event-clause-writes
returns-in_err-event-clause-writes c =
    let p = err_from_is_err_and c.from_residual.result c.from_residual.ensures.1 in
    let client = c.args.client.now in
    let what = seen_of c.in-Some.shown in
    let k = c.in-Some.answer in
    subst (λ o. Writes (hears_shown client (option_map shown_by o)) c.args.self.now c.event.new.self c.args.lines.now.items c.event.new.lines.items c.from_residual.result) (sym c.in-Some.is)
    (first_stops (hears_shown client (Some (k, what))) (λ d. drives field d (event.Hear client k)) (λ d. sees_heard client what) (λ d. refl) (tame_drives (event.Hear client k)) (λ d. tame_shown client what)
    c.args.self.now c.event.new.self _ _ _ c.event.result c.from_residual.result c.in_err-event.was (p.1 ∙ ap Err p.2) c.event.ensures.writes)

pub returns-clause-writes : goal.returns-clause-writes
returns-clause-writes c =
    let (text, grown, on) = c.in_ok-event.ensures.writes in
    let client = c.args.client.now in
    let what = seen_of c.in-Some.shown in
    let k = c.in-Some.answer in
    subst (λ o. Writes (hears_shown client (option_map shown_by o)) c.args.self.now c.see_heard.new.self c.args.lines.now.items c.event.new.lines.items (Ok (tt {0}))) (sym c.in-Some.is)
    (then_writes (hears_shown client (Some (k, what))) (λ d. drives field d (event.Hear client k)) (λ d. sees_heard client what) (λ d. refl) (tame_drives (event.Hear client k)) (λ d. tame_shown client what)
    c.args.self.now c.event.new.self (sees_heard client what) (λ d e s t. refl) text on c.see_heard.new.self _ _ _ (Ok (tt {0})) grown
    (nothing_plays (sees_heard client what) c.event.new.self c.see_heard.new.self _ (tt {0}) c.see_heard.ensures.plays))

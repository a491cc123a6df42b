use Rattle.std.proofs.Common.{refl, ◌∙◌, ap, Err, option_map, length}
use Rattle.std.proofs.lemmas.Result.{err_from_is_err_and}
use Rattle.values.specs.declared.event.Event.TheVariants as event
use Rattle.client_driver.specs.Turns.{turn_of}
use Rattle.trace_model.specs.Driven.{answer_in, asks_target, drives_settled, flight_of, hears_answer}
use Rattle.drive_command.specs.Course.{field}
use Rattle.drive_command.specs.Turns.{hears_shown, shown_by}
use Rattle.drive_command.proofs.Composed.{first_stops, then_writes}
use Rattle.drive_command.proofs.Tame.{tame_answer, tame_settled}
use Rattle.drive_command.proofs.Turning.{hears_same}
use Rattle.drive_command.proofs.player.DrivePlayer.ask.Goals as goal

pub returns-in_err-event_settled-clause-writes : goal.returns-in_err-event_settled-clause-writes
returns-in_err-event_settled-clause-writes c =
    let p = err_from_is_err_and c.from_residual.result c.from_residual.ensures.1 in
    let client = c.args.client.now in
    let t = turn_of c.args.turn in
    first_stops (asks_target field client t) (λ d. drives_settled field d (event.Say client t.target)) (λ d e. hears_answer field client (answer_in e client (length d.playing.group.answers) (flight_of e client)) e) (λ d. refl)
    (tame_settled (event.Say client t.target)) (λ d. tame_answer client (length d.playing.group.answers)) c.args.self.now c.event_settled.new.self _ _ _ c.event_settled.result c.from_residual.result c.in_err-event_settled.was (p.1 ∙ ap Err p.2)
    c.event_settled.ensures.writes

pub returns-clause-writes : goal.returns-clause-writes
returns-clause-writes c =
    let (text, grown, on) = c.in_ok-event_settled.ensures.writes in
    let client = c.args.client.now in
    let t = turn_of c.args.turn in
    then_writes (asks_target field client t) (λ d. drives_settled field d (event.Say client t.target)) (λ d e. hears_answer field client (answer_in e client (length d.playing.group.answers) (flight_of e client)) e) (λ d. refl)
    (tame_settled (event.Say client t.target)) (λ d. tame_answer client (length d.playing.group.answers)) c.args.self.now c.event_settled.new.self
    (hears_shown client (option_map shown_by c.newest-newest.result)) (λ d e s st. hears_same c.args.self.now d client _ c.answer_count-past.ensures s e _ (c.newest-newest.ensures e st)) text on _ _ _ _ c.hear.result grown c.hear.ensures.writes

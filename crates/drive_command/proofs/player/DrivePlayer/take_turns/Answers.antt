use Rattle.std.proofs.Common.{arith, refl, sym, ap, subst, ◌∙◌, ◌≡◌, ◌-◌, ◌+◌, ◌++◌, ℕ, suc, Err, append_assoc}
use Rattle.std.proofs.lemmas.Result.{err_from_is_err_and}
use Rattle.client_driver.specs.Turns.{turn_of}
use Rattle.trace_model.specs.Driven.{turns_end}
use Rattle.trace_model.specs.Driver.{max_turns}
use Rattle.drive_command.specs.Pieces.{Writes}
use Rattle.drive_command.specs.Turns.{turns}
use Rattle.drive_command.specs.declared.player.DrivePlayer.{DrivePlayer}
use Rattle.drive_command.proofs.Loops.{Reached, none_left, turn_more, turn_stops, turns_ended, turns_over}
use Rattle.drive_command.proofs.player.DrivePlayer.take_turns.Goals as goal

pub returns-in_default-clause-writes : goal.returns-in_default-clause-writes
returns-in_default-clause-writes c =
    let client = c.args.client.now in
    let (text, grown, reached) = c.loop.invariant.so_far in
    let left = max_turns - (c.loop.counter + 1) in
    let step : max_turns - c.loop.counter ≡ suc left = omega (arith, c.loop-test.true) in
    let p = c.args.self.now in
    let q = c.loop.self in
    let r : DrivePlayer = record q { driver = c.next_turn.new.self } in
    let same : r ≡ q = ap (λ driver. let x : DrivePlayer = record q { driver = driver } in x) c.in_default.ensures.none in
    let ended = subst (λ (x : DrivePlayer). Writes (turns_end client) x x c.loop.lines.items c.end_turns.new.lines.items c.end_turns.result) same c.end_turns.ensures in
    subst (λ (x : DrivePlayer). Writes (turns max_turns client) p x c.args.lines.now.items c.end_turns.new.lines.items c.end_turns.result) (sym same)
    (turns_ended client (suc left) (turns max_turns client) p q text (subst (λ (n : ℕ). Reached (turns max_turns client) (turns n client) p q text) step reached) (turns_over client left q c.in_default.ensures.taken) _ _ _ c.end_turns.result grown ended)

pub returns-in_err-take_turn-clause-writes : goal.returns-in_err-take_turn-clause-writes
returns-in_err-take_turn-clause-writes c =
    let failed = err_from_is_err_and c.from_residual.result c.from_residual.ensures.1 in
    let client = c.args.client.now in
    let (text, grown, reached) = c.loop.invariant.so_far in
    let left = max_turns - (c.loop.counter + 1) in
    let step : max_turns - c.loop.counter ≡ suc left = omega (arith, c.loop-test.true) in
    let p = c.args.self.now in
    let q = c.loop.self in
    let r : DrivePlayer = record q { driver = c.next_turn.new.self } in
    turn_stops client left q r (turn_of c.in-Some.turn) c.in-Some.ensures.taken (λ e st. record { sees = st.sees; driver = refl; records = st.records }) (turns max_turns client) p text
    (subst (λ (n : ℕ). Reached (turns max_turns client) (turns n client) p q text) step reached) c.take_turn.new.self _ _ _ _ c.take_turn.result c.from_residual.result c.in_err-take_turn.was (failed.1 ∙ ap Err failed.2) grown c.take_turn.ensures.writes

pub loop-preserved : goal.loop-preserved
loop-preserved c =
    let client = c.args.client.now in
    let (text, grown, reached) = c.loop.invariant.so_far in
    let (more, grown_more, on) = c.in_ok-take_turn.ensures.writes in
    let left = max_turns - (c.loop.counter + 1) in
    let step : max_turns - c.loop.counter ≡ suc left = omega (arith, c.loop-test.true) in
    let p = c.args.self.now in
    let q = c.loop.self in
    let r : DrivePlayer = record q { driver = c.next_turn.new.self } in
    record {
      so_far = (
        text ++ more,
        grown_more ∙ ap (λ l. l ++ more) grown ∙ append_assoc _ text more,
        turn_more client left q r (turn_of c.in-Some.turn) c.in-Some.ensures.taken (λ e st. record { sees = st.sees; driver = refl; records = st.records }) (turns max_turns client) p text
            (subst (λ (n : ℕ). Reached (turns max_turns client) (turns n client) p q text) step reached) c.take_turn.new.self more on,
      );
      live = c.in_ok-take_turn.ensures.live;
      low = omega (arith, c.loop-test.true);
      records = c.take_turn.ensures.records ∙ c.loop.invariant.records;
    }

pub returns-clause-writes : goal.returns-clause-writes
returns-clause-writes c =
    let client = c.args.client.now in
    let (text, grown, reached) = c.loop.invariant.so_far in
    let none : max_turns - c.loop.counter ≡ 0 = omega (arith, c.loop-test.false, c.loop.invariant.low) in
    let p = c.args.self.now in
    let q = c.loop.self in
    turns_ended client 0 (turns max_turns client) p q text (subst (λ (n : ℕ). Reached (turns max_turns client) (turns n client) p q text) none reached) (λ e st. none_left client e) _ _ _ c.end_turns-2.result grown c.end_turns-2.ensures

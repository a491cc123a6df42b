use Rattle.std.proofs.Common.{sym, ap, ◌∙◌}
use Rattle.trace_model.specs.Driver.{begin_want}
use Rattle.drive_command.specs.declared.player.DrivePlayer.{DrivePlayer}
use Rattle.drive_command.proofs.Wanted.{carried_writes}
use Rattle.drive_command.proofs.player.DrivePlayer.carry.Goals as goal

pub returns-clause-writes : goal.returns-clause-writes
returns-clause-writes c =
    let p = c.args.self.now in
    let q : DrivePlayer = record p { driver = c.begin_want.new.self } in
    carried_writes c.args.client.now p q c.take_turns.new.self (λ d st. record { sees = st.sees; driver = ap begin_want st.driver ∙ sym c.begin_want.ensures; records = st.records }) _ _ c.take_turns.result c.take_turns.ensures.writes

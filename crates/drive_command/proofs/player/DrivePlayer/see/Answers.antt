use Rattle.std.proofs.Common.{refl, sym, ◌∙◌, ap}
use Rattle.client_driver.specs.Turns.{seen_of}
use Rattle.trace_model.specs.Driver as rules
use Rattle.drive_command.proofs.player.DrivePlayer.see.Goals as goal

pub returns-clause-plays : goal.returns-clause-plays
returns-clause-plays c = λ d st named. (
  _,
  refl,
  record {
    sees = st.sees;
    driver =
        ap (λ driver. rules.seen driver (seen_of c.args.seen) d.playing.group.running) st.driver
        ∙ ap (rules.seen c.args.self.now.driver (seen_of c.args.seen)) (sym (c.running.ensures ∙ st.sees.0.world.running)) ∙ sym c.seen.ensures;
    records = st.records;
  },
)

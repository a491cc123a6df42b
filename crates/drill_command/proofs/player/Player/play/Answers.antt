use Rattle.drill_command.proofs.Steps.{event_plays, next_alone, settle_plays}
use Rattle.drill_command.proofs.player.Player.play.Goals as goal

pub returns-in-Settle-clause-plays : goal.returns-in-Settle-clause-plays
returns-in-Settle-clause-plays c = rw c.in-Settle.is (settle_plays c.settle.result c.args.self.now c.settle.new.self c.in-Settle.most c.settle.ensures.goes)

pub returns-in_default : goal.returns-in_default
returns-in_default c =
    let begun = c.args.self.now.world.begun in
    let e = c.args.event.now in
    record {
      plays = event_plays c.play_event.result c.args.self.now c.play_event.new.self begun e (next_alone begun e c.requires.next c.in_default.not-Settle) c.play_event.ensures.goes;
      live = c.play_event.ensures.live;
    }

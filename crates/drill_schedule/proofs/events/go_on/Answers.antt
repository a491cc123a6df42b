use Rattle.std.proofs.Common.{◌==◌, ◌%◌, ◌∷◌, []}
use Rattle.std.specs.Prelude.{if◌then◌else◌}
use Rattle.values.specs.declared.event.Event.TheVariants as event
use Rattle.schedule_model.specs.Drill.{exchange}
use Rattle.drill_schedule.proofs.Pushed.{some_one_more}
use Rattle.drill_schedule.proofs.events.go_on.Goals as goal

pub returns : goal.returns
returns c =
    rw (c.client-client.ensures, c.wish-want.ensures) at
    (some_one_more c.exchange.result c.args.events.now.items c.round.new.events.items c.push.new.self.items c.exchange.new.events.items
    (if c.args.word % 4 == 3 then event.Tick 1 ∷ event.Settle 8 ∷ [] else []) (exchange c.args.number c.args.answer)
    (event.Want c.client-client.result c.wish-want.result) c.in_ok-round.ensures c.in_ok-push.ensures.items c.exchange.ensures)

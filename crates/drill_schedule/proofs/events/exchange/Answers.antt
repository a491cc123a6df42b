use Rattle.drill_schedule.proofs.Pushed.{three}
use Rattle.drill_schedule.proofs.events.exchange.Goals as goal

pub returns : goal.returns
returns c = rw c.client-client.ensures at (three _ _ _ _ _ c.in_ok-push.ensures.items c.in_ok-push-2.ensures.items _ _ c.in_ok-push-3.ensures.items)

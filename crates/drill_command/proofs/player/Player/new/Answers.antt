use Rattle.drill_command.proofs.Whole.{begun_new, live_new, stands_new}
use Rattle.drill_command.specs.declared.player.Player.{Player}
use Rattle.drill_command.proofs.player.Player.new.Goals as goal

pub returns-clause-stands : goal.returns-clause-stands
returns-clause-stands c =
    let d : Player = record { world = c.new.result; field = c.new-2.result; counts = c.new-3.result; hasher = c.new-4.result; lines = c.new-5.result } in
    stands_new d c.new.ensures.new c.new-2.ensures c.new-3.ensures c.new-4.ensures

pub returns-clause-live : goal.returns-clause-live
returns-clause-live c =
    let d : Player = record { world = c.new.result; field = c.new-2.result; counts = c.new-3.result; hasher = c.new-4.result; lines = c.new-5.result } in
    live_new d c.new.ensures.new c.new-2.ensures c.new.ensures.within

pub returns-clause-begun : goal.returns-clause-begun
returns-clause-begun c = begun_new c.new.result c.new.ensures.new

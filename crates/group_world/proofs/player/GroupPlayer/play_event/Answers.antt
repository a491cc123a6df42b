use Rattle.group_world.specs.declared.halt.Halt.TheVariants as halt
use Rattle.group_world.specs.Playing.{one_event}
use Rattle.group_world.proofs.Pieces.{failed_writes, halted_writes, memory_writes}
use Rattle.group_world.proofs.player.GroupPlayer.play_event.Goals as goal

pub returns-in-Ok-clause-writes : goal.returns-in-Ok-clause-writes
returns-in-Ok-clause-writes g c =
    let (given, gained, plays) = c.in-Ok.ensures.plays in
    (given, gained, (plays.0, plays.1, λ m later p sees named. let (q, it, seen, same, told) = plays.2 m later p sees named in (q, it, seen, same)))

pub returns-in-Memory-clause-writes : goal.returns-in-Memory-clause-writes
returns-in-Memory-clause-writes g c =
    let (given, gained, same) = rw c.in-Memory.is at c.in-Err.ensures.plays in
    (given, gained, memory_writes (one_event c.args.event.now) c.args.self.now.world c.event.new.self (g.F.Field.map c.args.self.now.field) (g.F.Field.map c.event.new.field) given (Unit {0}) _ _ same)

pub returns-in-FieldFault-clause-writes : goal.returns-in-FieldFault-clause-writes
returns-in-FieldFault-clause-writes g c =
    let (given, gained, (same, up_to)) = rw c.in-FieldFault.is at c.in-Err.ensures.plays in
    (given, gained, failed_writes (one_event c.args.event.now) c.args.self.now.world c.event.new.self (g.F.Field.map c.args.self.now.field) (g.F.Field.map c.event.new.field) given (Unit {0}) _ _ same up_to)

pub returns-in-Limit-clause-writes : goal.returns-in-Limit-clause-writes
returns-in-Limit-clause-writes g c =
    let (given, gained, (same, off)) = rw c.in-Limit.is at c.in-Err.ensures.plays in (
      given,
      gained,
      halted_writes (one_event c.args.event.now) c.args.self.now.world c.event.new.self (g.F.Field.map c.args.self.now.field) (g.F.Field.map c.event.new.field) given (halt.Limit c.in-Limit.which) _ _ _ _ same off c.stop_for.ensures,
    )

pub returns-in-Frame-clause-writes : goal.returns-in-Frame-clause-writes
returns-in-Frame-clause-writes g c =
    let (given, gained, (same, off)) = rw c.in-Frame.is at c.in-Err.ensures.plays in (
      given,
      gained,
      halted_writes (one_event c.args.event.now) c.args.self.now.world c.event.new.self (g.F.Field.map c.args.self.now.field) (g.F.Field.map c.event.new.field) given (halt.Frame c.in-Frame.at) _ _ _ _ same off c.stop_for-in-Frame.ensures,
    )

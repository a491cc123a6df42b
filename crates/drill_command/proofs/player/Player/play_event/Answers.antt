use Rattle.std.proofs.Common.{subst, ◌++◌, ℕ, List, Some, Ok}
use Rattle.sha2.specs.Hashers.{Holds256}
use Rattle.group_world.specs.Scripts.{map_of}
use Rattle.group_world.specs.Plays.{Plays}
use Rattle.drill_command.specs.declared.player.Player.{Player}
use Rattle.drill_command.proofs.Steps.{event_goes}
use Rattle.drill_command.proofs.player.Player.play_event.Goals as goal

pub returns-clause-goes : goal.returns-clause-goes
returns-clause-goes c =
    let d = c.args.self.now in
    let played = c.event-played.new in
    let after : Player = record { world = played.self; field = played.field; counts = c.count.new.self; hasher = c.update.new.self; lines = played.out } in
    let (given, gained, plays) = c.in-Ok.ensures.plays in
    event_goes d after c.args.event.now c.in-Ok.happened given played.out.items
    (subst (λ (l : List ℕ). Plays d.world played.self (Some (map_of d.field)) (Some (map_of played.field)) given c.args.event.now l played.out.items (Ok c.in-Ok.happened)) c.clear.ensures.items plays)
    (λ m holds. subst (λ (l : List ℕ). Holds256 c.update.new.self (m ++ l)) c.as_slice.ensures.value (c.update.ensures m holds))
    c.count.ensures

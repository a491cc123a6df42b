use Rattle.std.proofs.Common.{◌≡◌, Ok, rules}
use Rattle.std.proofs.lemmas.Result.{err_from_is_err_and}
use Rattle.group_quorum.specs.Voters.{conf_of}
use Rattle.group_world.proofs.Beginning.{begin_stops, begins_does}
use Rattle.group_world.proofs.world.World.begin.Goals as goal

pub returns-in_err-start_voters-clause-does : goal.returns-in_err-start_voters-clause-does
returns-in_err-start_voters-clause-does g c =
    let map = g.F.Field.map in
    let made : conf_of c.args.margin c.args.voters.now ≡ Ok c.unwrap-config.result = search rules in
    let (given, gained, starts) = c.in_err-start_voters.ensures.starts in
    let p = err_from_is_err_and c.from_residual.result c.from_residual.ensures.1 in
    rw (p.1, p.2) (
      given,
      gained,
      begin_stops c.args.self.now c.args.self.now (map c.args.field.now) (map c.start_voters.new.field) given c.unwrap-config.result c.args.margin c.args.limit c.args.voters.now c.requires.new made _ starts,
    )

pub returns-in-Ok-clause-does : goal.returns-in-Ok-clause-does
returns-in-Ok-clause-does g c =
    let map = g.F.Field.map in
    let made : conf_of c.args.margin c.args.voters.now ≡ Ok c.unwrap-config.result = search rules in
    let (given, gained, starts) = c.in_ok-start_voters.ensures.starts in (
      given,
      gained,
      begins_does c.args.self.now c.take_up.new.self (map c.args.field.now) (map c.start_voters.new.field) given c.unwrap-config.result c.args.margin c.args.limit c.args.voters.now c.requires.new made c.in-Ok.ensures starts,
    )

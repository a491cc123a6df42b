use Rattle.std.proofs.Common.{[], rules}
use Rattle.group_world.proofs.Happening.{gains_none, no_begin, not_yet, once_begun}
use Rattle.group_world.proofs.world.World.act.Goals as goal

pub returns-then-self-clause-does : goal.returns-then-self-clause-does
returns-then-self-clause-does g c =
    let (given, gained, does) = c.go_on.ensures.does in
    (given, gained, once_begun _ _ _ _ given _ _ c.if-self.true does)

pub returns-in_default : goal.returns-in_default
returns-in_default g c = record {
  does = ([], gains_none _, not_yet c.args.self.now (g.F.Field.map c.args.field.now) c.args.what.now (no_begin c.args.what.now c.in_default.not-Begin) c.if-self.false);
  runs = c.requires.runs;
  cause = search rules;
}

use Rattle.std.proofs.Common.{sym, ◌∙◌, [], arith}
use Rattle.std.proofs.lemmas.Bool.{le-leb, lt-leb}
use Rattle.group_model.specs.Group.{saves_of}
use Rattle.group_world.proofs.Happening.{gains_none}
use Rattle.group_world.proofs.Rolling.{idle_rolls, not_saved, rolls_kept, rolls_stopped}
use Rattle.group_world.proofs.world.World.roll.Goals as goal

pub returns-then-not-runs-clause-does : goal.returns-then-not-runs-clause-does
returns-then-not-runs-clause-does g c = ([], gains_none _, idle_rolls _ _ c.args.id c.args.state (sym c.runs.ensures ∙ c.if-not-runs.true))

pub returns-then-state-saves_of-clause-does : goal.returns-then-state-saves_of-clause-does
returns-then-state-saves_of-clause-does g c = (
  [],
  gains_none _,
  not_saved _ _ c.args.id c.args.state (sym c.runs.ensures ∙ c.if-not-runs.false) (lt-leb c.args.state (saves_of c.args.self.now.saves.items c.args.id) (omega (arith, c.saves_of.ensures, c.if-state-saves_of.true))),
)

pub returns-in-Err-clause-does : goal.returns-in-Err-clause-does
returns-in-Err-clause-does g c =
    let (given, gained, does) = c.in-Err.ensures.does in (
      given,
      gained,
      rolls_stopped _ _ c.args.id c.args.state (sym c.runs.ensures ∙ c.if-not-runs.false) (le-leb c.args.state (saves_of c.args.self.now.saves.items c.args.id) (omega (arith, c.saves_of.ensures, c.if-state-saves_of.false))) _ given c.tell_input.new.self c.tell_input.new.self c.in-Err.e does,
    )

pub returns-in-Ok-note_roll-clause-does : goal.returns-in-Ok-note_roll-clause-does
returns-in-Ok-note_roll-clause-does g c =
    let (given, gained, does) = c.in-Ok.ensures.does in (
      given,
      gained,
      rolls_kept _ _ c.args.id c.args.state (sym c.runs.ensures ∙ c.if-not-runs.false) (le-leb c.args.state (saves_of c.args.self.now.saves.items c.args.id) (omega (arith, c.saves_of.ensures, c.if-state-saves_of.false))) _ given _ _ c.in-Ok.came does c.in-Ok-note_roll.ensures.notes,
    )

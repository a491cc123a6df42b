use Rattle.std.proofs.Common.{◌∙◌, sym, ap}
use Rattle.group_world.proofs.Delivering.{frame_input, read_frame, hands_idle, hands_missing, hands_on}
use Rattle.group_world.proofs.world.World.hand.Goals as goal

pub returns-in-Err-clause-hands : goal.returns-in-Err-clause-hands
returns-in-Err-clause-hands c = hands_missing c.args.self.now c.args.number c.in-Err.refusal c.in-Err.ensures.missing

pub returns-then-not-runs-clause-hands : goal.returns-then-not-runs-clause-hands
returns-then-not-runs-clause-hands c = hands_idle c.args.self.now c.args.number c.in-Ok.letter.now c.in-Ok.ensures.found c.in-Ok.ensures.there (sym c.runs.ensures ∙ c.if-not-runs.true)

pub returns-clause-hands : goal.returns-clause-hands
returns-clause-hands c =
    hands_on c.args.self.now c.args.number c.in-Ok.letter.now c.in-Ok.ensures.found c.in-Ok.ensures.there c.in_ok-input.input (sym c.runs.ensures ∙ c.if-not-runs.false)
    (c.in_ok-input.ensures ∙ ap read_frame c.as_slice-frame.ensures)

pub returns-clause-input : goal.returns-clause-input
returns-clause-input c = frame_input c.in_ok-input.input c.in-Ok.letter.now.frame (c.in_ok-input.ensures ∙ ap read_frame c.as_slice-frame.ensures)

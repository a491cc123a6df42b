use Rattle.std.proofs.Common.{sym, ◌∙◌}
use Rattle.group_quorum.proofs.Doubles.{double_at}
use Rattle.group_quorum.proofs.voters.find_double.Goals as goal

pub returns-then-contains : goal.returns-then-contains
returns-then-contains c =
    sym (double_at c.args.voters.now c.loop-place.place c.loop-place-test.true (sym c.contains.ensures.value ∙ c.if-contains.true)) ∙ c.loop-place.invariant

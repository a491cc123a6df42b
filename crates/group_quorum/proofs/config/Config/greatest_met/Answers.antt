use Rattle.group_quorum.proofs.Greatest.{greatest_found, reached_upto, value_found}
use Rattle.group_quorum.proofs.config.Config.greatest_met.Goals as goal

pub returns-clause-greatest : goal.returns-clause-greatest
returns-clause-greatest c =
    greatest_found c.args.self.now c.args.marks.now c.voters-voters.result.now c.voters-voters.ensures.voters c.quorum.result c.quorum.ensures.quorum c.quorum.ensures.reachable c.loop-place.place c.loop-place.auto.place-end c.loop-place-test.false c.loop-place.reached c.sort_unstable.new.self c.loop-place.invariant.found c.sort_unstable.ensures.permutation c.sort_unstable.ensures.sorted

pub returns-clause-value : goal.returns-clause-value
returns-clause-value c =
    value_found c.args.self.now c.args.marks.now c.voters-voters.result.now c.voters-voters.ensures.voters c.quorum.result c.quorum.ensures.quorum c.quorum.ensures.reachable c.loop-place.place c.loop-place.auto.place-end c.loop-place-test.false c.loop-place.reached c.sort_unstable.new.self c.loop-place.invariant.found c.sort_unstable.ensures.permutation c.sort_unstable.ensures.sorted

pub returns-clause-reached : goal.returns-clause-reached
returns-clause-reached c =
    reached_upto c.args.self.now c.args.marks.now _
    (greatest_found c.args.self.now c.args.marks.now c.voters-voters.result.now c.voters-voters.ensures.voters c.quorum.result c.quorum.ensures.quorum c.quorum.ensures.reachable c.loop-place.place c.loop-place.auto.place-end c.loop-place-test.false c.loop-place.reached c.sort_unstable.new.self c.loop-place.invariant.found c.sort_unstable.ensures.permutation c.sort_unstable.ensures.sorted)

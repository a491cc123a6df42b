use Rattle.std.proofs.Common.{rules, IsTrue}
use Rattle.values.specs.Rising.{Rising}
use Rattle.values.proofs.RisingLists.{rising_from_increasing, increasing_from_rising}
use Rattle.values.proofs.ids.Ids.from_slice.Goals as goal

pub returns-then-not-is_rising : goal.returns-then-not-is_rising
returns-then-not-is_rising c = λ rising. let told : IsTrue c.is_rising.result = c.is_rising.ensures.1 (increasing_from_rising _ rising) in search rules

rises : (c : goal.In_ok-ids) → Rising c.args.ids.now
rises c = rising_from_increasing _ (c.is_rising.ensures.0 c.if-not-is_rising.false)

pub invariant_of-result : goal.invariant_of-result
invariant_of-result c = rw c.in_ok-ids.ensures.items (rises c)

pub returns : goal.returns
returns c = (rises c, c.in_ok-ids.ensures.items)

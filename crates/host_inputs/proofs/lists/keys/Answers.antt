use Rattle.std.proofs.Common.{◌≡◌, subst, sym, rules}
use Rattle.std.proofs.lemmas.Map.Keys.{IsStrictlyIncreasing-from_sorted}
use Rattle.values.specs.Rising.{Rising}
use Rattle.values.proofs.RisingLists.{rising_from_increasing}
use Rattle.host_inputs.proofs.lists.keys.Goals as goal

pub returns-clause-rising : goal.returns-clause-rising
returns-clause-rising c =
    let rising = rising_from_increasing c.args.set.now.keys (IsStrictlyIncreasing-from_sorted c.args.set.now.keys c.iter.ensures.ordered) in
    let items : c.in_ok-ids.ids.items ≡ c.args.set.now.keys = search rules in
    subst Rising (sym items) rising

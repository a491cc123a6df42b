use Rattle.std.proofs.Common.{◌≡◌, take}
use Rattle.values.proofs.items.ItemsTryCopy.copy.Given as goal

-- so far the items that the loop has passed are copied
abbrev pub invariant-loop-item : goal.invariant-loop-item
invariant-loop-item g l = l.items.items ≡ take l.item-index l.self

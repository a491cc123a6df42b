use Rattle.std.proofs.Common.{◌≡◌, drop}
use Rattle.group_msgs.specs.Rules.{rise_above}
use Rattle.group_msgs.proofs.voters.are_rising.Given as goal

abbrev pub invariant-loop-id : goal.invariant-loop-id
invariant-loop-id l = rise_above l.last (drop l.id-index l.ids) ≡ rise_above 0 l.ids

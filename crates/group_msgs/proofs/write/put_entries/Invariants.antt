use Rattle.std.proofs.Common.{◌≡◌, ◌++◌, take}
use Rattle.std.specs.Prelude.{All}
use Rattle.group_msgs.specs.Canonical.{entries_field}
use Rattle.group_msgs.specs.Ranges.{FitsBody}
use Rattle.group_msgs.proofs.write.put_entries.Given as goal

abbrev pub invariant-loop-entry : goal.invariant-loop-entry
invariant-loop-entry l = (l.fields ≡ l.fn.fields ++ entries_field (take l.entry-index l.entries)) × All (λ e. FitsBody e.body) (take l.entry-index l.entries)

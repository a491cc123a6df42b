use Rattle.std.proofs.Common.{◌≡◌, ◌-◌, take, drop}
use Rattle.replica_log.specs.Window.{base_index}
use Rattle.append_rules.proofs.make.entries_from.Given as goal

-- so far the entries from the first index on are copied
abbrev pub invariant-loop-index : goal.invariant-loop-index
invariant-loop-index l = l.entries.items ≡ take (l.index - l.next) (drop (l.next - 1 - base_index l.log) l.log.entries)

use Rattle.std.proofs.Common.{◌≡◌, ◌++◌, map, take}
use Rattle.group_world.specs.Keeping.{kept_conf}
use Rattle.group_world.proofs.keep.tell_all.Given as goal

abbrev pub invariant-loop-index : goal.invariant-loop-index
invariant-loop-index l = l.confs.items ≡ l.initial.confs.items ++ map kept_conf (take l._index-index l.members)

use Rattle.std.proofs.Common.{◌≡◌, take}
use Rattle.replica_core.specs.Sending.{all_fallen_back}
use Rattle.replica_core.proofs.role.Leading.fall_back.Given as goal

abbrev pub invariant-loop-peer : goal.invariant-loop-peer
invariant-loop-peer l =
    l.self ≡ record (l.fn.self) { progress = all_fallen_back l.base l.fn.self.sendings l.fn.self.progress (take l.peer-index l.peers) }

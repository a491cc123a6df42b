use Rattle.std.proofs.Common.{◌≡◌, ℕ, List, ◌++◌, take, All}
use Rattle.group_quorum.specs.Voters.{IsId}
use Rattle.group_msgs.specs.Ranges.{IsIndex}
use Rattle.replica_core.specs.Ranges.{IsStepBatch}
use Rattle.replica_core.specs.InRange.{IsLeadingInRange}
use Rattle.group_quorum.specs.Conf.{Conf}
use Rattle.replica_model.specs.Replica as model
use Rattle.replica_core.specs.Standing.{SendingsAs}
use Rattle.replica_core.specs.Sending.{parts_as}
use Rattle.replica_core.proofs.role.Leading.send_parts_again.Given as goal

abbrev pub invariant-loop-peer : goal.invariant-loop-peer
invariant-loop-peer l = record {
  model : (limit : ℕ) (first : Conf) (sendings : List (ℕ × model.Sending)) → SendingsAs limit first l.self.sendings sendings
      → l.batch ≡ record (l.fn.batch) { sent = l.fn.batch.sent ++ parts_as limit first l.term sendings (take l.peer-index l.peers) };
  in_range : All IsId l.peers → IsIndex l.term → IsLeadingInRange l.self → IsStepBatch l.fn.batch → IsStepBatch l.batch;
}

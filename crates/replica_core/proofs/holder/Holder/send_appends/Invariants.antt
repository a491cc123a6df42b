use Rattle.std.proofs.Common.{take, fold, All}
use Rattle.group_quorum.specs.Voters.{IsId}
use Rattle.replica_core.specs.Ranges.{IsStepBatch}
use Rattle.replica_core.specs.InRange.{IsHolderInRange}
use Rattle.replica_model.specs.Call.{Call}
use Rattle.replica_core.specs.Keeping.{IsSound}
use Rattle.replica_core.specs.Calling.{Reaches}
use Rattle.replica_core.proofs.Sends.{sent_step}
use Rattle.replica_core.proofs.holder.Holder.send_appends.Given as goal

abbrev pub invariant-loop-peer : goal.invariant-loop-peer
invariant-loop-peer l = record {
  sound : IsSound l.self;
  model : (c : Call) → Reaches l.fn.self l.fn.batch c → Reaches l.self l.batch (fold sent_step c (take l.peer-index l.peers));
  in_range : All IsId l.peers → IsHolderInRange l.fn.self → IsStepBatch l.fn.batch → IsHolderInRange l.self × IsStepBatch l.batch;
}

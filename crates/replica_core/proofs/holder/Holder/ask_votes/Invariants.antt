use Rattle.std.proofs.Common.{◌≡◌, ℕ, ◌++◌, map, take, All}
use Rattle.group_quorum.specs.Voters.{IsId}
use Rattle.group_msgs.specs.Ranges.{IsIndex}
use Rattle.replica_core.specs.Ranges.{IsStepBatch}
use Rattle.values.specs.declared.peer.PeerMsg.TheVariants.{AskVote}
use Rattle.replica_core.proofs.holder.Holder.ask_votes.Given as goal

abbrev pub invariant-loop-voter : goal.invariant-loop-voter
invariant-loop-voter l = record {
  batch : l.batch ≡ record (l.fn.batch) { sent = l.fn.batch.sent ++ map (λ (v : ℕ). (v, AskVote l.self.ballot.term l.last_index l.last_term)) (take l.voter-index l.voter-items) };
  in_range : All IsId l.voter-items → (IsIndex l.self.ballot.term × (IsIndex l.last_index × IsIndex l.last_term)) → IsStepBatch l.fn.batch → IsStepBatch l.batch;
}

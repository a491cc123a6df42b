-- What a learner that holds nothing becomes.
use Rattle.std.specs.Prelude.{◌≡◌, ℕ, Option, Some, None, Result, Ok, Err, [], ◌∷◌, ◌++◌}
use Rattle.values.specs.declared.batch.Batch.{Batch}
use Rattle.values.specs.declared.entry.Point.{Point}
use Rattle.values.specs.declared.ids.ClientId.{ClientId}
use Rattle.values.specs.declared.message.Answer.TheVariants.{NotLeader}
use Rattle.values.specs.declared.message.Request.{Request}
use Rattle.values.specs.declared.peer.PeerMsg.TheVariants.{PartTaken}
use Rattle.values.specs.declared.peer.TablePart.{TablePart}
use Rattle.client_msgs.specs.declared.fault.RequestFault.{RequestFault}
use Rattle.record_rules.specs.Table.{RecordTable}
use Rattle.replica_model.specs.Call.{Call}
use Rattle.replica_log.specs.Window.{Summary, window_at, term_of_point}
use Rattle.replica_core.specs.declared.role.Role.TheVariants.{Follower}
use Rattle.replica_core.specs.declared.holder.Holder.{Holder}
use Rattle.replica_core.specs.declared.learner.Learner.{Learner}
use Rattle.replica_core.specs.Asking.{answered, fault_answered}
use Rattle.replica_core.specs.Standing.{LearnsFor, HoldsFor}

-- what sums up the path of a part's table
abbrev pub summary_in : TablePart → Summary
summary_in part =
    record {
      point = part.point;
      term = part.last_term;
      conf = record { margin = part.margin; voters = part.voters };
      conf_index = part.conf_index;
    }

-- with its table it follows the sender, and its log begins at the point of the last part
abbrev pub holder_at : Learner → ℕ → TablePart → RecordTable → Holder
holder_at l from part table =
    record {
      alloc = l.alloc;
      me = l.me;
      ballot = record { term = l.term; vote = 0 };
      known = from;
      log = window_at (record (summary_in part) { term = term_of_point part.point part.last_term });
      table = table;
      role = Follower;
      tickets = [];
      halted = None;
    }

-- a replica is told which part is expected next
abbrev pub expecting : Batch → ℕ → ℕ → Point → ℕ → Batch
expecting b to term point next = record b { sent = b.sent ++ (to, PartTaken term point next) ∷ [] }

-- a client's request is answered where no leader is known
abbrev pub unled : Batch → ClientId → ℕ → Result Request RequestFault → Batch
unled b client number (Ok request) = answered b client number (NotLeader 0)
unled b client number (Err fault) = fault_answered b client number fault

-- the learner stands for the state after a call, or what holds a log does; and the batch is the call's
abbrev pub LearnsOrHolds : Learner → Option Holder → Batch → Call → Type 0
LearnsOrHolds l None batch c = LearnsFor l c.state × (batch ≡ c.batch)
LearnsOrHolds l (Some h) batch c = HoldsFor h c.state × (batch ≡ c.batch)

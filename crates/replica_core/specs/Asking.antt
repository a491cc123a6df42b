-- How an ask is read.
use Rattle.std.specs.Prelude.{ℕ, ◌-◌, List, Bool, true, false, cond, ◌||◌, ◌==◌, nat_le, Option, Some, None, Result, Ok, Err, [], ◌∷◌, ◌++◌}
use Rattle.values.specs.declared.batch.Batch.{Batch}
use Rattle.values.specs.declared.ids.ClientId.{ClientId}
use Rattle.values.specs.declared.message.Answer.{Answer}
use Rattle.values.specs.declared.message.Answer.TheVariants.{NotLeader, Busy, Malformed, Invalid, Halted}
use Rattle.values.specs.declared.message.Part.TheVariants.{Nothing}
use Rattle.values.specs.declared.message.Request.{Request}
use Rattle.client_msgs.specs.Canonical.{canonical_request}
use Rattle.client_msgs.specs.declared.fault.RequestFault.{RequestFault}
use Rattle.client_msgs.specs.declared.fault.RequestFault.TheVariants as faults
use Rattle.values.specs.declared.entry.Hash.{Hash}
use Rattle.values.specs.declared.limits.TheConstants.{TOP}
use Rattle.replica_model.specs.declared.TheConstants.{MAX_OPEN}
use Rattle.replica_model.specs.Clients.{offset_of}
use Rattle.replica_log.specs.Window.{Window, last_index}
use Rattle.replica_core.specs.declared.holder.Holder.{Holder}
use Rattle.replica_core.specs.Keeping.{leads_now}

-- one answer more
abbrev pub answered : Batch → ClientId → ℕ → Answer → Batch
answered b client number answer = record b { answers = b.answers ++ (client, number, answer) ∷ [] }

-- bytes that are no request are answered
abbrev pub fault_answered : Batch → ClientId → ℕ → RequestFault → Batch
fault_answered b client number faults.Memory = b
fault_answered b client number (faults.Wire fault) = answered b client number (Malformed (offset_of fault))
fault_answered b client number faults.Nothing = answered b client number (Invalid Nothing 0)
fault_answered b client number (faults.Size part size) = answered b client number (Invalid part size)

-- the request that bytes are, and the batch then
abbrev pub read_as : Batch → ClientId → ℕ → Result Request RequestFault → Option Request × Batch
read_as b client number (Ok request) = (Some request, b)
read_as b client number (Err fault) = (None, fault_answered b client number fault)

-- the canonical bytes of a request that was found
abbrev pub written : Option Request → Option (List ℕ)
written (Some request) = Some (canonical_request request)
written None = None

-- the entries above the committed index
abbrev pub open_in : Window → ℕ
open_in w = last_index w - w.committed

-- a replica that has not halted does not lead, or is busy
abbrev pub refusal_by : Holder → Bool → Option Answer
refusal_by h false = Some (NotLeader h.known)
refusal_by h true = cond (nat_le MAX_OPEN (open_in h.log) || last_index h.log == TOP) (Some (Busy (open_in h.log))) None

abbrev pub refusal_at : Holder → Option (ℕ × Hash × Hash) → Option Answer
refusal_at h (Some halted) = Some (Halted halted.0)
refusal_at h None = refusal_by h (leads_now h.role)

-- why a valid request is not taken
abbrev pub refusal_of : Holder → Option Answer
refusal_of h = refusal_at h h.halted

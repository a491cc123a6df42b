-- A client's request, and its answers in their order.
use Rattle.std.specs.Prelude.{ℕ, ◌+◌, ◌-◌, Bool, cond, ◌||◌, ◌==◌, nat_le, Option, Some, None, Result, Ok, Err, List, [], ◌∷◌, ◌++◌, length}
use Rattle.values.specs.declared.entry.Hash.{Hash}
use Rattle.values.specs.declared.entry.Body.TheVariants.{Ask}
use Rattle.values.specs.declared.ids.ClientId.{ClientId}
use Rattle.values.specs.declared.message.Request.{Request}
use Rattle.values.specs.declared.message.Answer.TheVariants.{NotLeader, Busy, Malformed, Invalid, Halted}
use Rattle.values.specs.declared.message.Part.TheVariants.{Nothing}
use Rattle.proto_wire.specs.declared.field.WireFault.{WireFault}
use Rattle.proto_wire.specs.declared.field.WireFault.TheVariants as wire
use Rattle.client_msgs.specs.declared.fault.RequestFault.{RequestFault}
use Rattle.client_msgs.specs.declared.fault.RequestFault.TheVariants as faults
use Rattle.client_msgs.specs.Reading.{request_of}
use Rattle.client_msgs.specs.Canonical.{canonical_request}
use Rattle.values.specs.declared.limits.TheConstants.{TOP}
use Rattle.replica_model.specs.declared.TheConstants.{MAX_OPEN}
use Rattle.replica_model.specs.Replica.{Role, Leader, Replica}
use Rattle.replica_model.specs.Call.{Call, still, answers}
use Rattle.replica_model.specs.Raise.{pushed, raise_and_send}

-- the entries above the committed index
abbrev pub open_entries : Replica → ℕ
open_entries s = length s.path - s.committed

-- a leader takes no more requests
abbrev pub is_busy : Replica → Bool
is_busy s = nat_le MAX_OPEN (open_entries s) || length s.path == TOP

-- a leader pushes the Ask with the canonical bytes, and keeps a ticket
abbrev pub asked : Replica → ClientId → ℕ → Request → Replica
asked s client number request =
    record (pushed s (Ask client number (canonical_request request))) {
      tickets = s.tickets ++ record { index = length s.path + 1; client = client; number = number; request = request } ∷ [];
    }

-- a valid request at a replica that has not halted
abbrev pub request_heard : Replica → Role → ClientId → ℕ → Request → Call
request_heard s (Leader l) client number request =
    cond (is_busy s) (answers s client number (Busy (open_entries s))) (raise_and_send (still (asked s client number request)) l)
request_heard s _ client number request = answers s client number (NotLeader s.known)

-- a valid request
abbrev pub valid_request : Replica → Option (ℕ × Hash × Hash) → ClientId → ℕ → Request → Call
valid_request s (Some d) client number request = answers s client number (Halted d.0)
valid_request s None client number request = request_heard s s.role client number request

-- the offset of a fault in the wire format
abbrev pub offset_of : WireFault → ℕ
offset_of (wire.Cut at) = at
offset_of (wire.LongVarint at) = at
offset_of (wire.FieldZero at) = at
offset_of (wire.GroupWire at) = at
offset_of (wire.BadWire at) = at

-- bytes that are no request: malformed, or no member stands, or a size is out of range
abbrev pub bad_request : Replica → ClientId → ℕ → RequestFault → Call
bad_request s client number faults.Memory = still s
bad_request s client number (faults.Wire fault) = answers s client number (Malformed (offset_of fault))
bad_request s client number faults.Nothing = answers s client number (Invalid Nothing 0)
bad_request s client number (faults.Size part size) = answers s client number (Invalid part size)

-- the bytes are read before all else
abbrev pub on_request : Replica → ClientId → ℕ → Result Request RequestFault → Call
on_request s client number (Ok request) = valid_request s s.halted client number request
on_request s client number (Err fault) = bad_request s client number fault

-- client request: malformed or invalid bytes, then halted, not the leader, busy; else a leader pushes it
abbrev pub client_request : Replica → ClientId → ℕ → List ℕ → Call
client_request s client number bytes = on_request s client number (request_of bytes)

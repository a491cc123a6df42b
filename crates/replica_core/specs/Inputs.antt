-- What a replica is told, as the model is told it, and the ranges of it.
use Rattle.std.specs.Prelude.{◌≡◌, ◌≤◌}
use Rattle.values.specs.declared.peer.PeerMsg.{PeerMsg}
use Rattle.values.specs.declared.peer.PeerMsg.TheVariants.{Part}
use Rattle.group_quorum.specs.Voters.{IsId}
use Rattle.group_msgs.specs.Ranges.{IsInRange}
use Rattle.replica_model.specs.Replica as model
use Rattle.replica_model.specs.Linked.{sha_link}
use Rattle.replica_model.specs.Call as model_call
use Rattle.replica_model.specs.Tables.{IsTruePart}
use Rattle.table_transfer.specs.Taken.{GoesOn}
use Rattle.replica_core.specs.declared.input.Input.{Input}
use Rattle.replica_core.specs.declared.input.Input.TheVariants as input

-- a learner that holds nothing is handed a true part of the path that the message names, and a later part of a table at
-- one point is of the same path as those before it. Nobody else reads what a message names
abbrev pub IsNamed : model.Role → PeerMsg → model.Named → Type 0
IsNamed (model.Learner taking) (Part term part) names = IsTruePart sha_link part names × GoesOn sha_link taking part names
IsNamed _ _ names = Unit {0}

-- the input is what the model replica is told
abbrev pub IsInput : model.Replica → Input → model_call.Input → Type 0
IsInput s input.Tick i = i ≡ model_call.Tick
IsInput s (input.Peer from msg) i =
    (names : model.Named) × (IsNamed s.role msg names × (i ≡ model_call.Peer from (record { msg = msg; names = names })))
IsInput s (input.Client client number request) i = i ≡ model_call.Client client number request.now
IsInput s (input.Join id linked) i = i ≡ model_call.Join id linked
IsInput s (input.Admit id) i = i ≡ model_call.Admit id
IsInput s (input.Remove id) i = i ≡ model_call.Remove id
IsInput s (input.Margin margin) i = i ≡ model_call.Margin margin

-- ids are from 1 to 65,535, a margin is at most 15, and a message is in its ranges
abbrev pub IsInputInRange : Input → Type 0
IsInputInRange input.Tick = Unit {0}
IsInputInRange (input.Peer from msg) = IsId from × IsInRange msg
IsInputInRange (input.Client client number request) = Unit {0}
IsInputInRange (input.Join id linked) = IsId id
IsInputInRange (input.Admit id) = IsId id
IsInputInRange (input.Remove id) = IsId id
IsInputInRange (input.Margin margin) = margin ≤ 15

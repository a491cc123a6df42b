-- The words of a session as the program spells them.
use Rattle.std.specs.Prelude.{ℕ, List, Result, Ok, Err}
use Rattle.values.specs.declared.batch.Batch.{Batch}
use Rattle.values.specs.declared.peer.PeerMsg.{PeerMsg}
use Rattle.replica_model.specs.Clients.{offset_of}
use Rattle.group_msgs.specs.declared.fault.PeerFault.{PeerFault}
use Rattle.group_msgs.specs.declared.fault.PeerFault.TheVariants as peer
use Rattle.group_msgs.specs.Peer.{peer_of}
use Rattle.host_inputs.specs.declared.input.HostFault.{HostFault}
use Rattle.host_inputs.specs.Inputs.{Input}
use Rattle.host_inputs.specs.Inputs as read
use Rattle.host_inputs.specs.Reading.{input_in}
use Rattle.host_msgs.specs.Contents as written
use Rattle.group_model.specs.Enclave.{Begin, Learn, Tick, Client, Join, Admit, Remove, Save, Roll, Connect, Margin}
use Rattle.trace_model.specs.Session.{Content, Starts, Frames, Hands, Wording}

-- what an input says: a start, a link frame, or what is handed to the enclave
abbrev pub content_in : Input → Content
content_in (read.Begin id margin limit voters) = Starts (Begin id margin limit voters)
content_in (read.Learn id linked) = Starts (Learn id linked)
content_in read.Tick = Hands Tick
content_in (read.Peer frame) = Frames frame
content_in (read.Client client number request) = Hands (Client client number request)
content_in (read.Join id) = Hands (Join id)
content_in (read.Admit id) = Hands (Admit id)
content_in (read.Remove id) = Hands (Remove id)
content_in read.Save = Hands Save
content_in (read.Roll k) = Hands (Roll k)
content_in (read.Link id) = Hands (Connect id)
content_in (read.Margin margin) = Hands (Margin margin)

abbrev pub content_if : Result Input HostFault → Result Content HostFault
content_if (Ok input) = Ok (content_in input)
content_if (Err fault) = Err fault

abbrev pub content_of : List ℕ → Result Content HostFault
content_of bytes = content_if (input_in bytes)

-- what is told of bytes that are no message: the offset of a fault of the wire format, and 0 of every other fault
abbrev pub told_offset : PeerFault → ℕ
told_offset peer.Memory = 0
told_offset (peer.Wire fault) = offset_of fault
told_offset peer.Nothing = 0
told_offset (peer.Range field) = 0
told_offset (peer.Size field size) = 0
told_offset (peer.NotCanonical place) = 0

abbrev pub message_if : Result PeerMsg PeerFault → Result PeerMsg ℕ
message_if (Ok msg) = Ok msg
message_if (Err fault) = Err (told_offset fault)

abbrev pub message_of : List ℕ → Result PeerMsg ℕ
message_of bytes = message_if (peer_of bytes)

-- contents, messages and batches
abbrev pub wording : Wording HostFault
wording = record { content_of = content_of; message_of = message_of; batch_bytes = written.batch_bytes }

-- What the items of a batch hold in the bytes of other formats.
use Rattle.std.specs.Prelude.{ℕ, Bool, List, Option, Some, None, Result, Ok, Err}
use Rattle.values.specs.declared.message.Response.{Response}
use Rattle.values.specs.declared.peer.PeerMsg.{PeerMsg}
use Rattle.client_msgs.specs.Reading.{response_of}
use Rattle.client_msgs.specs.Strict.{is_canonical}
use Rattle.group_msgs.specs.Peer.{peer_of}

-- the value, where there is one
abbrev pub if_ok : {X E : Type 0} → Result X E → Option X
if_ok (Ok x) = Some x
if_ok (Err e) = None

-- whether the bytes are the canonical ones of a valid request
unfoldable pub is_request : List ℕ → Bool
is_request bytes = is_canonical bytes

-- the response, and the message between replicas, that bytes stand for
unfoldable pub response_in : List ℕ → Option Response
response_in bytes = if_ok (response_of bytes)

unfoldable pub message_in : List ℕ → Option PeerMsg
message_in bytes = if_ok (peer_of bytes)

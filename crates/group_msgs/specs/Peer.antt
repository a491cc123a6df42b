-- The message that bytes stand for, or why they stand for none.
use Rattle.std.specs.Prelude.{◌≡◌, ℕ, List, map, Option, None, Some, Result, Ok, Err, IsOk}
use Rattle.proto_wire.specs.declared.field.WireFault.{WireFault}
use Rattle.proto_wire.specs.Fields.{Field, Sequence, sequence_at}
use Rattle.proto_wire.specs.Reading.{u64_of}
use Rattle.values.specs.declared.peer.PeerMsg.{PeerMsg}
use Rattle.group_msgs.specs.declared.fault.PeerFault.{PeerFault}
use Rattle.group_msgs.specs.declared.fault.PeerFault.TheVariants.{Memory, Wire, Nothing, Range, Size, NotCanonical}
use Rattle.group_msgs.specs.Known.{Known, known_of}
use Rattle.group_msgs.specs.Reading.{wire_fault, member_of, listed_in}
use Rattle.group_msgs.specs.Rules.{range_fault}
use Rattle.group_msgs.specs.Values.{message_of}

-- the message, if no rule is broken
abbrev pub unless_broken : Option PeerFault → PeerMsg → Result PeerMsg PeerFault
unless_broken None msg = Ok msg
unless_broken (Some fault) msg = Err fault

abbrev pub checked : (term number : ℕ) → Known → List Known → Result PeerMsg PeerFault
checked term number x listed = unless_broken (range_fault term number x listed) (message_of term number x listed)

-- by the first fault of the wire format, the term and the member that stands last
abbrev pub peer_in : Option WireFault → (term : ℕ) → Option (ℕ × List Field) → Result PeerMsg PeerFault
peer_in (Some fault) term last = Err (Wire fault)
peer_in None term None = Err Nothing
peer_in None term (Some (number, fs)) = checked term number (known_of fs) (map known_of (listed_in number fs))

abbrev pub peer_from : Sequence → Result PeerMsg PeerFault
peer_from s = peer_in (wire_fault s) (u64_of 1 s.fields) (member_of s.fields)

-- the message that bytes stand for
abbrev pub peer_of : List ℕ → Result PeerMsg PeerFault
peer_of bytes = peer_from (sequence_at 0 bytes)

-- What is read is what the bytes stand for. Want of memory hides a value only, and no fault.
abbrev pub ReadsPeer : Result PeerMsg PeerFault → Result PeerMsg PeerFault → Type 0
ReadsPeer (Ok msg) read = read ≡ Ok msg
ReadsPeer (Err Memory) read = IsOk read
ReadsPeer (Err (Wire fault)) read = read ≡ Err (Wire fault)
ReadsPeer (Err Nothing) read = read ≡ Err Nothing
ReadsPeer (Err (Range field)) read = read ≡ Err (Range field)
ReadsPeer (Err (Size field size)) read = read ≡ Err (Size field size)
ReadsPeer (Err (NotCanonical place)) read = read ≡ Err (NotCanonical place)

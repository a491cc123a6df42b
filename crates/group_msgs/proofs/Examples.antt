-- The definitions, run on bytes.
use Rattle.std.specs.Prelude.{◌≡◌, [], ◌∷◌, ◌++◌, Ok, Err, refl, replicate, true}
use Rattle.proto_wire.specs.declared.field.WireFault.TheVariants.{Cut}
use Rattle.proto_wire.specs.Varint.{groups, number_in}
use Rattle.proto_wire.specs.Fields.{payload_field, field_at, sequence_behind}
use Rattle.values.specs.declared.peer.PeerMsg.TheVariants.{Vote, Rejected}
use Rattle.group_msgs.specs.declared.fault.PeerFault.TheVariants.{Wire, Nothing, Range, Size}
use Rattle.group_msgs.specs.Canonical.{canonical_peer}
use Rattle.group_msgs.specs.Peer.{peer_of}

canonical : canonical_peer (Vote 0 true) ≡ 26 ∷ 2 ∷ 8 ∷ 1 ∷ []
unfolding groups
canonical = refl

read : peer_of (26 ∷ 2 ∷ 8 ∷ 1 ∷ []) ≡ Ok (Vote 0 true)
unfolding number_in payload_field field_at sequence_behind
read = refl

-- a bool is any number but 0, the term may stand behind the member, and a member that stands twice is read on
read_otherwise : peer_of (50 ∷ 2 ∷ 8 ∷ 5 ∷ 50 ∷ 2 ∷ 16 ∷ 6 ∷ 8 ∷ 3 ∷ []) ≡ Ok (Rejected 3 5 6)
unfolding number_in payload_field field_at sequence_behind
read_otherwise = refl

granted_by_two : peer_of (26 ∷ 2 ∷ 8 ∷ 2 ∷ []) ≡ Ok (Vote 0 true)
unfolding number_in payload_field field_at sequence_behind
granted_by_two = refl

no_member : peer_of (8 ∷ 4 ∷ []) ≡ Err Nothing
unfolding number_in payload_field field_at sequence_behind
no_member = refl

-- an offset counts from the start, also inside an entry
cut_inside : peer_of (8 ∷ 1 ∷ 34 ∷ 4 ∷ 26 ∷ 2 ∷ 8 ∷ 128 ∷ []) ≡ Err (Wire (Cut 6))
unfolding number_in payload_field field_at sequence_behind
cut_inside = refl

no_hash : peer_of (34 ∷ 0 ∷ []) ≡ Err (Size 2 0)
unfolding number_in payload_field field_at sequence_behind
no_hash = refl

-- a margin of 1 needs three voters
margin : peer_of (34 ∷ 50 ∷ 18 ∷ 32 ∷ replicate 32 17 ++ (26 ∷ 14 ∷ 16 ∷ 2 ∷ 50 ∷ 8 ∷ 0 ∷ 0 ∷ 0 ∷ 1 ∷ 0 ∷ 0 ∷ 0 ∷ 2 ∷ 56 ∷ 1 ∷ [])) ≡ Err (Range 7)
unfolding number_in payload_field field_at sequence_behind
margin = refl

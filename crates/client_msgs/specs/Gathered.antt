-- What the readers gathered of a message, beside what its fields make of it.
use Rattle.std.specs.Prelude.{◌≡◌, ℕ, List, Option, None, Some, ⊤}
use Rattle.proto_wire.specs.Fields.{Field}
use Rattle.proto_wire.specs.Reading.{u64_of, bytes_of}
use Rattle.client_msgs.specs.declared.oneof.Member.{Member}

-- a member holds the values of these fields
pub record Holds (member : Member) (fs : List Field) : Type 0 where
  pub block_1 : member.block_1.now ≡ bytes_of 1 fs
  pub block_2 : member.block_2.now ≡ bytes_of 2 fs
  pub varint_1 : member.varint_1 ≡ u64_of 1 fs
  pub varint_3 : member.varint_3 ≡ u64_of 3 fs

-- the member is the one of this number and these fields, or there is none
abbrev pub IsLast : Option Member → Option (ℕ × List Field) → Type 0
IsLast None None = ⊤
IsLast None (Some last) = ⊥
IsLast (Some member) None = ⊥
IsLast (Some member) (Some (number, fs)) = (member.number ≡ number) × Holds member fs

-- Bytes as a sequence of fields.
use Rattle.std.specs.Prelude.{ℕ, zero, suc, ◌+◌, ◌-◌, ◌/◌, ◌%◌, List, [], ◌∷◌, length, take, drop, Option, None, Some, Result, Ok, Err, nat_lt, ◌==◌, ◌||◌, if◌then◌else◌}
use Rattle.proto_wire.specs.declared.field.WireFault.{WireFault}
use Rattle.proto_wire.specs.declared.field.WireFault.TheVariants.{Cut, FieldZero, GroupWire, BadWire}
use Rattle.proto_wire.specs.declared.field.Payload.{Payload}
use Rattle.proto_wire.specs.declared.field.Payload.TheVariants as payloads
use Rattle.proto_wire.specs.declared.field.WireField.{WireField}
use Rattle.proto_wire.specs.Steps.{◌>>=◌}
use Rattle.proto_wire.specs.Varint.{varint_at}

-- what a field holds
pub data Content : Type 0 where
  Varint : ℕ → Content
  Eight : List ℕ → Content
  Block : List ℕ → Content
  Four : List ℕ → Content

-- a field, with the offsets of its tag, of its content and of what follows it
pub record Field : Type 0 where
  pub number : ℕ
  pub content : Content
  pub at : ℕ
  pub content_at : ℕ
  pub next : ℕ

-- The first n bytes, for a field whose tag stands at an offset.
abbrev pub front : (at n : ℕ) → List ℕ → Result (List ℕ) WireFault
front at n bytes = if nat_lt (length bytes) n then Err (Cut at) else Ok (take n bytes)

-- The field of a number and a wire type whose tag stands at an offset, and whose payload at the front
-- of the bytes, at an offset of its own.
unfoldable pub payload_field : (number wire at start : ℕ) → List ℕ → Result Field WireFault
payload_field number wire at start bytes =
    if wire == 0 then (do
      v ← varint_at at bytes
      Ok (record { number = number; content = Varint v.0; at = at; content_at = start; next = start + v.1 }))
    else if wire == 1 then (do
      x ← front at 8 bytes
      Ok (record { number = number; content = Eight x; at = at; content_at = start; next = start + 8 }))
    else if wire == 2 then (do
      n ← varint_at at bytes
      x ← front at n.0 (drop n.1 bytes)
      Ok (record { number = number; content = Block x; at = at; content_at = start + n.1; next = start + n.1 + n.0 }))
    else if wire == 5 then (do
      x ← front at 4 bytes
      Ok (record { number = number; content = Four x; at = at; content_at = start; next = start + 4 }))
    else if wire == 3 || wire == 4 then Err (GroupWire at)
    else Err (BadWire at)

-- the field at the front of the bytes, which stand at an offset
unfoldable pub field_at : (at : ℕ) → List ℕ → Result Field WireFault
field_at at bytes = do
  tag ← varint_at at bytes
  if tag.0 / 8 == 0 then Err (FieldZero at) else payload_field (tag.0 / 8) (tag.0 % 8) at (at + tag.1) (drop tag.1 bytes)

-- what bytes are cut into: the fields one after the other, and the fault that ends them, if one does
pub record Sequence : Type 0 where
  pub fields : List Field
  pub fault : Option WireFault

abbrev pub nothing : Sequence
nothing = record { fields = []; fault = None }

abbrev pub field_before : Field → Sequence → Sequence
field_before f rest = record { fields = f ∷ rest.fields; fault = rest.fault }

-- a field and what comes behind it, or a fault, behind which nothing comes
abbrev pub then_more : Result Field WireFault → (Field → Sequence) → Sequence
then_more (Err e) more = record { fields = []; fault = Some e }
then_more (Ok f) more = field_before f (more f)

-- The sequence of bytes that stand at an offset, the first so many of which still belong to the field
-- before them.
unfoldable pub sequence_behind : (inside at : ℕ) → List ℕ → Sequence
sequence_behind inside at [] = nothing
sequence_behind (suc inside) at (b ∷ bytes) = sequence_behind inside (at + 1) bytes
sequence_behind zero at (b ∷ bytes) = then_more (field_at at (b ∷ bytes)) (λ f. sequence_behind (f.next - (at + 1)) (at + 1) bytes)

-- the sequence of bytes that stand at an offset
abbrev pub sequence_at : (at : ℕ) → List ℕ → Sequence
sequence_at at bytes = sequence_behind 0 at bytes

-- the fields of a message, or the first fault
abbrev pub all_fields : Sequence → Result (List Field) WireFault
all_fields s = whole s.fault
  where
    whole : Option WireFault → Result (List Field) WireFault
    whole None = Ok s.fields
    whole (Some e) = Err e

abbrev pub fields_of : List ℕ → Result (List Field) WireFault
fields_of bytes = all_fields (sequence_at 0 bytes)

-- a field that was read, without where it lies in memory
abbrev pub content_of : Payload → Content
content_of (payloads.Varint n) = Varint n
content_of (payloads.Eight x) = Eight x.now
content_of (payloads.Block x) = Block x.now
content_of (payloads.Four x) = Four x.now

abbrev pub field_of : WireField → Field
field_of f = record { number = f.number; content = content_of f.payload; at = f.at; content_at = f.content_at; next = f.next }

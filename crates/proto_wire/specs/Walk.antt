-- Walking through bytes field by field.
use Rattle.std.specs.Prelude.{◌≡◌, ℕ, ◌≤◌, ◌<◌, List, length, drop, Option, None, Some, Result, Ok, Err, ⊤}
use Rattle.proto_wire.specs.declared.field.WireFault.{WireFault}
use Rattle.proto_wire.specs.declared.field.Payload.{Payload}
use Rattle.proto_wire.specs.declared.field.Payload.TheVariants as payloads
use Rattle.proto_wire.specs.declared.field.WireField.{WireField}
use Rattle.proto_wire.specs.Fields.{field_of, field_at, nothing, then_more, sequence_at}

-- what was read is what stands there
abbrev pub Reads : {X Y : Type 0} → (X → Y) → Result X WireFault → Result Y WireFault → Type 0
Reads view (Ok x) read = read ≡ Ok (view x)
Reads view (Err e) read = read ≡ Err e

-- the same of a field that may be missing at the end, at an offset of the bytes
abbrev pub ReadsField : Result (Option WireField) WireFault → ℕ → List ℕ → Type 0
ReadsField (Ok None) at bytes = at ≡ length bytes
ReadsField (Ok (Some f)) at bytes = field_at at (drop at bytes) ≡ Ok (field_of f)
ReadsField (Err e) at bytes = (at < length bytes) × (field_at at (drop at bytes) ≡ Err e)

-- the sequence from an offset on begins with the field that was read, and goes on behind it
abbrev pub LeadsOn : Result (Option WireField) WireFault → ℕ → List ℕ → Type 0
LeadsOn (Ok None) at bytes = sequence_at at (drop at bytes) ≡ nothing
LeadsOn (Ok (Some f)) at bytes = sequence_at at (drop at bytes) ≡ then_more (Ok (field_of f)) (λ _. sequence_at f.next (drop f.next bytes))
LeadsOn (Err e) at bytes = sequence_at at (drop at bytes) ≡ then_more (Err e) (λ _. nothing)

-- where the content and the next field stand
pub record IsWithin (f : WireField) (bytes : List ℕ) : Type 0 where
  pub behind_tag : f.at < f.content_at
  pub in_order : f.content_at ≤ f.next
  pub within : f.next ≤ length bytes

-- the content is the slice from its offset to the next field
abbrev pub IsSlice : Payload → List ℕ → Type 0
IsSlice (payloads.Varint n) slice = ⊤
IsSlice (payloads.Eight x) slice = x.now ≡ slice
IsSlice (payloads.Block x) slice = x.now ≡ slice
IsSlice (payloads.Four x) slice = x.now ≡ slice

-- A member that stands in the bytes, and what stands last behind it.
use Rattle.std.proofs.Common.{◌≡◌, ℕ, ◌+◌, ◌-◌, ◌≤◌, true, List, [], ◌∷◌, ◌++◌, drop, take, Some, sym, ap, subst, ◌∙◌, arith}
use Rattle.std.specs.Prelude.{is_some, nat_le, ◌&&◌, slice_range}
use Rattle.std.proofs.lemmas.Bool.{and_parts}
use Rattle.std.proofs.lemmas.List.{drop-take}
use Rattle.proto_wire.specs.declared.field.Payload.{Payload}
use Rattle.proto_wire.specs.declared.field.Payload.TheVariants as payloads
use Rattle.proto_wire.specs.declared.field.WireField.{WireField}
use Rattle.proto_wire.specs.Fields.{Field, content_of, field_of, sequence_at}
use Rattle.proto_wire.specs.Walk.{IsSlice}
use Rattle.proto_wire.specs.Reading.{block_in, embedded, is_member, last_member, run_so_far}
use Rattle.proto_wire.proofs.OneofLemmas.{last_member-push}
use Rattle.client_msgs.specs.declared.oneof.Member.{Member}
use Rattle.client_msgs.specs.Gathered.{Holds, IsLast}

embedded_block : (p : Payload) (number at content_at next : ℕ) (slice : List ℕ) → is_some (block_in (content_of p)) ≡ true → IsSlice p slice
    → embedded (record { number = number; content = content_of p; at = at; content_at = content_at; next = next }) ≡ sequence_at content_at slice
embedded_block (payloads.Varint n) number at content_at next slice block is = absurd cc
embedded_block (payloads.Eight x) number at content_at next slice block is = absurd cc
embedded_block (payloads.Block x) number at content_at next slice block is = ap (sequence_at content_at) is
embedded_block (payloads.Four x) number at content_at next slice block is = absurd cc

-- the sequence of a member is that of the bytes up to its end, from its content on
pub embedded-member : (low high : ℕ) (f : WireField) (bytes : List ℕ) → is_member low high (field_of f) ≡ true → f.content_at ≤ f.next → IsSlice f.payload (slice_range bytes f.content_at f.next)
    → embedded (field_of f) ≡ sequence_at f.content_at (drop f.content_at (take f.next bytes))
embedded-member low high f bytes member in_order is =
    let block : is_some (block_in (content_of f.payload)) ≡ true = (and_parts (nat_le low f.number && nat_le f.number high) (is_some (block_in (content_of f.payload))) member).1 in
    let end : f.content_at + (f.next - f.content_at) ≡ f.next = omega arith in
    let front : drop f.content_at (take f.next bytes) ≡ slice_range bytes f.content_at f.next =
    ap (λ (n : ℕ). drop f.content_at (take n bytes)) (sym end) ∙ drop-take f.content_at (f.next - f.content_at) bytes in
    embedded_block f.payload f.number f.at f.content_at f.next (slice_range bytes f.content_at f.next) block is ∙ ap (sequence_at f.content_at) (sym front)

-- behind a member that was read on stands that member
pub IsLast-member : (low high : ℕ) (member : Member) (fs : List Field) (f : Field) → is_member low high f ≡ true → member.number ≡ f.number
    → Holds member (run_so_far (last_member low high fs) f.number ++ (embedded f).fields) → IsLast (Some member) (last_member low high (fs ++ f ∷ []))
IsLast-member low high member fs f is number holds = subst (IsLast (Some member)) (sym (last_member-push low high fs f is)) (number, holds)

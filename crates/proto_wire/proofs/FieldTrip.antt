-- Fields that are written are read again, one after the other.
use Rattle.std.proofs.Common.{◌≡◌, ℕ, zero, suc, ◌+◌, ◌-◌, ◌*◌, ◌/◌, ◌%◌, ◌^◌, ◌<◌, ◌≤◌, false, List, [], ◌∷◌, ◌++◌, length, ltb, eqb, None, Result, Ok, refl, sym, ap, ◌∙◌, append_assoc, arith}
use Rattle.std.proofs.lemmas.Bool.{le-ltb, ne_eqb}
use Rattle.std.proofs.lemmas.List.{length-append, append-nil, take_at, drop_at}
use Rattle.proto_wire.specs.declared.field.WireFault.{WireFault}
use Rattle.proto_wire.specs.Varint.{varint}
use Rattle.proto_wire.specs.Fields.{Field, payload_field, field_at, Sequence, then_more, sequence_behind, sequence_at}
use Rattle.proto_wire.specs.Written.{IsNumber, tag, varint_field, block_field, message_field, varint_read, block_read, varints_read, blocks_read}
use Rattle.proto_wire.proofs.RoundTrip.{varint_at-varint, groups-some, groups-few}
use Rattle.proto_wire.proofs.WalkLemmas.{sequence_behind-inside}

-- the field of a tag that was written, if its payload is this one
field_at-tag : (at number wire : ℕ) (bytes : List ℕ) → IsNumber number → wire < 8 → field_at at (tag number wire ++ bytes) ≡ payload_field number wire at (at + length (tag number wire)) bytes
unfolding field_at
field_at-tag at number wire bytes is few =
    let t = 8 * number + wire in
    let number-is : t / 8 ≡ number = omega (arith, is.0, is.1) in
    let wire-is : t % 8 ≡ wire = omega (arith, is.0, is.1) in
    let some : eqb number 0 ≡ false = ne_eqb number 0 (λ zero-is. omega (arith, is.0, zero-is)) in
    rw (varint_at-varint at t bytes (omega (arith, is.0, is.1)), number-is, wire-is, some, drop_at (varint t) bytes (length (varint t)) refl) refl

pub field_at-varint : (at number n : ℕ) (rest : List ℕ) → IsNumber number → n < 2 ^ 64 → field_at at ((tag number 0 ++ varint n) ++ rest) ≡ Ok (varint_read at number n)
unfolding payload_field
field_at-varint at number n rest is below =
    ap (field_at at) (append_assoc (tag number 0) (varint n) rest) ∙ field_at-tag at number 0 (varint n ++ rest) is (omega arith) ∙ rw (varint_at-varint at n rest below) refl

pub field_at-message : (at number : ℕ) (bytes rest : List ℕ) → IsNumber number → length bytes < 2 ^ 64 → field_at at (message_field number bytes ++ rest) ≡ Ok (block_read at number bytes)
unfolding payload_field
field_at-message at number bytes rest is below =
    let size = varint (length bytes) in
    let regrouped : message_field number bytes ++ rest ≡ tag number 2 ++ (size ++ (bytes ++ rest)) = append_assoc (tag number 2 ++ size) bytes rest ∙ append_assoc (tag number 2) size (bytes ++ rest) in
    let long : ltb (length (bytes ++ rest)) (length bytes) ≡ false = le-ltb _ _ (omega (arith, length-append bytes rest)) in
    ap (field_at at) regrouped ∙ field_at-tag at number 2 (size ++ (bytes ++ rest)) is (omega arith) ∙ rw (varint_at-varint at (length bytes) (bytes ++ rest) below, drop_at size (bytes ++ rest) (length size) refl, long, take_at bytes rest (length bytes) refl) refl

-- ---- one after the other

-- bytes that at an offset are these fields, whatever stands behind them
pub record Spells (at : ℕ) (bytes : List ℕ) (fs : List Field) : Type 0 where
  pub fields : (rest : List ℕ) → (sequence_at at (bytes ++ rest)).fields ≡ fs ++ (sequence_at (at + length bytes) rest).fields
  pub fault : (rest : List ℕ) → (sequence_at at (bytes ++ rest)).fault ≡ (sequence_at (at + length bytes) rest).fault

pub Spells-nil : (at : ℕ) → Spells at [] []
Spells-nil at =
    let here : at ≡ at + 0 = omega arith in
    record { fields = λ rest. ap (λ (n : ℕ). (sequence_at n rest).fields) here; fault = λ rest. ap (λ (n : ℕ). (sequence_at n rest).fault) here }

pub Spells-append : (at : ℕ) (x y : List ℕ) (fs gs : List Field) → Spells at x fs → Spells (at + length x) y gs → Spells at (x ++ y) (fs ++ gs)
Spells-append at x y fs gs p q =
    let end : (at + length x) + length y ≡ at + length (x ++ y) = omega (arith, length-append x y) in
    record {
      fields = λ rest. ap (λ (b : List ℕ). (sequence_at at b).fields) (append_assoc x y rest) ∙ p.fields (y ++ rest) ∙ ap (λ (hs : List Field). fs ++ hs) (q.fields rest ∙ ap (λ (n : ℕ). gs ++ (sequence_at n rest).fields) end)
          ∙ sym (append_assoc fs gs (sequence_at (at + length (x ++ y)) rest).fields);
      fault = λ rest. ap (λ (b : List ℕ). (sequence_at at b).fault) (append_assoc x y rest) ∙ p.fault (y ++ rest) ∙ q.fault rest ∙ ap (λ (n : ℕ). (sequence_at n rest).fault) end;
    }

front_field : (at : ℕ) (bytes rest : List ℕ) (f : Field) → field_at at (bytes ++ rest) ≡ Ok f → f.next ≡ at + length bytes → 0 < length bytes
    → sequence_at at (bytes ++ rest) ≡ then_more (Ok f) (λ _. sequence_at (at + length bytes) rest)
unfolding sequence_behind
front_field at [] rest f is next some = absurd (omega arith)
front_field at (b ∷ bytes) rest f is next some =
    let more = λ (g : Field). sequence_behind (g.next - (at + 1)) (at + 1) (bytes ++ rest) in
    let inside : f.next - (at + 1) ≡ length bytes = omega (arith, next) in
    let end : (at + 1) + length bytes ≡ at + length (b ∷ bytes) = omega arith in
    let on : more f ≡ sequence_at (at + length (b ∷ bytes)) rest =
    ap (λ (k : ℕ). sequence_behind k (at + 1) (bytes ++ rest)) inside ∙ sequence_behind-inside (length bytes) (at + 1) (bytes ++ rest) ∙ ap (sequence_behind 0 ((at + 1) + length bytes)) (drop_at bytes rest (length bytes) refl)
    ∙ ap (λ (n : ℕ). sequence_behind 0 n rest) end in
    ap (λ (r : Result Field WireFault). then_more r more) is ∙ ap (λ (s : Sequence). record { fields = f ∷ s.fields; fault = s.fault }) on

pub Spells-field : (at : ℕ) (bytes : List ℕ) (f : Field) → ((rest : List ℕ) → field_at at (bytes ++ rest) ≡ Ok f) → f.next ≡ at + length bytes → 0 < length bytes → Spells at bytes (f ∷ [])
Spells-field at bytes f is next some = record {
  fields = λ rest. ap (λ (s : Sequence). s.fields) (front_field at bytes rest f (is rest) next some);
  fault = λ rest. ap (λ (s : Sequence). s.fault) (front_field at bytes rest f (is rest) next some);
}

-- all of the bytes
pub Spells-whole : (at : ℕ) (bytes : List ℕ) (fs : List Field) → Spells at bytes fs → ((sequence_at at bytes).fields ≡ fs) × ((sequence_at at bytes).fault ≡ None)
unfolding sequence_behind
Spells-whole at bytes fs spells = (
  ap (λ (b : List ℕ). (sequence_at at b).fields) (sym (append-nil bytes)) ∙ spells.fields [] ∙ append-nil fs,
  ap (λ (b : List ℕ). (sequence_at at b).fault) (sym (append-nil bytes)) ∙ spells.fault [],
)

pub Spells-varint : (at number n : ℕ) → IsNumber number → n < 2 ^ 64 → Spells at (varint_field number n) (varints_read at number n)
Spells-varint at number zero is below = Spells-nil at
Spells-varint at number (suc n) is below =
    let long = length-append (tag number 0) (varint (suc n)) in
    Spells-field at (tag number 0 ++ varint (suc n)) (varint_read at number (suc n)) (λ rest. field_at-varint at number (suc n) rest is below) (omega (arith, long)) (omega (arith, long, groups-some 9 (8 * number + 0)))

pub Spells-message : (at number : ℕ) (bytes : List ℕ) → IsNumber number → length bytes < 2 ^ 64 → Spells at (message_field number bytes) (block_read at number bytes ∷ [])
Spells-message at number bytes is below =
    let long = length-append (tag number 2 ++ varint (length bytes)) bytes in
    let front = length-append (tag number 2) (varint (length bytes)) in
    Spells-field at (message_field number bytes) (block_read at number bytes) (λ rest. field_at-message at number bytes rest is below) (omega (arith, long, front)) (omega (arith, long, front, groups-some 9 (8 * number + 2)))

pub Spells-block : (at number : ℕ) (bytes : List ℕ) → IsNumber number → length bytes < 2 ^ 64 → Spells at (block_field number bytes) (blocks_read at number bytes)
Spells-block at number [] is below = Spells-nil at
Spells-block at number (b ∷ bytes) is below = Spells-message at number (b ∷ bytes) is below

-- how long fields can be
pub varint_field-few : (number n : ℕ) → length (varint_field number n) ≤ 20
varint_field-few number zero = omega arith
varint_field-few number (suc n) = omega (arith, length-append (tag number 0) (varint (suc n)), groups-few 9 (8 * number + 0), groups-few 9 (suc n))

pub message_field-few : (number : ℕ) (bytes : List ℕ) → length (message_field number bytes) ≤ 20 + length bytes
message_field-few number bytes =
    omega (arith, length-append (tag number 2 ++ varint (length bytes)) bytes, length-append (tag number 2) (varint (length bytes)), groups-few 9 (8 * number + 2), groups-few 9 (length bytes))

pub block_field-few : (number : ℕ) (bytes : List ℕ) → length (block_field number bytes) ≤ 20 + length bytes
block_field-few number [] = omega arith
block_field-few number (b ∷ bytes) = message_field-few number (b ∷ bytes)

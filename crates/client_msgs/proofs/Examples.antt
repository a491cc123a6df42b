-- The definitions, run on bytes.
use Rattle.std.specs.Prelude.{◌≡◌, ℕ, List, [], ◌∷◌, ◌++◌, Ok, Err, refl, replicate}
use Rattle.proto_wire.specs.declared.field.WireFault.TheVariants.{Cut, FieldZero}
use Rattle.proto_wire.specs.Varint.{groups, number_in}
use Rattle.proto_wire.specs.Fields.{payload_field, field_at, sequence_behind}
use Rattle.values.specs.declared.message.Part.TheVariants.{Secret, Pin, Tries}
use Rattle.values.specs.declared.message.Request.{Request}
use Rattle.values.specs.declared.message.Request.TheVariants.{Backup}
use Rattle.values.specs.declared.message.Response.TheVariants as responses
use Rattle.client_msgs.specs.declared.fault.RequestFault.TheVariants.{Wire, Nothing, Size}
use Rattle.client_msgs.specs.Canonical.{canonical_request, canonical_response}
use Rattle.client_msgs.specs.Reading.{request_of, response_of}

abbrev secret : List ℕ
secret = replicate 16 170

abbrev pin : List ℕ
pin = replicate 32 17

abbrev backup : Request
backup = Backup secret (record { 0 = pin }) 3

abbrev backup_bytes : List ℕ
backup_bytes = 18 ∷ 54 ∷ 10 ∷ 16 ∷ secret ++ (18 ∷ 32 ∷ pin ++ (24 ∷ 3 ∷ []))

canonical : canonical_request backup ≡ backup_bytes
unfolding groups
canonical = refl

read : request_of backup_bytes ≡ Ok backup
unfolding number_in payload_field field_at sequence_behind
read = refl

-- another order, an unknown field, the tries twice
read_otherwise : request_of (18 ∷ 58 ∷ 24 ∷ 7 ∷ 18 ∷ 32 ∷ pin ++ (80 ∷ 1 ∷ 10 ∷ 16 ∷ secret ++ (24 ∷ 3 ∷ []))) ≡ Ok backup
unfolding number_in payload_field field_at sequence_behind
read_otherwise = refl

-- a member that stands twice in a row is merged, and one behind another member begins empty
merged : request_of (18 ∷ 18 ∷ 10 ∷ 16 ∷ secret ++ (18 ∷ 36 ∷ 18 ∷ 32 ∷ pin ++ (24 ∷ 3 ∷ []))) ≡ Ok backup
unfolding number_in payload_field field_at sequence_behind
merged = refl

replaced : request_of (18 ∷ 18 ∷ 10 ∷ 16 ∷ secret ++ (34 ∷ 0 ∷ 18 ∷ 36 ∷ 18 ∷ 32 ∷ pin ++ (24 ∷ 3 ∷ []))) ≡ Err (Size Secret 0)
unfolding number_in payload_field field_at sequence_behind
replaced = refl

nothing : request_of [] ≡ Err Nothing
unfolding sequence_behind
nothing = refl

cut_inside : request_of (18 ∷ 2 ∷ 10 ∷ 5 ∷ []) ≡ Err (Wire (Cut 2))
unfolding number_in payload_field field_at sequence_behind
cut_inside = refl

cut : request_of (18 ∷ 5 ∷ 10 ∷ []) ≡ Err (Wire (Cut 0))
unfolding number_in payload_field field_at sequence_behind
cut = refl

-- a fault inside a member that is replaced later comes first
first : request_of (18 ∷ 1 ∷ 128 ∷ 34 ∷ 0 ∷ 3 ∷ 0 ∷ []) ≡ Err (Wire (Cut 2))
unfolding number_in payload_field field_at sequence_behind
first = refl

second : request_of (18 ∷ 0 ∷ 34 ∷ 0 ∷ 3 ∷ 0 ∷ []) ≡ Err (Wire (FieldZero 4))
unfolding number_in payload_field field_at sequence_behind
second = refl

tries : request_of (18 ∷ 55 ∷ 10 ∷ 16 ∷ secret ++ (18 ∷ 32 ∷ pin ++ (24 ∷ 128 ∷ 2 ∷ []))) ≡ Err (Size Tries 256)
unfolding number_in payload_field field_at sequence_behind
tries = refl

short_pin : request_of (18 ∷ 53 ∷ 10 ∷ 16 ∷ secret ++ (18 ∷ 31 ∷ replicate 31 17 ++ (24 ∷ 3 ∷ []))) ≡ Err (Size Pin 31)
unfolding number_in payload_field field_at sequence_behind
short_pin = refl

-- a number of 32 bits keeps the low ones of its varint
low_bits : response_of (10 ∷ 6 ∷ 8 ∷ 129 ∷ 128 ∷ 128 ∷ 128 ∷ 16 ∷ []) ≡ Ok (responses.Backup 1)
unfolding number_in payload_field field_at sequence_behind
low_bits = refl

restored : response_of (18 ∷ 8 ∷ 8 ∷ 3 ∷ 18 ∷ 2 ∷ 5 ∷ 6 ∷ 24 ∷ 2 ∷ []) ≡ Ok (responses.Restore 3 (5 ∷ 6 ∷ []) 2)
unfolding number_in payload_field field_at sequence_behind
restored = refl

canonical_mismatch : canonical_response (responses.Restore 3 [] 2) ≡ 18 ∷ 4 ∷ 8 ∷ 3 ∷ 24 ∷ 2 ∷ []
unfolding groups
canonical_mismatch = refl

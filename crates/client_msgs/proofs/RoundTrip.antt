-- What a value is written as is read as that value.
use Rattle.std.proofs.Common.{◌≡◌, ℕ, zero, suc, ◌+◌, ◌%◌, ◌^◌, ◌<◌, true, List, [], ◌∷◌, ◌++◌, length, Option, None, Some, Ok, refl, ap, ◌∙◌, arith}
use Rattle.std.specs.Prelude.{nat_le, ◌&&◌, slice_get}
use Rattle.std.specs.Option.{option_to_list}
use Rattle.std.specs.List.{filter_map, cons_option}
use Rattle.std.proofs.lemmas.Bool.{cond-true, and_from}
use Rattle.std.proofs.lemmas.List.{length-append}
use Rattle.proto_wire.specs.declared.field.WireFault.{WireFault}
use Rattle.proto_wire.specs.Varint.{varint}
use Rattle.proto_wire.specs.Fields.{Field, sequence_at}
use Rattle.proto_wire.specs.Written.{IsNumber, tag, varint_field, block_field, message_field, block_read, varints_read, blocks_read}
use Rattle.proto_wire.specs.Reading.{is_member, last_member, member_fault, first_fault}
use Rattle.proto_wire.proofs.FieldTrip.{Spells, Spells-nil, Spells-append, Spells-varint, Spells-block, Spells-message, Spells-whole, varint_field-few, block_field-few}
use Rattle.proto_wire.proofs.OneofLemmas.{last_member-push}
use Rattle.values.specs.declared.message.Part.{Part}
use Rattle.values.specs.declared.message.Request.{Request}
use Rattle.values.specs.declared.message.Request.TheVariants as requests
use Rattle.values.specs.declared.message.Response.{Response}
use Rattle.values.specs.declared.message.Response.TheVariants as responses
use Rattle.client_msgs.specs.Canonical.{canonical_request, canonical_response}
use Rattle.values.specs.Sizes.{IsValid}
use Rattle.client_msgs.specs.Sizes.{size_fault, FitsRequest, FitsResponse}
use Rattle.client_msgs.proofs.SizesLemmas.{size_fault-none}
use Rattle.client_msgs.specs.Reading.{request_from, if_sized, sized, request_in, request_of, response_from, response_in, response_of}

-- where the content of the one member stands
abbrev content_at : ℕ → List ℕ → ℕ
content_at number inner = 0 + length (tag number 2) + length (varint (length inner))

-- a message of one member stands for that member
record StandsFor (low high number : ℕ) (inner : List ℕ) (gs : List Field) : Type 0 where
  fault : first_fault low high (sequence_at 0 (message_field number inner)) ≡ None
  last : last_member low high (sequence_at 0 (message_field number inner)).fields ≡ Some (number, gs)

one_member : (low high number : ℕ) (inner : List ℕ) (gs : List Field) → IsNumber number → (nat_le low number && nat_le number high) ≡ true → length inner < 2 ^ 64
    → Spells (content_at number inner) inner gs → StandsFor low high number inner gs
one_member low high number inner gs is known short spells =
    let f = block_read 0 number inner in
    let outer = Spells-whole 0 (message_field number inner) (f ∷ []) (Spells-message 0 number inner is short) in
    let inside = Spells-whole (content_at number inner) inner gs spells in
    let member : is_member low high f ≡ true = and_from (nat_le low number && nat_le number high) true known refl in
    let last : last_member low high (f ∷ []) ≡ Some (number, gs) = last_member-push low high [] f member ∙ ap (λ (hs : List Field). Some (number, hs)) inside.0 in
    let no_fault : member_fault low high f ≡ None = cond-true (is_member low high f) _ _ member ∙ inside.1 in
    let faults : filter_map (member_fault low high) (sequence_at 0 (message_field number inner)).fields ≡ [] = ap (filter_map (member_fault low high)) outer.0 ∙ ap (λ (o : Option WireFault). cons_option o []) no_fault in
    record {
      fault = ap (λ (es : List WireFault). slice_get (es ++ option_to_list (sequence_at 0 (message_field number inner)).fault) 0) faults ∙ ap (λ (o : Option WireFault). slice_get (option_to_list o) 0) outer.1;
      last = ap (last_member low high) outer.0 ∙ last;
    }

-- ---- what the fields hold

abbrev backup_read : (at at' at'' : ℕ) (secret pin : List ℕ) (tries : ℕ) → List Field
backup_read at at' at'' secret pin tries = blocks_read at 1 secret ++ blocks_read at' 2 pin ++ varints_read at'' 3 tries

backup_from : (at at' at'' : ℕ) (secret pin : List ℕ) (tries : ℕ) → request_from 2 (backup_read at at' at'' secret pin tries) ≡ requests.Backup secret (record { 0 = pin }) (tries % 2 ^ 32)
backup_from at at' at'' [] [] zero = refl
backup_from at at' at'' [] (p ∷ pin) zero = refl
backup_from at at' at'' (s ∷ secret) [] zero = refl
backup_from at at' at'' (s ∷ secret) (p ∷ pin) zero = refl
backup_from at at' at'' [] [] (suc n) = refl
backup_from at at' at'' [] (p ∷ pin) (suc n) = refl
backup_from at at' at'' (s ∷ secret) [] (suc n) = refl
backup_from at at' at'' (s ∷ secret) (p ∷ pin) (suc n) = refl

restore_from : (at : ℕ) (pin : List ℕ) → request_from 3 (blocks_read at 1 pin) ≡ requests.Restore (record { 0 = pin })
restore_from at [] = refl
restore_from at (p ∷ pin) = refl

expose_from : (at : ℕ) (secret : List ℕ) → request_from 5 (blocks_read at 1 secret) ≡ requests.Expose secret
expose_from at [] = refl
expose_from at (s ∷ secret) = refl

abbrev restore_read : (at at' at'' status : ℕ) (secret : List ℕ) (tries : ℕ) → List Field
restore_read at at' at'' status secret tries = varints_read at 1 status ++ blocks_read at' 2 secret ++ varints_read at'' 3 tries

restored_from : (at at' at'' status : ℕ) (secret : List ℕ) (tries : ℕ) → response_from 2 (restore_read at at' at'' status secret tries) ≡ responses.Restore (status % 2 ^ 32) secret (tries % 2 ^ 32)
restored_from at at' at'' zero [] zero = refl
restored_from at at' at'' zero [] (suc n) = refl
restored_from at at' at'' zero (s ∷ secret) zero = refl
restored_from at at' at'' zero (s ∷ secret) (suc n) = refl
restored_from at at' at'' (suc m) [] zero = refl
restored_from at at' at'' (suc m) [] (suc n) = refl
restored_from at at' at'' (suc m) (s ∷ secret) zero = refl
restored_from at at' at'' (suc m) (s ∷ secret) (suc n) = refl

backed_up_from : (at status : ℕ) → response_from 1 (varints_read at 1 status) ≡ responses.Backup (status % 2 ^ 32)
backed_up_from at zero = refl
backed_up_from at (suc m) = refl

exposed_from : (at status : ℕ) → response_from 4 (varints_read at 1 status) ≡ responses.Expose (status % 2 ^ 32)
exposed_from at zero = refl
exposed_from at (suc m) = refl

-- ---- requests

request_again : (number : ℕ) (inner : List ℕ) (gs : List Field) (request : Request) → StandsFor 2 5 number inner gs → request_from number gs ≡ request → size_fault request ≡ None → request_of (message_field number inner) ≡ Ok request
request_again number inner gs request stands is none =
    ap (λ (fault : Option WireFault). request_in fault (last_member 2 5 (sequence_at 0 (message_field number inner)).fields)) stands.fault ∙ ap (request_in None) stands.last ∙ ap sized is ∙ ap (λ (fault : Option (Part × ℕ)). if_sized fault request) none

pub request_of-canonical : (request : Request) → IsValid request → FitsRequest request → request_of (canonical_request request) ≡ Ok request
request_of-canonical (requests.Backup secret pin tries) valid pin_is =
    let secret_in = valid.0 in
    let tries_in = valid.1 in
    let x = block_field 1 secret in
    let y = block_field 2 pin.0 in
    let inner = x ++ y ++ varint_field 3 tries in
    let at = content_at 2 inner in
    let low : tries % 2 ^ 32 ≡ tries = omega arith in
    let spells = Spells-append at (x ++ y) (varint_field 3 tries) _ _
    (Spells-append at x y _ _ (Spells-block at 1 secret (omega arith, omega arith) (omega arith)) (Spells-block (at + length x) 2 pin.0 (omega arith, omega arith) (omega arith)))
    (Spells-varint (at + length (x ++ y)) 3 tries (omega arith, omega arith) (omega arith)) in
    let short : length inner < 2 ^ 64 = omega (arith, length-append (x ++ y) (varint_field 3 tries), length-append x y, block_field-few 1 secret, block_field-few 2 pin.0, varint_field-few 3 tries) in
    request_again 2 inner _ (requests.Backup secret pin tries) (one_member 2 5 2 inner _ (omega arith, omega arith) refl short spells)
    (backup_from at (at + length x) (at + length (x ++ y)) secret pin.0 tries ∙ ap (λ (n : ℕ). requests.Backup secret pin n) low) (size_fault-none (requests.Backup secret pin tries) valid pin_is)
request_of-canonical (requests.Restore pin) valid pin_is =
    let inner = block_field 1 pin.0 in
    let at = content_at 3 inner in
    let short : length inner < 2 ^ 64 = omega (arith, block_field-few 1 pin.0) in
    request_again 3 inner _ (requests.Restore pin) (one_member 2 5 3 inner _ (omega arith, omega arith) refl short (Spells-block at 1 pin.0 (omega arith, omega arith) (omega arith))) (restore_from at pin.0)
    (size_fault-none (requests.Restore pin) valid pin_is)
request_of-canonical requests.Delete valid pin_is =
    request_again 4 [] [] requests.Delete (one_member 2 5 4 [] [] (omega arith, omega arith) refl (omega arith) (Spells-nil (content_at 4 []))) refl refl
request_of-canonical (requests.Expose secret) valid pin_is =
    let inner = block_field 1 secret in
    let at = content_at 5 inner in
    let short : length inner < 2 ^ 64 = omega (arith, block_field-few 1 secret) in
    request_again 5 inner _ (requests.Expose secret) (one_member 2 5 5 inner _ (omega arith, omega arith) refl short (Spells-block at 1 secret (omega arith, omega arith) (omega arith))) (expose_from at secret)
    (size_fault-none (requests.Expose secret) valid pin_is)

-- ---- responses

response_again : (number : ℕ) (inner : List ℕ) (gs : List Field) (response : Response) → StandsFor 1 4 number inner gs → response_from number gs ≡ response → response_of (message_field number inner) ≡ Ok response
response_again number inner gs response stands is =
    ap (λ (fault : Option WireFault). response_in fault (last_member 1 4 (sequence_at 0 (message_field number inner)).fields)) stands.fault ∙ ap (response_in None) stands.last ∙ ap (λ (r : Response). Ok r) is

pub response_of-canonical : (response : Response) → FitsResponse response → response_of (canonical_response response) ≡ Ok response
response_of-canonical (responses.Backup status) fits =
    let low : status % 2 ^ 32 ≡ status = omega arith in
    let inner = varint_field 1 status in
    let at = content_at 1 inner in
    let short : length inner < 2 ^ 64 = omega (arith, varint_field-few 1 status) in
    response_again 1 inner _ (responses.Backup status) (one_member 1 4 1 inner _ (omega arith, omega arith) refl short (Spells-varint at 1 status (omega arith, omega arith) (omega arith)))
    (backed_up_from at status ∙ ap (λ (n : ℕ). responses.Backup n) low)
response_of-canonical (responses.Restore status secret tries) fits =
    let status_low : status % 2 ^ 32 ≡ status = omega (arith, fits.0) in
    let tries_low : tries % 2 ^ 32 ≡ tries = omega (arith, fits.2) in
    let x = varint_field 1 status in
    let y = block_field 2 secret in
    let inner = x ++ y ++ varint_field 3 tries in
    let at = content_at 2 inner in
    let spells = Spells-append at (x ++ y) (varint_field 3 tries) _ _
    (Spells-append at x y _ _ (Spells-varint at 1 status (omega arith, omega arith) (omega (arith, fits.0))) (Spells-block (at + length x) 2 secret (omega arith, omega arith) (omega (arith, fits.1))))
    (Spells-varint (at + length (x ++ y)) 3 tries (omega arith, omega arith) (omega (arith, fits.2))) in
    let short : length inner < 2 ^ 64 = omega (arith, fits.1, length-append (x ++ y) (varint_field 3 tries), length-append x y, varint_field-few 1 status, block_field-few 2 secret, varint_field-few 3 tries) in
    response_again 2 inner _ (responses.Restore status secret tries) (one_member 1 4 2 inner _ (omega arith, omega arith) refl short spells)
    (restored_from at (at + length x) (at + length (x ++ y)) status secret tries ∙ ap (λ (n : ℕ). responses.Restore n secret (tries % 2 ^ 32)) status_low ∙ ap (λ (n : ℕ). responses.Restore status secret n) tries_low)
response_of-canonical responses.Delete fits =
    response_again 3 [] [] responses.Delete (one_member 1 4 3 [] [] (omega arith, omega arith) refl (omega arith) (Spells-nil (content_at 3 []))) refl
response_of-canonical (responses.Expose status) fits =
    let low : status % 2 ^ 32 ≡ status = omega arith in
    let inner = varint_field 1 status in
    let at = content_at 4 inner in
    let short : length inner < 2 ^ 64 = omega (arith, varint_field-few 1 status) in
    response_again 4 inner _ (responses.Expose status) (one_member 1 4 4 inner _ (omega arith, omega arith) refl short (Spells-varint at 1 status (omega arith, omega arith) (omega arith)))
    (exposed_from at status ∙ ap (λ (n : ℕ). responses.Expose n) low)

-- How long requests and responses are as they are written, and that their bytes are bytes.
use Rattle.std.proofs.Common.{ℕ, ◌+◌, ◌*◌, ◌<◌, ◌≤◌, ◌&&◌, List, [], ◌∷◌, ◌++◌, length, refl, sym, subst, arith, inl, inr}
use Rattle.std.specs.Prelude.{IsTrue}
use Rattle.std.specs.List.{list_all}
use Rattle.std.proofs.lemmas.Bool.{and_from, and_parts, lt-ltb, cases_lt}
use Rattle.std.proofs.lemmas.List.{length-append}
use Rattle.values.specs.Sizes.{IsValid}
use Rattle.values.specs.declared.entry.Body.TheVariants.{Ask}
use Rattle.values.specs.declared.ids.ClientId.{ClientId}
use Rattle.values.specs.declared.message.Request.{Request}
use Rattle.values.specs.declared.message.Request.TheVariants.{Backup, Restore, Delete, Expose}
use Rattle.values.specs.declared.message.Response.{Response}
use Rattle.values.specs.declared.message.Response.TheVariants as response
use Rattle.proto_wire.specs.Written.{message_field, block_field, varint_field}
use Rattle.proto_wire.proofs.FieldTrip.{varint_field-few, block_field-few, message_field-few}
use Rattle.client_msgs.specs.Canonical.{canonical_request, canonical_response, request_fields}
use Rattle.client_msgs.specs.Sizes.{FitsRequest}
use Rattle.client_msgs.specs.Strict.{IsCanonical}
use Rattle.client_msgs.proofs.StrictLemmas.{message-short, block-short, tries-low, tries-high}
use Rattle.trace_model.specs.TraceLines.{is_byte, is_client_id, is_u64}
use Rattle.range_laws.specs.Ranges.{BodyIn, ResponseIn}

-- ---- lengths
request_long : (q : Request) → IsValid q → FitsRequest q → length (canonical_request q) ≤ 200
request_long (Backup secret pin tries) v f =
    let body = request_fields (Backup secret pin tries) in
    omega (arith, message_field-few 2 body, length-append (block_field 1 secret ++ block_field 2 pin.0) (varint_field 3 tries), length-append (block_field 1 secret) (block_field 2 pin.0), length-append (block_field 1 secret) (block_field 2 pin.0 ++ varint_field 3 tries), length-append (block_field 2 pin.0) (varint_field 3 tries), block_field-few 1 secret, block_field-few 2 pin.0, varint_field-few 3 tries, v.0.1, f)
request_long (Restore pin) v f = omega (arith, message_field-few 3 (block_field 1 pin.0), block_field-few 1 pin.0, f)
request_long Delete v f = omega (arith, message_field-few 4 [])
request_long (Expose secret) v f = omega (arith, message_field-few 5 (block_field 1 secret), block_field-few 1 secret, v.1)

pub canonical_short : (bytes : List ℕ) → IsCanonical bytes → length bytes ≤ 200
canonical_short bytes h = subst (λ (x : List ℕ). length x ≤ 200) (sym h.1.1.1) (request_long h.0 h.1.0 h.1.1.0)

pub response_short : (r : Response) → ResponseIn r → length (canonical_response r) ≤ 200
response_short (response.Backup status) h = omega (arith, message_field-few 1 (varint_field 1 status), varint_field-few 1 status)
response_short (response.Restore status secret tries) h =
    omega (arith, message_field-few 2 (varint_field 1 status ++ block_field 2 secret ++ varint_field 3 tries), length-append (varint_field 1 status ++ block_field 2 secret) (varint_field 3 tries), length-append (varint_field 1 status) (block_field 2 secret), length-append (varint_field 1 status) (block_field 2 secret ++ varint_field 3 tries), length-append (block_field 2 secret) (varint_field 3 tries), varint_field-few 1 status, block_field-few 2 secret, varint_field-few 3 tries, h)
response_short response.Delete h = omega (arith, message_field-few 3 [])
response_short (response.Expose status) h = omega (arith, message_field-few 4 (varint_field 1 status), varint_field-few 1 status)

-- ---- bytes
abbrev Bytes : List ℕ → Type 0
Bytes xs = IsTrue (list_all is_byte xs)

bytes_append : (xs ys : List ℕ) → Bytes xs → Bytes ys → Bytes (xs ++ ys)
bytes_append [] ys a b = b
bytes_append (x ∷ xs) ys a b = let p = and_parts (is_byte x) (list_all is_byte xs) a in and_from (is_byte x) (list_all is_byte (xs ++ ys)) p.0 (bytes_append xs ys p.1 b)

one_byte : (x : ℕ) (xs : List ℕ) → x < 256 → Bytes xs → Bytes (x ∷ xs)
one_byte x xs lt h = and_from (is_byte x) (list_all is_byte xs) (lt-ltb x 256 lt) h

message_bytes : (number : ℕ) (bytes : List ℕ) → number < 16 → length bytes < 128 → Bytes bytes → Bytes (message_field number bytes)
message_bytes number bytes low short h = subst Bytes (sym (message-short number bytes low short)) (one_byte (8 * number + 2) (length bytes ∷ bytes) (omega (arith, low)) (one_byte (length bytes) bytes (omega (arith, short)) h))

block_bytes : (number : ℕ) (bytes : List ℕ) → number < 16 → length bytes < 128 → Bytes bytes → Bytes (block_field number bytes)
block_bytes number [] low short h = refl
block_bytes number (b ∷ bytes) low short h = message_bytes number (b ∷ bytes) low short h

tries_bytes : (t : ℕ) → 1 ≤ t → t ≤ 255 → Bytes (varint_field 3 t) × (length (varint_field 3 t) ≤ 3)
tries_bytes t some most = elim (cases_lt t 128) [
  | inl low ↦ let e = tries-low t some low in (subst Bytes (sym e) (one_byte 24 (t ∷ []) (omega arith) (one_byte t [] (omega (arith, most)) refl)), subst (λ (x : List ℕ). length x ≤ 3) (sym e) (omega arith))
  | inr high ↦ let e = tries-high t high most in (subst Bytes (sym e) (one_byte 24 (t ∷ 1 ∷ []) (omega arith) (one_byte t (1 ∷ []) (omega (arith, most)) (one_byte 1 [] (omega arith) refl))), subst (λ (x : List ℕ). length x ≤ 3) (sym e) (omega arith))
]

block_short : (number : ℕ) (bytes : List ℕ) → number < 16 → length bytes < 126 → length (block_field number bytes) ≤ 2 + length bytes
block_short number [] low short = omega arith
block_short number (b ∷ bytes) low short = subst (λ (x : List ℕ). length x ≤ 2 + length (b ∷ bytes)) (sym (block-short number (b ∷ bytes) low (omega arith) (omega (arith, short)))) (omega arith)

-- a request's secret and PIN are bytes
abbrev pub PartsIn : Request → Type 0
PartsIn (Backup secret pin tries) = Bytes secret × Bytes pin.0
PartsIn (Restore pin) = Bytes pin.0
PartsIn Delete = Unit {0}
PartsIn (Expose secret) = Bytes secret

pub request_bytes : (q : Request) → IsValid q → FitsRequest q → PartsIn q → Bytes (canonical_request q)
request_bytes (Backup secret pin tries) v f h =
    let t = tries_bytes tries v.1.0 v.1.1 in
    let a : length secret < 126 = omega (arith, v.0.1) in
    let c : length pin.0 < 126 = omega (arith, f) in
    let long : length (request_fields (Backup secret pin tries)) < 128 = omega (arith, length-append (block_field 1 secret ++ block_field 2 pin.0) (varint_field 3 tries), length-append (block_field 1 secret) (block_field 2 pin.0), block_short 1 secret (omega arith) a, block_short 2 pin.0 (omega arith) c, t.1, v.0.1, f) in
    message_bytes 2 (request_fields (Backup secret pin tries)) (omega arith) long
    (bytes_append (block_field 1 secret ++ block_field 2 pin.0) (varint_field 3 tries) (bytes_append (block_field 1 secret) (block_field 2 pin.0) (block_bytes 1 secret (omega arith) (omega (arith, a)) h.0) (block_bytes 2 pin.0 (omega arith) (omega (arith, c)) h.1)) t.0)
request_bytes (Restore pin) v f h = message_bytes 3 (block_field 1 pin.0) (omega arith) (omega (arith, block_short 1 pin.0 (omega arith) (omega (arith, f)), f)) (block_bytes 1 pin.0 (omega arith) (omega (arith, f)) h)
request_bytes Delete v f h = message_bytes 4 [] (omega arith) (omega arith) refl
request_bytes (Expose secret) v f h = message_bytes 5 (block_field 1 secret) (omega arith) (omega (arith, block_short 1 secret (omega arith) (omega (arith, v.1)), v.1)) (block_bytes 1 secret (omega arith) (omega (arith, v.1)) h)

-- such a request makes an entry in range
pub request_body : (client : ClientId) (number : ℕ) (q : Request) → IsTrue (is_client_id client && is_u64 number) → IsValid q → FitsRequest q → PartsIn q → BodyIn (Ask client number (canonical_request q))
request_body client number q who v f h =
    let p = and_parts (is_client_id client) (is_u64 number) who in
    (and_from (is_client_id client) (is_u64 number && list_all is_byte (canonical_request q)) p.0 (and_from (is_u64 number) (list_all is_byte (canonical_request q)) p.1 (request_bytes q v f h)), (q, (v, (f, refl))))

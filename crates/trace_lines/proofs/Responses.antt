-- The canonical bytes of a response, as they are printed.
use Rattle.std.proofs.Common.{◌≡◌, ℕ, zero, suc, ◌+◌, ◌*◌, ◌/◌, ◌%◌, ◌^◌, ◌<◌, ◌≤◌, ◌==◌, ◌&&◌, Bool, true, false, Option, Some, None, Result, Ok, List, [], ◌∷◌, ◌++◌, length, refl, sym, ap, subst, ◌∙◌, arith}
use Rattle.std.specs.Prelude.{IsTrue, if◌then◌else◌, nat_lt}
use Rattle.std.specs.List.{list_all}
use Rattle.std.specs.Result.{result_ok}
use Rattle.std.proofs.lemmas.Bool.{and_from, and_parts, cond-true, cond_both, le-leb, leb-true, lt-ltb, ltb-true}
use Rattle.std.proofs.lemmas.List.{length-append}
use Rattle.std.proofs.lemmas.List.Folds.{list_all-append}
use Rattle.std.proofs.lemmas.Option.{same_Some}
use Rattle.values.specs.declared.message.Response.{Response}
use Rattle.values.specs.declared.message.Response.TheVariants as response
use Rattle.proto_wire.specs.declared.field.WireFault.{WireFault}
use Rattle.proto_wire.specs.Fields.{Field, sequence_at}
use Rattle.proto_wire.specs.Reading.{bytes_of, first_fault, last_member, u32_of}
use Rattle.proto_wire.specs.Varint.{groups, varint}
use Rattle.proto_wire.specs.Written.{block_field, message_field, tag, varint_field}
use Rattle.client_msgs.specs.Canonical.{canonical_response, response_fields}
use Rattle.client_msgs.specs.Reading.{response_from, response_in, response_of}
use Rattle.client_msgs.specs.Sizes.{FitsResponse}
use Rattle.client_msgs.specs.declared.fault.ResponseFault.{ResponseFault}
use Rattle.schedule_model.specs.Lines.{hex}
use Rattle.schedule_model.specs.Reading.{max_u32}
use Rattle.trace_model.specs.TraceLines.{is_byte, is_response, is_u32}
use Rattle.trace_lines.specs.Fields.{◌>>=◌, hex_in, if_holds}
use Rattle.trace_lines.specs.Lines as lines
use Rattle.trace_lines.specs.Lines.{is_written_as}
use Rattle.trace_lines.proofs.Hexes.{hex_found, hex_only}
use Rattle.trace_lines.proofs.Steps.{bound, bytes_same, held, ok_of, same_bytes}

-- ---- the numbers of one that was read have 32 bits
abbrev AreSmall : Response → Type 0
AreSmall (response.Backup status) = IsTrue (is_u32 status)
AreSmall (response.Restore status secret tries) = IsTrue (is_u32 status) × IsTrue (is_u32 tries)
AreSmall response.Delete = Unit {0}
AreSmall (response.Expose status) = IsTrue (is_u32 status)

small : (k : ℕ) (fs : List Field) → IsTrue (is_u32 (u32_of k fs))
small k fs = le-leb (u32_of k fs) max_u32 (omega arith)

from_small : (n : ℕ) (fs : List Field) → AreSmall (response_from n fs)
from_small n fs =
    cond_both (n == 1) (response.Backup (u32_of 1 fs)) _ AreSmall (λ b. small 1 fs)
    (λ b. cond_both (n == 2) (response.Restore (u32_of 1 fs) (bytes_of 2 fs) (u32_of 3 fs)) _ AreSmall (λ b. (small 1 fs, small 3 fs))
    (λ b. cond_both (n == 3) response.Delete (response.Expose (u32_of 1 fs)) AreSmall (λ b. tt) (λ b. small 1 fs)))

abbrev okay : Response → Result Response ResponseFault
okay r = Ok r

unwrapped : (r s : Response) → okay r ≡ Ok s → r ≡ s
unwrapped r s is = same_Some r s (ap result_ok is)

read_small : (o : Option WireFault) (m : Option (ℕ × List Field)) (s : Response) → response_in o m ≡ Ok s → AreSmall s
read_small (Some f) m s h = cc h
read_small None None s h = cc h
read_small None (Some (n, fs)) s h = subst AreSmall (unwrapped (response_from n fs) s h) (from_small n fs)

-- ---- its secret is bytes, where its canonical bytes are
abbrev AreBytes : List ℕ → Type 0
AreBytes bytes = IsTrue (list_all is_byte bytes)

behind : (xs ys : List ℕ) → AreBytes (xs ++ ys) → AreBytes ys
behind xs ys h = (and_parts (list_all is_byte xs) (list_all is_byte ys) (sym (list_all-append is_byte xs ys) ∙ h)).1

before : (xs ys : List ℕ) → AreBytes (xs ++ ys) → AreBytes xs
before xs ys h = (and_parts (list_all is_byte xs) (list_all is_byte ys) (sym (list_all-append is_byte xs ys) ∙ h)).0

in_message : (n : ℕ) (bytes : List ℕ) → AreBytes (message_field n bytes) → AreBytes bytes
in_message n bytes h = behind (tag n 2 ++ varint (length bytes)) bytes h

in_block : (n : ℕ) (bytes : List ℕ) → AreBytes (block_field n bytes) → AreBytes bytes
in_block n [] h = refl
in_block n (b ∷ bytes) h = in_message n (b ∷ bytes) h

ranged : (r : Response) → AreSmall r → AreBytes (canonical_response r) → IsTrue (is_response r)
ranged (response.Backup status) h b = h
ranged (response.Restore status secret tries) h b =
    let front : AreBytes (varint_field 1 status ++ block_field 2 secret) = before (varint_field 1 status ++ block_field 2 secret) (varint_field 3 tries) (in_message 2 (response_fields (response.Restore status secret tries)) b) in
    and_from (is_u32 status) (list_all is_byte secret && is_u32 tries) h.0
    (and_from (list_all is_byte secret) (is_u32 tries) (in_block 2 secret (behind (varint_field 1 status) (block_field 2 secret) front)) h.1)
ranged response.Delete h b = refl
ranged (response.Expose status) h b = h

pub response_found : (text : List ℕ) (r : Response) → lines.response_in text ≡ Some r → (text ≡ hex (canonical_response r)) × IsTrue (is_response r)
response_found text r is =
    let a = bound (hex_in text) (λ bytes. result_ok (response_of bytes) >>= λ r. if_holds (is_written_as bytes r) r) r is in
    let b = bound (result_ok (response_of a.value)) (λ r. if_holds (is_written_as a.value r) r) r a.rest in
    let h = held (is_written_as a.value b.value) b.value r b.rest in
    let x = hex_found text a.value a.first in
    let same : canonical_response r ≡ a.value = ap canonical_response (sym h.1) ∙ same_bytes (canonical_response b.value) a.value h.0 in
    let read = ok_of (response_of a.value) b.value b.first in
    let low = read_small (first_fault 1 4 (sequence_at 0 a.value)) (last_member 1 4 (sequence_at 0 a.value).fields) b.value read in
    (x.same ∙ ap hex (sym same), ranged r (subst AreSmall h.1 low) (subst AreBytes (sym same) x.are_bytes))

-- ---- and the canonical bytes of one are read
-- the law that responses are read again
abbrev pub ResponsesAgain : Type 0
ResponsesAgain = (r : Response) → FitsResponse r → response_of (canonical_response r) ≡ Ok r

message_long : (n : ℕ) (bytes : List ℕ) → length bytes ≤ length (message_field n bytes)
message_long n bytes = let e : length (message_field n bytes) ≡ length (tag n 2 ++ varint (length bytes)) + length bytes = length-append (tag n 2 ++ varint (length bytes)) bytes in omega (arith, e)

block_long : (n : ℕ) (bytes : List ℕ) → length bytes ≤ length (block_field n bytes)
block_long n [] = omega arith
block_long n (b ∷ bytes) = message_long n (b ∷ bytes)

-- the secret is no longer than the fields about it
secret_long : (status tries : ℕ) (secret : List ℕ) → length secret ≤ length (response_fields (response.Restore status secret tries))
secret_long status tries secret =
    let a : List ℕ = varint_field 1 status in
    let b : List ℕ = block_field 2 secret in
    let c : List ℕ = varint_field 3 tries in
    let e : length (response_fields (response.Restore status secret tries)) ≡ length (a ++ b) + length c = length-append (a ++ b) c in
    let f : length (a ++ b) ≡ length a + length b = length-append a b in
    omega (arith, e, f, block_long 2 secret)

fits : (r : Response) → IsTrue (is_response r) → length (canonical_response r) < 2 ^ 63 → FitsResponse r
fits (response.Backup status) h short = omega (arith, leb-true status max_u32 h)
fits (response.Restore status secret tries) h short =
    let p = and_parts (is_u32 status) (list_all is_byte secret && is_u32 tries) h in
    let q = and_parts (list_all is_byte secret) (is_u32 tries) p.1 in (
      omega (arith, leb-true status max_u32 p.0),
      omega (arith, short, message_long 2 (response_fields (response.Restore status secret tries)), secret_long status tries secret),
      omega (arith, leb-true tries max_u32 q.1),
    )
fits response.Delete h short = tt
fits (response.Expose status) h short = omega (arith, leb-true status max_u32 h)

-- its canonical bytes are bytes
abbrev reach : ℕ → ℕ
reach zero = 256
reach (suc k) = 128 * reach k

if_bytes : (b : Bool) (xs ys : List ℕ) → AreBytes xs → AreBytes ys → AreBytes (if b then xs else ys)
if_bytes true xs ys a b = a
if_bytes false xs ys a b = b

groups_bytes : (k n : ℕ) → n < reach k → AreBytes (groups k n)
unfolding groups
groups_bytes zero n h = and_from (is_byte n) true (lt-ltb n 256 h) refl
groups_bytes (suc k) n h =
    cond_both (nat_lt n 128) (n ∷ []) ((128 + n % 128) ∷ groups k (n / 128)) AreBytes
    (λ b. and_from (is_byte n) true (lt-ltb n 256 (omega (arith, ltb-true n 128 b))) refl)
    (λ b. and_from (is_byte (128 + n % 128)) (list_all is_byte (groups k (n / 128))) (lt-ltb (128 + n % 128) 256 (omega arith)) (groups_bytes k (n / 128) (omega (arith, h))))

varint_bytes : (n : ℕ) → n < 2 ^ 64 → AreBytes (varint n)
varint_bytes n h = groups_bytes 9 n (omega (arith, h))

all_append : (xs ys : List ℕ) → AreBytes xs → AreBytes ys → AreBytes (xs ++ ys)
all_append xs ys a b = list_all-append is_byte xs ys ∙ and_from (list_all is_byte xs) (list_all is_byte ys) a b

number_bytes : (k n : ℕ) → k ≤ 8 → n < 2 ^ 64 → AreBytes (varint_field k n)
number_bytes k zero le h = refl
number_bytes k (suc n) le h = all_append (tag k 0) (varint (suc n)) (varint_bytes (8 * k + 0) (omega (arith, le))) (varint_bytes (suc n) h)

message_bytes : (k : ℕ) (bytes : List ℕ) → k ≤ 8 → length bytes < 2 ^ 64 → AreBytes bytes → AreBytes (message_field k bytes)
message_bytes k bytes le short h =
    all_append (tag k 2 ++ varint (length bytes)) bytes (all_append (tag k 2) (varint (length bytes)) (varint_bytes (8 * k + 2) (omega (arith, le))) (varint_bytes (length bytes) short)) h

block_bytes : (k : ℕ) (bytes : List ℕ) → k ≤ 8 → length bytes < 2 ^ 64 → AreBytes bytes → AreBytes (block_field k bytes)
block_bytes k [] le short h = refl
block_bytes k (b ∷ bytes) le short h = message_bytes k (b ∷ bytes) le short h

response_bytes : (r : Response) → IsTrue (is_response r) → length (canonical_response r) < 2 ^ 63 → AreBytes (canonical_response r)
response_bytes (response.Backup status) h short =
    let b = number_bytes 1 status (omega arith) (omega (arith, leb-true status max_u32 h)) in
    message_bytes 1 (varint_field 1 status) (omega arith) (omega (arith, short, message_long 1 (varint_field 1 status))) b
response_bytes (response.Restore status secret tries) h short =
    let p = and_parts (is_u32 status) (list_all is_byte secret && is_u32 tries) h in
    let q = and_parts (list_all is_byte secret) (is_u32 tries) p.1 in
    let a : List ℕ = varint_field 1 status in
    let b : List ℕ = block_field 2 secret in
    let c : List ℕ = varint_field 3 tries in
    let whole = message_long 2 (response_fields (response.Restore status secret tries)) in
    let long : length secret < 2 ^ 64 = omega (arith, short, whole, secret_long status tries secret) in
    message_bytes 2 (response_fields (response.Restore status secret tries)) (omega arith) (omega (arith, short, whole))
    (all_append (a ++ b) c
    (all_append a b (number_bytes 1 status (omega arith) (omega (arith, leb-true status max_u32 p.0))) (block_bytes 2 secret (omega arith) long q.0))
    (number_bytes 3 tries (omega arith) (omega (arith, leb-true tries max_u32 q.1))))
response_bytes response.Delete h short = message_bytes 3 [] (omega arith) (omega arith) refl
response_bytes (response.Expose status) h short =
    let b = number_bytes 1 status (omega arith) (omega (arith, leb-true status max_u32 h)) in
    message_bytes 4 (varint_field 1 status) (omega arith) (omega (arith, short, message_long 4 (varint_field 1 status))) b

pub response_only : ResponsesAgain → (r : Response) → IsTrue (is_response r) → length (canonical_response r) < 2 ^ 63 → lines.response_in (hex (canonical_response r)) ≡ Some r
response_only again r h short =
    ap (λ o. o >>= λ bytes. result_ok (response_of bytes) >>= λ r. if_holds (is_written_as bytes r) r) (hex_only (canonical_response r) (response_bytes r h short))
    ∙ ap (λ o. result_ok o >>= λ s. if_holds (is_written_as (canonical_response r) s) s) (again r (fits r h short))
    ∙ cond-true (is_written_as (canonical_response r) r) (Some r) None (bytes_same (canonical_response r))

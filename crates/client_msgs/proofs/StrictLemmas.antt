-- The canonical bytes of requests, byte by byte.
use Rattle.std.proofs.Common.{◌≡◌, ◌≢◌, ℕ, zero, suc, ◌+◌, ◌-◌, ◌*◌, ◌/◌, ◌%◌, ◌<◌, ◌≤◌, Bool, true, false, eqb, List, [], ◌∷◌, ◌++◌, length, get_or, take, drop, Option, None, Some, Result, Ok, Err, refl, sym, ap, ◌∙◌, arith, inl, inr}
use Rattle.std.specs.Prelude.{nat_eq}
use Rattle.std.specs.Bool.{Decides, one_answer}
use Rattle.std.specs.Cmp.Lexicographic.{pointwise, same_text, other_text}
use Rattle.std.proofs.lemmas.Bool.{cases_Bool, cases_lt, eqb-true}
use Rattle.std.proofs.lemmas.List.{length-append, length-drop, drop_at, length-take-le, take-append-drop}
use Rattle.proto_wire.specs.declared.field.WireFault.{WireFault}
use Rattle.proto_wire.specs.Varint.{varint}
use Rattle.proto_wire.specs.Fields.{Field, sequence_at}
use Rattle.proto_wire.specs.Reading.{first_fault, last_member}
use Rattle.proto_wire.specs.Written.{tag, varint_field, block_field, message_field}
use Rattle.proto_wire.proofs.VarintLemmas.{varint_one, varint_step}
use Rattle.values.specs.Sizes.{IsSecret, AreTries, IsValid}
use Rattle.values.specs.declared.message.Part.{Part}
use Rattle.values.specs.declared.message.Request.{Request}
use Rattle.values.specs.declared.message.Request.TheVariants as requests
use Rattle.client_msgs.specs.declared.fault.RequestFault.{RequestFault}
use Rattle.client_msgs.specs.Canonical.{canonical_request, request_number, request_fields}
use Rattle.client_msgs.specs.Reading.{request_from, if_sized, request_in, request_of}
use Rattle.client_msgs.specs.Sizes.{size_fault, FitsRequest}
use Rattle.client_msgs.specs.Strict.{is_written_as, is_canonical, IsCanonical}
use Rattle.client_msgs.proofs.RoundTrip.{request_of-canonical}
use Rattle.client_msgs.proofs.SizesLemmas.{size_fault-valid}

-- ---- short lists by their bytes

pub two_bytes : (xs : List ℕ) → 2 ≤ length xs → xs ≡ get_or xs 0 0 ∷ get_or xs 1 0 ∷ drop 2 xs
two_bytes [] few = absurd (omega arith)
two_bytes (x ∷ []) few = absurd (omega arith)
two_bytes (x ∷ y ∷ xs) few = refl

pub nothing_left : (xs : List ℕ) → length xs ≡ 0 → xs ≡ []
nothing_left [] none = refl
nothing_left (x ∷ xs) none = absurd (omega (arith, none))

pub one_left : (xs : List ℕ) → length xs ≡ 1 → xs ≡ get_or xs 0 0 ∷ []
one_left [] one = absurd (omega (arith, one))
one_left (x ∷ xs) one = ap (λ (ys : List ℕ). x ∷ ys) (nothing_left xs (omega (arith, one)))

-- ---- short fields

pub message-short : (number : ℕ) (bytes : List ℕ) → number < 16 → length bytes < 128 → message_field number bytes ≡ (8 * number + 2) ∷ length bytes ∷ bytes
message-short number bytes low short =
    ap (λ (t : List ℕ). (t ++ varint (length bytes)) ++ bytes) (varint_one (8 * number + 2) (omega arith)) ∙ ap (λ (v : List ℕ). (((8 * number + 2) ∷ []) ++ v) ++ bytes) (varint_one (length bytes) short)

pub block-short : (number : ℕ) (bytes : List ℕ) → number < 16 → 1 ≤ length bytes → length bytes < 128 → block_field number bytes ≡ (8 * number + 2) ∷ length bytes ∷ bytes
block-short number [] low some short = absurd (omega arith)
block-short number (b ∷ bytes) low some short = message-short number (b ∷ bytes) low short

pub tries-low : (t : ℕ) → 1 ≤ t → t < 128 → varint_field 3 t ≡ 24 ∷ t ∷ []
tries-low zero some low = absurd (omega arith)
tries-low (suc n) some low = ap (λ (v : List ℕ). v ++ varint (suc n)) (varint_one 24 (omega arith)) ∙ ap (λ (v : List ℕ). 24 ∷ v) (varint_one (suc n) low)

pub tries-high : (t : ℕ) → 128 ≤ t → t ≤ 255 → varint_field 3 t ≡ 24 ∷ t ∷ 1 ∷ []
tries-high zero high most = absurd (omega arith)
tries-high (suc n) high most =
    let low_part : 128 + suc n % 128 ≡ suc n = omega arith in
    let high_part : suc n / 128 ≡ 1 = omega arith in
    let v : varint (suc n) ≡ suc n ∷ 1 ∷ [] = varint_step (suc n) (omega arith) high ∙ ap (λ (b : ℕ). b ∷ varint (suc n / 128)) low_part ∙ ap (λ (m : ℕ). suc n ∷ varint m) high_part ∙ ap (λ (w : List ℕ). suc n ∷ w) (varint_one 1 (omega arith)) in
    ap (λ (w : List ℕ). w ++ varint (suc n)) (varint_one 24 (omega arith)) ∙ ap (λ (w : List ℕ). 24 ∷ w) v

-- ---- what stands in front

pub record Begins (number : ℕ) (block rest bytes : List ℕ) : Type 0 where
  pub long : length bytes ≡ 2 + length block + length rest
  pub tag : get_or bytes 0 0 ≡ 8 * number + 2
  pub len : get_or bytes 1 0 ≡ length block
  pub behind : drop (2 + length block) bytes ≡ rest

pub begins : (number : ℕ) (block rest bytes : List ℕ) → number < 16 → 1 ≤ length block → length block < 128 → bytes ≡ block_field number block ++ rest → Begins number block rest bytes
begins number block rest bytes low some short is =
    let e : bytes ≡ (8 * number + 2) ∷ length block ∷ (block ++ rest) = is ∙ ap (λ (x : List ℕ). x ++ rest) (block-short number block low some short) in
    record {
      long = ap length e ∙ omega (arith, length-append block rest);
      tag = ap (λ (x : List ℕ). get_or x 0 0) e;
      len = ap (λ (x : List ℕ). get_or x 1 0) e;
      behind = ap (drop (2 + length block)) e ∙ dropped block rest;
    }
  where
    dropped : (block rest : List ℕ) → drop (2 + length block) ((8 * number + 2) ∷ length block ∷ (block ++ rest)) ≡ rest
    dropped block rest =
        let n : 2 + length block ≡ suc (suc (length block)) = omega arith in
        ap (λ (k : ℕ). drop k ((8 * number + 2) ∷ length block ∷ (block ++ rest))) n ∙ drop_at block rest (length block) refl

pub begins-from : (number len : ℕ) (bytes : List ℕ) → number < 16 → 1 ≤ len → len < 128 → 2 + len ≤ length bytes → get_or bytes 0 0 ≡ 8 * number + 2 → get_or bytes 1 0 ≡ len
    → (length (take len (drop 2 bytes)) ≡ len) × (bytes ≡ block_field number (take len (drop 2 bytes)) ++ drop (2 + len) bytes)
begins-from number len [] low some short few tag-is len-is = absurd (omega arith)
begins-from number len (a ∷ []) low some short few tag-is len-is = absurd (omega arith)
begins-from number len (a ∷ b ∷ xs) low some short few tag-is len-is =
    let long : length (take len xs) ≡ len = length-take-le len xs (omega (arith, few)) in
    let n : 2 + len ≡ suc (suc len) = omega arith in
    let rest : drop (2 + len) (a ∷ b ∷ xs) ≡ drop len xs = ap (λ (k : ℕ). drop k (a ∷ b ∷ xs)) n in
    let front : block_field number (take len xs) ≡ a ∷ b ∷ take len xs = block-short number (take len xs) low (omega (arith, long)) (omega (arith, long)) ∙ ap (λ (t : ℕ). t ∷ length (take len xs) ∷ take len xs) (sym tag-is) ∙ ap (λ (k : ℕ). a ∷ k ∷ take len xs) (long ∙ sym len-is) in
    (long, sym (ap (λ (x : List ℕ). x ++ drop (2 + len) (a ∷ b ∷ xs)) front ∙ ap (λ (x : List ℕ). (a ∷ b ∷ take len xs) ++ x) rest ∙ ap (λ (x : List ℕ). a ∷ b ∷ x) (take-append-drop len xs)))

-- ---- the whole request

if_sized-ok : (fault : Option (Part × ℕ)) (read request : Request) → if_sized fault read ≡ Ok request → (fault ≡ None) × (read ≡ request)
if_sized-ok None read request is = (refl, cc)
if_sized-ok (Some (part, n)) read request is = absurd cc

request_in-ok : (fault : Option WireFault) (last : Option (ℕ × List Field)) (request : Request) → request_in fault last ≡ Ok request → size_fault request ≡ None
request_in-ok (Some e) last request is = absurd cc
request_in-ok None None request is = absurd cc
request_in-ok None (Some (number, fs)) request is =
    let both = if_sized-ok (size_fault (request_from number fs)) (request_from number fs) request is in
    ap size_fault (sym both.1) ∙ both.0

same_spelling : (xs ys : List ℕ) → xs ≡ ys → pointwise nat_eq xs ys ≡ true
same_spelling xs ys same =
    elim (cases_Bool (pointwise nat_eq xs ys)) [
      | inl same_too ↦ same_too
      | inr other ↦ absurd (other_text xs ys (sym other) same)
    ]

pub decides-canonical : (bytes : List ℕ) → Decides (is_canonical bytes) (IsCanonical bytes)
decides-canonical bytes = (told (request_of bytes) refl, all)
  where
    told : (read : Result Request RequestFault) → request_of bytes ≡ read → is_written_as bytes read ≡ true → IsCanonical bytes
    told (Ok request) is same =
        let valid = size_fault-valid request (request_in-ok (first_fault 2 5 (sequence_at 0 bytes)) (last_member 2 5 (sequence_at 0 bytes).fields) request is) in
        (request, (valid.0, (valid.1, sym (same_text (canonical_request request) bytes (sym same)))))
    told (Err fault) is same = absurd cc

    all : IsCanonical bytes → is_canonical bytes ≡ true
    all (request, (valid, (fits, is))) =
        ap (is_written_as bytes) (ap request_of is ∙ request_of-canonical request valid fits) ∙ same_spelling (canonical_request request) bytes (sym is)

fields_short : (request : Request) → IsValid request → FitsRequest request → length (request_fields request) < 128
fields_short (requests.Backup secret pin tries) valid fits =
    let x = block_field 1 secret in
    let y = block_field 2 pin.0 in
    let a = ap length (block-short 1 secret (omega arith) (omega (arith, valid.0.0)) (omega (arith, valid.0.1))) in
    let b = ap length (block-short 2 pin.0 (omega arith) (omega (arith, fits)) (omega (arith, fits))) in
    let few : length (varint_field 3 tries) ≤ 3 =
    elim (cases_lt tries 128) [
      | inl low ↦ omega (arith, ap length (tries-low tries valid.1.0 low))
      | inr high ↦ omega (arith, ap length (tries-high tries high valid.1.1))
    ] in
    omega (arith, length-append (x ++ y) (varint_field 3 tries), length-append x y, a, b, few, valid.0.1, fits)
fields_short (requests.Restore pin) valid fits = omega (arith, ap length (block-short 1 pin.0 (omega arith) (omega (arith, fits)) (omega (arith, fits))), fits)
fields_short requests.Delete valid fits = omega arith
fields_short (requests.Expose secret) valid fits = omega (arith, ap length (block-short 1 secret (omega arith) (omega (arith, valid.0)) (omega (arith, valid.1))), valid.1)

number_low : (request : Request) → request_number request < 16
number_low (requests.Backup secret pin tries) = omega arith
number_low (requests.Restore pin) = omega arith
number_low requests.Delete = omega arith
number_low (requests.Expose secret) = omega arith

-- the tag, the length and the fields of a valid request's bytes
pub record Spells (request : Request) (bytes : List ℕ) : Type 0 where
  pub long : 2 ≤ length bytes
  pub tag : get_or bytes 0 0 ≡ 8 * request_number request + 2
  pub len : get_or bytes 1 0 ≡ length bytes - 2
  pub fields : drop 2 bytes ≡ request_fields request

pub spelled : (request : Request) (bytes : List ℕ) → IsValid request → FitsRequest request → bytes ≡ canonical_request request → Spells request bytes
spelled request bytes valid fits is =
    let e : bytes ≡ (8 * request_number request + 2) ∷ length (request_fields request) ∷ request_fields request = is ∙ message-short (request_number request) (request_fields request) (number_low request) (fields_short request valid fits) in
    let long = ap length e in
    record {
      long = omega (arith, long);
      tag = ap (λ (x : List ℕ). get_or x 0 0) e;
      len = ap (λ (x : List ℕ). get_or x 1 0) e ∙ omega (arith, long);
      fields = ap (drop 2) e;
    }

pub canonical-from : (request : Request) (bytes : List ℕ) → IsValid request → FitsRequest request → Spells request bytes → IsCanonical bytes
canonical-from request bytes valid fits spells =
    let long : length (drop 2 bytes) ≡ length bytes - 2 = length-drop 2 bytes in
    let len : get_or bytes 1 0 ≡ length (request_fields request) = spells.len ∙ sym long ∙ ap length spells.fields in (
      request,
      (
        valid,
        (
          fits,
          two_bytes bytes spells.long ∙ ap (λ (t : ℕ). t ∷ get_or bytes 1 0 ∷ drop 2 bytes) spells.tag ∙ ap (λ (n : ℕ). (8 * request_number request + 2) ∷ n ∷ drop 2 bytes) len
              ∙ ap (λ (x : List ℕ). (8 * request_number request + 2) ∷ length (request_fields request) ∷ x) spells.fields
              ∙ sym (message-short (request_number request) (request_fields request) (number_low request) (fields_short request valid fits)),
        ),
      ),
    )

pub canonical-few : (bytes : List ℕ) → is_canonical bytes ≡ true → length bytes < 130
canonical-few bytes is = few ((decides-canonical bytes).0 is)
  where
    few : IsCanonical bytes → length bytes < 130
    few (request, (valid, (fits, same))) = omega (arith, ap length (same ∙ message-short (request_number request) (request_fields request) (number_low request) (fields_short request valid fits)), fields_short request valid fits)

-- of bytes that are long enough and have their length second, by the tag
module _ (bytes : List ℕ) (long : 2 ≤ length bytes) (len : get_or bytes 1 0 ≡ length bytes - 2) (b : Bool) where
  spells_of : IsCanonical bytes → (request : Request) × (IsValid request × (FitsRequest request × Spells request bytes))
  spells_of (request, (valid, (fits, is))) = (request, (valid, (fits, spelled request bytes valid fits is)))

  pub backup-tagged : (fields : List ℕ) → get_or bytes 0 0 ≡ 18 → fields ≡ drop 2 bytes
      → (b ≡ true → (secret pin : List ℕ) × (tries : ℕ) × IsSecret secret × (length pin ≡ 32) × AreTries tries × (fields ≡ block_field 1 secret ++ block_field 2 pin ++ varint_field 3 tries))
      → ((secret pin : List ℕ) (tries : ℕ) → IsSecret secret → length pin ≡ 32 → AreTries tries → fields ≡ block_field 1 secret ++ block_field 2 pin ++ varint_field 3 tries → b ≡ true) → b ≡ is_canonical bytes
  backup-tagged fields tag behind told all = one_answer b (is_canonical bytes) (λ holds. back (told holds), λ is. on (spells_of is)) (decides-canonical bytes)
    where
      back : (secret pin : List ℕ) × (tries : ℕ) × IsSecret secret × (length pin ≡ 32) × AreTries tries × (fields ≡ block_field 1 secret ++ block_field 2 pin ++ varint_field 3 tries) → IsCanonical bytes
      back h = canonical-from (requests.Backup h.0 (record { 0 = h.1 }) h.2) bytes (h.3, h.5) h.4 (record { long = long; tag = tag; len = len; fields = sym behind ∙ h.6 })

      on : (request : Request) × (IsValid request × (FitsRequest request × Spells request bytes)) → b ≡ true
      on (requests.Backup secret pin tries, (valid, (fits, spells))) = all secret pin.0 tries valid.0 fits valid.1 (behind ∙ spells.fields)
      on (requests.Restore pin, (valid, (fits, spells))) = absurd (omega (arith, tag, spells.tag))
      on (requests.Delete, (valid, (fits, spells))) = absurd (omega (arith, tag, spells.tag))
      on (requests.Expose secret, (valid, (fits, spells))) = absurd (omega (arith, tag, spells.tag))

  pub restore-tagged : (fields : List ℕ) → get_or bytes 0 0 ≡ 26 → fields ≡ drop 2 bytes → (b ≡ true → (pin : List ℕ) × (length pin ≡ 32) × (fields ≡ block_field 1 pin))
      → ((pin : List ℕ) → length pin ≡ 32 → fields ≡ block_field 1 pin → b ≡ true) → b ≡ is_canonical bytes
  restore-tagged fields tag behind told all = one_answer b (is_canonical bytes) (λ holds. back (told holds), λ is. on (spells_of is)) (decides-canonical bytes)
    where
      back : (pin : List ℕ) × (length pin ≡ 32) × (fields ≡ block_field 1 pin) → IsCanonical bytes
      back h = canonical-from (requests.Restore (record { 0 = h.0 })) bytes tt h.1 (record { long = long; tag = tag; len = len; fields = sym behind ∙ h.2 })

      on : (request : Request) × (IsValid request × (FitsRequest request × Spells request bytes)) → b ≡ true
      on (requests.Backup secret pin tries, (valid, (fits, spells))) = absurd (omega (arith, tag, spells.tag))
      on (requests.Restore pin, (valid, (fits, spells))) = all pin.0 fits (behind ∙ spells.fields)
      on (requests.Delete, (valid, (fits, spells))) = absurd (omega (arith, tag, spells.tag))
      on (requests.Expose secret, (valid, (fits, spells))) = absurd (omega (arith, tag, spells.tag))

  pub expose-tagged : (fields : List ℕ) → get_or bytes 0 0 ≡ 42 → fields ≡ drop 2 bytes → (b ≡ true → (secret : List ℕ) × IsSecret secret × (fields ≡ block_field 1 secret))
      → ((secret : List ℕ) → IsSecret secret → fields ≡ block_field 1 secret → b ≡ true) → b ≡ is_canonical bytes
  expose-tagged fields tag behind told all = one_answer b (is_canonical bytes) (λ holds. back (told holds), λ is. on (spells_of is)) (decides-canonical bytes)
    where
      back : (secret : List ℕ) × IsSecret secret × (fields ≡ block_field 1 secret) → IsCanonical bytes
      back h = canonical-from (requests.Expose h.0) bytes h.1 tt (record { long = long; tag = tag; len = len; fields = sym behind ∙ h.2 })

      on : (request : Request) × (IsValid request × (FitsRequest request × Spells request bytes)) → b ≡ true
      on (requests.Backup secret pin tries, (valid, (fits, spells))) = absurd (omega (arith, tag, spells.tag))
      on (requests.Restore pin, (valid, (fits, spells))) = absurd (omega (arith, tag, spells.tag))
      on (requests.Delete, (valid, (fits, spells))) = absurd (omega (arith, tag, spells.tag))
      on (requests.Expose secret, (valid, (fits, spells))) = all secret valid (behind ∙ spells.fields)

  pub delete-tagged : (fields : List ℕ) → get_or bytes 0 0 ≡ 34 → fields ≡ drop 2 bytes → b ≡ eqb (length fields) 0 → b ≡ is_canonical bytes
  delete-tagged fields tag behind is = one_answer b (is_canonical bytes) (λ holds. back (eqb-true (length fields) 0 (sym is ∙ holds)), λ h. is ∙ on (spells_of h)) (decides-canonical bytes)
    where
      back : length fields ≡ 0 → IsCanonical bytes
      back none = canonical-from requests.Delete bytes tt tt (record { long = long; tag = tag; len = len; fields = sym behind ∙ nothing_left fields none })

      on : (request : Request) × (IsValid request × (FitsRequest request × Spells request bytes)) → eqb (length fields) 0 ≡ true
      on (requests.Backup secret pin tries, (valid, (fits, spells))) = absurd (omega (arith, tag, spells.tag))
      on (requests.Restore pin, (valid, (fits, spells))) = absurd (omega (arith, tag, spells.tag))
      on (requests.Delete, (valid, (fits, spells))) = ap (λ (x : List ℕ). eqb (length x) 0) (behind ∙ spells.fields)
      on (requests.Expose secret, (valid, (fits, spells))) = absurd (omega (arith, tag, spells.tag))

-- bytes that no request begins with
pub not-canonical : (bytes : List ℕ) → ((request : Request) → Spells request bytes → ⊥) → false ≡ is_canonical bytes
not-canonical bytes none = one_answer false (is_canonical bytes) (λ holds. absurd cc, λ is. absurd (none is.0 (spelled is.0 bytes is.1.0 is.1.1.0 is.1.1.1))) (decides-canonical bytes)

pub tag-known : (request : Request) (bytes : List ℕ) → Spells request bytes → get_or bytes 0 0 ≢ 18 → get_or bytes 0 0 ≢ 26 → get_or bytes 0 0 ≢ 34 → get_or bytes 0 0 ≢ 42 → ⊥
tag-known (requests.Backup secret pin tries) bytes spells a b c d = a spells.tag
tag-known (requests.Restore pin) bytes spells a b c d = b spells.tag
tag-known requests.Delete bytes spells a b c d = c spells.tag
tag-known (requests.Expose secret) bytes spells a b c d = d spells.tag

-- ---- tries

pub record TriesIn (tries : ℕ) (field : List ℕ) : Type 0 where
  pub few : 2 ≤ length field
  pub tag : get_or field 0 0 ≡ 24
  pub byte : get_or field 1 0 ≡ tries
  pub low : tries < 128 → length field ≡ 2
  pub high : 128 ≤ tries → (length field ≡ 3) × (get_or field 2 0 ≡ 1)

pub tries_in : (tries : ℕ) (field : List ℕ) → AreTries tries → field ≡ varint_field 3 tries → TriesIn tries field
tries_in tries field are is =
    elim (cases_lt tries 128) [
      | inl low ↦
          let e = is ∙ tries-low tries are.0 low in
          record {
            few = omega (arith, ap length e);
            tag = ap (λ (x : List ℕ). get_or x 0 0) e;
            byte = ap (λ (x : List ℕ). get_or x 1 0) e;
            low = λ _. ap length e;
            high = λ high. absurd (omega (arith, low, high));
          }
      | inr high ↦
          let e = is ∙ tries-high tries high are.1 in
          record {
            few = omega (arith, ap length e);
            tag = ap (λ (x : List ℕ). get_or x 0 0) e;
            byte = ap (λ (x : List ℕ). get_or x 1 0) e;
            low = λ low. absurd (omega (arith, low, high));
            high = λ _. (ap length e, ap (λ (x : List ℕ). get_or x 2 0) e);
          }
    ]

pub tries-from_2 : (field : List ℕ) → length field ≡ 2 → get_or field 0 0 ≡ 24 → 1 ≤ get_or field 1 0 → get_or field 1 0 < 128 → (tries : ℕ) × AreTries tries × (field ≡ varint_field 3 tries)
tries-from_2 [] long tag some low = absurd (omega (arith, long))
tries-from_2 (a ∷ []) long tag some low = absurd (omega (arith, long))
tries-from_2 (a ∷ t ∷ rest) long tag some low =
    (t, (some, omega (arith, low)), ap (λ (x : List ℕ). a ∷ t ∷ x) (nothing_left rest (omega (arith, long))) ∙ ap (λ (n : ℕ). n ∷ t ∷ []) tag ∙ sym (tries-low t some low))

pub tries-from_3 : (field : List ℕ) → length field ≡ 3 → get_or field 0 0 ≡ 24 → 128 ≤ get_or field 1 0 → get_or field 1 0 ≤ 255 → get_or field 2 0 ≡ 1 → (tries : ℕ) × AreTries tries × (field ≡ varint_field 3 tries)
tries-from_3 [] long tag high most one = absurd (omega (arith, long))
tries-from_3 (a ∷ []) long tag high most one = absurd (omega (arith, long))
tries-from_3 (a ∷ t ∷ rest) long tag high most one =
    (t, (omega (arith, high), most), ap (λ (x : List ℕ). a ∷ t ∷ x) (one_left rest (omega (arith, long))) ∙ ap (λ (n : ℕ). a ∷ t ∷ n ∷ []) one ∙ ap (λ (n : ℕ). n ∷ t ∷ 1 ∷ []) tag ∙ sym (tries-high t high most))

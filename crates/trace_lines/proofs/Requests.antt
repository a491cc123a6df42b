-- Canonical requests, as a test and as a fact.
use Rattle.std.proofs.Common.{◌≡◌, ℕ, Option, Some, None, Result, Ok, Err, List, refl, sym, ap, subst, ◌∙◌}
use Rattle.std.specs.Prelude.{IsTrue, nat_eq}
use Rattle.std.specs.Cmp.Lexicographic.{pointwise}
use Rattle.values.specs.Sizes.{IsValid}
use Rattle.values.specs.declared.message.Part.{Part}
use Rattle.values.specs.declared.message.Part.TheVariants as part
use Rattle.values.specs.declared.message.Request.{Request}
use Rattle.values.specs.declared.message.Request.TheVariants as requests
use Rattle.client_msgs.specs.Canonical.{canonical_request}
use Rattle.client_msgs.specs.Reading.{if_sized, request_of, request_in, request_from}
use Rattle.client_msgs.specs.Sizes.{FitsRequest, size_fault}
use Rattle.client_msgs.specs.Strict.{IsCanonical, is_canonical, is_written_as}
use Rattle.client_msgs.specs.declared.fault.RequestFault.{RequestFault}
use Rattle.client_msgs.proofs.SizesLemmas.{size_fault-valid}
use Rattle.proto_wire.specs.declared.field.WireFault.{WireFault}
use Rattle.proto_wire.specs.Fields.{Field, sequence_at}
use Rattle.proto_wire.specs.Reading.{first_fault, last_member}
use Rattle.trace_lines.proofs.Steps.{bytes_same, same_bytes}

abbrev okay : Request → Result Request RequestFault
okay r = Ok r

unwrapped : (r s : Request) → okay r ≡ Ok s → r ≡ s
unwrapped r s is = ap get is
  where
    get : Result Request RequestFault → Request
    get (Ok x) = x
    get (Err e) = r

sized_valid : (o : Option (Part × ℕ)) (r s : Request) → size_fault r ≡ o → if_sized o r ≡ Ok s → IsValid s × FitsRequest s
sized_valid None r s is h = subst (λ x. IsValid x × FitsRequest x) (unwrapped r s h) (size_fault-valid r is)
sized_valid (Some (p, n)) r s is h = cc h

read_valid : (o : Option WireFault) (m : Option (ℕ × List Field)) (s : Request) → request_in o m ≡ Ok s → IsValid s × FitsRequest s
read_valid (Some f) m s h = cc h
read_valid None None s h = cc h
read_valid None (Some (n, fs)) s h = sized_valid (size_fault (request_from n fs)) (request_from n fs) s refl h

pub canonical_found : (bytes : List ℕ) → IsTrue (is_canonical bytes) → IsCanonical bytes
canonical_found bytes h = go (request_of bytes) refl h
  where
    go : (r : Result Request RequestFault) → request_of bytes ≡ r → IsTrue (is_written_as bytes r) → IsCanonical bytes
    go (Ok r) is h =
        let v = read_valid (first_fault 2 5 (sequence_at 0 bytes)) (last_member 2 5 (sequence_at 0 bytes).fields) r is in
        (r, (v.0, (v.1, sym (same_bytes (canonical_request r) bytes h))))
    go (Err e) is h = cc h

-- the law that requests are read again
abbrev pub RequestsAgain : Type 0
RequestsAgain = (request : Request) → IsValid request → FitsRequest request → request_of (canonical_request request) ≡ Ok request

pub canonical_only : RequestsAgain → (bytes : List ℕ) → IsCanonical bytes → IsTrue (is_canonical bytes)
canonical_only again bytes (r, (v, (f, is))) =
    let read : request_of bytes ≡ Ok r = ap request_of is ∙ again r v f in
    ap (is_written_as bytes) read ∙ ap (pointwise nat_eq (canonical_request r)) is ∙ bytes_same (canonical_request r)

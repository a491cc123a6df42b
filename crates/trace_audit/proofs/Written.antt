-- Responses that differ are written as other bytes.
use Rattle.std.proofs.Common.{◌≡◌, Bool, true, false, Ok, refl, ap, ◌∙◌}
use Rattle.std.specs.Prelude.{bytes_eq}
use Rattle.std.proofs.lemmas.Slice.Eq.{bytes_eq-Decides}
use Rattle.values.specs.declared.message.Response.{Response}
use Rattle.client_msgs.specs.Canonical.{canonical_response}
use Rattle.client_msgs.specs.Reading.{response_of}
use Rattle.client_msgs.specs.Sizes.{FitsResponse}

abbrev pub AreReadAgain : Type 0
AreReadAgain = (response : Response) → FitsResponse response → response_of (canonical_response response) ≡ Ok response

pub differ : AreReadAgain → (a b : Response) → FitsResponse a → FitsResponse b → (a ≡ b → ⊥) → false ≡ bytes_eq (canonical_response a) (canonical_response b)
differ again a b fits other apart = by_test (bytes_eq (canonical_response a) (canonical_response b)) refl
  where
    by_test : (h : Bool) → bytes_eq (canonical_response a) (canonical_response b) ≡ h → false ≡ h
    by_test false e = refl
    by_test true e =
        let written : canonical_response a ≡ canonical_response b = (bytes_eq-Decides (canonical_response a) (canonical_response b)).0 e in
        let first : response_of (canonical_response a) ≡ Ok a = again a fits in
        let second : response_of (canonical_response a) ≡ Ok b = ap response_of written ∙ again b other in
        absurd (apart cc)

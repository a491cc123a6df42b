-- A frame is taken exactly where it spells a message for this replica, from one that is linked.
use Rattle.std.proofs.Common.{◌≡◌, ℕ, ◌^◌, ◌<◌, Bool, true, false, cond, eqb, List, [], ◌∷◌, ◌++◌, length, Option, Some, None, Result, Ok, Err, refl, sym, ap, ◌∙◌, subst, arith}
use Rattle.std.specs.Prelude.{IfOk, IsOkAnd, IsTrue}
use Rattle.std.specs.Int.{w32}
use Rattle.std.proofs.lemmas.Bool.{eqb-true, eq-eqb}
use Rattle.fixed_fields.specs.Formats.{number, rest, before, IsBytes, IsContent, IsOfWidth}
use Rattle.fixed_fields.proofs.Bytes.{wide32}
use Rattle.fixed_fields.proofs.Laws.{number_is, rest_is, before_is}
use Rattle.attested_link.specs.declared.frames.LinkFault.{LinkFault}
use Rattle.attested_link.specs.declared.frames.LinkFault.TheVariants.{NotForMe, NoLink}
use Rattle.attested_link.specs.Frames.{link_frame, frame_bytes, taken_by, accepted_of, Gives}

abbrev FitsFrame : ℕ × (ℕ × List ℕ) → Type 0
FitsFrame p = IsOfWidth w32 p.0 × (IsOfWidth w32 p.1.0 × Unit {0})

frame_is : IsContent link_frame FitsFrame
frame_is = before_is (number w32) (before (number w32) rest) (IsOfWidth w32) (λ q. IsOfWidth w32 q.0 × Unit {0}) (number_is w32 wide32) (before_is (number w32) rest (IsOfWidth w32) (λ m. Unit {0}) (number_is w32 wide32) rest_is)

-- a frame of these parts is for this replica and from one that is linked
record Passes (linked : ℕ → Bool) (me : ℕ) (parts : ℕ × (ℕ × List ℕ)) (p : ℕ × List ℕ) : Type 0 where
  whole : parts ≡ (p.0, (me, p.1))
  is_linked : linked p.0 ≡ true

passes_if : (linked : ℕ → Bool) (me : ℕ) (for_me is_linked : Bool) (from to : ℕ) (message : List ℕ) (p : ℕ × List ℕ) → eqb to me ≡ for_me → linked from ≡ is_linked
    → cond for_me (cond is_linked (Ok (from, message)) (Err (NoLink from))) (Err (NotForMe to)) ≡ Ok p → Passes linked me (from, (to, message)) p
passes_if linked me true true from to message p to_me link e =
    let made : ℕ × List ℕ = (from, message) in
    let is : made ≡ p = cc in
    let to-is = eqb-true to me to_me in
    record {
      whole = ap (λ (q : ℕ × List ℕ). (q.0, (to, q.1))) is ∙ ap (λ (t : ℕ). (p.0, (t, p.1))) to-is;
      is_linked = ap (λ (q : ℕ × List ℕ). linked q.0) (sym is) ∙ link;
    }
passes_if linked me true false from to message p to_me link e = absurd cc
passes_if linked me false is_linked from to message p to_me link e = absurd cc

passes : (linked : ℕ → Bool) (me size : ℕ) (o : Option (ℕ × (ℕ × List ℕ))) (p : ℕ × List ℕ) → taken_by linked me size o ≡ Ok p → (parts : ℕ × (ℕ × List ℕ)) × (o ≡ Some parts) × Passes linked me parts p
passes linked me size None p e = absurd cc
passes linked me size (Some (from, (to, message))) p e = ((from, (to, message)), refl, passes_if linked me (eqb to me) (linked from) from to message p refl refl e)

pub found : {X : Type 0} (view : X → ℕ × List ℕ) (linked : ℕ → Bool) (me : ℕ) (frame : List ℕ) (r : Result X LinkFault) → IsBytes frame → Gives view r (accepted_of linked me frame)
    → IfOk r (λ x. (frame ≡ frame_bytes (view x).0 me (view x).1) × IsTrue (linked (view x).0))
found view linked me frame (Err fault) fits given = tt
found view linked me frame (Ok x) fits given =
    let p = passes linked me (length frame) (link_frame.read frame) (view x) given in
    let spelled = (frame_is.taken frame p.0 fits p.1).0 in
    (spelled ∙ ap link_frame.spelled p.2.whole, p.2.is_linked)

taken_linked : (linked : ℕ → Bool) (me size from : ℕ) (message : List ℕ) → linked from ≡ true → taken_by linked me size (Some (from, (me, message))) ≡ Ok (from, message)
taken_linked linked me size from message link = rw (eq-eqb me me refl, link) refl

abbrev answered : ℕ × List ℕ → Result (ℕ × List ℕ) LinkFault
answered p = Ok p

abbrev refused : LinkFault → Result (ℕ × List ℕ) LinkFault
refused fault = Err fault

pub only : {X : Type 0} (view : X → ℕ × List ℕ) (linked : ℕ → Bool) (me : ℕ) (frame : List ℕ) (r : Result X LinkFault) → me < 2 ^ 32 → Gives view r (accepted_of linked me frame)
    → (from : ℕ) (message : List ℕ) → from < 2 ^ 32 → frame ≡ frame_bytes from me message → IsTrue (linked from) → IsOkAnd r (λ x. ((view x).0 ≡ from) × ((view x).1 ≡ message))
only {X = X} view linked me frame r wide given from message fits e link = is_ok r given
  where
    answer : accepted_of linked me frame ≡ Ok (from, message)
    answer = ap (accepted_of linked me) e ∙ ap (taken_by linked me (length (frame_bytes from me message))) (frame_is.again (from, (me, message)) (fits, (wide, tt))) ∙ taken_linked linked me (length (frame_bytes from me message)) from message link

    is_ok : (r : Result X LinkFault) → Gives view r (accepted_of linked me frame) → IsOkAnd r (λ x. ((view x).0 ≡ from) × ((view x).1 ≡ message))
    is_ok (Ok x) given =
        let same : answered (view x) ≡ answered (from, message) = sym given ∙ answer in
        (cc, cc)
    is_ok (Err fault) given =
        let same : refused fault ≡ answered (from, message) = sym given ∙ answer in
        absurd cc

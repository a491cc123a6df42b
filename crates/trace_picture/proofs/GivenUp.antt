-- The line which says that a driver gave up, by its parts.
use Rattle.std.proofs.Common.{◌≡◌, ℕ, ◌+◌, ◌<◌, ◌==◌, ◌&&◌, Bool, true, false, Result, Ok, Err, Option, Some, None, ◌≢◌, Bor, decimal, List, [], ◌∷◌, ◌++◌, length, refl, sym, ap, ◌∙◌, arith, length-append, inl, inr, ◌⊎◌, codes, subst}
use Rattle.std.specs.Prelude.{IsTrue, IfNone, IfSome, MatchOption}
use Rattle.std.specs.Bool.{Decides}
use Rattle.std.specs.Fmt.{digits}
use Rattle.std.specs.List.{list_all}
use Rattle.std.proofs.lemmas.Bool.{and_from, and_parts, eqb-true}
use Rattle.std.proofs.lemmas.Bool.Decides.{eqb_tells}
use Rattle.std.proofs.lemmas.List.{append_cancel_left, append_cancel_right}
use Rattle.std.proofs.lemmas.List.Folds.{list_all-append}
use Rattle.hex.specs.Hex.{decode_of, lower_digits}
use Rattle.hex.specs.declared.error.FromHexError.{FromHexError}
use Rattle.hex.proofs.HexLemmas.{decode_of-encode_lower, decode_of-ok, length-encode_with}
use Rattle.schedule_model.specs.Lines.{hex}
use Rattle.schedule_model.specs.Reading.{RecordFault, fault}
use Rattle.schedule_text.specs.Read.{client_from}
use Rattle.schedule_text.proofs.Joins.{line_of_fields}
use Rattle.values.specs.declared.event.Cause.TheVariants.{Hex}
use Rattle.values.specs.declared.ids.ClientId.{ClientId}
use Rattle.trace_audit.proofs.Feeds.{HasNone, is_other, says_nothing, too_long}
use Rattle.trace_model.specs.Driven.{gave_up}
use Rattle.trace_model.specs.Driver.{max_turns}
use Rattle.trace_model.specs.TraceLines.{is_byte, is_client_id, max_line}
use Rattle.trace_model.proofs.Bytes.{all_bytes, get_byte}
use Rattle.trace_picture.specs.Forms.{HasForm, IsClient, IsGaveUp}

-- such a line, of which this field is the client
abbrev pub text_of : List ℕ → List ℕ
text_of field = codes "gaveup," ++ (field ++ codes ",16")

gave_up_text : (c : ClientId) → gave_up c ≡ text_of (hex c.0) ++ 10 ∷ []
unfolding digits
gave_up_text c = line_of_fields (codes "gaveup") (hex c.0 ∷ decimal max_turns ∷ [])

pub given_up : (line field : List ℕ) → line ≡ text_of field → IsClient field → IsGaveUp (line ++ 10 ∷ [])
given_up line field is (c, id, e) = (c, id, ap (λ (t : List ℕ). t ++ 10 ∷ []) (is ∙ ap text_of e) ∙ sym (gave_up_text c))

pub parts_of : (line : List ℕ) → IsGaveUp (line ++ 10 ∷ []) → (field : List ℕ) × IsClient field × (line ≡ text_of field)
parts_of line (c, id, e) = (hex c.0, (c, id, refl), append_cancel_right line (text_of (hex c.0)) (10 ∷ []) (e ∙ gave_up_text c))

pub field_is : (line field : List ℕ) → line ≡ text_of field → IsGaveUp (line ++ 10 ∷ []) → IsClient field
field_is line field is g =
    let p = parts_of line g in
    let same : text_of field ≡ text_of p.0 = sym is ∙ p.2 in
    let same_field : field ≡ p.0 = append_cancel_right field p.0 (codes ",16") (append_cancel_left (codes "gaveup,") (field ++ codes ",16") (p.0 ++ codes ",16") same) in
    subst IsClient (sym same_field) p.1

-- ---- a client
pub client_bytes : (text : List ℕ) (c : ClientId) → client_from text 0 ≡ Ok c → IsTrue (is_client_id c)
client_bytes text c is = go (decode_of text) refl
  where
    go : (r : Result (List ℕ) FromHexError) → decode_of text ≡ r → IsTrue (is_client_id c)
    go (Err x) e = absurd (let never : fault {T = ClientId} Hex 0 ≡ Ok c = rw e at is in cc never)
    go (Ok bytes) e = elim (eqb_tells (length bytes) 16) [
      | inl y ↦
          let made : Ok (record { 0 = bytes }) ≡ Ok c = sym (rw (e, y.0) refl) ∙ is in
          let same : bytes ≡ c.0 = cc made in
          and_from (length c.0 == 16) (list_all is_byte c.0) (ap (λ (b : List ℕ). length b == 16) (sym same) ∙ y.0) (subst (λ (b : List ℕ). IsTrue (list_all is_byte b)) same (all_bytes bytes (decode_of-ok text bytes e).3))
      | inr n ↦ absurd (let never : fault {T = ClientId} Hex 0 ≡ Ok c = sym (rw (e, n.0) refl) ∙ is in cc never)
    ]

pub client_again : (c : ClientId) → IsTrue (is_client_id c) → client_from (hex c.0) 0 ≡ Ok c
client_again c id =
    let p = and_parts (length c.0 == 16) (list_all is_byte c.0) id in
    rw (decode_of-encode_lower c.0 (get_byte c.0 p.1), p.0) refl

pub client_told : (field digits : List ℕ) (c : ClientId) (r : Bool) → client_from field 0 ≡ Ok c → digits ≡ hex c.0 → Decides r (field ≡ digits) → Decides r (IsClient field)
client_told field digits c r is written same = ((λ yes. (c, client_bytes field c is, same.0 yes ∙ written)), λ x. same.1 (again x))
  where
    again : IsClient field → field ≡ digits
    again (d, id, e) =
        let both : Ok d ≡ Ok c = sym (client_again d id) ∙ sym (ap (λ (t : List ℕ). client_from t 0) e) ∙ is in
        let one : d ≡ c = cc both in
        e ∙ ap (λ (x : ClientId). hex x.0) one ∙ sym written

pub client_refused : (field : List ℕ) (f : RecordFault) → client_from field 0 ≡ Err f → Decides false (IsClient field)
client_refused field f is = ((λ yes. cc yes), λ x. absurd (never x))
  where
    never : IsClient field → ⊥
    never (d, id, e) =
        let both : Ok d ≡ Err f = sym (client_again d id) ∙ sym (ap (λ (t : List ℕ). client_from t 0) e) ∙ is in
        absurd (cc both)

-- ---- the field between
pub client_found : (line rest : List ℕ) (r : Option (Bor (List ℕ))) → line ≡ codes "gaveup," ++ rest
    → MatchOption r ((front : List ℕ) → rest ≢ front ++ codes ",16") (λ x. rest ≡ x.now ++ codes ",16") → IfSome r (λ x. line ≡ text_of x.now)
client_found line rest (Some x) e m = e ∙ ap (λ (l : List ℕ). codes "gaveup," ++ l) m
client_found line rest None e m = tt

pub no_client_found : (line rest : List ℕ) (r : Option (Bor (List ℕ))) → line ≡ codes "gaveup," ++ rest
    → MatchOption r ((front : List ℕ) → rest ≢ front ++ codes ",16") (λ x. rest ≡ x.now ++ codes ",16") → IfNone r ((field : List ℕ) → line ≢ text_of field)
no_client_found line rest (Some x) e m = tt
no_client_found line rest None e m = λ field is. m field (append_cancel_left (codes "gaveup,") rest (field ++ codes ",16") (sym e ∙ is))

-- ---- a line that is cut off
never : (t : Bool) → (t && false) ≡ false
never true = refl
never false = refl

has_feed : (line : List ℕ) → HasNone line → IsGaveUp line → ⊥
has_feed line none (c, id, e) =
    let ends : list_all is_other line ≡ false = ap (list_all is_other) (e ∙ gave_up_text c) ∙ list_all-append is_other (text_of (hex c.0)) (10 ∷ []) ∙ never (list_all is_other (text_of (hex c.0))) in
    absurd (let both : true ≡ false = sym none ∙ ends in cc)

pub cut_has_none : (line : List ℕ) → HasNone line → HasForm line → ⊥
cut_has_none line none (inl said) = says_nothing line none said.0 said.1
cut_has_none line none (inr g) = has_feed line none g

-- ---- a line that is too long
size : (c : ClientId) → IsTrue (is_client_id c) → length (text_of (hex c.0)) ≡ 42
size c id =
    let p = and_parts (length c.0 == 16) (list_all is_byte c.0) id in
    omega (arith, length-encode_with lower_digits c.0, eqb-true (length c.0) 16 p.0, length-append (codes "gaveup,") (hex c.0 ++ codes ",16"), length-append (hex c.0) (codes ",16"))

is_short : (p line : List ℕ) → max_line < length p → ((xs : List ℕ) × (line ≡ (p ++ xs) ++ 10 ∷ [])) ⊎ HasNone line → IsGaveUp line → ⊥
is_short p line long (inr none) g = has_feed line none g
is_short p line long (inl (xs, e)) (c, id, is) =
    let same : p ++ xs ≡ text_of (hex c.0) = append_cancel_right (p ++ xs) (text_of (hex c.0)) (10 ∷ []) (sym e ∙ is ∙ gave_up_text c) in
    let counted : length p + length xs ≡ 42 = sym (length-append p xs) ∙ ap length same ∙ size c id in
    absurd (omega (arith, counted, long))

pub long_has_none : (p line : List ℕ) → max_line < length p → ((xs : List ℕ) × (line ≡ (p ++ xs) ++ 10 ∷ [])) ⊎ HasNone line → HasForm line → ⊥
long_has_none p line long ends (inl said) = too_long p line long ends said.0 said.1
long_has_none p line long ends (inr g) = is_short p line long ends g

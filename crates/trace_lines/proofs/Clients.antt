-- The id of a client, as it is printed.
use Rattle.std.proofs.Common.{◌≡◌, ℕ, ◌==◌, Bool, true, false, Some, None, Result, Ok, Err, List, length, refl, ap, subst, ◌∙◌}
use Rattle.std.specs.Prelude.{IsTrue, if◌then◌else◌}
use Rattle.std.specs.List.{list_all}
use Rattle.std.specs.Result.{result_ok}
use Rattle.std.proofs.lemmas.Bool.{and_from, and_parts, cond-true}
use Rattle.std.proofs.lemmas.Option.{same_Some}
use Rattle.hex.specs.Hex.{decode_of}
use Rattle.hex.specs.declared.error.FromHexError.{FromHexError}
use Rattle.values.specs.declared.event.Cause.TheVariants.{Hex}
use Rattle.values.specs.declared.ids.ClientId.{ClientId}
use Rattle.schedule_model.specs.Lines.{hex}
use Rattle.schedule_model.specs.Reading.{RecordFault, ◌>>=◌, bytes_or_fault, fault}
use Rattle.schedule_text.specs.Read.{client_from}
use Rattle.trace_model.specs.TraceLines.{is_byte, is_client_id}
use Rattle.trace_lines.specs.Fields.{client_in, is_lower}
use Rattle.trace_lines.proofs.Hexes.{hex_again, hex_low, hex_printed}
use Rattle.trace_lines.proofs.Steps.{chosen, ok_of}

abbrev okay : ClientId → Result ClientId RecordFault
okay x = Ok x

unwrapped : (x y : ClientId) → okay x ≡ Ok y → x ≡ y
unwrapped x y is = same_Some x y (ap result_ok is)

abbrev made : Bool → List ℕ → ℕ → Result ClientId RecordFault
made b bytes k = (if b then Ok bytes else fault Hex k) >>= λ x. Ok (record { 0 = x })

made_is : (b : Bool) (bytes : List ℕ) (k : ℕ) (c : ClientId) → made b bytes k ≡ Ok c → IsTrue b × (bytes ≡ c.0)
made_is true bytes k c is = (refl, ap (λ (x : ClientId). x.0) (unwrapped (record { 0 = bytes }) c is))
made_is false bytes k c is = cc is

abbrev from_bytes : Result (List ℕ) FromHexError → ℕ → Result ClientId RecordFault
from_bytes r k = (bytes_or_fault k r >>= λ bytes. if length bytes == 16 then Ok bytes else fault Hex k) >>= λ x. Ok (record { 0 = x })

made_from : (r : Result (List ℕ) FromHexError) (k : ℕ) (c : ClientId) → from_bytes r k ≡ Ok c → (r ≡ Ok c.0) × IsTrue (length c.0 == 16)
made_from (Ok bytes) k c is = let m = made_is (length bytes == 16) bytes k c is in (ap Ok m.1, subst (λ (x : List ℕ). IsTrue (length x == 16)) m.1 m.0)
made_from (Err e) k c is = cc is

decoded : (text : List ℕ) (k : ℕ) (c : ClientId) → client_from text k ≡ Ok c → (decode_of text ≡ Ok c.0) × IsTrue (length c.0 == 16)
decoded text k c is = made_from (decode_of text) k c is

pub client_found : (text : List ℕ) (c : ClientId) → client_in text ≡ Some c → (text ≡ hex c.0) × IsTrue (is_client_id c)
client_found text c is =
    let p = chosen (is_lower text) (result_ok (client_from text 0)) c is in
    let d = decoded text 0 c (ok_of (client_from text 0) c p.1) in
    let x = hex_printed text c.0 d.0 p.0 in
    (x.same, and_from (length c.0 == 16) (list_all is_byte c.0) d.1 x.are_bytes)

pub client_only : (c : ClientId) → IsTrue (is_client_id c) → client_in (hex c.0) ≡ Some c
client_only c h =
    let p = and_parts (length c.0 == 16) (list_all is_byte c.0) h in
    let read : client_from (hex c.0) 0 ≡ Ok c = ap (λ (r : Result (List ℕ) FromHexError). from_bytes r 0) (hex_again c.0 p.1) ∙ ap (λ (b : Bool). made b c.0 0) p.0 in
    cond-true (is_lower (hex c.0)) (result_ok (client_from (hex c.0) 0)) None (hex_low c.0) ∙ ap result_ok read

-- Traces that are not accepted: with a hash that has more than 32 bytes, or a line that is too long.
use Rattle.std.proofs.Common.{◌≡◌, ℕ, ◌+◌, ◌*◌, ◌≤◌, ◌==◌, ◌&&◌, zero, suc, Bool, true, false, Option, Some, None, Result, Ok, Err, List, [], ◌∷◌, ◌++◌, length, drop, slice_get, refl, sym, ap, subst, ◌∙◌, arith}
use Rattle.std.specs.Prelude.{IsTrue, bytes_eq, codes, decimal, is_some, nat_le}
use Rattle.std.specs.List.{AllByRecursion, AllZip, list_all}
use Rattle.std.proofs.lemmas.Bool.{and_parts, eqb-true, leb-true}
use Rattle.std.proofs.lemmas.List.{append_cancel_right, length-append}
use Rattle.std.proofs.lemmas.Option.{none-some, same_Some}
use Rattle.hex.specs.Hex.{encode_with, lower_digits}
use Rattle.values.specs.declared.entry.Hash.{Hash}
use Rattle.values.specs.declared.ids.ClientId.{ClientId}
use Rattle.schedule_model.specs.Lines.{hex}
use Rattle.record_cutting.specs.Lines.{lines_of}
use Rattle.trace_model.specs.Audit.{Audit, Audits, Verdict, Accepts, Refuses, Why, LineSays, Reads, audited, new_audit, verdict}
use Rattle.trace_model.specs.TraceLines.{Form, EventForm, RefusedForm, RefusedByGroup, LeadForm, MembersForm, HaltForm, TakenForm, CommitForm, AnswerForm, SentForm, SavedForm, ClientForm, LogForm, RollbacksForm, EndForm, StoppedAtRecord, StoppedAtLimit, StoppedAtFrame, TraceLine, FieldsArePlain, form_fields, is_byte, is_hash, is_index, is_replica, InRange, Says}
use Rattle.model_rows.specs.Broken.{LongWantsAreRefused}
use Rattle.model_rows.proofs.Grammar.{cut, differ, fields_of, first, starts}
use Rattle.model_rows.proofs.Computing.{computing}

-- ---- an accepted trace has no line that says nothing
abbrev AllSay : List (Option TraceLine) → Type 0
AllSay said = AllByRecursion (λ (o : Option TraceLine). is_some o ≡ true) said

accepted_say : (said : List (Option TraceLine)) (n k : ℕ) (a : Audit) → Accepts k ≡ verdict n a said → AllSay said
accepted_say [] n k a is = tt
accepted_say (None ∷ said) n k a is = absurd (let e : false ≡ true = sym (ap accepts is) in cc)
  where
    accepts : Verdict → Bool
    accepts (Accepts k) = true
    accepts (Refuses line why) = false
accepted_say (Some what ∷ said) n k a is = (refl, by_audit (audited a what) (λ b is. accepted_say said (n + 1) k b is) is)
  where
    accepts : Verdict → Bool
    accepts (Accepts k) = true
    accepts (Refuses line why) = false

    by_audit : (r : Result Audit Why) → ((b : Audit) → Accepts k ≡ verdict (n + 1) b said → AllSay said) → Accepts k ≡ elim r [ Ok b ↦ verdict (n + 1) b said | Err why ↦ Refuses (n + 1) why ] → AllSay said
    by_audit (Ok b) rest is = rest b is
    by_audit (Err why) rest is = absurd (let e : false ≡ true = sym (ap accepts is) in cc)

line_says : (k : ℕ) (lines : List (List ℕ)) (said : List (Option TraceLine)) → AllZip Reads lines said → AllSay said → (line : List ℕ) → slice_get lines k ≡ Some line → (what : TraceLine) × LineSays line what
line_says k [] said zip all line is = absurd (none-some line is)
line_says k (l ∷ lines) [] zip all line is = absurd zip
line_says zero (l ∷ lines) (None ∷ said) zip all line is = absurd (let e : false ≡ true = all.0 in cc)
line_says zero (l ∷ lines) (Some what ∷ said) zip all line is = (what, subst (λ (x : List ℕ). LineSays x what) (same_Some l line is) zip.0)
line_says (suc k) (l ∷ lines) (o ∷ said) zip all line is = line_says k lines said zip.1 all.1 line is

pub not_accepted : (trace : List ℕ) (k : ℕ) (text : List ℕ) → slice_get (lines_of trace) k ≡ Some (text ++ 10 ∷ []) → ((what : TraceLine) → Says text what → ⊥) → (lines : ℕ) → Audits trace (Accepts lines) → ⊥
not_accepted trace k text stands none lines audits =
    let found = line_says k (lines_of trace) audits.0 audits.1 (accepted_say audits.0 0 lines new_audit audits.2) (text ++ 10 ∷ []) stands in
    none found.0 (subst (λ (t : List ℕ). Says t found.0) (sym (append_cancel_right text found.1.0 (10 ∷ []) found.1.1)) found.1.2)

-- ---- a hash has 64 digits
hex_long : (bytes : List ℕ) → length (hex bytes) ≡ 2 * length bytes
unfolding encode_with
hex_long [] = refl
hex_long (b ∷ bytes) = omega (arith, hex_long bytes)

abbrev fourth : List (List ℕ) → List ℕ
fourth fields = first (drop 3 fields)

module _ (fields : List (List ℕ)) (taken : bytes_eq (first fields) (codes "taken") ≡ true) (long : (length (fourth fields) == 64) ≡ false) where
  other : (xs : List (List ℕ)) → bytes_eq (first xs) (codes "taken") ≡ false → xs ≡ fields → ⊥
  other xs apart is = absurd (let e : false ≡ true = sym (subst (λ (l : List (List ℕ)). bytes_eq (first l) (codes "taken") ≡ false) is apart) ∙ taken in cc)

  no_long_form : (f : Form) → form_fields f ≡ fields → InRange f → ⊥
  no_long_form (TakenForm r at) is fine =
      let p = and_parts (is_replica r) (is_index at.index && is_hash at.hash) fine in
      let q = and_parts (is_index at.index) (is_hash at.hash) p.1 in
      let bytes : length at.hash.0 ≡ 32 = eqb-true (length at.hash.0) 32 (and_parts (length at.hash.0 == 32) (list_all is_byte at.hash.0) q.1).0 in
      let same : hex at.hash.0 ≡ fourth fields = ap fourth is in
      let size : length (fourth fields) ≡ 64 = omega (arith, ap length same, hex_long at.hash.0, bytes) in
      absurd (let e : false ≡ true = sym long ∙ ap (λ n. n == 64) size in cc)
  no_long_form (EventForm number what) is fine = other _ refl is
  no_long_form (RefusedForm r) is fine = other _ refl is
  no_long_form (RefusedByGroup r) is fine = other _ refl is
  no_long_form (LeadForm r term) is fine = other _ refl is
  no_long_form (MembersForm r index margin voters) is fine = other _ refl is
  no_long_form (HaltForm r index kept offered) is fine = other _ refl is
  no_long_form (CommitForm r index entry) is fine = other _ refl is
  no_long_form (AnswerForm number r client asked what) is fine = other _ refl is
  no_long_form (SentForm number from to message) is fine = other _ refl is
  no_long_form (SavedForm r k) is fine = other _ refl is
  no_long_form (ClientForm client what) is fine = other _ refl is
  no_long_form (LogForm n) is fine = other _ refl is
  no_long_form (RollbacksForm within) is fine = other _ refl is
  no_long_form (EndForm events messages answers) is fine = other _ refl is
  no_long_form (StoppedAtRecord number f) is fine = other _ refl is
  no_long_form (StoppedAtLimit which) is fine = other _ refl is
  no_long_form StoppedAtFrame is fine = other _ refl is

pub long_hash_says_nothing : FieldsArePlain → (text : List ℕ) → starts text ≡ true → bytes_eq (first (cut [] text)) (codes "taken") ≡ true → (length (fourth (cut [] text)) == 64) ≡ false → (what : TraceLine) → Says text what → ⊥
long_hash_says_nothing plain text some taken long what said =
    no_long_form (cut [] text) taken long said.0 (fields_of (form_fields said.0) (plain said.0) text some said.1.printed) said.1.in_range

-- ---- a line that is too long
pub long_wants : LongWantsAreRefused
long_wants number client secret pin tries long what said =
    let a : List ℕ = codes "event" in
    let rest_3 : List ℕ = hex secret ++ 44 ∷ (hex pin.0 ++ 44 ∷ decimal tries) in
    let rest_2 : List ℕ = codes "store" ++ 44 ∷ rest_3 in
    let rest_1 : List ℕ = codes "want" ++ 44 ∷ (hex client.0 ++ 44 ∷ rest_2) in
    let short = leb-true _ _ said.1.short in
    absurd (omega (arith, short, long, hex_long secret, length-append a (44 ∷ (decimal number ++ 44 ∷ rest_1)), length-append (decimal number) (44 ∷ rest_1), length-append (codes "want") (44 ∷ (hex client.0 ++ 44 ∷ rest_2)), length-append (hex client.0) (44 ∷ rest_2), length-append (codes "store") (44 ∷ rest_3), length-append (hex secret) (44 ∷ (hex pin.0 ++ 44 ∷ decimal tries))))

-- What a reader makes of a plain line.
use Rattle.std.proofs.Common.{arith, refl, sym, ap, ◌∙◌, ◌≡◌, ℕ, zero, suc, add-one, List, [], ◌∷◌, ◌++◌, length, Some, Bool, true, false, not, ◌==◌, ◌&&◌, append_assoc, append-nil, inl, inr}
use Rattle.std.proofs.lemmas.Bool.{cases_Bool}
use Rattle.csv.specs.Machine.{next_record, step}
use Rattle.csv.specs.Reading.{default_config, records_from, strip_bom}
use Rattle.csv.specs.declared.parser.Action.TheVariants as act
use Rattle.csv.specs.declared.parser.State.{State}
use Rattle.csv.specs.declared.parser.State.TheVariants as st
use Rattle.record_cutting.specs.Lines.{Record, line_records}
use Rattle.record_stream.proofs.Lacking.{Lacks}
use Rattle.record_stream.specs.Plain.{IsEndedLine, cells, is_plain, is_plain_byte, plain_records}

-- the four tests of a plain byte
record Plain (b : ℕ) : Type 0 where
  feed : (b == 10) ≡ false
  return : (b == 13) ≡ false
  quote : (b == 34) ≡ false
  mark : (b == 239) ≡ false

plain_of : (p q r s : Bool) → not p && not q && not r && not s ≡ true → (p ≡ false) × (q ≡ false) × (r ≡ false) × (s ≡ false)
plain_of false false false false e = (refl, refl, refl, refl)
plain_of true q r s e = cc e
plain_of false true r s e = cc e
plain_of false false true s e = cc e
plain_of false false false true e = cc e

plain_byte : (b : ℕ) → is_plain_byte b ≡ true → Plain b
plain_byte b e =
    let t = plain_of (b == 10) (b == 13) (b == 34) (b == 239) e in
    record { feed = t.0; return = t.1; quote = t.2; mark = t.3 }

both : (p q : Bool) → p && q ≡ true → (p ≡ true) × (q ≡ true)
both true true e = (refl, refl)
both true false e = cc e
both false q e = cc e

first_plain : (b : ℕ) (bs : List ℕ) → is_plain (b ∷ bs) ≡ true → Plain b × (is_plain bs ≡ true)
first_plain b bs e = let t = both (is_plain_byte b) (is_plain bs) e in (plain_byte b t.0, t.1)

-- what ends a line, with the state and the bytes after its record
data Ending : List ℕ → State → List ℕ → Type 0 where
  Nothing : Ending [] st.StartRecord []
  Feed : Ending (10 ∷ []) st.StartRecord []
  ReturnFeed : Ending (13 ∷ 10 ∷ []) st.AfterCr (10 ∷ [])

-- where a field begins, or goes on
data InRecord : State → Type 0 where
  Begins : InRecord st.StartField
  GoesOn : InRecord st.InField

step_comma : (s : State) → InRecord s → (b : ℕ) → Plain b → (b == 44) ≡ true → step default_config s b ≡ (st.StartField, act.EndField)
step_comma s Begins b t y = rw (t.quote, y) refl
step_comma s GoesOn b t y = rw y refl

step_other : (s : State) → InRecord s → (b : ℕ) → Plain b → (b == 44) ≡ false → step default_config s b ≡ (st.InField, act.Copy)
step_other s Begins b t n = rw (t.quote, n, t.return, t.feed) refl
step_other s GoesOn b t n = rw (n, t.return, t.feed) refl

-- a record begins as a field does
step_first : (b : ℕ) → Plain b → step default_config st.StartRecord b ≡ step default_config st.StartField b
step_first b t = rw (t.return, t.feed) refl

-- the fields so far, and then those between the commas
read_plain : (end : List ℕ) (t : State) (rest : List ℕ) → Ending end t rest → (s : State) → InRecord s → (f : Record) (p body : List ℕ) → is_plain body ≡ true
    → next_record default_config s f p (body ++ end) ≡ Some (f ++ cells p body, t, rest)
unfolding next_record cells
read_plain end t rest Nothing s Begins f p [] h = refl
read_plain end t rest Nothing s GoesOn f p [] h = refl
read_plain end t rest Feed s Begins f p [] h = refl
read_plain end t rest Feed s GoesOn f p [] h = refl
read_plain end t rest ReturnFeed s Begins f p [] h = refl
read_plain end t rest ReturnFeed s GoesOn f p [] h = refl
read_plain end t rest e s i f p (b ∷ bs) h =
    let plain = first_plain b bs h in
    elim (cases_Bool (b == 44)) [
      | inl y ↦ rw (step_comma s i b plain.0 y, y) (read_plain end t rest e st.StartField Begins (f ++ (p ∷ [])) [] bs plain.1 ∙ ap (λ (l : Record). Some (l, t, rest)) (append_assoc f (p ∷ []) (cells [] bs)))
      | inr n ↦ rw (step_other s i b plain.0 n, n) (read_plain end t rest e st.InField GoesOn f (p ++ (b ∷ [])) bs plain.1)
    ]

read_first : (end : List ℕ) (t : State) (rest : List ℕ) → Ending end t rest → (b : ℕ) (bs : List ℕ) → is_plain (b ∷ bs) ≡ true
    → next_record default_config st.StartRecord [] [] ((b ∷ bs) ++ end) ≡ Some (cells [] (b ∷ bs), t, rest)
unfolding next_record
read_first end t rest e b bs h = rw (step_first b (first_plain b bs h).0) (read_plain end t rest e st.StartField Begins [] [] (b ∷ bs) h)

-- no record is left after it
none_left : (end : List ℕ) (t : State) (rest : List ℕ) → Ending end t rest → (n : ℕ) → records_from default_config n t rest ≡ []
unfolding records_from next_record
none_left end t rest Nothing zero = refl
none_left end t rest Nothing (suc n) = refl
none_left end t rest Feed zero = refl
none_left end t rest Feed (suc n) = refl
none_left end t rest ReturnFeed zero = refl
none_left end t rest ReturnFeed (suc n) = refl

no_mark : (b : ℕ) (rest : List ℕ) → Plain b → strip_bom (b ∷ rest) ≡ b ∷ rest
unfolding strip_bom
no_mark b [] t = refl
no_mark b (x ∷ []) t = refl
no_mark b (x ∷ y ∷ more) t = rw t.mark refl

records_plain : (end body : List ℕ) (t : State) (rest : List ℕ) → Ending end t rest → is_plain body ≡ true → line_records (body ++ end) ≡ plain_records body
unfolding line_records strip_bom records_from next_record
records_plain end [] t rest Nothing h = refl
records_plain end [] t rest Feed h = refl
records_plain end [] t rest ReturnFeed h = refl
records_plain end (b ∷ bs) t rest e h =
    rw (no_mark b (bs ++ end) (first_plain b bs h).0, add-one, read_first end t rest e b bs h, none_left end t rest e (length ((b ∷ bs) ++ end))) refl

pub plain_line : (line body : List ℕ) → is_plain body ≡ true → IsEndedLine line body → line_records line ≡ plain_records body
plain_line line body h (inl e) = ap line_records (e ∙ sym (append-nil body)) ∙ records_plain [] body _ _ Nothing h
plain_line line body h (inr (inl e)) = ap line_records e ∙ records_plain (10 ∷ []) body _ _ Feed h
plain_line line body h (inr (inr e)) = ap line_records e ∙ records_plain (13 ∷ 10 ∷ []) body _ _ ReturnFeed h

-- no line feed
pub plain_lacks : (body : List ℕ) → is_plain body ≡ true → Lacks 10 body (length body)
plain_lacks [] h k lt e = absurd (omega arith)
plain_lacks (b ∷ bs) h zero lt e = cc (sym (first_plain b bs h).0.feed ∙ e)
plain_lacks (b ∷ bs) h (suc k) lt e = plain_lacks bs (first_plain b bs h).1 k (omega arith) e

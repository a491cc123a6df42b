-- Parts that make a line.
use Rattle.std.proofs.Common.{refl, sym, ap, ◌∙◌, ◌≡◌, ℕ, List, [], ◌∷◌, ◌++◌, drop, get_or, length, ◌<◌, ◌+◌, add-one, drop-cons, map, append_assoc, Result, Ok, Err, OnOk}
use Rattle.fixed_fields.specs.Written.{Puts, Written}
use Rattle.schedule_model.specs.Lines.{Line, line_text}
use Rattle.schedule_text.specs.Joined.{after_comma, after_commas}

pub commas_append : (fs gs : Line) → after_commas (fs ++ gs) ≡ after_commas fs ++ after_commas gs
commas_append [] gs = refl
commas_append (f ∷ fs) gs = ap (λ (l : List ℕ). after_comma f ++ l) (commas_append fs gs) ∙ sym (append_assoc (after_comma f) (after_commas fs) (after_commas gs))

-- fields behind fields
pub both : {T E : Type 0} (r : Result T E) (old first all : List ℕ) (fs gs : Line) → first ≡ old ++ after_commas fs
    → OnOk r (all ≡ first ++ after_commas gs) → OnOk r (all ≡ old ++ after_commas (fs ++ gs))
both (Err e) old first all fs gs begun rest = tt
both (Ok x) old first all fs gs begun rest =
    rest ∙ ap (λ (l : List ℕ). l ++ after_commas gs) begun ∙ append_assoc old (after_commas fs) (after_commas gs)
    ∙ ap (λ (l : List ℕ). old ++ l) (sym (commas_append fs gs))

-- a word, fields and a line feed
pub whole : {T E : Type 0} (r : Result T E) (old opened fields all word : List ℕ) (fs : Line)
    → line_text (word ∷ fs) ≡ (word ++ after_commas fs) ++ (10 ∷ [])
    → opened ≡ old ++ word → fields ≡ opened ++ after_commas fs → OnOk r (all ≡ fields ++ (10 ∷ [])) → OnOk r (all ≡ old ++ line_text (word ∷ fs))
whole (Err e) old opened fields all word fs joined first others rest = tt
whole (Ok x) old opened fields all word fs joined first others rest =
    rest ∙ ap (λ (l : List ℕ). l ++ (10 ∷ [])) (others ∙ ap (λ (l : List ℕ). l ++ after_commas fs) first ∙ append_assoc old word (after_commas fs))
    ∙ append_assoc old (word ++ after_commas fs) (10 ∷ []) ∙ ap (λ (l : List ℕ). old ++ l) (sym joined)

-- the same with fields in two parts
pub in_parts : {T E : Type 0} (r : Result T E) (old opened first second all word : List ℕ) (fs gs : Line)
    → line_text (word ∷ (fs ++ gs)) ≡ (word ++ after_commas (fs ++ gs)) ++ (10 ∷ [])
    → opened ≡ old ++ word → first ≡ opened ++ after_commas fs → second ≡ first ++ after_commas gs
    → OnOk r (all ≡ second ++ (10 ∷ [])) → OnOk r (all ≡ old ++ line_text (word ∷ (fs ++ gs)))
in_parts r old opened first second all word fs gs joined a b c rest =
    whole r old opened second all word (fs ++ gs) joined a (both {T = Unit {0}} {E = Unit {0}} (Ok tt) opened first second fs gs b c) rest

-- one field more of a list
pub next_field : {A : Type 0} (text : A → List ℕ) (items : List A) (i : ℕ) (d : A) (old new total : List ℕ) → i < length items
    → new ≡ old ++ after_comma (text (get_or items i d))
    → old ++ after_commas (map text (drop i items)) ≡ total → new ++ after_commas (map text (drop (i + 1) items)) ≡ total
next_field text items i d old new total within is so_far =
    let x = after_comma (text (get_or items i d)) in
    let rest = after_commas (map text (drop (i + 1) items)) in
    let parts : after_commas (map text (drop i items)) ≡ x ++ rest = rw (add-one, drop-cons items i d within) refl in
    ap (λ (l : List ℕ). l ++ rest) is ∙ append_assoc old x rest ∙ ap (λ (l : List ℕ). old ++ l) (sym parts) ∙ so_far

pub puts_both : {T E T' E' : Type 0} {s : Result T' E'} (old between new : Written) (x : T) (fs gs : Line) → Puts {T = T} {E = E} (Ok x) old between (after_commas fs)
    → Puts s between new (after_commas gs) → Puts s old new (after_commas (fs ++ gs))
puts_both {s = s} old between new x fs gs first second = record {
  front = second.front ∙ first.front;
  ok = both s old.tail between.tail new.tail fs gs first.ok second.ok;
}

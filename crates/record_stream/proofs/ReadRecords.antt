-- The records that a reader gives in turn are the records of the text.
use Rattle.std.proofs.Common.{arith, refl, sym, subst, ap, length-append, ◌≡◌, ◌+◌, ◌-◌, ◌≤◌, ◌<◌, inl, inr, ℕ, zero, suc, List, [], ◌∷◌, ◌++◌, length, Option, Some, None, Bool, true, false, ◌==◌, ◌&&◌, cond}
use Rattle.std.proofs.lemmas.Bool.{cases_Bool}
use Rattle.csv.specs.Machine.{Read, next_record, step, is_end, is_byte, ends_with, fields_after, field_after, ends_at_end, after_end, in_field, start_field, start_record}
use Rattle.csv.specs.Reading.{AreRecords, Reached, records, records_from, records_next, default_config, is_bom, strip_bom}
use Rattle.record_cutting.specs.Lines.{line_records}
use Rattle.csv.specs.declared.parser.Config.{Config}
use Rattle.csv.specs.declared.parser.State.{State}
use Rattle.csv.specs.declared.parser.State.TheVariants as st
use Rattle.csv.specs.declared.parser.Action.{Action}
use Rattle.csv.specs.declared.parser.Terminator.{Terminator}
use Rattle.csv.specs.declared.parser.Terminator.TheVariants as term

-- where a byte ends a record, the state after it is one between two records
abbrev EndsBetween : State × Action → Type 0
EndsBetween p = is_end p.1 ≡ true → ends_at_end p.0 ≡ false

either : (t : Bool) (a b : State × Action) → EndsBetween a → EndsBetween b → EndsBetween (cond t a b)
either true a b p q = p
either false a b p q = q

after_between : (t : Terminator) (c : ℕ) → ends_at_end (after_end t c) ≡ false
after_between term.CRLF c = elim (cases_Bool (c == 13)) [ inl y ↦ rw y refl | inr n ↦ rw n refl ]
after_between (term.Any t) c = refl

in_field_ends : (cfg : Config) (c : ℕ) → EndsBetween (in_field cfg c)
in_field_ends cfg c =
    either (c == cfg.delimiter) _ _ (λ h. cc)
    (either (ends_with cfg.terminator c) _ _ (λ h. after_between cfg.terminator c) (λ h. cc))

start_field_ends : (cfg : Config) (c : ℕ) → EndsBetween (start_field cfg c)
start_field_ends cfg c = either (cfg.quoting && (c == cfg.quote)) _ _ (λ h. cc) (in_field_ends cfg c)

start_record_ends : (cfg : Config) (c : ℕ) → EndsBetween (start_record cfg c)
start_record_ends cfg c =
    either (ends_with cfg.terminator c) _ _ (λ h. cc)
    (either (is_byte cfg.comment c) _ _ (λ h. cc) (start_field_ends cfg c))

step_ends : (cfg : Config) (s : State) (c : ℕ) → EndsBetween (step cfg s c)
step_ends cfg st.StartRecord c = start_record_ends cfg c
step_ends cfg st.StartField c = start_field_ends cfg c
step_ends cfg st.InField c = in_field_ends cfg c
step_ends cfg st.InQuoted c =
    either (cfg.quoting && (c == cfg.quote)) _ _ (λ h. cc)
    (either (cfg.quoting && is_byte cfg.escape c) _ _ (λ h. cc) (λ h. cc))
step_ends cfg st.InEscape c = λ h. cc
step_ends cfg st.AfterQuote c = either (cfg.quoting && cfg.double_quote && (c == cfg.quote)) _ _ (λ h. cc) (in_field_ends cfg c)
step_ends cfg st.InComment c = either (c == 10) _ _ (λ h. cc) (λ h. cc)
step_ends cfg st.AfterCr c = either (c == 10) _ _ (λ h. cc) (start_record_ends cfg c)

-- after a record the state is one between two records, and a byte less is left
record Ends (size : ℕ) (q : Read) : Type 0 where
  between : ends_at_end q.1 ≡ false
  shorter : length q.2 ≤ size - 1

next_ends : (cfg : Config) (s : State) (f : List (List ℕ)) (p xs : List ℕ) (q : Read) → next_record cfg s f p xs ≡ Some q → Ends (length xs) q
unfolding next_record
next_ends cfg s f p [] q e = elim (cases_Bool (ends_at_end s)) [
  | inl y ↦
      let h : (f ++ (p ∷ []), st.StartRecord, []) ≡ q = cc (rw y at e) in
      subst (λ (q : Read). Ends 0 q) h (record { between = refl; shorter = omega arith })
  | inr n ↦ cc (rw n at e)
]
next_ends cfg s f p (c ∷ xs) q e = elim (cases_Bool (is_end (step cfg s c).1)) [
  | inl y ↦
      let h : (fields_after (step cfg s c).1 f p, (step cfg s c).0, xs) ≡ q = cc (rw y at e) in
      subst (λ (q : Read). Ends (suc (length xs)) q) h (record { between = step_ends cfg s c y; shorter = omega arith })
  | inr n ↦
      let h = next_ends cfg (step cfg s c).0 (fields_after (step cfg s c).1 f p) (field_after (step cfg s c).1 c p) xs q (rw n at e) in
      record { between = h.between; shorter = omega (arith, h.shorter) }
]

-- a record that begins between two records takes a byte
shrinks : (cfg : Config) (s : State) (f : List (List ℕ)) (p xs : List ℕ) (q : Read) → ends_at_end s ≡ false → next_record cfg s f p xs ≡ Some q → length q.2 < length xs
unfolding next_record
shrinks cfg s f p [] q b e = cc (rw b at e)
shrinks cfg s f p (c ∷ xs) q b e = let h = (next_ends cfg s f p (c ∷ xs) q e).shorter in omega (arith, h)

from_rows : (cfg : Config) (n : ℕ) (s s2 : State) (xs ys : List ℕ) (rows : List (List (List ℕ))) → ends_at_end s ≡ false → length xs < n
    → Reached cfg s xs rows s2 ys → next_record cfg s2 [] [] ys ≡ None → records_from cfg n s xs ≡ rows
unfolding Reached records_from
from_rows cfg zero s s2 xs ys rows b l h e = absurd (omega arith)
from_rows cfg (suc n) s s2 xs ys [] b l h e = rw (h.0, h.1, e) refl
from_rows cfg (suc n) s s2 xs ys (r ∷ rs) b l h e =
    let (p, next, first, more) = h in
    let less : length p.2 < length xs = shrinks cfg s [] [] xs p b next in
    let rest = from_rows cfg n p.1 s2 p.2 ys rs (next_ends cfg s [] [] xs p next).between (omega arith) more e in
    rw next (cc (rest, first))

-- all the records that were read in turn are the records of the text
pub records-read : (cfg : Config) (xs : List ℕ) (rows : List (List (List ℕ))) → AreRecords cfg st.StartRecord xs rows → rows ≡ records cfg xs
records-read cfg xs rows (s2, ys, reached, end) = sym (from_rows cfg (length xs + 1) st.StartRecord s2 xs ys rows refl (omega arith) reached end)

next_length : (n : ℕ) (more : State → List ℕ → List (List (List ℕ))) (o : Option Read) → ((s : State) (xs : List ℕ) → length (more s xs) ≤ n) → length (records_next more o) ≤ suc n
next_length n more None h = omega arith
next_length n more (Some p) h = let k = h p.1 p.2 in omega (arith, k)

-- a text has at most a record more than bytes
pub length-records_from : (cfg : Config) (n : ℕ) (s : State) (xs : List ℕ) → length (records_from cfg n s xs) ≤ n
unfolding records_from
length-records_from cfg zero s xs = omega arith
length-records_from cfg (suc n) s xs = next_length n (λ s xs. records_from cfg n s xs) (next_record cfg s [] [] xs) (λ s xs. length-records_from cfg n s xs)

strip_bom-shorter : (xs : List ℕ) → length (strip_bom xs) ≤ length xs
unfolding strip_bom
strip_bom-shorter [] = omega arith
strip_bom-shorter (a ∷ []) = omega arith
strip_bom-shorter (a ∷ b ∷ []) = omega arith
strip_bom-shorter (a ∷ b ∷ c ∷ rest) = elim (cases_Bool (is_bom a b c)) [
  | inl y ↦ rw y (omega arith)
  | inr n ↦ rw n (omega arith)
]

-- a line has at most a record more than bytes
pub length-line_records : (line : List ℕ) → length (line_records line) ≤ length line + 1
unfolding line_records
length-line_records line =
    let few = length-records_from default_config (length (strip_bom line) + 1) st.StartRecord (strip_bom line) in
    let shorter = strip_bom-shorter line in
    omega (arith, few, shorter)

-- the records that were read in turn so far come first among those of the text
rows_front : (cfg : Config) (n : ℕ) (s s2 : State) (xs ys : List ℕ) (rows : List (List (List ℕ))) → ends_at_end s ≡ false → length xs < n
    → Reached cfg s xs rows s2 ys → (rest : List (List (List ℕ))) × (records_from cfg n s xs ≡ rows ++ rest)
unfolding Reached records_from
rows_front cfg n s s2 xs ys [] b l h = (records_from cfg n s xs, refl)
rows_front cfg zero s s2 xs ys (r ∷ rs) b l h = absurd (omega arith)
rows_front cfg (suc n) s s2 xs ys (r ∷ rs) b l h =
    let (p, next, first, more) = h in
    let less : length p.2 < length xs = shrinks cfg s [] [] xs p b next in
    let (rest, e) = rows_front cfg n p.1 s2 p.2 ys rs (next_ends cfg s [] [] xs p next).between (omega arith) more in
    (rest, rw (next, e, first) refl)

pub records-front : (line : List ℕ) (s2 : State) (ys : List ℕ) (rows : List (List (List ℕ))) → Reached default_config st.StartRecord (strip_bom line) rows s2 ys
    → (rest : List (List (List ℕ))) × (line_records line ≡ rows ++ rest)
unfolding line_records
records-front line s2 ys rows h = rows_front default_config (length (strip_bom line) + 1) st.StartRecord s2 (strip_bom line) ys rows refl (omega arith) h

pub records-all : (line : List ℕ) (s2 : State) (ys : List ℕ) (rows : List (List (List ℕ))) → Reached default_config st.StartRecord (strip_bom line) rows s2 ys
    → next_record default_config s2 [] [] ys ≡ None → line_records line ≡ rows
unfolding line_records
records-all line s2 ys rows h end = sym (records-read default_config (strip_bom line) rows (s2, ys, h, end))

-- so they are no more than the line has bytes, and one
pub length-rows : (line : List ℕ) (s2 : State) (ys : List ℕ) (rows : List (List (List ℕ))) → Reached default_config st.StartRecord (strip_bom line) rows s2 ys
    → length rows ≤ length line + 1
length-rows line s2 ys rows h =
    let (rest, e) = records-front line s2 ys rows h in
    omega (arith, length-line_records line, ap length e, length-append rows rest)

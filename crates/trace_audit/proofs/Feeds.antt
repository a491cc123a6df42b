-- The line that the bytes after the last line feed begin.
use Rattle.std.proofs.Common.{◌≡◌, ◌≢◌, ℕ, ◌+◌, ◌<◌, ◌==◌, not, Bool, true, false, List, [], ◌∷◌, ◌++◌, length, refl, sym, ap, ◌∙◌, arith, append_assoc, append-nil, length-append, inl, inr, ◌⊎◌}
use Rattle.std.specs.Prelude.{◌&&◌, nat_le, IsTrue}
use Rattle.std.specs.List.{list_all}
use Rattle.std.proofs.lemmas.Bool.{cases_Bool, eqb-true}
use Rattle.std.proofs.lemmas.List.{append_cancel_right}
use Rattle.std.proofs.lemmas.List.Folds.{list_all-append}
use Rattle.record_cutting.specs.Lines.{last_part, line_if_any, lines_of, whole_lines}
use Rattle.record_stream.proofs.Cuts.{last_part-append, last_part-feed, whole_lines-append}
use Rattle.record_stream.proofs.Lacking.{Lacks, last_part-lacks, whole_lines-lacks}
use Rattle.trace_model.specs.Audit.{LineSays}
use Rattle.trace_model.specs.TraceLines.{TraceLine, max_line}

-- ---- bytes without a line feed
abbrev pub is_other : ℕ → Bool
is_other b = not (b == 10)

abbrev pub HasNone : List ℕ → Type 0
HasNone bytes = list_all is_other bytes ≡ true

more_none : (xs : List ℕ) (b : ℕ) → HasNone xs → is_other b ≡ true → HasNone (xs ++ b ∷ [])
more_none xs b h e = list_all-append is_other xs (b ∷ []) ∙ ap (λ (t : Bool). t && (is_other b && true)) h ∙ ap (λ (t : Bool). t && true) e

pub last_none : (p xs : List ℕ) → HasNone p → HasNone (last_part p xs)
unfolding last_part
last_none p [] h = h
last_none p (b ∷ xs) h = elim (cases_Bool (b == 10)) [
  | inl y ↦ rw y (last_none [] xs refl)
  | inr n ↦ rw n (last_none (p ++ b ∷ []) xs (more_none p b h (ap not n)))
]

-- a line feed is one
never : (t : Bool) → (t && false) ≡ false
never true = refl
never false = refl

ended : (text : List ℕ) → list_all is_other (text ++ 10 ∷ []) ≡ false
ended text = list_all-append is_other text (10 ∷ []) ∙ never (list_all is_other text)

-- so no line without one says anything
pub says_nothing : (line : List ℕ) → HasNone line → (what : TraceLine) → LineSays line what → ⊥
says_nothing line none what (text, is, says) = absurd (no (sym none ∙ ap (list_all is_other) is ∙ ended text))
  where
    no : true ≡ false → ⊥
    no e = absurd cc

-- ---- lines of such bytes
feed_line : (p : List ℕ) → whole_lines p (10 ∷ []) ≡ (p ++ 10 ∷ []) ∷ []
unfolding whole_lines
feed_line p = refl

-- bytes, and then some of a line
pub kept_lines : (bytes xs : List ℕ) → Lacks 10 xs (length xs) → whole_lines [] (bytes ++ xs) ≡ whole_lines [] bytes
kept_lines bytes xs h = whole_lines-append [] bytes xs ∙ ap (λ (ls : List (List ℕ)). whole_lines [] bytes ++ ls) (whole_lines-lacks (last_part [] bytes) xs h) ∙ append-nil (whole_lines [] bytes)

pub kept_last : (bytes xs : List ℕ) → Lacks 10 xs (length xs) → last_part [] (bytes ++ xs) ≡ last_part [] bytes ++ xs
kept_last bytes xs h = last_part-append [] bytes xs ∙ last_part-lacks (last_part [] bytes) xs h

-- and then the end of a line
pub ended_lines : (bytes xs : List ℕ) → Lacks 10 xs (length xs) → whole_lines [] (bytes ++ (xs ++ 10 ∷ [])) ≡ whole_lines [] bytes ++ ((last_part [] bytes ++ xs) ++ 10 ∷ []) ∷ []
ended_lines bytes xs h =
    ap (whole_lines []) (sym (append_assoc bytes xs (10 ∷ [])))
    ∙ whole_lines-append [] (bytes ++ xs) (10 ∷ [])
    ∙ ap (λ (ls : List (List ℕ)). ls ++ whole_lines (last_part [] (bytes ++ xs)) (10 ∷ [])) (kept_lines bytes xs h)
    ∙ ap (λ (p : List ℕ). whole_lines [] bytes ++ whole_lines p (10 ∷ [])) (kept_last bytes xs h)
    ∙ ap (λ (ls : List (List ℕ)). whole_lines [] bytes ++ ls) (feed_line (last_part [] bytes ++ xs))

pub ended_last : (bytes xs : List ℕ) → last_part [] (bytes ++ (xs ++ 10 ∷ [])) ≡ []
ended_last bytes xs =
    ap (last_part []) (sym (append_assoc bytes xs (10 ∷ []))) ∙ last_part-append [] (bytes ++ xs) (10 ∷ []) ∙ last_part-feed (last_part [] (bytes ++ xs))

-- ---- the lines of bytes with others behind them
after : (bytes rest : List ℕ) → List (List ℕ)
after bytes rest = whole_lines (last_part [] bytes) rest ++ line_if_any (last_part (last_part [] bytes) rest)

pub lines_after : (bytes rest : List ℕ) → lines_of (bytes ++ rest) ≡ whole_lines [] bytes ++ (whole_lines (last_part [] bytes) rest ++ line_if_any (last_part (last_part [] bytes) rest))
lines_after bytes rest =
    ap (λ (ls : List (List ℕ)). ls ++ line_if_any (last_part [] (bytes ++ rest))) (whole_lines-append [] bytes rest)
    ∙ ap (λ (p : List ℕ). (whole_lines [] bytes ++ whole_lines (last_part [] bytes) rest) ++ line_if_any p) (last_part-append [] bytes rest)
    ∙ append_assoc (whole_lines [] bytes) (whole_lines (last_part [] bytes) rest) (line_if_any (last_part (last_part [] bytes) rest))

-- the first of them that begins with these bytes
pub record Begun (p rest : List ℕ) : Type 0 where
  pub line : List ℕ
  pub more : List (List ℕ)
  pub cut : whole_lines p rest ++ line_if_any (last_part p rest) ≡ line ∷ more
  -- it ends, or has no line feed
  pub ends : ((xs : List ℕ) × (line ≡ (p ++ xs) ++ 10 ∷ [])) ⊎ HasNone line

longer : (p : List ℕ) (b : ℕ) → p ++ b ∷ [] ≢ []
longer [] b e = absurd cc
longer (x ∷ p) b e = absurd cc

going_on : (p : List ℕ) (b : ℕ) (rest : List ℕ) → (b == 10) ≡ false
    → whole_lines p (b ∷ rest) ++ line_if_any (last_part p (b ∷ rest)) ≡ whole_lines (p ++ b ∷ []) rest ++ line_if_any (last_part (p ++ b ∷ []) rest)
unfolding whole_lines last_part
going_on p b rest n = rw n refl

pub begun : (p rest : List ℕ) → p ≢ [] → HasNone p → Begun p rest
unfolding whole_lines last_part
begun [] [] ne h = absurd (ne refl)
begun (x ∷ p) [] ne h = record { line = x ∷ p; more = []; cut = refl; ends = inr h }
begun p (b ∷ rest) ne h = elim (cases_Bool (b == 10)) [
  | inl y ↦
      let feed : b ≡ 10 = eqb-true b 10 y in
      record {
        line = p ++ b ∷ [];
        more = whole_lines [] rest ++ line_if_any (last_part [] rest);
        cut = rw y refl;
        ends = inl ([], ap (λ (x : ℕ). p ++ x ∷ []) feed ∙ ap (λ (l : List ℕ). l ++ 10 ∷ []) (sym (append-nil p)));
      }
  | inr n ↦
      let next = begun (p ++ b ∷ []) rest (longer p b) (more_none p b h (ap not n)) in
      record {
        line = next.line;
        more = next.more;
        cut = going_on p b rest n ∙ next.cut;
        ends = elim next.ends [ inl (xs, e) ↦ inl (b ∷ xs, e ∙ ap (λ (l : List ℕ). l ++ 10 ∷ []) (append_assoc p (b ∷ []) xs)) | inr none ↦ inr none ];
      }
]

-- a line that begins with too many bytes says nothing
pub too_long : (p line : List ℕ) → max_line < length p → ((xs : List ℕ) × (line ≡ (p ++ xs) ++ 10 ∷ [])) ⊎ HasNone line → (what : TraceLine) → LineSays line what → ⊥
too_long p line long (inr none) what says = says_nothing line none what says
too_long p line long (inl (xs, e)) what (text, is, (form, is_text, said)) =
    let same : p ++ xs ≡ text = append_cancel_right (p ++ xs) text (10 ∷ []) (sym e ∙ is) in
    let size : length text ≡ length p + length xs = sym (ap length same) ∙ length-append p xs in
    over (length text) is_text.short (omega (arith, size, long))
  where
    over : (n : ℕ) → IsTrue (nat_le n max_line) → max_line < n → ⊥
    over n short more = grind arith

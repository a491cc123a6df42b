-- How what is kept of a trace's first bytes goes on standing for them.
use Rattle.std.proofs.Common.{◌≡◌, ◌≢◌, ℕ, ◌+◌, ◌<◌, ◌≤◌, List, [], ◌∷◌, ◌++◌, length, take, drop, Result, Ok, Err, refl, sym, ap, ◌∙◌, subst, arith, append_assoc, append-nil, length-append, take-append-drop}
use Rattle.std.specs.List.{AllByRecursion}
use Rattle.record_stream.proofs.Lacking.{Lacks}
use Rattle.record_cutting.specs.Lines.{last_part, line_if_any, lines_of, whole_lines}
use Rattle.trace_model.specs.TraceLines.{max_line}
use Rattle.trace_lines.specs.declared.line.LineError.{LineError}
use Rattle.trace_lines.specs.declared.line.LineError.TheVariants as errors
use Rattle.trace_audit.proofs.Feeds.{begun, ended_last, ended_lines, kept_last, kept_lines, last_none, lines_after}
use Rattle.trace_audit.proofs.Taking.{no_lines}
use Rattle.trace_picture.specs.declared.source.Front.{Front}
use Rattle.trace_picture.specs.Forms.{AllHaveForms, HasForm, IsFirstBad, IsFirstBadFrom}
use Rattle.trace_picture.proofs.GivenUp.{cut_has_none, long_has_none}
use Rattle.trace_picture.specs.Taking.{IsFront, IsTold, IsWithinLine, TakesBytes}

pub all_append : (ls ms : List (List ℕ)) → AllByRecursion HasForm ls → AllByRecursion HasForm ms → AllByRecursion HasForm (ls ++ ms)
all_append [] ms p q = q
all_append (l ∷ ls) ms p q = (p.0, all_append ls ms p.1 q)

-- ---- no byte
no_last : last_part [] [] ≡ []
unfolding last_part
no_last = refl

pub none_taken : (f : Front) → f.lines ≡ 0 → f.pending.items ≡ [] → IsFront f []
none_taken f lines pending = record {
  passed = subst (AllByRecursion HasForm) (sym no_lines) tt;
  lines = lines ∙ ap length (sym no_lines);
  pending = pending ∙ sym no_last;
  room = rw pending (omega arith);
}

-- ---- a whole line
pub line_taken : (f g : Front) (bytes end : List ℕ) → Lacks 10 end (length end) → (s : IsFront f bytes) → g.lines ≡ f.lines + 1 → g.pending.items ≡ []
    → HasForm ((f.pending.items ++ end) ++ 10 ∷ []) → IsFront g (bytes ++ (end ++ 10 ∷ []))
line_taken f g bytes end lacks s lines none has =
    let line = (last_part [] bytes ++ end) ++ 10 ∷ [] in
    let has_so : HasForm line = subst (λ (p : List ℕ). HasForm ((p ++ end) ++ 10 ∷ [])) s.pending has in
    let cut = ended_lines bytes end lacks in
    record {
      passed = subst (AllByRecursion HasForm) (sym cut) (all_append (whole_lines [] bytes) (line ∷ []) s.passed (has_so, tt));
      lines = lines ∙ ap (λ (n : ℕ). n + 1) s.lines ∙ sym (ap length cut ∙ length-append (whole_lines [] bytes) (line ∷ []));
      pending = none ∙ sym (ended_last bytes end);
      room = rw none (omega arith);
    }

pub line_refused : (f : Front) (n : ℕ) (bytes end : List ℕ) → Lacks 10 end (length end) → (s : IsFront f bytes) → n ≡ f.lines
    → (¬ HasForm ((f.pending.items ++ end) ++ 10 ∷ [])) → IsFirstBadFrom (n + 1) (bytes ++ (end ++ 10 ∷ []))
line_refused f n bytes end lacks s count none = λ rest.
    let all = bytes ++ (end ++ 10 ∷ []) in
    let line = (last_part [] bytes ++ end) ++ 10 ∷ [] in
    let more = whole_lines (last_part [] all) rest ++ line_if_any (last_part (last_part [] all) rest) in
    record {
      before = whole_lines [] bytes;
      line = line;
      more = more;
      cut = lines_after all rest ∙ ap (λ (ls : List (List ℕ)). ls ++ more) (ended_lines bytes end lacks) ∙ append_assoc (whole_lines [] bytes) (line ∷ []) more;
      number = ap (λ (k : ℕ). k + 1) (count ∙ s.lines);
      passed = s.passed;
      none = subst (λ (p : List ℕ). ¬ HasForm ((p ++ end) ++ 10 ∷ [])) s.pending none;
    }

-- ---- the start of a line
pub start_taken : (f g : Front) (bytes start : List ℕ) → Lacks 10 start (length start) → IsFront f bytes → g.lines ≡ f.lines
    → g.pending.items ≡ f.pending.items ++ start → length (f.pending.items ++ start) ≤ max_line → IsFront g (bytes ++ start)
start_taken f g bytes start lacks s lines pending room = record {
  passed = subst (AllByRecursion HasForm) (sym (kept_lines bytes start lacks)) s.passed;
  lines = lines ∙ s.lines ∙ sym (ap length (kept_lines bytes start lacks));
  pending = pending ∙ ap (λ (p : List ℕ). p ++ start) s.pending ∙ sym (kept_last bytes start lacks);
  room = rw pending room;
}

some : (p : List ℕ) → max_line < length p → p ≢ []
some [] long e = absurd (omega arith)
some (b ∷ p) long e = absurd cc

pub start_refused : (f : Front) (n : ℕ) (bytes start : List ℕ) → Lacks 10 start (length start) → IsFront f bytes → n ≡ f.lines
    → max_line < length (f.pending.items ++ start) → IsFirstBadFrom (n + 1) (bytes ++ start)
start_refused f n bytes start lacks s count long = λ rest.
    let p = last_part [] (bytes ++ start) in
    let size : max_line < length p = subst (λ (xs : List ℕ). max_line < length xs) (ap (λ (xs : List ℕ). xs ++ start) s.pending ∙ sym (kept_last bytes start lacks)) long in
    let next = begun p rest (some p size) (last_none [] (bytes ++ start) refl) in
    record {
      before = whole_lines [] bytes;
      line = next.line;
      more = next.more;
      cut = lines_after (bytes ++ start) rest ∙ ap (λ (ls : List (List ℕ)). ls ++ (whole_lines p rest ++ line_if_any (last_part p rest))) (kept_lines bytes start lacks) ∙ ap (λ (ls : List (List ℕ)). whole_lines [] bytes ++ ls) next.cut;
      number = ap (λ (k : ℕ). k + 1) (count ∙ s.lines);
      passed = s.passed;
      none = long_has_none p next.line size next.ends;
    }

-- ---- the end of the trace
pub ends_whole : (f : Front) (bytes : List ℕ) → (s : IsFront f bytes) → f.pending.items ≡ [] → AllHaveForms bytes
ends_whole f bytes s none =
    subst (AllByRecursion HasForm) (sym (ap (λ (p : List ℕ). whole_lines [] bytes ++ line_if_any p) (sym s.pending ∙ none) ∙ append-nil (whole_lines [] bytes))) s.passed

cut_off : (p : List ℕ) → p ≢ [] → line_if_any p ≡ p ∷ []
cut_off [] ne = absurd (ne refl)
cut_off (b ∷ p) ne = refl

pub ends_within : (f : Front) (bytes : List ℕ) → (s : IsFront f bytes) → f.pending.items ≢ [] → IsFirstBad (f.lines + 1) (lines_of bytes)
ends_within f bytes s some = record {
  before = whole_lines [] bytes;
  line = last_part [] bytes;
  more = [];
  cut = ap (λ (ls : List (List ℕ)). whole_lines [] bytes ++ ls) (cut_off (last_part [] bytes) (λ e. some (s.pending ∙ e)));
  number = ap (λ (k : ℕ). k + 1) s.lines;
  passed = s.passed;
  none = cut_has_none (last_part [] bytes) (last_none [] bytes refl);
}

-- ---- what is answered to a line
pub line_told : (f g : Front) (bytes end : List ℕ) (r : Result (Unit {0}) LineError) (done : Unit {0}) → IsWithinLine end → (s : IsFront f bytes) → g.lines ≡ f.lines + 1
    → g.pending.items ≡ [] → r ≡ Ok done → IsTold r (f.pending.items ++ end ++ 10 ∷ []) → IsFront g (bytes ++ (end ++ 10 ∷ []))
line_told f g bytes end r done lacks s lines none is told =
    line_taken f g bytes end lacks s lines none
    (subst (λ (x : Result (Unit {0}) LineError). IsTold x (f.pending.items ++ end ++ 10 ∷ [])) is told)

wrong_told : (f g : Front) (bytes end : List ℕ) (e : LineError) (s : IsFront f bytes) → IsWithinLine end → g.lines ≡ f.lines
    → IsTold (Err e) (f.pending.items ++ end ++ 10 ∷ []) → TakesBytes (Err e) g (bytes ++ (end ++ 10 ∷ []))
wrong_told f g bytes end errors.Memory s lacks lines told = tt
wrong_told f g bytes end errors.Grammar s lacks lines told = line_refused f g.lines bytes end lacks s lines told

pub line_answered : (f g : Front) (bytes end : List ℕ) (r t : Result (Unit {0}) LineError) (e : LineError) → IsWithinLine end → (s : IsFront f bytes) → g.lines ≡ f.lines
    → r ≡ Err e → t ≡ Err e → IsTold r (f.pending.items ++ end ++ 10 ∷ []) → TakesBytes t g (bytes ++ (end ++ 10 ∷ []))
line_answered f g bytes end r t e lacks s lines is same told =
    subst (λ (x : Result (Unit {0}) LineError). TakesBytes x g (bytes ++ (end ++ 10 ∷ []))) (sym same)
    (wrong_told f g bytes end e s lacks lines (subst (λ (x : Result (Unit {0}) LineError). IsTold x (f.pending.items ++ end ++ 10 ∷ [])) is told))

-- ---- more bytes behind a line that is none
pub bad_more : (n : ℕ) (front more : List ℕ) → IsFirstBadFrom n front → IsFirstBadFrom n (front ++ more)
bad_more n front more bad = λ rest. rw (append_assoc front more rest) (bad (more ++ rest))

pub wrong_within : (g : Front) (e : LineError) (bytes piece : List ℕ) (k : ℕ) → TakesBytes (Err e) g (bytes ++ take k piece) → TakesBytes (Err e) g (bytes ++ piece)
wrong_within g errors.Memory bytes piece k t = tt
wrong_within g errors.Grammar bytes piece k t =
    subst (IsFirstBadFrom (g.lines + 1)) (append_assoc bytes (take k piece) (drop k piece) ∙ ap (λ (l : List ℕ). bytes ++ l) (take-append-drop k piece))
    (bad_more (g.lines + 1) (bytes ++ take k piece) (drop k piece) t)

-- How what is kept of a trace's first bytes goes on standing for them.
use Rattle.std.proofs.Common.{◌≡◌, ◌≢◌, ℕ, ◌+◌, ◌-◌, ◌<◌, ◌≤◌, ◌==◌, Bool, true, false, suc, List, [], ◌∷◌, ◌++◌, length, take, drop, get_or, Option, Some, None, Result, Ok, Err, refl, sym, ap, ◌∙◌, subst, arith, append_assoc, length-append, take-append-drop}
use Rattle.std.specs.List.{AllZip}
use Rattle.std.proofs.lemmas.Bool.{eq-eqb, eqb-true}
use Rattle.std.proofs.lemmas.List.{drop-drop, length-drop, take_more, take_rest}
use Rattle.memchr.specs.Find.{NoneBefore, Passes as Holds, is_byte}
use lib.Seq.{take-add}
use Rattle.record_cutting.specs.Lines.{last_part, line_if_any, whole_lines}
use Rattle.record_stream.proofs.Lacking.{Lacks, take_lacks}
use Rattle.trace_model.specs.Audit.{Audit, Reads, Refuses, Verdict, Why, WrongGrammar, audited, finished, new_audit, verdict}
use Rattle.trace_model.specs.TraceLines.{TraceLine, max_line}
use Rattle.trace_audit.specs.declared.audit.AuditError.{AuditError}
use Rattle.trace_audit.specs.declared.audit.AuditError.TheVariants as error
use Rattle.trace_audit.specs.declared.source.Front.{Front}
use Rattle.trace_audit.specs.Fronts.{IsRefused, IsTaken, IsVerdict, Passes, SaysOnly}
use Rattle.trace_audit.specs.Stands.{Kept, Stands, why_of}
use Rattle.trace_audit.specs.Taking.{IsFront, IsTold, IsWithinLine, IsWrong, ReadsOnly, TakesBytes}
use Rattle.trace_audit.proofs.Feeds.{begun, ended_last, ended_lines, kept_last, kept_lines, last_none, lines_after, says_nothing, too_long}
use Rattle.trace_audit.proofs.Fronts.{Begins, judged, only_none, passes_on, refused}

-- ---- no byte
pub no_lines : whole_lines [] [] ≡ []
unfolding whole_lines
no_lines = refl

no_last : last_part [] [] ≡ []
unfolding last_part
no_last = refl

pub none_taken : (f : Front) → Stands f.audit new_audit → f.lines ≡ 0 → f.pending.items ≡ [] → IsFront f []
none_taken f stands lines pending = record {
  state = new_audit;
  stands = stands;
  passes = subst (λ (ls : List (List ℕ)). Passes new_audit ls new_audit) (sym no_lines) refl;
  lines = lines ∙ ap length (sym no_lines);
  pending = pending ∙ sym no_last;
  room = rw pending (omega arith);
}

-- ---- a whole line
abbrev pub IsLineTaken : Audit → List ℕ → Kept → Type 0
IsLineTaken a line kept = (what : TraceLine) × SaysOnly line what × (b : Audit) × (audited a what ≡ Ok b) × Stands kept b

pub line_taken : (f g : Front) (bytes end : List ℕ) → Lacks 10 end (length end) → (s : IsFront f bytes) → g.lines ≡ f.lines + 1 → g.pending.items ≡ []
    → IsLineTaken s.state ((f.pending.items ++ end) ++ 10 ∷ []) g.audit → IsFront g (bytes ++ (end ++ 10 ∷ []))
line_taken f g bytes end lacks s lines none (what, says, b, e, stands) =
    let line = (last_part [] bytes ++ end) ++ 10 ∷ [] in
    let says_so : SaysOnly line what = subst (λ (p : List ℕ). SaysOnly ((p ++ end) ++ 10 ∷ []) what) s.pending says in
    let cut = ended_lines bytes end lacks in
    record {
      state = b;
      stands = stands;
      passes = subst (λ (ls : List (List ℕ)). Passes new_audit ls b) (sym cut) (passes_on new_audit s.state b (whole_lines [] bytes) (line ∷ []) s.passes (what, says_so, b, e, refl));
      lines = lines ∙ ap (λ (n : ℕ). n + 1) s.lines ∙ sym (ap length cut ∙ length-append (whole_lines [] bytes) (line ∷ []));
      pending = none ∙ sym (ended_last bytes end);
      room = rw none (omega arith);
    }

pub line_refused : (f : Front) (n : ℕ) (bytes end : List ℕ) (why : Why) (said : Option TraceLine) → Lacks 10 end (length end) → (s : IsFront f bytes) → n ≡ f.lines
    → ReadsOnly ((f.pending.items ++ end) ++ 10 ∷ []) said → IsWrong s.state said why → IsRefused (n + 1) why (bytes ++ (end ++ 10 ∷ []))
line_refused f n bytes end why said lacks s count reads refuses =
    subst (λ (k : ℕ). IsRefused (k + 1) why (bytes ++ (end ++ 10 ∷ []))) (sym (count ∙ s.lines))
    (refused (bytes ++ (end ++ 10 ∷ [])) s.state (whole_lines [] bytes) said why s.passes refuses begins)
  where
    line : List ℕ
    line = (last_part [] bytes ++ end) ++ 10 ∷ []

    begins : (rest : List ℕ) → Begins (bytes ++ (end ++ 10 ∷ [])) (whole_lines [] bytes) said rest
    begins rest =
        let all = bytes ++ (end ++ 10 ∷ []) in
        let more = whole_lines (last_part [] all) rest ++ line_if_any (last_part (last_part [] all) rest) in
        record {
          line = line;
          more = more;
          cut = lines_after all rest ∙ ap (λ (ls : List (List ℕ)). ls ++ more) (ended_lines bytes end lacks) ∙ append_assoc (whole_lines [] bytes) (line ∷ []) more;
          reads = subst (λ (p : List ℕ). ReadsOnly ((p ++ end) ++ 10 ∷ []) said) s.pending reads;
        }

-- ---- the start of a line
pub start_taken : (f g : Front) (bytes start : List ℕ) → Lacks 10 start (length start) → IsFront f bytes → g.audit ≡ f.audit → g.lines ≡ f.lines
    → g.pending.items ≡ f.pending.items ++ start → length (f.pending.items ++ start) ≤ max_line → IsFront g (bytes ++ start)
start_taken f g bytes start lacks s audit lines pending room = record {
  state = s.state;
  stands = subst (λ (k : Kept). Stands k s.state) (sym audit) s.stands;
  passes = subst (λ (ls : List (List ℕ)). Passes new_audit ls s.state) (sym (kept_lines bytes start lacks)) s.passes;
  lines = lines ∙ s.lines ∙ sym (ap length (kept_lines bytes start lacks));
  pending = pending ∙ ap (λ (p : List ℕ). p ++ start) s.pending ∙ sym (kept_last bytes start lacks);
  room = rw pending room;
}

some : (p : List ℕ) → max_line < length p → p ≢ []
some [] long e = absurd (omega arith)
some (b ∷ p) long e = absurd cc

pub start_refused : (f : Front) (n : ℕ) (bytes start : List ℕ) → Lacks 10 start (length start) → IsFront f bytes → n ≡ f.lines
    → max_line < length (f.pending.items ++ start) → IsRefused (n + 1) WrongGrammar (bytes ++ start)
start_refused f n bytes start lacks s count long =
    subst (λ (k : ℕ). IsRefused (k + 1) WrongGrammar (bytes ++ start)) (sym (count ∙ s.lines))
    (refused (bytes ++ start) s.state (whole_lines [] bytes) None WrongGrammar s.passes refl begins)
  where
    p : List ℕ
    p = last_part [] (bytes ++ start)

    size : max_line < length p
    size = subst (λ (xs : List ℕ). max_line < length xs) (ap (λ (xs : List ℕ). xs ++ start) s.pending ∙ sym (kept_last bytes start lacks)) long

    begins : (rest : List ℕ) → Begins (bytes ++ start) (whole_lines [] bytes) None rest
    begins rest =
        let next = begun p rest (some p size) (last_none [] (bytes ++ start) refl) in
        record {
          line = next.line;
          more = next.more;
          cut = lines_after (bytes ++ start) rest ∙ ap (λ (ls : List (List ℕ)). ls ++ (whole_lines p rest ++ line_if_any (last_part p rest))) (kept_lines bytes start lacks) ∙ ap (λ (ls : List (List ℕ)). whole_lines [] bytes ++ ls) next.cut;
          reads = only_none next.line (too_long p next.line size next.ends);
        }

-- ---- more bytes behind a refusal
pub refused_more : (n : ℕ) (why : Why) (front more : List ℕ) → IsRefused n why front → IsRefused n why (front ++ more)
refused_more n why front more r = record {
  first = λ rest. rw (append_assoc front more rest) (r.first (more ++ rest));
  only = λ rest w. rw (append_assoc front more rest) (r.only (more ++ rest) w);
}

-- ---- the end of the trace
pub ends_whole : (f : Front) (bytes : List ℕ) (v : Verdict) → (s : IsFront f bytes) → f.pending.items ≡ [] → finished f.lines s.state ≡ v → IsVerdict bytes v
ends_whole f bytes v s none e =
    judged bytes s.state (whole_lines [] bytes) [] [] v s.passes (ap (λ (p : List ℕ). whole_lines [] bytes ++ line_if_any p) (sym s.pending ∙ none)) tt by
  where
    by : (other : List (Option TraceLine)) → AllZip Reads [] other → verdict (length (whole_lines [] bytes)) s.state other ≡ v
    by [] zip = ap (λ (n : ℕ). finished n s.state) (sym s.lines) ∙ e
    by (o ∷ other) zip = absurd zip

cut_off : (bytes : List ℕ) (p : List ℕ) → p ≢ [] → line_if_any p ≡ p ∷ []
cut_off bytes [] ne = absurd (ne refl)
cut_off bytes (b ∷ p) ne = refl

pub ends_within : (f : Front) (bytes : List ℕ) → (s : IsFront f bytes) → f.pending.items ≢ [] → IsVerdict bytes (Refuses (f.lines + 1) WrongGrammar)
ends_within f bytes s some =
    judged bytes s.state (whole_lines [] bytes) (p ∷ []) (None ∷ []) (Refuses (f.lines + 1) WrongGrammar) s.passes
    (ap (λ (ls : List (List ℕ)). whole_lines [] bytes ++ ls) (cut_off bytes p (λ e. some (s.pending ∙ e)))) (nothing, tt) by
  where
    p : List ℕ
    p = last_part [] bytes

    nothing : Reads p None
    nothing = says_nothing p (last_none [] bytes refl)

    by : (other : List (Option TraceLine)) → AllZip Reads (p ∷ []) other → verdict (length (whole_lines [] bytes)) s.state other ≡ Refuses (f.lines + 1) WrongGrammar
    by [] zip = absurd zip
    by (None ∷ other) zip = ap (λ (n : ℕ). Refuses (n + 1) WrongGrammar) (sym s.lines)
    by (Some what ∷ other) zip = absurd (nothing what zip.0)

-- ---- emptiness by its test
pub is_none : (xs : List ℕ) (n : ℕ) (test : Bool) → n ≡ length xs → test ≡ (n == 0) → test ≡ true → xs ≡ []
is_none [] n test len is e = refl
is_none (x ∷ xs) n test len is e =
    let none : n ≡ 0 = eqb-true n 0 (sym is ∙ e) in
    let more : n ≡ suc (length xs) = len in
    absurd (omega arith)

pub is_some : (xs : List ℕ) (n : ℕ) (test : Bool) → n ≡ length xs → test ≡ (n == 0) → test ≡ false → xs ≢ []
is_some xs n test len is e empty = clash (sym e ∙ is ∙ eq-eqb n 0 (len ∙ ap length empty))
  where
    clash : false ≡ true → ⊥
    clash e = absurd cc

-- ---- what is answered to a line
pub line_told : (f g : Front) (bytes end : List ℕ) (r : Result (Unit {0}) AuditError) (done : Unit {0}) → IsWithinLine end → (s : IsFront f bytes) → g.lines ≡ f.lines + 1
    → g.pending.items ≡ [] → r ≡ Ok done → IsTold r s.state (f.pending.items ++ end ++ 10 ∷ []) g.audit → IsFront g (bytes ++ (end ++ 10 ∷ []))
line_told f g bytes end r done lacks s lines none is told =
    line_taken f g bytes end lacks s lines none
    (subst (λ (x : Result (Unit {0}) AuditError). IsTold x s.state (f.pending.items ++ end ++ 10 ∷ []) g.audit) is told)

wrong_told : (f g : Front) (bytes end : List ℕ) (e : AuditError) (s : IsFront f bytes) → IsWithinLine end → g.lines ≡ f.lines
    → IsTold (Err e) s.state (f.pending.items ++ end ++ 10 ∷ []) g.audit → TakesBytes (Err e) g (bytes ++ (end ++ 10 ∷ []))
wrong_told f g bytes end error.Memory s lacks lines told = tt
wrong_told f g bytes end (error.Wrong why) s lacks lines (said, reads, refuses) =
    line_refused f g.lines bytes end (why_of why) said lacks s lines reads refuses

pub line_answered : (f g : Front) (bytes end : List ℕ) (r t : Result (Unit {0}) AuditError) (e : AuditError) → IsWithinLine end → (s : IsFront f bytes) → g.lines ≡ f.lines
    → r ≡ Err e → t ≡ Err e → IsTold r s.state (f.pending.items ++ end ++ 10 ∷ []) g.audit → TakesBytes t g (bytes ++ (end ++ 10 ∷ []))
line_answered f g bytes end r t e lacks s lines is same told =
    subst (λ (x : Result (Unit {0}) AuditError). TakesBytes x g (bytes ++ (end ++ 10 ∷ []))) (sym same)
    (wrong_told f g bytes end e s lacks lines (subst (λ (x : Result (Unit {0}) AuditError). IsTold x s.state (f.pending.items ++ end ++ 10 ∷ []) g.audit) is told))

-- ---- the lines of a piece
pub record Found (rest : List ℕ) (end : ℕ) : Type 0 where
  pub within : IsWithinLine (take end rest)
  pub next : take (end + 1) rest ≡ take end rest ++ 10 ∷ []
  pub high : end < length rest

pub found : (rest : List ℕ) (end : ℕ) → NoneBefore (Holds (is_byte 10) rest) 0 (length rest) end × Holds (is_byte 10) rest end → Found rest end
found rest end (none, here) = record {
  within = take_lacks 10 rest end (let high = none.high in omega arith) (λ k lt. none.before k (omega arith) lt);
  next = take_more rest end 0 none.high ∙ ap (λ (b : ℕ). take end rest ++ b ∷ []) (eqb-true (get_or rest end 0) 10 here);
  high = none.high;
}

-- the bytes up to the end of the next line
pub up_to : (bytes piece rest : List ℕ) (at end : ℕ) → rest ≡ drop at piece → Found rest end
    → (bytes ++ take at piece) ++ (take end rest ++ 10 ∷ []) ≡ bytes ++ take (at + (end + 1)) piece
up_to bytes piece rest at end is f =
    append_assoc bytes (take at piece) (take end rest ++ 10 ∷ [])
    ∙ ap (λ (l : List ℕ). bytes ++ (take at piece ++ l)) (sym f.next ∙ ap (λ (l : List ℕ). take (end + 1) l) is)
    ∙ ap (λ (l : List ℕ). bytes ++ l) (sym (take-add at (end + 1) piece))

-- and behind it
pub from_there : (piece rest : List ℕ) (at end : ℕ) → rest ≡ drop at piece → take (length rest - (end + 1)) (drop (end + 1) rest) ≡ drop (at + (end + 1)) piece
from_there piece rest at end is = take_rest rest (end + 1) ∙ ap (λ (l : List ℕ). drop (end + 1) l) is ∙ drop-drop (end + 1) at piece

pub size_there : (piece rest : List ℕ) (at end : ℕ) → end < length rest → at + length rest ≡ length piece
    → (at + (end + 1)) + length (take (length rest - (end + 1)) (drop (end + 1) rest)) ≡ length piece
size_there piece rest at end high size = omega (arith, ap length (take_rest rest (end + 1)), length-drop (end + 1) rest)

pub to_the_end : (bytes piece rest : List ℕ) (at : ℕ) → rest ≡ drop at piece → (bytes ++ take at piece) ++ rest ≡ bytes ++ piece
to_the_end bytes piece rest at is =
    append_assoc bytes (take at piece) rest ∙ ap (λ (l : List ℕ). bytes ++ l) (ap (λ (l : List ℕ). take at piece ++ l) is ∙ take-append-drop at piece)

-- a refusal within a piece
pub wrong_within : (g : Front) (e : AuditError) (bytes piece : List ℕ) (k : ℕ) → TakesBytes (Err e) g (bytes ++ take k piece) → TakesBytes (Err e) g (bytes ++ piece)
wrong_within g error.Memory bytes piece k t = tt
wrong_within g (error.Wrong why) bytes piece k t =
    subst (IsRefused (g.lines + 1) (why_of why)) (append_assoc bytes (take k piece) (drop k piece) ∙ ap (λ (l : List ℕ). bytes ++ l) (take-append-drop k piece))
    (refused_more (g.lines + 1) (why_of why) (bytes ++ take k piece) (drop k piece) t)

pub nothing_taken : IsTaken []
nothing_taken = record {
  state = new_audit;
  passes = subst (λ (ls : List (List ℕ)). Passes new_audit ls new_audit) (sym no_lines) refl;
  room = rw no_last (omega arith);
}

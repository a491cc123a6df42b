-- What the audit of a source found, and how the line of it was written.
use Rattle.std.proofs.Common.{◌≡◌, ◌≢◌, ◌∙◌, ◌⊎◌, inl, inr, ℕ, ◌≤◌, ◌+◌, List, [], ◌∷◌, ◌++◌, length, take, drop, refl, sym, ap, subst, Option, Some, None, Result, Ok, Err, IfOk, IfSome, OnErr, codes, append_assoc, append-nil, length-append, take-append-drop, arith}
use Rattle.std.specs.Io.KnownBytes.{Appends, Consumes, IsAtEnd}
use Rattle.byte_streams.specs.Streams.{AppendsPrefix}
use Rattle.record_cutting.specs.Lines.{last_part, whole_lines}
use Rattle.schedule_model.specs.Lines.{line_text}
use Rattle.trace_model.specs.Audit.{Accepts, Audits, Refuses, Verdict, Why, new_audit}
use Rattle.trace_model.specs.TraceLines.{max_line}
use Rattle.trace_audit.specs.Ends.{EndsAfter, IsJudged, ReadOn}
use Rattle.trace_audit.specs.Fronts.{IsRefused, IsTaken, IsVerdict, Passes}
use Rattle.trace_audit.specs.Stands.{why_of}
use Rattle.trace_audit.specs.declared.audit.Why as code
use Rattle.trace_audit.specs.declared.source.Audited.TheVariants as audited
use Rattle.trace_audit.specs.declared.source.TheConstants.{MAX_TRACE}
use Rattle.svr2_run.specs.Audits.{AuditsOver, Decides, Finds, IsRefusal, IsWholeVerdict, status_by, verdict_line}
use Rattle.svr2_run.specs.Texts.{WroteText}
use Rattle.svr2_run.specs.declared.exit.Status.{Status}
use Rattle.svr2_run.specs.declared.exit.Status.TheVariants as status

-- ---- the line of a verdict

pub accept_parts : (n : List ℕ) → line_text (codes "accept" ∷ n ∷ []) ≡ (codes "accept," ++ n) ++ (10 ∷ [])
unfolding line_text
accept_parts n = refl

pub refuse_parts : (n word : List ℕ) → line_text (codes "refuse" ∷ n ∷ word ∷ []) ≡ (((codes "refuse," ++ n) ++ (44 ∷ [])) ++ word) ++ (10 ∷ [])
unfolding line_text
refuse_parts n word = ap (λ (l : List ℕ). codes "refuse," ++ (l ++ (10 ∷ []))) (sym (append_assoc n (44 ∷ []) word))

-- ---- what was found

at_end : (all taken : List ℕ) (left : Option (List ℕ)) → Consumes (Some all) left taken → IsAtEnd left → (left ≡ Some []) × (taken ≡ all)
at_end all taken None c e = absurd c
at_end all taken (Some rest) c e = (ap Some e, sym (c ∙ ap (λ (l : List ℕ). taken ++ l) e ∙ append-nil taken))

judged : (all taken : List ℕ) (left : Option (List ℕ)) (v : Verdict) → Consumes (Some all) left taken → IsJudged taken left v → IsWholeVerdict all left v
judged all taken left v c j =
    let (ended, same) = at_end all taken left c j.ended in
    record {
      ended = ended;
      room = subst (λ (l : List ℕ). length l ≤ MAX_TRACE) same j.room;
      verdict = subst (λ (l : List ℕ). IsVerdict l v) same j.verdict;
    }

-- what follows first bytes of what was taken
rest_of : (all taken : List ℕ) (left : Option (List ℕ)) → Consumes (Some all) left taken → (n : ℕ) → (rest : List ℕ) × (all ≡ take n taken ++ rest)
rest_of all taken None c n = absurd c
rest_of all taken (Some left) c n =
    (drop n taken ++ left, c ∙ ap (λ (l : List ℕ). l ++ left) (sym (take-append-drop n taken)) ∙ append_assoc (take n taken) (drop n taken) left)

refused_only : (all taken : List ℕ) (left : Option (List ℕ)) (n : ℕ) (why : Why) → Consumes (Some all) left taken
    → IsRefused n why (take MAX_TRACE taken) ⊎ IsJudged taken left (Refuses n why)
    → (IsRefused n why (take MAX_TRACE taken) ⊎ IsWholeVerdict all left (Refuses n why)) × ((other : Verdict) → Audits all other → other ≡ Refuses n why)
refused_only all taken left n why c (inl r) =
    let (rest, parts) = rest_of all taken left c MAX_TRACE in
    (inl r, (λ other audits. r.only rest other (subst (λ (l : List ℕ). Audits l other) parts audits)))
refused_only all taken left n why c (inr j) =
    let whole = judged all taken left (Refuses n why) c j in
    (inr whole, whole.verdict.only)

refusal : (all taken : List ℕ) (left : Option (List ℕ)) (n : ℕ) (why : Why) → Consumes (Some all) left taken → ReadOn taken
    → IsRefused n why (take MAX_TRACE taken) ⊎ IsJudged taken left (Refuses n why) → IsRefusal all left n why
refusal all taken left n why c ahead cause =
    let (found, only) = refused_only all taken left n why c cause in
    record { read = taken; consumed = c; ahead = ahead; cause = found; only = only }

found_only : (all : List ℕ) (left : Option (List ℕ)) (v : Verdict) → Finds all left v → (other : Verdict) → Audits all other → other ≡ v
found_only all left (Accepts n) found = found.verdict.only
found_only all left (Refuses n why) found = found.only

-- ---- how it was told

over_whole : (all : List ℕ) (left old new : Option (List ℕ)) (v : Verdict) → Finds all left v → Appends old new (verdict_line v) → AuditsOver all left old new (status_by v)
over_whole all left old new (Accepts n) found wrote = (n, found, wrote)
over_whole all left old new (Refuses n why) found wrote = (n, why, found, wrote)

by_status : (v : Verdict) (result : Status) → result ≡ status_by v → (result ≡ status.Done) ⊎ (result ≡ status.Refused)
by_status (Accepts n) result is = inl is
by_status (Refuses n why) result is = inr is

module _ {T E : Type 0} (items : T → List ℕ) where
  over : (line : Result T E) (all : List ℕ) (left old new : Option (List ℕ)) (v : Verdict) (result : Status) → Finds all left v
      → IfOk line (λ l. items l ≡ verdict_line v) → IfOk line (λ l. WroteText old new (items l) (status_by v) result)
      → OnErr line ((result ≡ status.Memory) × (new ≡ old)) → AuditsOver all left old new result
  over (Ok l) all left old new v result found is (inl (ended, wrote)) none =
      subst (AuditsOver all left old new) (sym ended) (over_whole all left old new v found (subst (Appends old new) is wrote))
  over (Ok l) all left old new v result found is (inr (ended, wrote)) none =
      subst (AuditsOver all left old new) (sym ended) (v, found, subst (AppendsPrefix old new) is wrote)
  over (Err e) all left old new v result found is wrote (ended, none) =
      subst (AuditsOver all left old new) (sym ended) (inr (v, found), none)

  decides : (line : Result T E) (all : List ℕ) (left old new : Option (List ℕ)) (v : Verdict) (result : Status) (B : Type 0) → Finds all left v
      → IfOk line (λ l. WroteText old new (items l) (status_by v) result) → OnErr line ((result ≡ status.Memory) × (new ≡ old))
      → (result ≡ status.WriteFault → B) → (B → ⊥) → result ≢ status.Memory → Decides all result
  decides (Ok l) all left old new v result B found (inl (ended, wrote)) none write never kept = record {
    told = by_status v result ended;
    verdict = λ other audits. ended ∙ ap status_by (sym (found_only all left v found other audits));
  }
  decides (Ok l) all left old new v result B found (inr (ended, wrote)) none write never kept = absurd (never (write ended))
  decides (Err e) all left old new v result B found wrote (ended, none) write never kept = absurd (kept ended)

  pub accepts_over : (line : Result T E) (left left' old new : Option (List ℕ)) (n : ℕ) (result : Status)
      → (taken : List ℕ) × Consumes left left' taken × EndsAfter taken left' (audited.Accepts n)
      → IfOk line (λ l. items l ≡ verdict_line (Accepts n)) → IfOk line (λ l. WroteText old new (items l) status.Done result)
      → OnErr line ((result ≡ status.Memory) × (new ≡ old)) → IfSome left (λ all. AuditsOver all left' old new result)
  accepts_over line None left' old new n result ends is wrote none = tt
  accepts_over line (Some all) left' old new n result (taken, c, j) is wrote none =
      over line all left' old new (Accepts n) result (judged all taken left' (Accepts n) c j) is wrote none

  pub refuses_over : (line : Result T E) (left left' old new : Option (List ℕ)) (n : ℕ) (why : code.Why) (result : Status)
      → (taken : List ℕ) × Consumes left left' taken × EndsAfter taken left' (audited.Refuses n why)
      → IfOk line (λ l. items l ≡ verdict_line (Refuses n (why_of why))) → IfOk line (λ l. WroteText old new (items l) status.Refused result)
      → OnErr line ((result ≡ status.Memory) × (new ≡ old)) → IfSome left (λ all. AuditsOver all left' old new result)
  refuses_over line None left' old new n why result ends is wrote none = tt
  refuses_over line (Some all) left' old new n why result (taken, c, (ahead, cause)) is wrote none =
      over line all left' old new (Refuses n (why_of why)) result (refusal all taken left' n (why_of why) c ahead cause) is wrote none

  pub accepts_decides : (line : Result T E) (left left' old new : Option (List ℕ)) (n : ℕ) (result : Status) (A B : Type 0)
      → (taken : List ℕ) × Consumes left left' taken × EndsAfter taken left' (audited.Accepts n)
      → IfOk line (λ l. WroteText old new (items l) status.Done result)
      → OnErr line ((result ≡ status.Memory) × (new ≡ old)) → (result ≡ status.WriteFault → B)
      → IfSome left (λ all. length all ≤ MAX_TRACE → (A → ⊥) → (B → ⊥) → result ≢ status.Memory → Decides all result)
  accepts_decides line None left' old new n result A B ends wrote none write = tt
  accepts_decides line (Some all) left' old new n result A B (taken, c, j) wrote none write = λ room unread unwritten kept.
      decides line all left' old new (Accepts n) result B (judged all taken left' (Accepts n) c j) wrote none write unwritten kept

  pub refuses_decides : (line : Result T E) (left left' old new : Option (List ℕ)) (n : ℕ) (why : code.Why) (result : Status) (A B : Type 0)
      → (taken : List ℕ) × Consumes left left' taken × EndsAfter taken left' (audited.Refuses n why)
      → IfOk line (λ l. WroteText old new (items l) status.Refused result)
      → OnErr line ((result ≡ status.Memory) × (new ≡ old)) → (result ≡ status.WriteFault → B)
      → IfSome left (λ all. length all ≤ MAX_TRACE → (A → ⊥) → (B → ⊥) → result ≢ status.Memory → Decides all result)
  refuses_decides line None left' old new n why result A B ends wrote none write = tt
  refuses_decides line (Some all) left' old new n why result A B (taken, c, (ahead, cause)) wrote none write = λ room unread unwritten kept.
      decides line all left' old new (Refuses n (why_of why)) result B (refusal all taken left' n (why_of why) c ahead cause) wrote none write unwritten kept

-- ---- nothing was told

pub failed_over : (left left' x : Option (List ℕ)) → (taken : List ℕ) × Consumes left left' taken × EndsAfter taken left' audited.ReadFault
    → IfSome left (λ all. AuditsOver all left' x x status.ReadFault)
failed_over None left' x ends = tt
failed_over (Some all) left' x (taken, c, (passed, room)) = (record { read = taken; consumed = c; passed = passed; room = room }, refl)

pub limit_over : (left left' x : Option (List ℕ)) → (taken : List ℕ) × Consumes left left' taken × EndsAfter taken left' audited.Limit
    → IfSome left (λ all. AuditsOver all left' x x status.Limit)
limit_over None left' x ends = tt
limit_over (Some all) left' x (taken, c, (ahead, long, passed)) =
    (record { read = taken; consumed = c; ahead = ahead; long = long; passed = passed }, refl)

pub memory_over : (left left' x : Option (List ℕ)) → (taken : List ℕ) × Consumes left left' taken × EndsAfter taken left' audited.Memory
    → IfSome left (λ all. AuditsOver all left' x x status.Memory)
memory_over None left' x ends = tt
memory_over (Some all) left' x (taken, c, ahead) = (inl (taken, c, ahead), refl)

-- more than all that there is cannot be taken
taken_fits : (all taken : List ℕ) (left : Option (List ℕ)) → Consumes (Some all) left taken → length taken ≤ length all
taken_fits all taken None c = absurd c
taken_fits all taken (Some left) c =
    let parts : length all ≡ length taken + length left = ap (λ (l : List ℕ). length l) c ∙ length-append taken left in
    omega (arith, parts)

pub limit_decides : (left left' : Option (List ℕ)) (A B : Type 0) → (taken : List ℕ) × Consumes left left' taken × EndsAfter taken left' audited.Limit
    → IfSome left (λ all. length all ≤ MAX_TRACE → (A → ⊥) → (B → ⊥) → status.Limit ≢ status.Memory → Decides all status.Limit)
limit_decides None left' A B ends = tt
limit_decides (Some all) left' A B (taken, c, (ahead, long, passed)) = λ room unread unwritten kept.
    let fits = taken_fits all taken left' c in
    absurd (omega (arith, fits, long, room))

pub failed_decides : (left : Option (List ℕ)) (A B : Type 0) → A
    → IfSome left (λ all. length all ≤ MAX_TRACE → (A → ⊥) → (B → ⊥) → status.ReadFault ≢ status.Memory → Decides all status.ReadFault)
failed_decides None A B rose = tt
failed_decides (Some all) A B rose = λ room unread unwritten kept. absurd (unread rose)

-- ---- nothing was read

no_lines : whole_lines [] [] ≡ []
unfolding whole_lines
no_lines = refl

no_last : last_part [] [] ≡ []
unfolding last_part
no_last = refl

none_passed : IsTaken []
none_passed = record {
  state = new_audit;
  passes = subst (λ (lines : List (List ℕ)). Passes new_audit lines new_audit) (sym no_lines) refl;
  room = subst (λ (l : List ℕ). length l ≤ max_line) (sym no_last) (omega arith);
}

none_read : ReadOn []
none_read = record { before = []; piece = []; parts = refl; short = omega arith; passed = none_passed; room = omega arith }

pub unread_audit : (left x : Option (List ℕ)) → IfSome left (λ all. AuditsOver all left x x status.Memory)
unread_audit None x = tt
unread_audit (Some all) x = (inl ([], refl, none_read), refl)

pub unread_decides : (left : Option (List ℕ)) (A B : Type 0)
    → IfSome left (λ all. length all ≤ MAX_TRACE → (A → ⊥) → (B → ⊥) → status.Memory ≢ status.Memory → Decides all status.Memory)
unread_decides None A B = tt
unread_decides (Some all) A B = λ room unread unwritten kept. absurd (kept refl)

-- What lines that were taken tell of the verdict.
use Rattle.std.proofs.Common.{◌≡◌, ℕ, suc, ◌+◌, List, [], ◌∷◌, ◌++◌, length, take, Option, Some, None, Result, Ok, Err, refl, sym, ap, ◌∙◌, subst, arith}
use Rattle.std.specs.List.{AllZip}
use Rattle.record_cutting.specs.Lines.{lines_of}
use Rattle.trace_model.specs.Audit.{Audit, Audits, LineSays, Reads, Refuses, Verdict, Why, audited, new_audit, verdict}
use Rattle.trace_model.specs.TraceLines.{TraceLine}
use Rattle.trace_audit.specs.Fronts.{IsRefused, IsVerdict, Passes, RefusesFirst, SaysOnly}
use Rattle.trace_audit.specs.Taking.{IsWrong, ReadsOnly}

-- ---- one line
pub only_this : (line : List ℕ) (what : TraceLine) → SaysOnly line what → ReadsOnly line (Some what)
only_this line what s = record { reads = s.says; only = other }
  where
    other : (o : Option TraceLine) → Reads line o → o ≡ Some what
    other None none = absurd (none what s.says)
    other (Some o) says = ap Some (s.only o says)

pub only_none : (line : List ℕ) → ((what : TraceLine) → LineSays line what → ⊥) → ReadsOnly line None
only_none line none = record { reads = none; only = other }
  where
    other : (o : Option TraceLine) → Reads line o → o ≡ None
    other None n = refl
    other (Some o) says = absurd (none o says)

step : (n : ℕ) (a b : Audit) (what : TraceLine) (said : List (Option TraceLine)) → audited a what ≡ Ok b
    → verdict n a (Some what ∷ said) ≡ verdict (n + 1) b said
step n a b what said e = ap (λ (r : Result Audit Why). elim r [ Ok c ↦ verdict (n + 1) c said | Err why ↦ Refuses (n + 1) why ]) e

wrong : (n : ℕ) (a : Audit) (o : Option TraceLine) (why : Why) (said : List (Option TraceLine)) → IsWrong a o why
    → verdict n a (o ∷ said) ≡ Refuses (n + 1) why
wrong n a None why said e = ap (Refuses (n + 1)) (sym e)
wrong n a (Some what) why said e = ap (λ (r : Result Audit Why). elim r [ Ok c ↦ verdict (n + 1) c said | Err w ↦ Refuses (n + 1) w ]) e

-- ---- lines that were taken
count : (n k : ℕ) → n + 1 + k ≡ n + suc k
count n k = omega arith

none_more : (n : ℕ) → n ≡ n + 0
none_more n = omega arith

from_none : (k : ℕ) → 0 + k ≡ k
from_none k = omega arith

-- whatever lines say that begin with these
pub after_passing : (a b : Audit) (lines more : List (List ℕ)) (n : ℕ) (said : List (Option TraceLine)) → Passes a lines b → AllZip Reads (lines ++ more) said
    → (rest : List (Option TraceLine)) × AllZip Reads more rest × (verdict n a said ≡ verdict (n + length lines) b rest)
after_passing a b [] more n said p zip = (said, zip, ap (λ (s : Audit). verdict n s said) p ∙ ap (λ (k : ℕ). verdict k b said) (none_more n))
after_passing a b (line ∷ lines) more n [] p zip = absurd zip
after_passing a b (line ∷ lines) more n (o ∷ said) (what, says, c, e, p) zip =
    let (rest, zipped, same) = after_passing c b lines more (n + 1) said p zip.1 in
    let is : o ≡ Some what = (only_this line what says).only o zip.0 in (
      rest,
      zipped,
      ap (λ (x : Option TraceLine). verdict n a (x ∷ said)) is ∙ step n a c what said e ∙ same ∙ ap (λ (k : ℕ). verdict k b rest) (count n (length lines)),
    )

-- what they say
pub passed : (a b : Audit) (lines : List (List ℕ)) → Passes a lines b
    → (said : List (Option TraceLine)) × ((more : List (List ℕ)) (rest : List (Option TraceLine)) → AllZip Reads more rest → AllZip Reads (lines ++ more) (said ++ rest))
    × ((n : ℕ) (rest : List (Option TraceLine)) → verdict n a (said ++ rest) ≡ verdict (n + length lines) b rest)
passed a b [] p = ([], (λ more rest z. z), (λ n rest. ap (λ (s : Audit). verdict n s rest) p ∙ ap (λ (k : ℕ). verdict k b rest) (none_more n)))
passed a b (line ∷ lines) (what, says, c, e, p) =
    let (said, zipped, same) = passed c b lines p in (
      Some what ∷ said,
      (λ more rest z. (says.says, zipped more rest z)),
      (λ n rest. step n a c what (said ++ rest) e ∙ same (n + 1) rest ∙ ap (λ (k : ℕ). verdict k b rest) (count n (length lines))),
    )

pub passes_on : (a b c : Audit) (lines more : List (List ℕ)) → Passes a lines b → Passes b more c → Passes a (lines ++ more) c
passes_on a b c [] more p q = subst (λ (s : Audit). Passes s more c) (sym p) q
passes_on a b c (line ∷ lines) more (what, says, d, e, p) q = (what, says, d, e, passes_on d b c lines more p q)

-- ---- the verdict on all lines
pub judged : (bytes : List ℕ) (b : Audit) (lines last : List (List ℕ)) (rest : List (Option TraceLine)) (v : Verdict) → Passes new_audit lines b → lines_of bytes ≡ lines ++ last
    → AllZip Reads last rest → ((other : List (Option TraceLine)) → AllZip Reads last other → verdict (length lines) b other ≡ v) → IsVerdict bytes v
judged bytes b lines last rest v p cut reads each = record { is = is; only = only }
  where
    is : Audits bytes v
    is =
        let (said, zipped, same) = passed new_audit b lines p in
        (said ++ rest, subst (λ (ls : List (List ℕ)). AllZip Reads ls (said ++ rest)) (sym cut) (zipped last rest reads), sym (same 0 rest ∙ ap (λ (k : ℕ). verdict k b rest) (from_none (length lines)) ∙ each rest reads))

    only : (w : Verdict) → Audits bytes w → w ≡ v
    only w (said, zip, e) =
        let (more, zipped, same) = after_passing new_audit b lines last 0 said p (subst (λ (ls : List (List ℕ)). AllZip Reads ls said) cut zip) in
        e ∙ same ∙ ap (λ (k : ℕ). verdict k b more) (from_none (length lines)) ∙ each more zipped

-- ---- a refusal, whatever follows
pub record Begins (front : List ℕ) (lines : List (List ℕ)) (said : Option TraceLine) (rest : List ℕ) : Type 0 where
  pub line : List ℕ
  pub more : List (List ℕ)
  pub cut : lines_of (front ++ rest) ≡ lines ++ line ∷ more
  pub reads : ReadsOnly line said

one_more : (k : ℕ) → k + 1 ≡ suc k
one_more k = omega arith

first_of : (lines : List (List ℕ)) (line : List ℕ) (more : List (List ℕ)) → take (suc (length lines)) (lines ++ line ∷ more) ≡ lines ++ line ∷ []
first_of [] line more = refl
first_of (l ∷ lines) line more = ap (λ (ls : List (List ℕ)). l ∷ ls) (first_of lines line more)

pub refused : (front : List ℕ) (b : Audit) (lines : List (List ℕ)) (said : Option TraceLine) (why : Why) → Passes new_audit lines b → IsWrong b said why
    → ((rest : List ℕ) → Begins front lines said rest) → IsRefused (length lines + 1) why front
refused front b lines said why p refuses begins = record { first = first; only = only }
  where
    first : (rest : List ℕ) → RefusesFirst (length lines + 1) why (front ++ rest)
    first rest =
        let at = begins rest in
        let (before, zipped, same) = passed new_audit b lines p in
        let cut : take (length lines + 1) (lines_of (front ++ rest)) ≡ lines ++ at.line ∷ [] = ap (λ (ls : List (List ℕ)). take (length lines + 1) ls) at.cut ∙ ap (λ (k : ℕ). take k (lines ++ at.line ∷ at.more)) (one_more (length lines)) ∙ first_of lines at.line at.more in (
          before ++ said ∷ [],
          subst (λ (ls : List (List ℕ)). AllZip Reads ls (before ++ said ∷ [])) (sym cut) (zipped (at.line ∷ []) (said ∷ []) (at.reads.reads, tt)),
          same 0 (said ∷ []) ∙ ap (λ (k : ℕ). verdict k b (said ∷ [])) (from_none (length lines)) ∙ wrong (length lines) b said why [] refuses,
        )

    by : (rest : List ℕ) → (at : Begins front lines said rest) → (more : List (Option TraceLine)) → AllZip Reads (at.line ∷ at.more) more → verdict (length lines) b more ≡ Refuses (length lines + 1) why
    by rest at [] zip = absurd zip
    by rest at (o ∷ more) zip = ap (λ (x : Option TraceLine). verdict (length lines) b (x ∷ more)) (at.reads.only o zip.0) ∙ wrong (length lines) b said why more refuses

    only : (rest : List ℕ) (w : Verdict) → Audits (front ++ rest) w → w ≡ Refuses (length lines + 1) why
    only rest w (told, zip, e) =
        let at = begins rest in
        let (more, zipped, same) = after_passing new_audit b lines (at.line ∷ at.more) 0 told p (subst (λ (ls : List (List ℕ)). AllZip Reads ls told) at.cut zip) in
        e ∙ same ∙ ap (λ (k : ℕ). verdict k b more) (from_none (length lines)) ∙ by rest at more zipped

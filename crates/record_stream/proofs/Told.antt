-- How the playing of a source that tells ended.
use Rattle.std.proofs.Common.{arith, refl, sym, ap, subst, ◌∙◌, ◌≡◌, ◌≤◌, ℕ, List, [], ◌++◌, length, take, fold, false, true, Option, Some, None, IfSome, append-nil, length-append}
use Rattle.std.proofs.lemmas.List.{take-append-le}
use Rattle.std.specs.Io.KnownBytes.{Appends, Consumes}
use Rattle.record_cutting.specs.Lines.{Record, records_of}
use Rattle.record_stream.specs.Course.{Course, Outlook}
use Rattle.record_stream.specs.Ends.{CanDecide, EndsOver, PlayedOver, ended_for, limit}
use Rattle.record_stream.specs.Steps.{EndsAfter, EndsFrom}
use Rattle.record_stream.specs.declared.source.Ended.{Ended}
use Rattle.record_stream.specs.declared.source.Ended.TheVariants as ended

-- what was read, and what is left, are all that the source held
ends_over : {R : Type 0} (a : Course R) (read later all : List ℕ) (x y : Option (List ℕ)) (r : Ended R) → all ≡ read ++ later → EndsAfter a read (Some later) x y r → EndsOver a all (Some later) x y r
ends_over a read later all x y ended.Done parts (end, small, said) =
    let same : all ≡ read = parts ∙ ap (λ (l : List ℕ). read ++ l) end ∙ append-nil read in
    (ap Some end, rw same small, rw same said)
ends_over a read later all x y (ended.Stopped why) parts (written, said, gained) = rw parts (λ here. let (reason, text) = said here in (reason, rw text gained))
ends_over a read later all x y ended.ReadFault parts whole = (read, parts, whole)
ends_over a read later all x y ended.Limit parts (long, whole) =
    let size = length-append read later in
    let front : take limit all ≡ take limit read = ap (take limit) parts ∙ take-append-le limit read later (omega arith) in
    (rw parts (omega (arith, long, size)), rw front whole)
ends_over a read later all x y ended.WriteFault parts cut = (read, parts, cut)
ends_over a read later all x y ended.Failed parts cut = (read, parts, cut)
ends_over a read later all x y ended.Memory parts cut = (read, parts, cut)

-- where no other end has a cause, the records decide
decided_over : {R : Type 0} (a : Course R) (all : List ℕ) (left x y : Option (List ℕ)) (r : Ended R) → a.holds (records_of all) → length all ≤ limit → CanDecide r → EndsOver a all left x y r
    → r ≡ ended_for (a.reason (records_of all))
decided_over a all left x y ended.Done here small can (end, few, said) = let (unstopped, text) = said here in rw unstopped.0 refl
decided_over a all left x y (ended.Stopped why) here small can said = let (stopped, text) = said here in rw stopped.0 refl
decided_over a all left x y ended.ReadFault here small can h = absurd (can.1.0 refl)
decided_over a all left x y ended.Limit here small can (long, whole) = absurd (omega arith)
decided_over a all left x y ended.WriteFault here small can h = absurd (can.1.1.0 refl)
decided_over a all left x y ended.Failed here small can h = absurd (can.1.1.1 refl)
decided_over a all left x y ended.Memory here small can h = absurd (can.0 refl)

module _ {S R W G : Type 0} (gains : S → S → List G → Type 0) (takes : S → Outlook W G) (course : W → Course R) (step : W → Record → W) where
  pub told_plays : (p q : S) (read : List ℕ) (left left' x y : Option (List ℕ)) (r : Ended R) → Consumes left left' read → EndsFrom gains takes course step p q read left' x y r
      → IfSome left (λ all. PlayedOver gains takes course step p q all left' x y r)
  told_plays p q read None left' x y r parts h = tt
  told_plays p q read (Some all) None x y r parts h = absurd parts
  told_plays p q read (Some all) (Some later) x y r parts h = record {
    given = h.given;
    gained = h.gained;
    ends = λ w taken. ends_over (course w) read later all x y r parts (h.ends w taken);
    fails = λ is w taken here.
        let (written, text, gained) = h.fails is w taken in
        let same = ap records_of parts in
        let (failed, whole) = text (subst (course w).holds same here) in
        (ap (course w).failed same ∙ failed, subst (Appends x y) (sym (ap ((course w).text true) same ∙ whole)) gained);
    reason = λ w taken here small can. decided_over (course w) all (Some later) x y r here small can (ends_over (course w) read later all x y r parts (h.ends w taken));
    stays = λ is w taken. subst (λ (l : List ℕ). takes q false [] (fold step w (records_of l))) (sym parts) (h.stays is w taken);
  }

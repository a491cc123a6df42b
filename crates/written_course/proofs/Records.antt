-- What became of one record, whatever records follow.
use Rattle.std.proofs.Common.{refl, sym, ap, subst, ◌∙◌, ◌≡◌, ℕ, Bool, true, List, [], ◌∷◌, ◌++◌, Option, Some, option_and_then, append-nil}
use Rattle.record_cutting.specs.Lines.{Record}
use Rattle.record_stream.specs.Course.{Begins, Breaks, Goes, Stops}
use Rattle.schedule_model.specs.Written.{AtField, Written, On, Off, Stop, all_written, follow, last_of, onto, stop_of, stopped_text, text_with}
use Rattle.written_course.specs.Steps.{AreSteps, OnIs, Steps, closing_if, course_from, gone_on, plays}
use Rattle.written_course.proofs.Texts.{follow_onto, follow_till, last_onto, onto_till, stop_onto, text_onto}

module _ {P R : Type 0} (s : Steps P R) (keeps : P → Type 0) (are : AreSteps s keeps) where
  abbrev pub HoldsTill : Written P → Type 0
  HoldsTill w = s.holds (last_of w)

  -- what is said after records is said before them
  pub records_before : (p : P) (rs : List Record) → keeps p → HoldsTill (plays s p rs) → s.holds p
  unfolding all_written
  records_before p [] kept h = h
  records_before p (r ∷ rs) kept h = are.before p r kept (follow_till keeps s.holds (s.step p r) (λ q. plays s q rs) (are.on p r kept) (λ q so till. records_before q rs so till) h)

  -- a record was played, or ended the text: the state that goes on is one that is kept
  pub goes_kept : (w : Written P) → OnIs keeps w → keeps (gone_on s w)
  goes_kept (On text q) on = on
  goes_kept (Off text stop q) on = are.mended q

  pub goes_held : (w : Written P) → s.holds (gone_on s w) → HoldsTill w
  goes_held (On text q) h = h
  goes_held (Off text stop q) h = are.mended_before q h

  module _ (p : P) (kept : keeps p) (r : Record) where
    abbrev W : Written P
    W = s.step p r

    abbrev next : List Record → P → Written P
    next more q = plays s q more

    first_is : (more : List Record) → plays s p ((r ∷ []) ++ more) ≡ follow W (next more)
    unfolding all_written
    first_is more = refl

    held : (more : List Record) → (course_from s p).holds ((r ∷ []) ++ more) → HoldsTill W
    held more here =
        follow_till keeps s.holds W (next more) (are.on p r kept) (λ q so till. records_before q more so till) (subst HoldsTill (first_is more) here)

    -- it is played on
    module _ (text : List ℕ) (on : HoldsTill W → (q : P) × (W ≡ On text q)) where
      -- what holds of a text that goes on holds of this one
      turn : (Q : Written P → Type 0) → ((q : P) → Q (On text q)) → HoldsTill W → Q W
      turn Q h till = let (q, is) = on till in subst Q (sym is) (h q)

      pub goes_one : Goes (course_from s p) (r ∷ []) (course_from s (gone_on s W)) text
      goes_one = record {
        holds = λ more here. turn (λ (w : Written P). HoldsTill (follow w (next more)) → HoldsTill (next more (gone_on s w))) (λ q. onto_till keeps s.holds text (next more q)) (held more here) (subst HoldsTill (first_is more) here);
        text = λ closed more here.
            ap (text_with (closing_if s closed)) (first_is more)
            ∙ turn (λ (w : Written P). text_with (closing_if s closed) (follow w (next more)) ≡ text ++ text_with (closing_if s closed) (next more (gone_on s w))) (λ q. text_onto (closing_if s closed) text (next more q)) (held more here);
        reason = λ more here.
            ap (λ (w : Written P). option_and_then s.reason (stop_of w)) (first_is more)
            ∙ turn (λ (w : Written P). option_and_then s.reason (stop_of (follow w (next more))) ≡ option_and_then s.reason (stop_of (next more (gone_on s w)))) (λ q. ap (option_and_then s.reason) (stop_onto text (next more q))) (held more here);
        failed = λ more here.
            ap (λ (w : Written P). s.failed (stop_of w)) (first_is more)
            ∙ turn (λ (w : Written P). s.failed (stop_of (follow w (next more))) ≡ s.failed (stop_of (next more (gone_on s w)))) (λ q. ap s.failed (stop_onto text (next more q))) (held more here);
        takes_all = λ more here.
            ap (λ (w : Written P). s.takes_all (stop_of w) (last_of w)) (first_is more)
            ∙ turn (λ (w : Written P). s.takes_all (stop_of (follow w (next more))) (last_of (follow w (next more))) ≡ s.takes_all (stop_of (next more (gone_on s w))) (last_of (next more (gone_on s w)))) (λ q. all_onto (next more q)) (held more here);
      }
        where
          all_onto : (w : Written P) → s.takes_all (stop_of (onto text w)) (last_of (onto text w)) ≡ s.takes_all (stop_of w) (last_of w)
          all_onto (On more q) = refl
          all_onto (Off more stop q) = refl

    -- it ends the text
    ends : (text : List ℕ) (why : Stop) (q : P) (more : List Record) → W ≡ Off text why q → plays s p ((r ∷ []) ++ more) ≡ Off text why q
    ends text why q more is = first_is more ∙ ap (λ (w : Written P). follow w (next more)) is

    pub stops_one : (text : List ℕ) (why : Stop) (said : R) → s.reason why ≡ Some said → (HoldsTill W → (q : P) × (W ≡ Off text why q) × (s.takes_all (Some why) q ≡ true)) → Stops (course_from s p) (r ∷ []) said (text ++ stopped_text why)
    stops_one text why said says off = record {
      text = λ closed more here. let (q, is, all) = off (held more here) in ap (text_with (closing_if s closed)) (ends text why q more is);
      reason = λ more here. let (q, is, all) = off (held more here) in ap (λ (w : Written P). option_and_then s.reason (stop_of w)) (ends text why q more is) ∙ says;
      takes_all = λ more here. let (q, is, all) = off (held more here) in ap (λ (w : Written P). s.takes_all (stop_of w) (last_of w)) (ends text why q more is) ∙ all;
    }

    -- it begins with this text
    pub begins_one : (text : List ℕ) → (HoldsTill W → (rest : Written P) × (W ≡ onto text rest)) → Begins (course_from s p) (r ∷ []) text
    begins_one text some = record {
      text = λ closed more here.
          let (rest, is) = some (held more here) in
          let all = follow rest (next more) in (
            text_with (closing_if s closed) all,
            ap (text_with (closing_if s closed)) (first_is more ∙ ap (λ (w : Written P). follow w (next more)) is ∙ follow_onto text rest (next more)) ∙ text_onto (closing_if s closed) text all,
          );
    }

    -- what was asked fails in it
    pub breaks_one : (text : List ℕ) → s.failed (Some AtField) ≡ true → (HoldsTill W → (q : P) × (W ≡ Off text AtField q)) → Breaks (course_from s p) (r ∷ []) text
    breaks_one text fails off = record {
      text = λ closed more here. let (q, is) = off (held more here) in ap (text_with (closing_if s closed)) (ends text AtField q more is) ∙ append-nil text;
      failed = λ more here. let (q, is) = off (held more here) in ap (λ (w : Written P). s.failed (stop_of w)) (ends text AtField q more is) ∙ fails;
    }

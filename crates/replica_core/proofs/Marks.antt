-- The marks of a leader's peers are those that the model's leader counts.
use Rattle.std.proofs.Common.{◌≡◌, ℕ, cond, ◌==◌, inl, inr, List, [], ◌∷◌, length, map, refl, sym, ap, ◌∙◌}
use Rattle.std.proofs.lemmas.Bool.{cases_eq, cond-true, cond-false, eq-eqb, ne_eqb}
use Rattle.std.specs.Prelude.{unwrap_or}
use Rattle.group_quorum.specs.Marks.{mark_of}
use Rattle.replica_model.specs.declared.Progress.{Progress}
use Rattle.replica_model.specs.Replica as model
use Rattle.replica_model.specs.Raise.{accepted_mark, promised_mark}
use Rattle.replica_core.specs.declared.role.Mark.{Mark}
use Rattle.replica_core.specs.declared.role.Mark.TheVariants.{Accepted, Promised}
use Rattle.replica_core.specs.Keeping.{unknown, progress_in, mark_in, marks_by}
use Rattle.replica_core.proofs.Listed.{find-here, find-later}

of_unknown : (mark : Mark) → mark_in mark unknown ≡ 0
of_unknown Accepted = refl
of_unknown Promised = refl

-- the mark of a peer
of_peer : (mark : Mark) (progress : List (ℕ × Progress)) (v : ℕ)
    → mark_of (map (λ (p : ℕ × Progress). (p.0, mark_in mark p.1)) progress) v ≡ mark_in mark (progress_in progress v)
of_peer mark [] v = sym (of_unknown mark)
of_peer mark (p ∷ ps) v =
    let rest : List (ℕ × ℕ) = map (λ (q : ℕ × Progress). (q.0, mark_in mark q.1)) ps in
    elim (cases_eq p.0 v) [
      | inl here ↦
          cond-true (p.0 == v) (mark_in mark p.1) (mark_of rest v) (eq-eqb p.0 v here)
          ∙ sym (ap (λ o. mark_in mark (unwrap_or o unknown)) (find-here p ps v here))
      | inr ne ↦
          cond-false (p.0 == v) (mark_in mark p.1) (mark_of rest v) (ne_eqb p.0 v ne)
          ∙ (of_peer mark ps v ∙ sym (ap (λ o. mark_in mark (unwrap_or o unknown)) (find-later p ps v ne)))
    ]

eqb-swap : (a b : ℕ) → (a == b) ≡ (b == a)
eqb-swap a b = elim (cases_eq a b) [
  | inl e ↦ eq-eqb a b e ∙ sym (eq-eqb b a (sym e))
  | inr ne ↦ ne_eqb a b ne ∙ sym (ne_eqb b a (λ e. ne (sym e)))
]

-- the mark of a voter, the leader's own being known
of_voter : (mark : Mark) (me own : ℕ) (progress : List (ℕ × Progress)) (v : ℕ)
    → mark_of (marks_by mark me own progress) v ≡ cond (v == me) own (mark_in mark (progress_in progress v))
of_voter mark me own progress v =
    ap (λ b. cond b own (mark_of (map (λ (p : ℕ × Progress). (p.0, mark_in mark p.1)) progress) v)) (eqb-swap me v)
    ∙ ap (cond (v == me) own) (of_peer mark progress v)

module _ (s : model.Replica) (m : model.Leading) (me : ℕ) (progress : List (ℕ × Progress)) (me-is : me ≡ s.me) (progress-is : progress ≡ m.progress) where
  pub accepted-marks : (own : ℕ) → own ≡ length s.path → (v : ℕ) → mark_of (marks_by Accepted me own progress) v ≡ accepted_mark s m v
  accepted-marks own own-is v =
      of_voter Accepted me own progress v
      ∙ (ap (λ n. cond (v == n) own (progress_in progress v).mark) me-is
      ∙ (ap (λ n. cond (v == s.me) n (progress_in progress v).mark) own-is
      ∙ ap (λ ps. cond (v == s.me) (length s.path) (progress_in ps v).mark) progress-is))

  pub promised-marks : (own : ℕ) → own ≡ s.promised → (v : ℕ) → mark_of (marks_by Promised me own progress) v ≡ promised_mark s m v
  promised-marks own own-is v =
      of_voter Promised me own progress v
      ∙ (ap (λ n. cond (v == n) own (progress_in progress v).promised) me-is
      ∙ (ap (λ n. cond (v == s.me) n (progress_in progress v).promised) own-is
      ∙ ap (λ ps. cond (v == s.me) s.promised (progress_in ps v).promised) progress-is))

-- A log's greatest indices are those of each model replica for which it stands.
use Rattle.std.proofs.Common.{◌≡◌, ℕ, zero, suc, ◌+◌, ◌-◌, ◌<◌, ◌≤◌, Bool, true, false, cond, List, length, take, refl, sym, ap, subst, ◌∙◌, arith}
use Rattle.std.specs.Prelude.{◌==◌, nat_le, ◌&&◌, ◌||◌, Some, None}
use Rattle.std.proofs.lemmas.Bool.{le-leb, lt-ltb, leb-false, and_from, or_left, or_right, cond-true}
use Rattle.std.proofs.lemmas.List.{length-take-le}
use Rattle.group_quorum.specs.Conf.{met}
use Rattle.group_quorum.specs.Marks.{mark_of}
use Rattle.group_quorum.specs.Sharing.{VotersDecide}
use Rattle.group_quorum.specs.Voters.{is_in}
use Rattle.replica_model.specs.Path.{Path, Link, term_at as model_term_at}
use Rattle.replica_model.specs.Configs.{conf, conf_index, older_conf}
use Rattle.replica_model.specs.Enough.{is_enough, greatest_above, greatest_upto}
use Rattle.replica_model.specs.Laws.{VotersCounted}
use Rattle.replica_model.specs.Replica.{Replica, Leading}
use Rattle.replica_model.specs.Peers.{is_pending}
use Rattle.replica_model.specs.Raise.{accepted_mark, promised_mark, may_promise, may_commit, promise_index, commit_index}
use Rattle.replica_log.specs.declared.configs.Configs.{Configs}
use Rattle.replica_log.specs.Window.{Window, IsOrdered, last_index, configs_at}
use Rattle.replica_log.specs.Models.{StandsFor, SameIndices, AreConfigs, IndicesAreTheModels, TermsAreTheModels, ConfigsAreTheModels}
use Rattle.promise_rules.specs.Raising.{enough_by, is_term, is_of_term, passes, promised_by, committed_by, counts_at, AreMarks}

-- tests that agree above `had` and up to `top` have the same greatest number
same_above : (p q : ℕ → Bool) (had n : ℕ) → ((k : ℕ) → had < k → k ≤ had + n → p k ≡ q k) → greatest_above p had n ≡ greatest_above q had n
same_above p q had zero same = refl
same_above p q had (suc n) same =
    ap (λ b. cond b (had + suc n) (greatest_above p had n)) (same (had + suc n) (omega arith) (omega arith))
    ∙ ap (λ m. cond (q (had + suc n)) (had + suc n) m) (same_above p q had n (λ k low high. same k low (omega (arith, high))))

same_greatest : (p q : ℕ → Bool) (had top : ℕ) → ((k : ℕ) → had < k → k ≤ top → p k ≡ q k) → greatest_upto p had top ≡ greatest_upto q had top
same_greatest p q had top same = same_above p q had (top - had) (λ k low high. same k low (omega (arith, low, high)))

module _ (decide : VotersDecide) (counts : VotersCounted) (indices_are : IndicesAreTheModels) (terms_are : TermsAreTheModels) (configs_are : ConfigsAreTheModels)
    (link : Link) (w : Window) (ordered : IsOrdered w) (s : Replica) (stands : StandsFor link w s) where
  indices : SameIndices w s
  indices = indices_are link w s stands

  low : s.base ≤ s.committed
  low = let b = indices.base in let c = indices.committed in let o = ordered.committed in omega (arith, b, c, o)

  module _ (i : ℕ) (above : s.committed < i) (within : i ≤ length s.path) where
    base_le : s.base ≤ i
    base_le = omega (arith, low, above)

    are : AreConfigs s i (configs_at w i)
    are = configs_are link w ordered s stands i base_le

    count : length (take i s.path) ≡ i
    count = length-take-le i s.path within

    term_same : is_of_term w (Some s.term) i ≡ (model_term_at s.path i == s.term)
    term_same =
        ap (is_term s.term) (
        terms_are link w s stands i
        ∙ cond-true (nat_le s.base i && nat_le i (length s.path)) (Some (model_term_at s.path i)) None
        (and_from (nat_le s.base i) (nat_le i (length s.path)) (le-leb s.base i base_le) (le-leb i (length s.path) within))
        )

    -- the older configuration counts only while the newest is above the committed index
    settled : (mark : ℕ → ℕ) (b : Bool) → nat_le (configs_at w i).newest_index w.committed ≡ b
        → (b || met (configs_at w i).older (λ v. nat_le (configs_at w i).newest_index (mark v)))
        ≡ (b || met (older_conf s.first (take i s.path)) (λ v. nat_le (conf_index (take i s.path)) (mark v)))
    settled mark true e = refl
    settled mark false e =
        let over : w.committed < (configs_at w i).newest_index = leb-false (configs_at w i).newest_index w.committed e in
        ap (λ c. met c (λ v. nat_le (configs_at w i).newest_index (mark v))) (are.older (subst (λ n. n < (configs_at w i).newest_index) indices.committed over))
        ∙ ap (λ n. met (older_conf s.first (take i s.path)) (λ v. nat_le n (mark v))) are.newest_index

    enough_same : (mark : ℕ → ℕ) → enough_by (configs_at w i) w.committed mark i ≡ is_enough s.first s.path i mark s.committed
    enough_same mark =
        let r : Path = take i s.path in
        let k : Configs = configs_at w i in
        ap (λ c. met c (λ v. nat_le i (mark v)) && (nat_le k.newest_index w.committed || met k.older (λ v. nat_le k.newest_index (mark v)))) are.newest
        ∙ ap (λ n. met (conf s.first r) (λ v. nat_le n (mark v)) && (nat_le k.newest_index w.committed || met k.older (λ v. nat_le k.newest_index (mark v)))) (sym count)
        ∙ ap (λ b. met (conf s.first r) (λ v. nat_le (length r) (mark v)) && b) (
        settled mark (nat_le k.newest_index w.committed) refl
        ∙ ap (λ n. nat_le n w.committed || met (older_conf s.first r) (λ v. nat_le (conf_index r) (mark v))) are.newest_index
        ∙ ap (λ n. nat_le (conf_index r) n || met (older_conf s.first r) (λ v. nat_le (conf_index r) (mark v))) indices.committed
        )

    -- marks that agree for each voter that counts are enough alike
    enough_alike : (mark other : ℕ → ℕ) → ((v : ℕ) → counts_at s i v ≡ true → mark v ≡ other v)
        → is_enough s.first s.path i mark s.committed ≡ is_enough s.first s.path i other s.committed
    enough_alike mark other same =
        let r : Path = take i s.path in
        let at : Replica = record s { path = r } in
        let newest_votes : List ℕ = (conf s.first r).voters in
        let older_votes : List ℕ = (older_conf s.first r).voters in
        ap (λ b. b && (nat_le (conf_index r) s.committed || met (older_conf s.first r) (λ v. nat_le (conf_index r) (mark v))))
        (decide (conf s.first r) (λ v. nat_le (length r) (mark v)) (λ v. nat_le (length r) (other v)) (λ v e.
        ap (nat_le (length r)) (same v (counts at v ∙ or_left (is_in newest_votes v) (is_pending at && is_in older_votes v) e))))
        ∙ ap (λ b. met (conf s.first r) (λ v. nat_le (length r) (other v)) && b) (settled_alike (nat_le (conf_index r) s.committed) refl)
      where
        settled_alike : (b : Bool) → nat_le (conf_index (take i s.path)) s.committed ≡ b
            → (b || met (older_conf s.first (take i s.path)) (λ v. nat_le (conf_index (take i s.path)) (mark v)))
            ≡ (b || met (older_conf s.first (take i s.path)) (λ v. nat_le (conf_index (take i s.path)) (other v)))
        settled_alike true e = refl
        settled_alike false e =
            let r : Path = take i s.path in
            let at : Replica = record s { path = r } in
            let pending : is_pending at ≡ true = lt-ltb s.committed (conf_index r) (leb-false (conf_index r) s.committed e) in
            decide (older_conf s.first r) (λ v. nat_le (conf_index r) (mark v)) (λ v. nat_le (conf_index r) (other v)) (λ v f.
            ap (nat_le (conf_index r)) (same v (counts at v ∙ or_right (is_in (conf s.first r).voters v) (is_pending at && is_in (older_conf s.first r).voters v)
            (and_from (is_pending at) (is_in (older_conf s.first r).voters v) pending f))))

    enough_model : (mark other : ℕ → ℕ) → ((v : ℕ) → counts_at s i v ≡ true → mark v ≡ other v)
        → enough_by (configs_at w i) w.committed mark i ≡ is_enough s.first s.path i other s.committed
    enough_model mark other same = enough_same mark ∙ enough_alike mark other same

  -- the promised index
  pub promise_model : (l : Leading) (marks : List (ℕ × ℕ)) → AreMarks s s.promised (length s.path) marks (accepted_mark s l) → promised_by w s.term marks ≡ promise_index s l
  promise_model l marks same =
      ap (λ n. greatest_upto (passes w (Some s.term) (mark_of marks)) n (last_index w)) indices.promised
      ∙ ap (greatest_upto (passes w (Some s.term) (mark_of marks)) s.promised) indices.last
      ∙ same_greatest (passes w (Some s.term) (mark_of marks)) (may_promise s l) s.promised (length s.path) (λ i above within.
      let over : s.committed < i = (let p = indices.promised in let c = indices.committed in let o = ordered.promised in omega (arith, p, c, o, above)) in
      ap (λ b. b && enough_by (configs_at w i) w.committed (mark_of marks) i) (term_same i over within)
      ∙ ap (λ b. (model_term_at s.path i == s.term) && b) (enough_model i over within (mark_of marks) (accepted_mark s l) (λ v. same i v above within)))

  -- the committed index
  pub commit_model : (l : Leading) (promises : List (ℕ × ℕ)) → AreMarks s s.committed s.promised promises (promised_mark s l)
      → committed_by w promises ≡ commit_index s l
  commit_model l promises same =
      ap (λ n. greatest_upto (passes w None (mark_of promises)) n w.promised) indices.committed
      ∙ ap (greatest_upto (passes w None (mark_of promises)) s.committed) indices.promised
      ∙ same_greatest (passes w None (mark_of promises)) (may_commit s l) s.committed s.promised (λ i above within.
      let most : i ≤ length s.path = (let p = indices.promised in let l = indices.last in let o = ordered.last in omega (arith, p, l, o, within)) in
      enough_model i above most (mark_of promises) (promised_mark s l) (λ v. same i v above within))

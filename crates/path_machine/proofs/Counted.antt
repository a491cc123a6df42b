-- More votes and more marks are enough too.
use Rattle.std.proofs.Common.{◌≡◌, ℕ, ◌≤◌, Bool, true, ◌||◌, nat_le, length, count_by, inl, inr, refl, sym, subst, arith}
use Rattle.std.proofs.lemmas.Bool.{and_parts, and_from, or_cases, or_right, leb-true, le-leb}
use Rattle.group_quorum.specs.Conf.{Conf, met, quorum_of}
use Rattle.group_quorum.proofs.Sharing.{more_meet}
use Rattle.replica_model.specs.Path.{Path}
use Rattle.replica_model.specs.Configs.{conf, conf_index, older_conf}
use Rattle.replica_model.specs.Enough.{met_by_both, enough_for}

-- a test that passes wherever another one does
abbrev pub Passes : (ℕ → Bool) → (ℕ → Bool) → Type 0
Passes f g = (v : ℕ) → f v ≡ true → g v ≡ true

pub met_more : (c : Conf) (f g : ℕ → Bool) → Passes f g → met c f ≡ true → met c g ≡ true
met_more c f g more h =
    le-leb (quorum_of c) (count_by g c.voters) (more_meet c f g more (leb-true (quorum_of c) (count_by f c.voters) h))

pub both_more : (first : Conf) (p : Path) (committed : ℕ) (f f' g g' : ℕ → Bool) → Passes f g → Passes f' g' → met_by_both first p committed f f' ≡ true → met_by_both first p committed g g' ≡ true
both_more first p committed f f' g g' more more' h =
    let parts = and_parts (met (conf first p) f) (nat_le (conf_index p) committed || met (older_conf first p) f') h in
    and_from (met (conf first p) g) (nat_le (conf_index p) committed || met (older_conf first p) g') (met_more (conf first p) f g more parts.0)
    (elim (or_cases (nat_le (conf_index p) committed) (met (older_conf first p) f') parts.1) [
      | inl old ↦ let rest = met (older_conf first p) g' in subst (λ b. (b || rest) ≡ true) (sym old) refl
      | inr two ↦ or_right (nat_le (conf_index p) committed) (met (older_conf first p) g') (met_more (older_conf first p) f' g' more' two)
    ])

-- greater marks are enough too
pub enough_more : (first : Conf) (r : Path) (m n : ℕ → ℕ) (committed : ℕ) → ((v : ℕ) → m v ≤ n v) → enough_for first r m committed ≡ true → enough_for first r n committed ≡ true
enough_more first r m n committed more h =
    both_more first r committed (λ v. nat_le (length r) (m v)) (λ v. nat_le (conf_index r) (m v)) (λ v. nat_le (length r) (n v)) (λ v. nat_le (conf_index r) (n v)) (reach (length r)) (reach (conf_index r)) h
  where
    reach : (k : ℕ) → Passes (λ v. nat_le k (m v)) (λ v. nat_le k (n v))
    reach k v is = le-leb k (n v) (omega (arith, leb-true k (m v) is, more v))

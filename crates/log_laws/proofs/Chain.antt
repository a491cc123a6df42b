-- Equal points have equal paths.
use Rattle.std.proofs.Common.{◌≡◌, ℕ, zero, suc, ◌+◌, max, ◌⊎◌, [], ◌∷◌, ◌++◌, length, refl, sym, ap, ◌∙◌, subst, arith}
use Rattle.std.proofs.lemmas.List.{nil_from_length, length_push}
use Rattle.values.specs.declared.entry.LogEntry.{LogEntry}
use Rattle.replica_model.specs.Path.{Path, Link, chain}
use Rattle.replica_model.proofs.Paths.{chain-push}
use Rattle.group_model.specs.Log.{IsFrontOf}
use Rattle.agreement.proofs.Places.{snoc}

-- no two different inputs of the link for paths of these have one hash
abbrev pub NoCollisionIn : Link → (Path → Type 0) → Type 0
NoCollisionIn link Held =
    (p q : Path) (a b : LogEntry) → Held (p ++ a ∷ []) → Held (q ++ b ∷ []) → link (chain link p) (length p + 1) a ≡ link (chain link q) (length q + 1) b
    → (chain link p ≡ chain link q) × (length p ≡ length q) × (a ≡ b)

pub max_cases : (a b : ℕ) → (max a b ≡ a) ⊎ (max a b ≡ b)
max_cases a b = grind arith

module _ (link : Link) where
  pub same_points : (Held : Path → Type 0) → NoCollisionIn link Held → ((p w : Path) → IsFrontOf p w → Held w → Held p) → (n : ℕ) (p q : Path) → length p ≡ n → length q ≡ n → Held p → Held q → chain link p ≡ chain link q → p ≡ q
  same_points Held none closed zero p q lp lq hp hq same = nil_from_length p lp ∙ sym (nil_from_length q lq)
  same_points Held none closed (suc n) [] q lp lq hp hq same = absurd (omega arith)
  same_points Held none closed (suc n) (x ∷ p) [] lp lq hp hq same = absurd (omega arith)
  same_points Held none closed (suc n) (x ∷ p) (y ∷ q) lp lq hp hq same =
      let r = snoc x p in
      let s = snoc y q in
      let held_r : Held (r.0 ++ r.1 ∷ []) = subst Held r.2 hp in
      let held_s : Held (s.0 ++ s.1 ∷ []) = subst Held s.2 hq in
      let hashes : link (chain link r.0) (length r.0 + 1) r.1 ≡ link (chain link s.0) (length s.0 + 1) s.1 =
      sym (chain-push link r.0 r.1) ∙ (ap (chain link) (sym r.2) ∙ (same ∙ (ap (chain link) s.2 ∙ chain-push link s.0 s.1))) in
      let parts = none r.0 s.0 r.1 s.1 held_r held_s hashes in
      let long_r : suc (length p) ≡ length r.0 + 1 = ap length r.2 ∙ length_push r.0 r.1 in
      let long_s : suc (length q) ≡ length s.0 + 1 = ap length s.2 ∙ length_push s.0 s.1 in
      let fronts : r.0 ≡ s.0 = same_points Held none closed n r.0 s.0 (omega arith) (omega arith) (closed r.0 (r.0 ++ r.1 ∷ []) (r.1 ∷ [], refl) held_r) (closed s.0 (s.0 ++ s.1 ∷ []) (s.1 ∷ [], refl) held_s) parts.0 in
      let whole : r.0 ++ r.1 ∷ [] ≡ s.0 ++ s.1 ∷ [] = ap (λ z. z ++ r.1 ∷ []) fronts ∙ ap (λ z. s.0 ++ z ∷ []) parts.2 in
      r.2 ∙ (whole ∙ sym s.2)

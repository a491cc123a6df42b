-- What a leader keeps, beside what the model's keeps.
use Rattle.std.proofs.Common.{◌≡◌, ℕ, Bool, true, false, cond, not, ◌==◌, nat_lt, inl, inr, Option, Some, None, List, [], ◌∷◌, refl, sym, ap, subst, ◌∙◌}
use Rattle.std.specs.Prelude.{is_some}
use Rattle.std.proofs.lemmas.Bool.{cases_eq}
use Rattle.group_quorum.specs.Conf.{Conf}
use Rattle.replica_model.specs.Keyed.{value_at, has, put, without}
use Rattle.replica_model.specs.Replica as model
use Rattle.replica_model.specs.Peers.{progress_of}
use Rattle.table_transfer.specs.SentTable.{SentTable}
use Rattle.replica_core.specs.declared.role.Leading.{Leading}
use Rattle.replica_core.specs.Standing.{SendsAs, SendingsAs, LeadsAs}
use Rattle.replica_core.specs.Keeping.{progress_in}
use Rattle.replica_core.proofs.Listed.{find-here, find-later}

-- two choices by one test
pub cond_pair : {A B : Type 0} (a b : Bool) (x y : A) (x' y' : B) (R : A → B → Type 0) → a ≡ b → (b ≡ true → R x x') → (b ≡ false → R y y')
    → R (cond a x y) (cond b x' y')
cond_pair true true x y x' y' R e p q = p refl
cond_pair false false x y x' y' R e p q = q refl
cond_pair true false x y x' y' R e p q = cc
cond_pair false true x y x' y' R e p q = cc

-- what stands under an id for tables that are being sent
abbrev pub ValueAs : ℕ → Conf → Option SentTable → Option model.Sending → Type 0
ValueAs limit first None None = Unit {0}
ValueAs limit first (Some k) (Some m) = SendsAs limit first k m
ValueAs limit first _ _ = ⊥

module _ (limit : ℕ) (first : Conf) where
  pub value-as : (ks : List (ℕ × SentTable)) (ms : List (ℕ × model.Sending)) → SendingsAs limit first ks ms → (v : ℕ) → ValueAs limit first (value_at ks v) (value_at ms v)
  value-as [] [] h v = tt
  value-as [] (m ∷ ms) h v = absurd h
  value-as (k ∷ ks) [] h v = absurd h
  value-as (k ∷ ks) (m ∷ ms) (same, (one, rest)) v = elim (cases_eq m.0 v) [
    | inl here ↦
        subst (λ o. ValueAs limit first o (value_at (m ∷ ms) v)) (sym (find-here k ks v (same ∙ here)))
        (subst (ValueAs limit first (Some k.1)) (sym (find-here m ms v here)) one)
    | inr ne ↦
        subst (λ o. ValueAs limit first o (value_at (m ∷ ms) v)) (sym (find-later k ks v (λ e. ne (sym same ∙ e))))
        (subst (ValueAs limit first (value_at ks v)) (sym (find-later m ms v ne)) (value-as ks ms rest v))
  ]

  has-value : (o : Option SentTable) (p : Option model.Sending) → ValueAs limit first o p → is_some o ≡ is_some p
  has-value None None h = refl
  has-value (Some k) (Some m) h = refl
  has-value None (Some m) h = absurd h
  has-value (Some k) None h = absurd h

  pub has-as : (ks : List (ℕ × SentTable)) (ms : List (ℕ × model.Sending)) → SendingsAs limit first ks ms → (v : ℕ) → has ks v ≡ has ms v
  has-as ks ms h v = has-value (value_at ks v) (value_at ms v) (value-as ks ms h v)

  pub put-as : (ks : List (ℕ × SentTable)) (ms : List (ℕ × model.Sending)) → SendingsAs limit first ks ms → (v : ℕ) (k : SentTable) (m : model.Sending)
      → SendsAs limit first k m → SendingsAs limit first (put ks v k) (put ms v m)
  put-as [] [] h v k m one = (refl, (one, tt))
  put-as [] (y ∷ ys) h v k m one = absurd h
  put-as (x ∷ xs) [] h v k m one = absurd h
  put-as (x ∷ xs) (y ∷ ys) (same, (head, rest)) v k m one =
      cond_pair (x.0 == v) (y.0 == v) ((v, k) ∷ xs) (cond (nat_lt v x.0) ((v, k) ∷ x ∷ xs) (x ∷ put xs v k))
      ((v, m) ∷ ys) (cond (nat_lt v y.0) ((v, m) ∷ y ∷ ys) (y ∷ put ys v m)) (SendingsAs limit first) (ap (λ n. n == v) same)
      (λ t. (refl, (one, rest)))
      (λ f. cond_pair (nat_lt v x.0) (nat_lt v y.0) ((v, k) ∷ x ∷ xs) (x ∷ put xs v k) ((v, m) ∷ y ∷ ys) (y ∷ put ys v m) (SendingsAs limit first) (ap (nat_lt v) same)
      (λ t. (refl, (one, (same, (head, rest)))))
      (λ g. (same, (head, put-as xs ys rest v k m one))))

  pub without-as : (ks : List (ℕ × SentTable)) (ms : List (ℕ × model.Sending)) → SendingsAs limit first ks ms → (v : ℕ) → SendingsAs limit first (without ks v) (without ms v)
  without-as [] [] h v = tt
  without-as [] (y ∷ ys) h v = absurd h
  without-as (x ∷ xs) [] h v = absurd h
  without-as (x ∷ xs) (y ∷ ys) (same, (head, rest)) v =
      cond_pair (not (x.0 == v)) (not (y.0 == v)) (x ∷ without xs v) (without xs v) (y ∷ without ys v) (without ys v) (SendingsAs limit first) (ap (λ n. not (n == v)) same)
      (λ t. (same, (head, without-as xs ys rest v)))
      (λ f. without-as xs ys rest v)

-- what is known of a peer
pub progress-as : (limit : ℕ) (first : Conf) (l : Leading) (m : model.Leading) → LeadsAs limit first l m → (v : ℕ) → progress_in l.progress v ≡ progress_of m v
progress-as limit first l m like v = ap (λ ps. progress_in ps v) like.progress

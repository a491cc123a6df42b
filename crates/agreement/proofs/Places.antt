-- The configuration of a path, and where its Members entries are.
use Rattle.std.proofs.Common.{◌≡◌, ℕ, ◌≤◌, zero, suc, ◌+◌, Bool, true, false, ◌||◌, ◌⊎◌, inl, inr, [], ◌∷◌, ◌++◌, length, take, drop, refl, sym, ap, ◌∙◌, subst, cond, add-one, arith}
use Rattle.std.proofs.lemmas.Bool.{or_parts, or_cases, or_right}
use Rattle.std.proofs.lemmas.List.{take_at, take-take, take-append-drop}
use Rattle.values.specs.declared.entry.LogEntry.{LogEntry}
use Rattle.group_quorum.specs.Conf.{Conf}
use Rattle.replica_model.specs.Path.{Path}
use Rattle.replica_model.specs.Configs.{is_members, conf, conf_index_from, conf_index}
use Rattle.replica_model.proofs.Paths.{changed_plain, conf_index_from-bound}
use Rattle.group_model.specs.Log.{IsFrontOf}

abbrev pub has_members : Path → Bool
has_members [] = false
has_members (e ∷ p) = is_members e.body || has_members p

-- with no Members entry the configuration stays
pub conf_plain : (first : Conf) (t : Path) → has_members t ≡ false → conf first t ≡ first
conf_plain first [] h = refl
conf_plain first (e ∷ t) h =
    let parts = or_parts (is_members e.body) (has_members t) h in
    rw (changed_plain first e.body parts.0) (conf_plain first t parts.1)

-- where the last Members entry is: after entries with none the index that stood before
index_plain : (i k : ℕ) (t : Path) → has_members t ≡ false → conf_index_from i k t ≡ i
index_plain i k [] h = refl
index_plain i k (e ∷ t) h =
    let parts = or_parts (is_members e.body) (has_members t) h in
    ap (λ b. conf_index_from (cond b (k + 1) i) (k + 1) t) parts.0 ∙ index_plain i (k + 1) t parts.1

index_at : (i k : ℕ) (u : Path) (e : LogEntry) (z : Path) → is_members e.body ≡ true → has_members z ≡ false → conf_index_from i k (u ++ e ∷ z) ≡ k + length u + 1
index_at i k [] e z m h = ap (λ b. conf_index_from (cond b (k + 1) i) (k + 1) z) m ∙ (index_plain (k + 1) (k + 1) z h ∙ omega arith)
index_at i k (x ∷ u) e z m h = index_at (cond (is_members x.body) (k + 1) i) (k + 1) u e z m h ∙ omega arith

pub last_at : (u : Path) (e : LogEntry) (z : Path) → is_members e.body ≡ true → has_members z ≡ false → conf_index (u ++ e ∷ z) ≡ length u + 1
last_at u e z m h = index_at 0 0 u e z m h ∙ omega arith

pub conf_index_le : (p : Path) → conf_index p ≤ length p
conf_index_le p = omega (arith, conf_index_from-bound 0 0 p (omega arith))

-- a path is cut at its first Members entry
pub record FirstMembers (t : Path) : Type 0 where
  pub front : Path
  pub entry : LogEntry
  pub rest : Path
  pub is : t ≡ front ++ entry ∷ rest
  pub plain : has_members front ≡ false
  pub members : is_members entry.body ≡ true

first_at : (e : LogEntry) (t : Path) (b : Bool) → is_members e.body ≡ b → (has_members t ≡ false) ⊎ FirstMembers t → (has_members (e ∷ t) ≡ false) ⊎ FirstMembers (e ∷ t)
first_at e t true is rest = inr (record { front = []; entry = e; rest = t; is = refl; plain = refl; members = is })
first_at e t false is (inl none) = inl (rw is none)
first_at e t false is (inr s) = inr (record { front = e ∷ s.front; entry = s.entry; rest = s.rest; is = ap (λ xs. e ∷ xs) s.is; plain = rw is s.plain; members = s.members })

-- the first Members entry of a path, where it has one
pub first_members : (t : Path) → (has_members t ≡ false) ⊎ FirstMembers t
first_members [] = inl refl
first_members (e ∷ t) = first_at e t (is_members e.body) refl (first_members t)

pub take_before : (u : Path) (e : LogEntry) (z : Path) → take (length u) (u ++ e ∷ z) ≡ u
take_before u e z = take_at u (e ∷ z) (length u) refl

take_suc : (u : Path) (e : LogEntry) (z : Path) → take (suc (length u)) (u ++ e ∷ z) ≡ u ++ e ∷ []
take_suc [] e z = refl
take_suc (x ∷ u) e z = ap (λ xs. x ∷ xs) (take_suc u e z)

pub take_upto : (u : Path) (e : LogEntry) (z : Path) → take (length u + 1) (u ++ e ∷ z) ≡ u ++ e ∷ []
take_upto u e z = rw add-one (take_suc u e z)

-- a shorter front is a front of a longer one
pub take_front : (i k : ℕ) (w : Path) → i ≤ k → IsFrontOf (take i w) (take k w)
take_front i k w le = (drop i (take k w), ap (λ x. x ++ drop i (take k w)) (sym (take-take i k w le)) ∙ take-append-drop i (take k w))

pub take_of_front : (i : ℕ) (p t : Path) → IsFrontOf (take i p) (take i (p ++ t))
take_of_front zero p t = ([], refl)
take_of_front (suc i) [] t = (take (suc i) t, refl)
take_of_front (suc i) (e ∷ p) t = let rest = take_of_front i p t in (rest.0, ap (λ x. e ∷ x) rest.1)

-- as many entries of a front and of the whole
pub take_of_front_of : (i : ℕ) (p w : Path) → IsFrontOf p w → IsFrontOf (take i p) (take i w)
take_of_front_of i p w pre = subst (λ x. IsFrontOf (take i p) (take i x)) pre.1 (take_of_front i p pre.0)

pub members_more : (z t : Path) → has_members z ≡ true → has_members (z ++ t) ≡ true
members_more [] t h = cc
members_more (e ∷ z) t h = elim (or_cases (is_members e.body) (has_members z) h) [
  | inl m ↦ rw m refl
  | inr m ↦ or_right (is_members e.body) (has_members (z ++ t)) (members_more z t m)
]

pub members_push : (z : Path) (x : LogEntry) → has_members (z ++ x ∷ []) ≡ true → (has_members z ≡ true) ⊎ (is_members x.body ≡ true)
members_push [] x h = elim (or_cases (is_members x.body) false h) [ inl m ↦ inr m | inr none ↦ absurd (let apart : false ≡ true = none in cc) ]
members_push (e ∷ z) x h = elim (or_cases (is_members e.body) (has_members (z ++ x ∷ [])) h) [
  | inl m ↦ inl (rw m refl)
  | inr m ↦ elim (members_push z x m) [ inl n ↦ inl (members_more_left e z n) | inr n ↦ inr n ]
]
  where
    members_more_left : (e : LogEntry) (z : Path) → has_members z ≡ true → has_members (e ∷ z) ≡ true
    members_more_left e z n = or_right (is_members e.body) (has_members z) n

-- a list with an entry has a last one
pub snoc : (e : LogEntry) (z : Path) → (front : Path) × (last : LogEntry) × (e ∷ z ≡ front ++ last ∷ [])
snoc e [] = ([], e, refl)
snoc e (f ∷ z) = let r = snoc f z in (e ∷ r.0, r.1, ap (λ x. e ∷ x) r.2)

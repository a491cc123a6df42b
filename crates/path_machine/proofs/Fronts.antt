-- Fronts of paths.
use Rattle.std.proofs.Common.{◌≡◌, ℕ, ◌+◌, ◌≤◌, true, ◌&&◌, ◌==◌, ◌⊎◌, inl, inr, List, [], ◌∷◌, ◌++◌, length, take, drop, refl, sym, ap, ◌∙◌, subst, append_assoc, length-append, add-one, slice_get, bytes_eq, option_map, unwrap_or, Some, arith}
use Rattle.std.proofs.lemmas.Bool.{eq-eqb, and_from}
use Rattle.std.proofs.lemmas.List.{append-nil, append_cancel_left, take-append-drop, length_push}
use Rattle.std.proofs.lemmas.Slice.Eq.{bytes_eq-Decides}
use Rattle.values.specs.declared.entry.Body.{Body}
use Rattle.values.specs.declared.entry.Body.TheVariants.{Noop, Ask, Members}
use Rattle.values.specs.declared.entry.LogEntry.{LogEntry}
use Rattle.replica_model.specs.Path.{Path, last_term, term_at}
use Rattle.path_machine.specs.Node.{same_body, same_entry, common}
use Rattle.group_model.specs.Log.{IsFrontOf}
use Rattle.agreement.proofs.Fronts.{both_fronts}

pub front_refl : (p : Path) → IsFrontOf p p
front_refl p = ([], append-nil p)

pub front_nil : (p : Path) → IsFrontOf [] p
front_nil p = (p, refl)

pub front_of : (k : ℕ) (w : Path) → IsFrontOf (take k w) w
front_of k w = (drop k w, take-append-drop k w)

pub front_append : (p q : Path) → IsFrontOf p (p ++ q)
front_append p q = (q, refl)

pub front_length : (p w : Path) → IsFrontOf p w → length p ≤ length w
front_length p w pre = let long : length w ≡ length p + length pre.0 = sym (ap length pre.1) ∙ length-append p pre.0 in omega (arith, long)

nil_of : (r : Path) → length r ≡ 0 → r ≡ []
nil_of [] h = refl
nil_of (x ∷ r) h = absurd (omega arith)

-- of two fronts of one path the shorter one is a front of the longer one
pub front_long : (p q w : Path) → IsFrontOf p w → IsFrontOf q w → length p ≤ length q → IsFrontOf p q
front_long p q w a b le = elim (both_fronts p q w a b) [
  | inl pre ↦ pre
  | inr pre ↦
      let long : length p ≡ length q + length pre.0 = sym (ap length pre.1) ∙ length-append q pre.0 in
      let none : pre.0 ≡ [] = nil_of pre.0 (omega (arith, long)) in
      let same : q ≡ p = sym (append-nil q) ∙ (ap (λ x. q ++ x) (sym none) ∙ pre.1) in
      subst (λ x. IsFrontOf p x) (sym same) (front_refl p)
]

-- the entry after a common front
pub same_next : (c : Path) (a b : LogEntry) (w : Path) → IsFrontOf (c ++ a ∷ []) w → IsFrontOf (c ++ b ∷ []) w → a ≡ b
same_next c a b w pa pb =
    let one : c ++ (a ∷ pa.0) ≡ w = sym (append_assoc c (a ∷ []) pa.0) ∙ pa.1 in
    let two : c ++ (b ∷ pb.0) ≡ w = sym (append_assoc c (b ∷ []) pb.0) ∙ pb.1 in
    let same : a ∷ pa.0 ≡ b ∷ pb.0 = append_cancel_left c (a ∷ pa.0) (b ∷ pb.0) (one ∙ sym two) in
    cc

get_push : (c : Path) (a : LogEntry) → slice_get (c ++ a ∷ []) (length c) ≡ Some a
get_push [] a = refl
get_push (e ∷ c) a = get_push c a

pub last_push : (c : Path) (a : LogEntry) → last_term (c ++ a ∷ []) ≡ a.term
last_push c a =
    ap (λ n. term_at (c ++ a ∷ []) n) (length_push c a ∙ add-one (length c))
    ∙ ap (λ o. unwrap_or (option_map (λ (e : LogEntry). e.term) o) 0) (get_push c a)

-- a path is empty or has a last entry
pub record Ends (p : Path) : Type 0 where
  pub front : Path
  pub entry : LogEntry
  pub is : p ≡ front ++ entry ∷ []

pub ends : (p : Path) → (p ≡ []) ⊎ Ends p
ends [] = inl refl
ends (e ∷ p) = elim (ends p) [
  | inl none ↦ inr (record { front = []; entry = e; is = ap (λ x. e ∷ x) none })
  | inr some ↦ inr (record { front = e ∷ some.front; entry = some.entry; is = ap (λ x. e ∷ x) some.is })
]

pub bytes_refl : (xs : List ℕ) → bytes_eq xs xs ≡ true
bytes_refl xs = (bytes_eq-Decides xs xs).1 refl

body_refl : (b : Body) → same_body b b ≡ true
body_refl Noop = refl
body_refl (Ask c n r) = and_from (bytes_eq c.0 c.0) ((n == n) && bytes_eq r r) (bytes_refl c.0) (and_from (n == n) (bytes_eq r r) (eq-eqb n n refl) (bytes_refl r))
body_refl (Members m v) = and_from (m == m) (bytes_eq v v) (eq-eqb m m refl) (bytes_refl v)

entry_refl : (e : LogEntry) → same_entry e e ≡ true
entry_refl e = and_from (e.term == e.term) (same_body e.body e.body) (eq-eqb e.term e.term refl) (body_refl e.body)

common_front : (x p q : Path) → length x ≤ common (x ++ p) (x ++ q)
common_front [] p q = omega arith
common_front (e ∷ x) p q = let more : length x ≤ common (x ++ p) (x ++ q) = common_front x p q in rw (entry_refl e) (omega (arith, more))

-- a front of both is common
pub common_ge : (x p q : Path) → IsFrontOf x p → IsFrontOf x q → length x ≤ common p q
common_ge x p q a b = subst (λ y. length x ≤ common y q) a.1 (subst (λ y. length x ≤ common (x ++ a.0) y) b.1 (common_front x a.0 b.0))

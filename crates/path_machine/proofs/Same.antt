-- What two paths begin with in common.
use Rattle.std.proofs.Common.{◌≡◌, ℕ, zero, suc, ◌+◌, ◌≤◌, true, ◌&&◌, ◌==◌, max, ◌⊎◌, inl, inr, List, [], ◌∷◌, length, take, bytes_eq, refl, arith}
use Rattle.std.proofs.lemmas.Bool.{and_parts, eqb-true, cases_Bool}
use Rattle.std.proofs.lemmas.Slice.Eq.{bytes_eq-Decides}
use Rattle.values.specs.declared.ids.ClientId.{ClientId}
use Rattle.values.specs.declared.entry.Body.{Body}
use Rattle.values.specs.declared.entry.Body.TheVariants.{Noop, Ask, Members}
use Rattle.values.specs.declared.entry.LogEntry.{LogEntry}
use Rattle.replica_model.specs.Path.{Path}
use Rattle.path_machine.specs.Node.{same_body, same_entry, common}

pub bytes_same : (xs ys : List ℕ) → bytes_eq xs ys ≡ true → xs ≡ ys
bytes_same xs ys h = (bytes_eq-Decides xs ys).0 h

client_same : (c d : ClientId) → c.0 ≡ d.0 → c ≡ d
client_same c d h = λ i. record { 0 = h i }

body_same : (a b : Body) → same_body a b ≡ true → a ≡ b
body_same Noop Noop h = refl
body_same (Ask c n r) (Ask d m s) h =
    let parts = and_parts (bytes_eq c.0 d.0) (n == m && bytes_eq r s) h in
    let more = and_parts (n == m) (bytes_eq r s) parts.1 in
    let client : c ≡ d = client_same c d (bytes_same c.0 d.0 parts.0) in
    let number : n ≡ m = eqb-true n m more.0 in
    let request : r ≡ s = bytes_same r s more.1 in
    cc
body_same (Members m v) (Members k u) h =
    let parts = and_parts (m == k) (bytes_eq v u) h in
    let margin : m ≡ k = eqb-true m k parts.0 in
    let voters : v ≡ u = bytes_same v u parts.1 in
    cc
body_same Noop (Ask d m s) h = cc
body_same Noop (Members k u) h = cc
body_same (Ask c n r) Noop h = cc
body_same (Ask c n r) (Members k u) h = cc
body_same (Members m v) Noop h = cc
body_same (Members m v) (Ask d k s) h = cc

entry_same : (a b : LogEntry) → same_entry a b ≡ true → a ≡ b
entry_same a b h =
    let parts = and_parts (a.term == b.term) (same_body a.body b.body) h in
    let term : a.term ≡ b.term = eqb-true a.term b.term parts.0 in
    let body : a.body ≡ b.body = body_same a.body b.body parts.1 in
    λ i. record { term = term i; body = body i }

-- up to there the two are equal
pub common_same : (k : ℕ) (p q : Path) → k ≤ common p q → take k p ≡ take k q
common_same zero p q h = refl
common_same (suc k) [] q h = absurd (omega arith)
common_same (suc k) (a ∷ p) [] h = absurd (omega arith)
common_same (suc k) (a ∷ p) (b ∷ q) h = elim (cases_Bool (same_entry a b)) [
  | inl same ↦
      let head : a ≡ b = entry_same a b same in
      let rest : suc k ≤ common p q + 1 = rw same at h in
      let tail : take k p ≡ take k q = common_same k p q (omega arith) in
      cc
  | inr apart ↦ absurd (let none : suc k ≤ 0 = rw apart at h in omega arith)
]

pub common_le : (p q : Path) → common p q ≤ length p
common_le [] q = omega arith
common_le (a ∷ p) [] = omega arith
common_le (a ∷ p) (b ∷ q) = elim (cases_Bool (same_entry a b)) [
  | inl same ↦ rw same (omega (arith, common_le p q))
  | inr apart ↦ rw apart (omega arith)
]

pub max_cases : (a b : ℕ) → (max a b ≡ a) ⊎ (max a b ≡ b)
max_cases a b = grind arith

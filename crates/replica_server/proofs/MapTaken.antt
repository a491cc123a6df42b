-- What a learner takes of a table has the path that the map has at its point.
use Rattle.std.proofs.Common.{◌≡◌, ℕ, ◌+◌, ◌<◌, Bool, true, false, cond, List, length, IsTrue, inl, inr, refl, sym, ap, subst, ◌∙◌, arith}
use Rattle.std.specs.Prelude.{◌⊎◌, ◌==◌, ◌&&◌, bytes_eq}
use Rattle.std.proofs.lemmas.Bool.{eqb-true, and_parts}
use Rattle.std.proofs.lemmas.Slice.Eq.{bytes_eq-Decides}
use Rattle.values.specs.declared.entry.Hash.{Hash}
use Rattle.values.specs.declared.entry.Point.{Point}
use Rattle.values.specs.declared.peer.TablePart.{TablePart}
use Rattle.replica_model.specs.Linked.{sha_link}
use Rattle.replica_model.specs.Path.{end_point, same_hash, same_point}
use Rattle.replica_model.specs.Replica.{Named, Taking, Learner, nothing_named}
use Rattle.replica_model.specs.Tables.{IsTruePart, part_of, point_taken, is_taken, taken_with}
use Rattle.replica_model.proofs.Parts.{one_part}
use Rattle.table_transfer.specs.Taken.{GoesOn}
use Rattle.replica_server.specs.Standing.{IsByMap}

-- the point of a true part is that of its path
part_point : (part : TablePart) (n : Named) → IsTruePart sha_link part n → part.point ≡ end_point sha_link n.path
part_point part n h = ap (λ p. p.point) h.is_part

-- points that are the same are one
one_point : (p q : Point) → IsTrue (same_point p q) → p ≡ q
one_point p q same =
    let parts = and_parts (p.index == q.index) (same_hash p.hash q.hash) same in
    let index : p.index ≡ q.index = eqb-true p.index q.index parts.0 in
    let bytes : p.hash.0 ≡ q.hash.0 = (bytes_eq-Decides p.hash.0 q.hash.0).0 parts.1 in
    ap (λ (i : ℕ). record { index = i; hash = p.hash }) index ∙ ap (λ (h : List ℕ). record { index = q.index; hash = record { 0 = h } }) bytes

first_alone : (part : TablePart) (n : Named) → IsTruePart sha_link part n → length n.path ≡ 0 → part.part < 1
first_alone part n h none = subst (λ k. part.part < k) (ap (λ p. p.parts) h.is_part ∙ one_part n n.path refl none) h.below

no : (b : Bool) → b ≡ false → b ≡ true → ⊥
no true e f = absurd (cc)
no false e f = absurd (cc)

module _ (names : Point → Named) where
  -- a later part at the point taken so far is of the same path
  pub map_goes_on : (t : Taking) (part : TablePart) → IsByMap names (Learner t) → IsTruePart sha_link part (names part.point) → GoesOn sha_link t part (names part.point)
  map_goes_on t part (inl (none, fresh)) h later same =
      let here = ap (λ p. p.index) (sym (part_point part (names part.point) h) ∙ (one_point _ _ same ∙ ap (λ n. end_point sha_link n.path) fresh)) in
      let first = first_alone part (names part.point) h here in
      absurd (omega (arith, later, first))
  map_goes_on t part (inr by_map) h later same = ap names (one_point _ _ same) ∙ sym by_map

  -- a learner that has taken no part takes no later one
  first_taken : (t : Taking) (part : TablePart) (b : Bool) → t.next ≡ 0 → (part.part == 0) ≡ false → cond b (part.part == t.next) (part.part == 0) ≡ true → ⊥
  first_taken t part true none later is = absurd (no (part.part == 0) later (ap (λ k. part.part == k) (sym none) ∙ is))
  first_taken t part false none later is = absurd (no (part.part == 0) later is)

  taken_names : (t : Taking) (part : TablePart) (b : Bool) → (part.part == 0) ≡ b → is_taken sha_link t part ≡ true
      → IsByMap names (Learner t) → IsTruePart sha_link part (names part.point)
      → cond b (names part.point) t.names ≡ names (end_point sha_link (cond b (names part.point) t.names).path)
  taken_names t part true e taken before h = ap names (part_point part (names part.point) h)
  taken_names t part false e taken (inr by_map) h = by_map
  taken_names t part false e taken (inl (none, fresh)) h = absurd (first_taken t part (same_point part.point (point_taken sha_link t)) none e taken)

  -- what is taken with a part is by the map too
  pub map_taken : (t : Taking) (part : TablePart) → is_taken sha_link t part ≡ true → IsByMap names (Learner t) → IsTruePart sha_link part (names part.point)
      → IsByMap names (Learner (taken_with t part (names part.point)))
  map_taken t part taken before h = inr (taken_names t part (part.part == 0) refl taken before h)

-- Offered entries against a window.
use Rattle.std.proofs.Common.{◌≡◌, ℕ, zero, suc, ◌+◌, ◌-◌, ◌<◌, ◌≤◌, true, false, ◌||◌, ◌==◌, cond, ◌⊎◌, inl, inr, Option, Some, None, List, [], ◌∷◌, length, drop, slice_get, nat_lt, nat_le, refl, sym, ap, ◌∙◌, length-append, length-drop, arith}
use Rattle.std.proofs.lemmas.Bool.{cases_Bool, cond-true, cond-false, lt-ltb, le-ltb, le-leb, lt-leb, leb-true, eq-eqb, ne_eqb, and_from, and_parts, and_left, and_right, or_from, or_left}
use Rattle.std.proofs.lemmas.List.{take-append-le, take-take}
use Rattle.std.proofs.lemmas.Slice.Eq.{bytes_eq-Decides}
use Rattle.values.specs.declared.entry.Hash.{Hash}
use Rattle.values.specs.declared.entry.LogEntry.{LogEntry}
use Rattle.values.specs.declared.entry.Point.{Point}
use Rattle.replica_model.specs.Path.{Path, Link, same_hash}
use Rattle.replica_model.specs.Graft.{Difference, differing, differs_at, points_from}
use Rattle.replica_log.specs.declared.chained.Chained.{Chained}
use Rattle.replica_log.specs.declared.graft.Graft.{Graft}
use Rattle.replica_log.specs.declared.graft.Graft.TheVariants.{Grafted, Apart, Conflict}
use Rattle.replica_log.specs.Window.{Window, IsOrdered, base_index, last_index, upto, is_kept, hash_at}
use Rattle.replica_log.specs.Chain.{chained_at}
use Rattle.replica_log.specs.Grafting.{first_differing, difference, kept_index, grafted, point_at, offered_end, placed, judged, Joins, IsRefusal, KeepsPromised}
use Rattle.replica_log.proofs.Chains.{at_index}
use Rattle.replica_log.proofs.Splicing.{length-upto}

same_hash_is : (a b : Hash) → same_hash a b ≡ true → a ≡ b
same_hash_is a b h = let bytes : a.0 ≡ b.0 = (bytes_eq-Decides a.0 b.0).0 h in ap (λ bs. record { 0 = bs }) bytes

-- a point that does not differ is passed, and the first that does is found
passes : (o : Option Hash) (p : Point) (later : Option Difference) → differing o p None ≡ None → differing o p later ≡ later
passes None p later is = refl
passes (Some k) p later is = elim (cases_Bool (same_hash k p.hash)) [
  | inl same ↦ cond-true (same_hash k p.hash) later (Some (p.index, k, p.hash)) same
  | inr other ↦ absurd (let found : Some (p.index, k, p.hash) ≡ None = sym (cond-false (same_hash k p.hash) None (Some (p.index, k, p.hash)) other) ∙ is in cc)
]

pub stops : (o : Option Hash) (p : Point) (later : Option Difference) (d : Difference) → differing o p None ≡ Some d → differing o p later ≡ Some d
stops None p later d is = absurd (let no : None ≡ Some d = is in cc)
stops (Some k) p later d is = elim (cases_Bool (same_hash k p.hash)) [
  | inl same ↦ absurd (let no : None ≡ Some d = sym (cond-true (same_hash k p.hash) None (Some (p.index, k, p.hash)) same) ∙ is in cc)
  | inr other ↦ cond-false (same_hash k p.hash) later (Some (p.index, k, p.hash)) other ∙ (sym (cond-false (same_hash k p.hash) None (Some (p.index, k, p.hash)) other) ∙ is)
]

no_other : (k : Hash) (p : Point) → differing (Some k) p None ≡ None → k ≡ p.hash
no_other k p is = elim (cases_Bool (same_hash k p.hash)) [
  | inl same ↦ same_hash_is k p.hash same
  | inr other ↦ absurd (let found : Some (p.index, k, p.hash) ≡ None = sym (cond-false (same_hash k p.hash) None (Some (p.index, k, p.hash)) other) ∙ is in cc)
]

-- a difference is at this point, where a hash is kept, or later
here_or_later : (o : Option Hash) (p : Point) (later : Option Difference) (d : Difference) → differing o p later ≡ Some d
    → ((k : Hash) × (o ≡ Some k) × (d.0 ≡ p.index)) ⊎ (later ≡ Some d)
here_or_later None p later d is = inr is
here_or_later (Some k) p later d is = elim (cases_Bool (same_hash k p.hash)) [
  | inl same ↦ inr (sym (cond-true (same_hash k p.hash) later (Some (p.index, k, p.hash)) same) ∙ is)
  | inr other ↦
      let found : Some (p.index, k, p.hash) ≡ Some d = sym (cond-false (same_hash k p.hash) later (Some (p.index, k, p.hash)) other) ∙ is in
      let at : (p.index, k, p.hash) ≡ d = cc in
      inl (k, refl, sym (ap (λ (e : Difference). e.0) at))
]

got_within : {A : Type 0} (xs : List A) (n : ℕ) (x : A) → slice_get xs n ≡ Some x → n < length xs
got_within [] n x is = absurd (let no : None ≡ Some x = is in cc)
got_within (y ∷ xs) zero x is = omega arith
got_within (y ∷ xs) (suc n) x is = omega (arith, got_within xs n x is)

module _ (link : Link) (w : Window) where
  hash_kept : (i : ℕ) → base_index w ≤ i → i ≤ last_index w → hash_at link w i ≡ Some (point_at link w i).hash
  hash_kept i low high =
      cond-true (is_kept w i) (Some (point_at link w i).hash) None
      (and_from (nat_le (base_index w) i) (nat_le i (last_index w)) (le-leb (base_index w) i low) (le-leb i (last_index w) high))

  hash_above : (i : ℕ) → last_index w < i → hash_at link w i ≡ None
  hash_above i high =
      cond-false (is_kept w i) (Some (point_at link w i).hash) None
      (and_right (nat_le (base_index w) i) (nat_le i (last_index w)) (lt-leb i (last_index w) high))

  hash_below : (i : ℕ) → i < base_index w → hash_at link w i ≡ None
  hash_below i low =
      cond-false (is_kept w i) (Some (point_at link w i).hash) None
      (and_left (nat_le (base_index w) i) (nat_le i (last_index w)) (lt-leb (base_index w) i low))

  hash_some : (i : ℕ) (h : Hash) → hash_at link w i ≡ Some h → (base_index w ≤ i) × (i ≤ last_index w)
  hash_some i h is = elim (cases_Bool (is_kept w i)) [
    | inl held ↦
        let parts = and_parts (nat_le (base_index w) i) (nat_le i (last_index w)) held in
        (leb-true (base_index w) i parts.0, leb-true i (last_index w) parts.1)
    | inr lost ↦ absurd (let no : None ≡ Some h = sym (cond-false (is_kept w i) (Some (point_at link w i).hash) None lost) ∙ is in cc)
  ]

  abbrev from : ℕ → Hash → Path → Option Difference
  from k h p = first_differing (hash_at link w) (points_from link k h p)

  abbrev at : ℕ → Hash → Point
  at k h = record { index = k; hash = h }

  -- nothing differs above the last index, nor below the base
  above : (k : ℕ) (h : Hash) (p : Path) → last_index w < k → from k h p ≡ None
  above k h [] high = ap (λ o. differing o (at k h) None) (hash_above k high)
  above k h (e ∷ p) high =
      ap (λ o. differing o (at k h) (from (k + 1) (link h (k + 1) e) p)) (hash_above k high) ∙ above (k + 1) (link h (k + 1) e) p (omega arith)

  below : (k : ℕ) (h : Hash) (p : Path) → k + length p < base_index w → from k h p ≡ None
  below k h [] low = ap (λ o. differing o (at k h) None) (hash_below k (omega arith))
  below k h (e ∷ p) low =
      ap (λ o. differing o (at k h) (from (k + 1) (link h (k + 1) e) p)) (hash_below k (omega arith)) ∙ below (k + 1) (link h (k + 1) e) p (omega arith)

  -- from the last index on the first point alone counts
  pub at_last : (k : ℕ) (h : Hash) (p : Path) → last_index w ≤ k → from k h p ≡ differing (hash_at link w k) (at k h) None
  at_last k h [] high = refl
  at_last k h (e ∷ p) high = ap (differing (hash_at link w k) (at k h)) (above (k + 1) (link h (k + 1) e) p (omega arith))

  -- a point that does not differ is passed
  pub turn : (k : ℕ) (h : Hash) (e : LogEntry) (p : Path) → differing (hash_at link w k) (at k h) None ≡ None → from k h (e ∷ p) ≡ from (k + 1) (link h (k + 1) e) p
  turn k h e p none = passes (hash_at link w k) (at k h) (from (k + 1) (link h (k + 1) e) p) none

  -- the one that differs is found
  pub stop : (k : ℕ) (h : Hash) (p : Path) (d : Difference) → differing (hash_at link w k) (at k h) None ≡ Some d → from k h p ≡ Some d
  stop k h [] d is = is
  stop k h (e ∷ p) d is = stops (hash_at link w k) (at k h) (from (k + 1) (link h (k + 1) e) p) d is

  -- where a difference may lie
  pub record IsWithin (k n : ℕ) (d : Difference) : Type 0 where
    pub low : k ≤ d.0
    pub high : d.0 ≤ k + n
    pub base : base_index w ≤ d.0
    pub last : d.0 ≤ last_index w

  here : (k : ℕ) (h : Hash) (n : ℕ) (d : Difference) (kept : Hash) → hash_at link w k ≡ Some kept → d.0 ≡ k → IsWithin k n d
  here k h n d kept told same =
      let held = hash_some k kept told in
      record { low = omega arith; high = omega arith; base = omega (arith, held.0); last = omega (arith, held.1) }

  pub within : (k : ℕ) (h : Hash) (p : Path) (d : Difference) → from k h p ≡ Some d → IsWithin k (length p) d
  within k h [] d is = elim (here_or_later (hash_at link w k) (at k h) None d is) [
    | inl found ↦ here k h 0 d found.0 found.1 found.2
    | inr found ↦ absurd (let no : None ≡ Some d = found in cc)
  ]
  within k h (e ∷ p) d is = elim (here_or_later (hash_at link w k) (at k h) (from (k + 1) (link h (k + 1) e) p) d is) [
    | inl found ↦ here k h (length (e ∷ p)) d found.0 found.1 found.2
    | inr found ↦
        let there = within (k + 1) (link h (k + 1) e) p d found in
        record { low = omega (arith, there.low); high = omega (arith, there.high); base = there.base; last = there.last }
  ]

  -- the hash after a point that does not differ, of an entry that is kept there
  pub known_hash : (before : Point) (c : Chained) → differing (hash_at link w before.index) before None ≡ None → chained_at link w (before.index + 1) ≡ Some c
      → c.hash ≡ link before.hash (before.index + 1) c.entry
  known_hash before c none is =
      let found = at_index link w (before.index + 1) c is in
      let n : ℕ = before.index + 1 - base_index w - 1 in
      let test = lt-ltb (base_index w) (before.index + 1) found.above in
      let got : slice_get w.entries n ≡ Some c.entry = sym (cond-true (nat_lt (base_index w) (before.index + 1)) (slice_get w.entries n) None test) ∙ found.entry in
      let high : before.index + 1 ≤ last_index w = omega (arith, got_within w.entries n c.entry got, found.above) in
      let same : before.index + 1 - 1 ≡ before.index = omega arith in
      let kept : hash_at link w before.index ≡ Some (point_at link w before.index).hash = hash_kept before.index (omega (arith, found.above)) (omega arith) in
      let hash : (point_at link w before.index).hash ≡ before.hash = no_other (point_at link w before.index).hash before (sym (ap (λ o. differing o before None) kept) ∙ none) in
      found.linked ∙ (ap (λ i. link (point_at link w i).hash (before.index + 1) c.entry) same ∙ ap (λ h. link h (before.index + 1) c.entry) hash)

  module _ (prev : Point) (entries : Path) where
    abbrev end : ℕ
    end = offered_end prev entries

    abbrev on : Option Difference → Graft
    on d = Grafted (point_at link (grafted w prev entries d) end) d

    -- the four ways in which a difference, or none, is judged
    too_high : (d : Option Difference) → last_index w < prev.index → placed link w prev entries d ≡ Apart (last_index w)
    too_high d high = cond-true (nat_lt (last_index w) prev.index) (Apart (last_index w)) (cond (differs_at d prev.index || nat_lt end (base_index w)) (Apart w.promised) (on d)) (lt-ltb (last_index w) prev.index high)

    beside : (d : Option Difference) → prev.index ≤ last_index w → (differs_at d prev.index || nat_lt end (base_index w)) ≡ true → placed link w prev entries d ≡ Apart w.promised
    beside d low other =
        cond-false (nat_lt (last_index w) prev.index) (Apart (last_index w)) (cond (differs_at d prev.index || nat_lt end (base_index w)) (Apart w.promised) (on d)) (le-ltb (last_index w) prev.index low)
        ∙ cond-true (differs_at d prev.index || nat_lt end (base_index w)) (Apart w.promised) (on d) other

    joined : (d : Option Difference) → prev.index ≤ last_index w → (differs_at d prev.index || nat_lt end (base_index w)) ≡ false → placed link w prev entries d ≡ on d
    joined d low same =
        cond-false (nat_lt (last_index w) prev.index) (Apart (last_index w)) (cond (differs_at d prev.index || nat_lt end (base_index w)) (Apart w.promised) (on d)) (le-ltb (last_index w) prev.index low)
        ∙ cond-false (differs_at d prev.index || nat_lt end (base_index w)) (Apart w.promised) (on d) same

    unpromised : (d : Difference) → w.promised < d.0 → judged link w prev entries (Some d) ≡ placed link w prev entries (Some d)
    unpromised d above = cond-false (nat_le d.0 w.promised) (Conflict d.0 d.1 d.2) (placed link w prev entries (Some d)) (lt-leb d.0 w.promised above)

    pub apart_above : last_index w < prev.index → IsRefusal link w prev entries (Apart (last_index w))
    apart_above high = record { answer = ap (judged link w prev entries) (above prev.index prev.hash entries high) ∙ too_high None high; same = refl; reaches = tt }

    pub apart_below : prev.index ≤ last_index w → end < base_index w → IsRefusal link w prev entries (Apart w.promised)
    apart_below low high = record {
      answer = ap (judged link w prev entries) (below prev.index prev.hash entries high) ∙ beside None low (lt-ltb end (base_index w) high);
      same = refl;
      reaches = tt;
    }

    pub conflicting : (d : Difference) → difference link w prev entries ≡ Some d → d.0 ≤ w.promised → IsRefusal link w prev entries (Conflict d.0 d.1 d.2)
    conflicting d is low = record {
      answer = ap (judged link w prev entries) is ∙ cond-true (nat_le d.0 w.promised) (Conflict d.0 d.1 d.2) (placed link w prev entries (Some d)) (le-leb d.0 w.promised low);
      same = refl;
      reaches = tt;
    }

    pub apart_at : (d : Difference) → difference link w prev entries ≡ Some d → w.promised < d.0 → d.0 ≡ prev.index → IsRefusal link w prev entries (Apart w.promised)
    apart_at d is above here = record {
      answer =
          ap (judged link w prev entries) is
          ∙ (unpromised d above
          ∙ beside (Some d) (let bound = within prev.index prev.hash entries d is in omega (arith, bound.last)) (or_left (d.0 == prev.index) (nat_lt end (base_index w)) (eq-eqb d.0 prev.index here)));
      same = refl;
      reaches = tt;
    }

    pub joins_end : IsOrdered w → difference link w prev entries ≡ None → prev.index ≤ last_index w → base_index w ≤ end → Joins link w prev entries None
    joins_end order is low high = record {
      answer = ap (judged link w prev entries) is ∙ joined None low (le-ltb end (base_index w) high);
      promised = order.last;
      follows = low;
      last = omega arith;
      base = high;
    }

    pub joins_at : (d : Difference) → difference link w prev entries ≡ Some d → w.promised < d.0 → (d.0 ≡ prev.index → ⊥) → base_index w ≤ end → Joins link w prev entries (Some d)
    joins_at d is above other high =
        let bound = within prev.index prev.hash entries d is in
        let low : prev.index ≤ last_index w = omega (arith, bound.low, bound.last) in
        record {
          answer =
              ap (judged link w prev entries) is
              ∙ (unpromised d above
              ∙ joined (Some d) low (or_from (d.0 == prev.index) (nat_lt end (base_index w)) (ne_eqb d.0 prev.index other) (le-ltb end (base_index w) high)));
          promised = omega arith;
          follows = omega (arith, bound.low);
          last = omega (arith, bound.last);
          base = high;
        }

    -- what is grafted reaches to the end of what is offered
    pub reaches : (d : Option Difference) → Joins link w prev entries d → end ≤ last_index (grafted w prev entries d)
    reaches d j =
        let k : ℕ = kept_index w d in
        omega (arith, j.follows, j.last, j.base, length-append (upto w k) (drop (k - prev.index) entries), length-upto w k j.last, length-drop (k - prev.index) entries)

    -- what is promised stays
    pub keeps_grafted : (d : Option Difference) → IsOrdered w → Joins link w prev entries d → KeepsPromised w (grafted w prev entries d)
    keeps_grafted d order j =
        let k : ℕ = kept_index w d in
        let n : ℕ = w.promised - base_index w in
        let low : base_index w ≤ w.promised = (let c = order.committed in let q = order.promised in omega arith) in
        record {
          base = refl;
          promised = refl;
          committed = refl;
          entries =
              take-append-le n (upto w k) (drop (k - prev.index) entries) (omega (arith, j.promised, length-upto w k j.last))
              ∙ take-take n (k - base_index w) w.entries (omega (arith, j.promised));
        }

-- a window that did not change keeps what is promised
pub keeps_same : (w v : Window) → v ≡ w → KeepsPromised w v
keeps_same w v same = record {
  base = ap (λ (u : Window). u.base) same;
  promised = ap (λ (u : Window). u.promised) same;
  committed = ap (λ (u : Window). u.committed) same;
  entries = ap (λ (u : Window). upto u w.promised) same;
}

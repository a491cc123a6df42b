-- What comes of offered entries is what the model says.
use Rattle.std.proofs.Common.{◌≡◌, ℕ, ◌+◌, ◌-◌, ◌<◌, ◌≤◌, Bool, false, ◌||◌, cond, Option, Some, None, List, [], ◌∷◌, ◌++◌, length, take, drop, nat_lt, nat_le, refl, sym, ap, ◌∙◌, subst, length-append, length-drop, arith}
use Rattle.std.proofs.lemmas.Bool.{cond-true, cond-false, cond_both, leb-true, leb-false, ltb-false, eqb-false, or_parts}
use Rattle.std.proofs.lemmas.List.{take-append-le, take-take, drop-append-le, drop-take, length-take-le}
use Rattle.values.specs.declared.entry.Hash.{Hash}
use Rattle.values.specs.declared.entry.Point.{Point}
use Rattle.replica_model.specs.Path.{Path, Link}
use Rattle.replica_model.specs.Replica.{Replica}
use Rattle.replica_model.specs.Graft.{Offer, Difference, differing, differs_at, points_of, points_from, end_of, kept_length, added, first_difference, refusal_hint}
use Rattle.replica_log.specs.declared.graft.Graft.{Graft}
use Rattle.replica_log.specs.declared.graft.Graft.TheVariants.{Grafted, Apart, Conflict}
use Rattle.replica_log.specs.Window.{Window, IsOrdered, summary_of, base_index, last_index, upto, hash_at}
use Rattle.replica_log.specs.Grafting.{first_differing, difference, kept_index, grafted, point_at, offered_end, placed, judged, graft_of, after_graft}
use Rattle.replica_log.specs.Models.{StandsFor, SameIndices, with_graft, IsNoConflict, IsRefused, AnswersOffer, Answers}
use Rattle.replica_log.proofs.Standing.{indices_same, hash_at_model, hash_model}
use Rattle.replica_log.proofs.Grafts.{within}

module _ (link : Link) (w : Window) (s : Replica) (h : StandsFor link w s) where
  same_differences : (points : List Point) → first_difference link s points ≡ first_differing (hash_at link w) points
  same_differences [] = refl
  same_differences (p ∷ points) =
      ap (λ o. differing o p (first_difference link s points)) (sym (hash_at_model link w s h p.index))
      ∙ ap (differing (hash_at link w p.index) p) (same_differences points)

  module _ (o : Offer) (order : IsOrdered w) where
    found : first_difference link s (points_of link o) ≡ difference link w o.prev o.entries
    found = same_differences (points_from link o.prev.index o.prev.hash o.entries)

    same : SameIndices w s
    same = indices_same link w s h

    kept_same : (d : Option Difference) → kept_length s.path d ≡ kept_index w d
    kept_same None = sym same.last
    kept_same (Some d) = refl

    -- what is grafted onto the window is grafted onto the path
    grafted_model : (d : Option Difference) → base_index w ≤ kept_index w d → kept_index w d ≤ last_index w → StandsFor link (grafted w o.prev o.entries d) (with_graft s d o)
    grafted_model d low high =
        let k : ℕ = kept_length s.path d in
        let a : Path = added k o in
        let is : k ≡ kept_index w d = kept_same d in
        let from_base : s.base ≤ k = omega (arith, same.base) in
        let to_last : k ≤ length s.path = omega (arith, same.last) in
        let count : length (take k s.path) ≡ k = length-take-le k s.path to_last in
        let far : k ≡ s.base + (k - s.base) = omega arith in
        record {
          within = omega (arith, length-append (take k s.path) a);
          summary = h.summary ∙ ap (summary_of link s.first) (sym (take-append-le s.base (take k s.path) a (omega arith) ∙ take-take s.base k s.path from_base));
          entries =
              ap (λ n. upto w n ++ drop (n - o.prev.index) o.entries) (sym is)
              ∙ (ap (λ n. take (k - n) w.entries ++ a) same.base
              ∙ (ap (λ es. take (k - s.base) es ++ a) h.entries
              ∙ (ap (λ es. es ++ a) (sym (drop-take s.base (k - s.base) s.path) ∙ ap (λ n. drop s.base (take n s.path)) (sym far))
              ∙ sym (drop-append-le s.base (take k s.path) a (omega arith)))));
          is_promised = h.is_promised;
          is_committed = h.is_committed;
        }

    abbrev Said : Graft → Type 0
    Said g = AnswersOffer link s o (after_graft w o.prev o.entries g) g

    refused : (d : Option Difference) (hint : ℕ) → difference link w o.prev o.entries ≡ d → IsNoConflict s d → refusal_hint s d o ≡ Some hint → IsRefused link s o hint
    refused d hint is free told = record {
      no_conflict = subst (IsNoConflict s) (sym (found ∙ is)) free;
      refused = ap (λ e. refusal_hint s e o) (found ∙ is) ∙ told;
    }

    -- the last index that stays where there is no conflict
    kept_bounds : (d : Option Difference) → difference link w o.prev o.entries ≡ d → IsNoConflict s d → o.prev.index ≤ last_index w → differs_at d o.prev.index ≡ false
        → (base_index w ≤ kept_index w d) × (kept_index w d ≤ last_index w) × (o.prev.index ≤ kept_index w d)
    kept_bounds None is free low apart = (omega arith, omega arith, low)
    kept_bounds (Some d) is free low apart =
        let bound = within link w o.prev.index o.prev.hash o.entries d is in
        let other : d.0 ≡ o.prev.index → ⊥ = eqb-false d.0 o.prev.index apart in
        let first : o.prev.index < d.0 = omega (arith, bound.low, other) in
        let c1 = order.committed in
        let c2 = order.promised in
        let p = same.promised in
        (omega (arith, free), omega (arith, bound.last), omega arith)

    by_place : (d : Option Difference) → difference link w o.prev o.entries ≡ d → IsNoConflict s d → Said (placed link w o.prev o.entries d)
    by_place d is free =
        let end : ℕ = offered_end o.prev o.entries in
        let on : Graft = Grafted (point_at link (grafted w o.prev o.entries d) end) d in
        let other : Bool = differs_at d o.prev.index || nat_lt end (base_index w) in
        let other_s : Bool = differs_at d o.prev.index || nat_lt (end_of o) s.base in
        let same_other : other ≡ other_s = ap (λ n. differs_at d o.prev.index || nat_lt end n) same.base in
        let too_high : nat_lt (last_index w) o.prev.index ≡ nat_lt (length s.path) o.prev.index = ap (λ n. nat_lt n o.prev.index) same.last in
        cond_both (nat_lt (last_index w) o.prev.index) (Apart (last_index w)) (cond other (Apart w.promised) on) Said
        (λ high. refused d (last_index w) is free
        (cond-true (nat_lt (length s.path) o.prev.index) (Some (length s.path)) (cond other_s (Some s.promised) None) (sym too_high ∙ high) ∙ ap Some (sym same.last)))
        (λ fits. cond_both other (Apart w.promised) on Said
        (λ beside. refused d w.promised is free
        (cond-false (nat_lt (length s.path) o.prev.index) (Some (length s.path)) (cond other_s (Some s.promised) None) (sym too_high ∙ fits)
        ∙ (cond-true other_s (Some s.promised) None (sym same_other ∙ beside) ∙ ap Some (sym same.promised))))
        (λ joins.
        let parts = or_parts (differs_at d o.prev.index) (nat_lt end (base_index w)) joins in
        let low : o.prev.index ≤ last_index w = ltb-false (last_index w) o.prev.index fits in
        let reach : base_index w ≤ end = ltb-false end (base_index w) parts.1 in
        let bounds = kept_bounds d is free low parts.0 in
        let after = grafted_model d bounds.0 bounds.1 in
        let at : Hash → Point = λ k. record { index = end; hash = k } in
        record {
          found = found ∙ is;
          no_conflict = free;
          taken =
              cond-false (nat_lt (length s.path) o.prev.index) (Some (length s.path)) (cond other_s (Some s.promised) None) (sym too_high ∙ fits)
              ∙ cond-false other_s (Some s.promised) None (sym same_other ∙ joins);
          ends = ap at (hash_model link (grafted w o.prev o.entries d) (with_graft s d o) after end (omega (arith, same.base)));
          within =
              omega (
                arith,
                bounds.2,
                bounds.1,
                kept_same d,
                same.last,
                length-append (take (kept_length s.path d) s.path) (added (kept_length s.path d) o),
                length-take-le (kept_length s.path d) s.path (omega (arith, bounds.1, kept_same d, same.last)),
                length-drop (kept_length s.path d - o.prev.index) o.entries,
              );
          after = after;
        }))

    by_difference : (d : Option Difference) → difference link w o.prev o.entries ≡ d → Said (judged link w o.prev o.entries d)
    by_difference None is = by_place None is tt
    by_difference (Some d) is =
        cond_both (nat_le d.0 w.promised) (Conflict d.0 d.1 d.2) (placed link w o.prev o.entries (Some d)) Said
        (λ low. record { first = found ∙ is; promised = (let p = same.promised in omega (arith, leb-true d.0 w.promised low)) })
        (λ high. by_place (Some d) is (let p = same.promised in omega (arith, leb-false d.0 w.promised high)))

    graft_model : Said (graft_of link w o.prev o.entries)
    graft_model = by_difference (difference link w o.prev o.entries) refl

-- an answer and a window after it that are as they should be are the model's
pub answers_model : (link : Link) (w : Window) (prev : Point) (entries : Path) (g : Graft) (v : Window) → IsOrdered w
    → graft_of link w prev entries ≡ g → v ≡ after_graft w prev entries g → Answers link w prev entries v g
answers_model link w prev entries g v order is after s h o at given =
    let Said : Point → Path → Type 0 = λ p es. AnswersOffer link s o (after_graft w p es (graft_of link w p es)) (graft_of link w p es) in
    let first : Said prev o.entries = subst (λ p. Said p o.entries) at (graft_model link w s h o order) in
    let said : Said prev entries = subst (Said prev) given first in
    subst (λ u. AnswersOffer link s o u g) (sym after) (subst (λ x. AnswersOffer link s o (after_graft w prev entries x) x) is said)

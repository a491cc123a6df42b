-- How far a log reaches after an append, and where it is cut.
use Rattle.std.proofs.Common.{◌≡◌, ℕ, ◌+◌, ◌-◌, ◌<◌, ◌≤◌, Bool, true, false, cond, ◌&&◌, ◌||◌, nat_lt, nat_le, max, inl, inr, Option, Some, None, List, [], ◌∷◌, length, take, drop, refl, sym, ap, subst, ◌∙◌, arith, length-drop, length-append}
use Rattle.std.proofs.lemmas.Bool.{cases_Bool, cond_both, cond-true, cond-false, and_parts, leb-true, leb-false}
use Rattle.std.proofs.lemmas.List.{length-take}
use Rattle.values.specs.declared.entry.Hash.{Hash}
use Rattle.values.specs.declared.entry.Point.{Point}
use Rattle.replica_model.specs.Path.{Path, Link, chain, same_hash}
use Rattle.replica_model.specs.Linked.{sha_link}
use Rattle.replica_model.specs.Replica as model
use Rattle.replica_model.specs.Graft.{Difference, differing, differs_at, first_difference, points_from, hash_at as model_hash_at}
use Rattle.replica_log.specs.declared.graft.Graft.{Graft}
use Rattle.replica_log.specs.declared.graft.Graft.TheVariants.{Grafted, Apart, Conflict}
use Rattle.replica_log.specs.Window.{Window, IsOrdered, base_index, last_index, upto, hash_at, summary_at}
use Rattle.replica_log.specs.Grafting.{first_differing, difference, kept_index, grafted, point_at, offered_end, placed, judged}
use Rattle.append_rules.specs.Taken.{after_by, after_offer, taken_by, taken_of, cut_of}
use Rattle.replica_core.specs.Replacing.{kept_upto}

some-kept : {A : Type 0} (b : Bool) (x y : A) → cond b (Some x) None ≡ Some y → b ≡ true
some-kept true x y e = refl
some-kept false x y e = cc

-- where hashes are kept up to n, the first difference is at most there
module _ (kept : ℕ → Option Hash) (n : ℕ) (within : (i : ℕ) (h : Hash) → kept i ≡ Some h → i ≤ n) where
  at_point : (p : Point) (later : Option Difference) (d : Difference) → (later ≡ Some d → d.0 ≤ n) → (o : Option Hash) → kept p.index ≡ o
      → differing o p later ≡ Some d → d.0 ≤ n
  at_point p later d rest None is e = rest e
  at_point p later d rest (Some h) is e = elim (cases_Bool (same_hash h p.hash)) [
    | inl same ↦ rest (sym (cond-true (same_hash h p.hash) later (Some (p.index, h, p.hash)) same) ∙ e)
    | inr other ↦
        let found : Some (p.index, h, p.hash) ≡ Some d = sym (cond-false (same_hash h p.hash) later (Some (p.index, h, p.hash)) other) ∙ e in
        let same : (p.index, h, p.hash) ≡ d = cc in
        subst (λ (x : Difference). x.0 ≤ n) same (within p.index h is)
  ]

  pub differs-within : (ps : List Point) (d : Difference) → first_differing kept ps ≡ Some d → d.0 ≤ n
  differs-within [] d e = cc
  differs-within (p ∷ ps) d e = at_point p (first_differing kept ps) d (differs-within ps d) (kept p.index) refl e

first-same : (link : Link) (s : model.Replica) (ps : List Point) → first_difference link s ps ≡ first_differing (model_hash_at link s) ps
first-same link s [] = refl
first-same link s (p ∷ ps) = ap (differing (model_hash_at link s p.index) p) (first-same link s ps)

-- the model's first difference is within its path
pub difference-within : (s : model.Replica) (ps : List Point) (d : Difference) → first_difference sha_link s ps ≡ Some d → d.0 ≤ length s.path
difference-within s ps d e =
    differs-within (model_hash_at sha_link s) (length s.path)
    (λ i h is. leb-true i (length s.path) (and_parts (nat_le s.base i) (nat_le i (length s.path)) (some-kept (nat_le s.base i && nat_le i (length s.path)) (chain sha_link (take i s.path)) h is)).1)
    ps d (sym (first-same sha_link s ps) ∙ e)

-- how a log stands after an append that is cut there
pub record Reached (w w' : Window) (end : ℕ) (cut : Option Difference) : Type 0 where
  pub most : last_index w' ≤ max (last_index w) end
  pub kept : kept_upto (last_index w) cut ≤ last_index w'
  pub above : base_index w ≤ kept_upto (last_index w) cut
  pub base : base_index w' ≡ base_index w
  pub committed : w.committed ≤ w'.committed

module _ (w : Window) (prev : Point) (entries : Path) (o : IsOrdered w) (term promise commit : ℕ) where
  abbrev ReachedBy : Graft → Type 0
  ReachedBy g = Reached w (after_by w prev entries promise commit g) (prev.index + length entries) (cut_of (taken_by w term prev promise g))

  unchanged-apart : (hint : ℕ) → ReachedBy (Apart hint)
  unchanged-apart hint = record { most = omega arith; kept = omega arith; above = omega arith; base = refl; committed = omega arith }

  unchanged-conflict : (i : ℕ) (kept offered : Hash) → ReachedBy (Conflict i kept offered)
  unchanged-conflict i kept offered = record { most = omega arith; kept = omega arith; above = omega arith; base = refl; committed = omega arith }

  grown : (end : Point) (cut : Option Difference) → base_index w ≤ kept_upto (last_index w) cut → kept_upto (last_index w) cut ≤ last_index w → kept_index w cut ≡ kept_upto (last_index w) cut
      → ReachedBy (Grafted end cut)
  grown end cut low high same =
      let k : ℕ = kept_index w cut in
      let a = length-append (upto w k) (drop (k - prev.index) entries) in
      let t = length-take (k - base_index w) w.entries in
      let d = length-drop (k - prev.index) entries in
      record {
        most = omega (arith, a, t, d, low, high, same);
        kept = omega (arith, a, t, d, low, high, same);
        above = low;
        base = refl;
        committed = omega arith;
      }

  placed-reached : (cut : Option Difference) → base_index w ≤ kept_upto (last_index w) cut → kept_upto (last_index w) cut ≤ last_index w → kept_index w cut ≡ kept_upto (last_index w) cut
      → ReachedBy (placed sha_link w prev entries cut)
  placed-reached cut low high same =
      cond_both (nat_lt (last_index w) prev.index) (Apart (last_index w))
      (cond (differs_at cut prev.index || nat_lt (offered_end prev entries) (base_index w)) (Apart w.promised)
      (Grafted (point_at sha_link (grafted w prev entries cut) (offered_end prev entries)) cut)) ReachedBy
      (λ above. unchanged-apart (last_index w))
      (λ not. cond_both (differs_at cut prev.index || nat_lt (offered_end prev entries) (base_index w)) (Apart w.promised)
      (Grafted (point_at sha_link (grafted w prev entries cut) (offered_end prev entries)) cut) ReachedBy
      (λ apart. unchanged-apart w.promised)
      (λ joins. grown (point_at sha_link (grafted w prev entries cut) (offered_end prev entries)) cut low high same))

  judged-reached : (d : Option Difference) → ((x : Difference) → d ≡ Some x → x.0 ≤ last_index w) → ReachedBy (judged sha_link w prev entries d)
  judged-reached None within =
      let a = o.committed in let b = o.promised in let e = o.last in
      placed-reached None (omega (arith, a, b, e)) (omega arith) refl
  judged-reached (Some x) within =
      let a = o.committed in let b = o.promised in
      cond_both (nat_le x.0 w.promised) (Conflict x.0 x.1 x.2) (placed sha_link w prev entries (Some x)) ReachedBy
      (λ so. unchanged-conflict x.0 x.1 x.2)
      (λ not_so.
      let above : w.promised < x.0 = leb-false x.0 w.promised not_so in
      let most = within x refl in
      placed-reached (Some x) (omega (arith, above, a, b)) (omega (arith, most)) refl)

  pub hash-within : (i : ℕ) (h : Hash) → hash_at sha_link w i ≡ Some h → i ≤ last_index w
  hash-within i h is =
      leb-true i (last_index w) (and_parts (nat_le (base_index w) i) (nat_le i (last_index w))
      (some-kept (nat_le (base_index w) i && nat_le i (last_index w)) (summary_at sha_link w i).point.hash h is)).1

  -- so far the log reaches after an append
  pub offer-reached : Reached w (after_offer w prev entries promise commit) (prev.index + length entries) (cut_of (taken_of w term prev entries promise))
  offer-reached =
      judged-reached (difference sha_link w prev entries)
      (λ x is. differs-within (hash_at sha_link w) (last_index w) hash-within (points_from sha_link prev.index prev.hash entries) x is)

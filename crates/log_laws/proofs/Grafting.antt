-- An append heard keeps a replica good.
use Rattle.step_walk.proofs.Outcomes.{IsCalm}
use Rattle.replica_model.specs.Graft.{grafted, accepts, Offer, points_of, points_from, end_of, Difference, first_difference, kept_length, added, refusal_hint, following}
use Rattle.std.proofs.Common.{◌≡◌, ℕ, ◌-◌, ◌≤◌, min, max, inl, inr, Option, None, [], ◌∷◌, ◌++◌, length, take, drop, refl, sym, ap, ◌∙◌, subst, arith}
use Rattle.std.proofs.lemmas.List.{take-take, take_all, length-drop}
use Rattle.values.specs.declared.peer.PeerMsg.TheVariants.{Accepted}
use Rattle.group_quorum.specs.Conf.{Conf}
use Rattle.replica_model.specs.Path.{Path, Link, chain, point}
use Rattle.replica_model.specs.Message.{plain}
use Rattle.replica_model.specs.Replica.{Follower, Replica}
use Rattle.group_model.specs.Log.{IsFrontOf}
use Rattle.agreement.specs.Promised.{EachPlacePromised}
use Rattle.agreement.proofs.Promised.{each_shorter}
use Rattle.agreement.proofs.Committing.{OldPromised}
use Rattle.agreement.proofs.Places.{take_front}
use Rattle.log_laws.proofs.Chain.{NoCollisionIn, max_cases}
use Rattle.log_laws.proofs.Good.{GoodPath, GoodReplica, GoodAppend, GoodParts, GoodCall}
use Rattle.log_laws.proofs.Offered.{Grafts, grafts}

-- what holds of a path after a graft
record Joined (first : Conf) (Ever : ℕ → Path → Type 0) (s : Replica) (path new : Path) : Type 0 where
  mine : take s.promised new ≡ take s.promised s.path
  theirs : (k : ℕ) → k ≤ length path → take k new ≡ take k path
  fits : s.promised ≤ length new
  long : length path ≤ length new
  older : OldPromised first Ever new

shorter_same : (k n : ℕ) (p q : Path) → k ≤ n → take n p ≡ take n q → take k p ≡ take k q
shorter_same k n p q le same = sym (take-take k n p le) ∙ (ap (take k) same ∙ take-take k n q le)

module _ (link : Link) (first : Conf) (Ever : ℕ → Path → Type 0) (Held : Path → Type 0) (closed : (p w : Path) → IsFrontOf p w → Held w → Held p) (none : NoCollisionIn link Held) (shorter : (v : ℕ) (p w : Path) → IsFrontOf p w → Ever v w → Ever v p) (v : ℕ) (s : Replica) (g : GoodReplica first Ever Held v s) (theirs : s.first ≡ first) where
  joined_path : (path new : Path) → OldPromised first Ever path → Grafts s path new → Joined first Ever s path new
  joined_path path new older (inl h) = subst (Joined first Ever s path) (sym h.0) (record {
    mine = refl;
    theirs = λ k fits. sym (take-take k (length path) s.path fits) ∙ ap (take k) h.1;
    fits = g.state.fits;
    long = h.2;
    older = g.state.good.older;
  })
  joined_path path new older (inr h) = subst (Joined first Ever s path) (sym h.0) (record {
    mine = h.1;
    theirs = λ k fits. refl;
    fits = h.2;
    long = omega arith;
    older = older;
  })

  grafted_good : (path new : Path) (from term end promise commit : ℕ) → GoodPath first Ever commit path → Held path → length path ≡ end → Joined first Ever s path new → GoodParts link first Ever Held v (take s.promised s.path) s.me s.base (max s.committed (min commit (min promise end))) (max s.promised (min promise end)) s.first new Follower ((from, plain (Accepted term (point link new end) (min (max s.promised (min promise end)) end))) ∷ [])
  grafted_good path new from term end promise commit offers held long j =
      let upto : ℕ = min commit (min promise end) in
      let promised : ℕ = max s.promised (min promise end) in
      let within = g.state.within in
      let based = g.state.based in
      let fits = j.fits in
      let long' = j.long in
      let mine_safe : EachPlacePromised first Ever (take s.committed new) =
      subst (EachPlacePromised first Ever) (shorter_same s.committed s.promised s.path new within (sym j.mine)) g.state.good.safe in
      let theirs_safe : EachPlacePromised first Ever (take upto new) =
      each_shorter first Ever (take upto new) (take commit path)
      (subst (λ y. IsFrontOf y (take commit path)) (sym (j.theirs upto (omega arith))) (take_front upto commit path (omega arith))) offers.safe in
      record {
        mine = g.mine;
        keeps = subst (λ y. IsFrontOf y (take promised new)) j.mine (take_front s.promised promised new (omega arith));
        after = λ now own. (
          record {
            within = omega arith;
            based = omega arith;
            fits = omega arith;
            good = record {
              safe = elim (max_cases s.committed upto) [
                | inl old ↦ subst (λ k. EachPlacePromised first Ever (take k new)) (sym old) mine_safe
                | inr high ↦ subst (λ k. EachPlacePromised first Ever (take k new)) (sym high) theirs_safe
              ];
              older = j.older;
            };
            acts = theirs;
          },
          (
            record {
              path = path;
              held = held;
              end_is = long;
              hash_is = ap (chain link) (sym (j.theirs end (omega arith) ∙ take_all end path (omega arith)));
              promise =
                  let k : ℕ = min promised end in
                  subst (Ever v) (j.theirs k (omega arith)) (shorter v (take k new) (take promised new) (take_front k promised new (omega arith)) own);
            },
            tt,
          ),
        );
      }

  -- an offer of a part of a path, without a conflict
  pub graft_good : (o : Offer) → GoodAppend link first Ever Held o.prev o.entries o.commit → (d : Option Difference) → first_difference link s (points_of link o) ≡ d → IsCalm s d → refusal_hint (following s o.from) d o ≡ None → GoodCall link first Ever Held v (take s.promised s.path) (accepts link (grafted (following s o.from) d o) o)
  graft_good o a d is calm hinted =
      let path : Path = a.path in
      let entries = a.entries_are in
      let within = g.state.within in
      let based = g.state.based in
      let total : length path ≡ end_of o = omega (arith, length-drop o.prev.index path, ap length entries) in
      let new : Path = take (kept_length s.path d) s.path ++ added (kept_length s.path d) o in
      let as_offered : take (kept_length s.path d) s.path ++ drop (kept_length s.path d - o.prev.index) (drop o.prev.index path) ≡ new =
      ap (λ es. take (kept_length s.path d) s.path ++ drop (kept_length s.path d - o.prev.index) es) (sym entries) in
      grafted_good path new o.from s.term (end_of o) o.promise o.commit a.good a.held total
      (joined_path path new a.good.older
      (subst (Grafts s path) as_offered
      (grafts link s Held none closed g.held path a.held o.from o.promise o.commit o.prev d a.prev_fits a.hash_is (omega arith) g.state.fits
      (ap (λ es. first_difference link s (points_from link o.prev.index o.prev.hash es)) (sym entries) ∙ is) calm
      (ap (λ es. refusal_hint s d (record o { entries = es })) (sym entries) ∙ hinted))))

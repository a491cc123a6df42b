-- The end of a call keeps a replica good: its appends, a leader that stops, and the base.
use Rattle.std.proofs.Common.{true, ◌≡◌, ℕ, ◌+◌, ◌-◌, ◌<◌, ◌≤◌, not, nat_lt, Option, List, [], ◌∷◌, ◌++◌, length, take, drop, sym, ap, subst, arith}
use Rattle.replica_model.specs.Replica.{Leading, Follower, Leader}
use Rattle.step_walk.proofs.Outcomes as may
use Rattle.std.specs.List.{AllByRecursion}
use Rattle.std.proofs.lemmas.Bool.{and_parts, ltb-true}
use Rattle.std.proofs.lemmas.List.{take-take, drop-take, length-take, length-drop}
use Rattle.values.specs.declared.entry.Hash.{Hash}
use Rattle.group_quorum.specs.Conf.{Conf}
use Rattle.replica_model.specs.declared.Progress.{Progress}
use Rattle.values.specs.declared.limits.TheConstants.{MAX_ENTRIES}
use Rattle.replica_model.specs.Path.{Path, Link, chain, point}
use Rattle.replica_model.specs.Keyed.{has}
use Rattle.replica_model.specs.Peers.{progress_of}
use Rattle.replica_model.specs.Call.{Call}
use Rattle.replica_model.specs.Send.{entries_from, can_append, sent_on, appended_to, base_moved, ended}
use Rattle.group_model.specs.Log.{IsFrontOf}
use Rattle.log_laws.proofs.Good.{GoodPath, GoodProgress, GoodRole, GoodAppend, GoodCall}
use Rattle.log_laws.proofs.Leading.{front, path_shorter, put_good}

pub all-append : {A : Type 0} (P : A → Type 0) (xs ys : List A) → AllByRecursion P xs → AllByRecursion P ys → AllByRecursion P (xs ++ ys)
all-append P [] ys h k = k
all-append P (x ∷ xs) ys h k = (h.0, all-append P xs ys h.1 k)

module _ (link : Link) (first : Conf) (Ever : ℕ → Path → Type 0) (Held : Path → Type 0) (closed : (p w : Path) → IsFrontOf p w → Held w → Held p) where
  -- what is sent is a part of the path
  append_of : (path : Path) (next commit : ℕ) → 0 < next → next ≤ length path + 1 → Held path → GoodPath first Ever commit path → GoodAppend link first Ever Held (point link path (next - 1)) (entries_from path next) commit
  append_of path next commit some fits held good =
      let k : ℕ = next - 1 in
      let part : Path = take (k + MAX_ENTRIES) path in
      record {
        path = part;
        held = closed part path (front (k + MAX_ENTRIES) path) held;
        good = path_shorter first Ever Held commit part path (front (k + MAX_ENTRIES) path) good;
        prev_fits = omega (arith, length-take (k + MAX_ENTRIES) path);
        hash_is = ap (chain link) (sym (take-take k (k + MAX_ENTRIES) path (omega arith)));
        entries_are = sym (drop-take k MAX_ENTRIES path);
      }

  sent_on_good : (path : Path) (u : ℕ) (p : Progress) → 0 < p.next → GoodProgress Ever path u p → GoodProgress Ever path u (sent_on path p)
  sent_on_good path u p some g =
      let next_fits = g.next_fits in
      record {
        next_fits = omega (arith, length-take MAX_ENTRIES (drop (p.next - 1) path), length-drop (p.next - 1) path);
        mark_fits = g.mark_fits;
        promised_fits = g.promised_fits;
        promised = g.promised;
      }

  module _ (v : ℕ) (before : Path) where
    -- one append
    append_sent : (c : Call) (l : Leading) (u : ℕ) → c.state.role ≡ Leader l → can_append c.state l u ≡ true → GoodCall link first Ever Held v before c → GoodCall link first Ever Held v before (appended_to link c l u)
    append_sent c l u is b g =
        let some : c.state.base < (progress_of l u).next = ltb-true _ _ (and_parts (not (has l.sendings u)) (nat_lt c.state.base (progress_of l u).next) b).1 in
        record {
          mine = g.mine;
          keeps = g.keeps;
          after = λ held own.
              let old = g.after held own in
              let leading = subst (GoodRole first Ever Held c.state.first c.state.path) is old.0.acts in
              let known = leading.1.progress u in (
                record {
                  within = old.0.within;
                  based = old.0.based;
                  fits = old.0.fits;
                  good = old.0.good;
                  acts = (leading.0, put_good first Ever Held c.state.path l u (sent_on c.state.path (progress_of l u)) (sent_on_good c.state.path u (progress_of l u) (omega arith) known) leading.1);
                },
                all-append (λ m. _) c.sent _ old.1 (append_of c.state.path (progress_of l u).next c.state.committed (omega arith) known.next_fits held old.0.good, tt),
              );
        }

    -- a leader that is no voter any more follows
    stopped : (c : Call) (l : Leading) → c.state.role ≡ Leader l → GoodCall link first Ever Held v before c → GoodCall link first Ever Held v before (record c { state = record (c.state) { role = Follower; known = 0 } })
    stopped c l is g = record {
      mine = g.mine;
      keeps = g.keeps;
      after = λ held own.
          let old = g.after held own in
          (record { within = old.0.within; based = old.0.based; fits = old.0.fits; good = old.0.good; acts = (subst (GoodRole first Ever Held c.state.first c.state.path) is old.0.acts).0 }, old.1);
    }

    moved_base : (c : Call) → GoodCall link first Ever Held v before c → GoodCall link first Ever Held v before (record c { state = base_moved c.state })
    moved_base c g = record {
      mine = g.mine;
      keeps = g.keeps;
      after = λ held own.
          let old = g.after held own in
          let based = old.0.based in
          (record { within = old.0.within; based = omega arith; fits = old.0.fits; good = old.0.good; acts = old.0.acts }, old.1);
    }

    pub ended_good : (c : Call) (halted : Option (ℕ × Hash × Hash)) → GoodCall link first Ever Held v before c → GoodCall link first Ever Held v before (ended link c halted)
    ended_good = may.ended_by (GoodCall link first Ever Held v before) link append_sent (λ c g. g) stopped moved_base

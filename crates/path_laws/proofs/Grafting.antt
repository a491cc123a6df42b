-- An append does not halt a replica and keeps it good; so does a table.
use Rattle.std.proofs.Common.{◌≡◌, ℕ, ◌+◌, ◌<◌, ◌≤◌, Bool, true, cond, ◌&&◌, nat_lt, nat_le, min, max, ◌⊎◌, inl, inr, Some, [], ◌∷◌, ◌++◌, length, take, refl, sym, ◌∙◌, subst, arith}
use Rattle.std.proofs.lemmas.Bool.{and_parts, leb-true, leb-false, ltb-true, le-leb, cond_both, cond-true, cases_lt}
use Rattle.std.proofs.lemmas.List.{take_all, length-take-le}
use Rattle.replica_model.specs.Path.{Path}
use Rattle.group_quorum.specs.Conf.{Conf}
use Rattle.path_machine.specs.Node.{common, Node, Message, AskVote, Vote, Append, Accepted, Part, quiet, is_learner, grafted, append, taken, learns}
use Rattle.group_model.specs.Log.{IsFrontOf}
use Rattle.agreement.proofs.Fronts.{begins, both_fronts}
use Rattle.path_machine.proofs.Fronts.{front_refl, front_nil, front_append, front_of, common_ge}
use Rattle.path_machine.specs.Machine.{Reign, History, Machine, In, moved, sends}
use Rattle.path_machine.proofs.Same.{common_same, common_le, max_cases}
use Rattle.path_machine.proofs.Completeness.{same_reign, complete}
use Rattle.path_machine.proofs.Good.{ledger, Sealed, Known, Safe, OfLeader, GoodMessage, below, Fits, GoodNode, Kept}
use Rattle.path_machine.proofs.Grow.{known_more, sealed_more}
use Rattle.path_laws.proofs.Steps.{From, sends_grows, sent_kept, says_step}
use Rattle.path_laws.proofs.Local.{below_le, known_front, known_below, sealed_below, mine, quiet_kept, says_quiet, same_kept}

-- what holds of a path after a graft
record Joined (s : Node) (path new : Path) : Type 0 where
  mine : take s.promised new ≡ take s.promised s.path
  theirs : (k : ℕ) → k ≤ length path → take k new ≡ take k path
  fits : s.promised ≤ length new
  long : length path ≤ length new

joined : (s : Node) (path : Path) → s.promised ≤ length s.path → (s.promised ≤ common s.path path) ⊎ (length path ≤ common s.path path) → Joined s path (cond (nat_le (length path) (common s.path path)) s.path path)
joined s path fits apart = cond_both (nat_le (length path) (common s.path path)) s.path path (Joined s path)
    (λ b.
    let le : length path ≤ common s.path path = leb-true _ _ b in
    record {
      mine = refl;
      theirs = λ k short. common_same k s.path path (omega arith);
      fits = fits;
      long = omega (arith, common_le s.path path);
    })
    (λ b.
    let lt : common s.path path < length path = leb-false _ _ b in
    let le : s.promised ≤ common s.path path = elim apart [ inl le ↦ le | inr more ↦ absurd (omega arith) ] in
    record {
      mine = sym (common_same s.promised s.path path le);
      theirs = λ k short. refl;
      fits = omega arith;
      long = omega arith;
    })

-- what both hold stays
both_hold : (x p r l : Path) → IsFrontOf x p → IsFrontOf x l → IsFrontOf r l → IsFrontOf x (cond (nat_le (length r) (common p r)) p r)
both_hold x p r l xp xl rl = elim (both_fronts x r l xl rl) [
  | inl pre ↦ cond_both (nat_le (length r) (common p r)) p r (IsFrontOf x) (λ b. xp) (λ b. pre)
  | inr pre ↦
      let le : length r ≤ common p r = common_ge r p r (begins r x p pre xp) (front_refl r) in
      subst (IsFrontOf x) (sym (cond-true (nat_le (length r) (common p r)) p r (le-leb (length r) (common p r) le))) xp
]

module _ (first : Conf) (w : Machine) (v : ℕ) (s : Node) (k : Kept first w) (is : w.nodes v ≡ Some s) where
  abbrev me : GoodNode first w.history v s
  me = mine first w v s k is

  -- the leader of the replica's term holds what the replica promised
  pub promised_held : (r : Reign) → w.history.reigns s.term ≡ Some r → IsFrontOf (take s.promised s.path) (ledger r)
  promised_held r at = elim me.settled [
    | inl none ↦ subst (λ y. IsFrontOf y (ledger r)) (sym none) (front_nil (ledger r))
    | inr o ↦ elim (cases_lt o.term s.term) [
      | inl earlier ↦ begins (take s.promised s.path) o.path (ledger r) o.front (begins o.path r.base (ledger r) (complete first w.history k.history s.term r at o.term o.path o.chosen earlier) (front_append r.base r.own))
      | inr later ↦
          let c = k.history.chosen o.term o.path o.chosen in
          let lt : o.term < below s = o.below in
          let same : o.term ≡ s.term = omega (arith, below_le s) in
          let one : c.reign ≡ r = same_reign (w.history.reigns s.term) c.reign r (subst (λ n. w.history.reigns n ≡ Some c.reign) same c.is) at in
          begins (take s.promised s.path) o.path (ledger r) o.front (subst (λ y. IsFrontOf o.path (ledger y)) one c.front)
    ]
  ]

  -- so nothing promised differs from what it offers
  pub no_conflict : (path : Path) → OfLeader w.history s.term path → (s.promised ≤ common s.path path) ⊎ (length path ≤ common s.path path)
  no_conflict path o =
      let p : Path = take s.promised s.path in
      let long : length p ≡ s.promised = length-take-le s.promised s.path me.fits in
      elim (both_fronts p path (ledger o.0) (promised_held o.0 o.1) o.2) [
        | inl pre ↦ inl (let le = common_ge p s.path path (front_of s.promised s.path) pre in omega (arith, le, long))
        | inr pre ↦ inr (common_ge path s.path path (begins path p s.path pre (front_of s.promised s.path)) (front_refl path))
      ]

  graft_kept : (path : Path) (promise commit : ℕ) → OfLeader w.history s.term path → Sealed w.history (s.term + 1) (take (min promise (length path)) path) → Kept first (moved w v (record { node = grafted s path promise commit; sent = Accepted s.term v path ∷ [] }))
  graft_kept path promise commit o sealed =
      let new : Path = cond (nat_le (length path) (common s.path path)) s.path path in
      let t : Node = grafted s path promise commit in
      let m : Message = Accepted s.term v path in
      let g : History = sends w.history (m ∷ []) in
      let grows = sends_grows first w v (m ∷ []) in
      let j : Joined s path new = joined s path me.fits (no_conflict path o) in
      let from : From first w.history g v s t m = (refl, refl, o) in
      let froms : (x : Message) → In x (m ∷ []) → From first w.history g v s t x = λ x here. elim here [ inl one ↦ subst (From first w.history g v s t) one from | inr never ↦ absurd never ] in
      let theirs : IsFrontOf path new =
      subst (λ y. IsFrontOf y new) (j.theirs (length path) (omega arith) ∙ take_all (length path) path (omega arith)) (front_of (length path) new) in
      let fits : Fits g v t m = λ own. (omega arith, λ x pre safe. begins x path new pre theirs) in
      let known : Known first w.history (s.term + 1) new = cond_both (nat_le (length path) (common s.path path)) s.path path (Known first w.history (s.term + 1))
      (λ b. known_below first w.history (below s) (s.term + 1) s.path (below_le s) me.known)
      (λ b. known_front first w.history (s.term + 1) path (ledger o.0) o.2 (k.history.reigns s.term o.0 o.1).known) in
      let upto : ℕ = min promise (length path) in
      let settled : Sealed w.history (s.term + 1) (take (max s.promised upto) new) = elim (max_cases s.promised upto) [
        | inl old ↦ subst (λ n. Sealed w.history (s.term + 1) (take n new)) (sym old) (subst (Sealed w.history (s.term + 1)) (sym j.mine) (sealed_below first w.history (below s) (s.term + 1) (take s.promised s.path) (below_le s) me.settled))
        | inr now ↦ subst (λ n. Sealed w.history (s.term + 1) (take n new)) (sym now) (subst (Sealed w.history (s.term + 1)) (sym (j.theirs upto (omega arith))) sealed)
      ] in
      sent_kept first w v s (record { node = t; sent = m ∷ [] }) k is froms
      (record {
        alive = me.alive;
        known = known_more first w.history g grows (s.term + 1) (s.term + 1) new (omega arith) known;
        fits = omega (arith, j.fits, j.long);
        within = omega (arith, me.within);
        settled = sealed_more first w.history g grows (s.term + 1) (s.term + 1) (take (max s.promised upto) new) (omega arith) settled;
        leads = λ so. cc;
        stands = λ so. cc;
        nothing = λ so. cc;
        says = says_step first w v s (record { node = t; sent = m ∷ [] }) k is froms
            (record {
              term = omega arith;
              vote = λ same c at. at;
              stands = λ same so. cc;
              path = λ n x p at le front safe pre. both_hold x s.path path (ledger o.0) pre (held n x p at le front safe) o.2;
            })
            (λ x here. elim here [ inl one ↦ subst (Fits g v t) one fits | inr never ↦ absurd never ]);
      })
    where
      held : (n : ℕ) (x p : Path) → In (Accepted n v p) w.history.messages → n ≤ s.term → IsFrontOf x p → Safe w.history n x (s.term + 1) → IsFrontOf x (ledger o.0)
      held n x p at le front safe = elim (cases_lt n s.term) [
        | inl earlier ↦ begins x o.0.base (ledger o.0) (safe s.term o.0 earlier (omega arith) o.1) (front_append o.0.base o.0.own)
        | inr later ↦
            let good : OfLeader w.history n p = k.history.messages (Accepted n v p) at in
            let same : n ≡ s.term = omega arith in
            let one : good.0 ≡ o.0 = same_reign (w.history.reigns s.term) good.0 o.0 (subst (λ i. w.history.reigns i ≡ Some good.0) same good.1) o.1 in
            begins x p (ledger o.0) front (subst (λ y. IsFrontOf p (ledger y)) one good.2)
      ]

  pub append_kept : (path : Path) (promise commit : ℕ) → GoodMessage first w.history (Append s.term path promise commit) → Kept first (moved w v (append v s path promise commit))
  append_kept path promise commit good = cond_both (nat_lt (common s.path path) s.promised && nat_lt (common s.path path) (length path)) (quiet (record s { halted = true })) (record { node = grafted s path promise commit; sent = Accepted s.term v path ∷ [] }) (λ out. Kept first (moved w v out))
      (λ b.
      let parts = and_parts (nat_lt (common s.path path) s.promised) (nat_lt (common s.path path) (length path)) b in
      let one = ltb-true (common s.path path) s.promised parts.0 in
      let two = ltb-true (common s.path path) (length path) parts.1 in
      absurd (elim (no_conflict path good.0) [ inl le ↦ omega arith | inr le ↦ omega arith ]))
      (λ b. graft_kept path promise commit good.0 good.1)

  taken_kept : (t : ℕ) (path : Path) → is_learner s.role ≡ true → GoodMessage first w.history (Part t path) → Kept first (moved w v (quiet (taken s t path)))
  taken_kept t path learner good =
      let none : s.path ≡ [] = me.nothing learner in
      quiet_kept first w v s k is (taken s t path) (record {
        alive = me.alive;
        known = known_below first w.history (t + 1) (max s.term t + 1) path (omega arith) good.0;
        fits = omega arith;
        within = omega arith;
        settled = subst (Sealed w.history (max s.term t + 1)) (sym (take_all (length path) path (omega arith))) (sealed_below first w.history (t + 1) (max s.term t + 1) path (omega arith) good.1);
        leads = λ so. cc;
        stands = λ so. cc;
        nothing = λ so. cc;
        says = says_quiet first w v s k is (taken s t path) (record {
          term = omega arith;
          vote = λ same c at. at;
          stands = λ same so. cc;
          path = λ n x p at le front safe pre. nil_front x (subst (IsFrontOf x) none pre);
        });
      })
    where
      nil_front : (x : Path) → IsFrontOf x [] → IsFrontOf x path
      nil_front [] pre = front_nil path
      nil_front (e ∷ x) pre = absurd (let never : e ∷ (x ++ pre.0) ≡ [] = pre.1 in cc)

  pub learns_kept : (refuses : Bool) (m : Message) → is_learner s.role ≡ true → GoodMessage first w.history m → Kept first (moved w v (learns s refuses m))
  learns_kept refuses (AskVote t u q) learner good = same_kept first w v s k is
  learns_kept refuses (Vote t u c q) learner good = same_kept first w v s k is
  learns_kept refuses (Append t q promise commit) learner good = same_kept first w v s k is
  learns_kept refuses (Accepted t u q) learner good = same_kept first w v s k is
  learns_kept refuses (Part t q) learner good = cond_both refuses (quiet s) (quiet (taken s t q)) (λ out. Kept first (moved w v out)) (λ b. same_kept first w v s k is) (λ b. taken_kept t q learner good)

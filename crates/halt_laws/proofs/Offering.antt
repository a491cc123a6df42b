-- An append heard is a move of the node: no replica halts, since the node does not.
use Rattle.step_walk.proofs.Outcomes.{IsCalm}
use Rattle.step_walk.specs.Rules.{IsHolder}
use Rattle.step_walk.proofs.Outcomes as may
use Rattle.std.proofs.Common.{◌≡◌, ℕ, ◌+◌, ◌-◌, ◌<◌, ◌≤◌, Bool, true, false, cond, ◌&&◌, nat_lt, nat_le, min, max, ◌⊎◌, inl, inr, Option, Some, None, [], ◌∷◌, ◌++◌, length, take, drop, refl, sym, ap, ◌∙◌, subst, arith}
use Rattle.std.proofs.lemmas.Bool.{cond_both, cond-true, cond-false, and_from, cases_Bool, cases_lt, le-leb, lt-ltb, leb-true}
use Rattle.std.proofs.lemmas.List.{take-take, take_all, take-append-drop, length-drop, length-take-le}
use Rattle.std.proofs.lemmas.Option.{same_Some, none-some}
use Rattle.std.proofs.lemmas.Slice.Eq.{bytes_eq-Decides}
use Rattle.values.specs.declared.entry.Hash.{Hash}
use Rattle.values.specs.declared.entry.Point.{Point}
use Rattle.values.specs.declared.peer.PeerMsg.TheVariants.{Rejected}
use Rattle.group_quorum.specs.Conf.{Conf}
use Rattle.replica_model.specs.Path.{Path, Link, chain, same_hash}
use Rattle.replica_model.proofs.Paths.{chain-push}
use Rattle.replica_model.specs.Replica.{Role, Follower, Replica}
use Rattle.replica_model.specs.Call.{still, says}
use Rattle.replica_model.specs.Graft.{hash_at, Offer, points_of, points_from, end_of, Difference, differing, first_difference, kept_length, added, refusal_hint, following, answered, append_heard}
use Rattle.group_model.specs.Log.{IsFrontOf}
use Rattle.log_laws.proofs.Chain.{NoCollisionIn}
use Rattle.log_laws.proofs.Offered.{Grafts, grafts, take_step, hash_cases}
use Rattle.path_machine.specs.Node as node
use Rattle.path_machine.specs.Node.{Node, Outcome, common}
use Rattle.path_machine.specs.Machine.{Machine, In}
use Rattle.path_machine.specs.Changes.{is_single_change}
use Rattle.path_machine.proofs.Changes.{single_change_overlaps}
use Rattle.path_machine.proofs.Fronts.{common_ge}
use Rattle.path_machine.proofs.Same.{common_same}
use Rattle.path_laws.proofs.Goes.{reached_laws, takes_message}
use Rattle.halt_laws.proofs.Alike.{kind, node_as, AppendFits, On, Is}
use Rattle.halt_laws.proofs.Onward.{own_term, no_learner, holder_first, Going, onward}
use Rattle.halt_laws.proofs.Electing.{not_above}

module _ (link : Link) (s : Replica) where
  -- a point differs from the path, or what is later decides
  abbrev IsReal : Point → Option Difference → Type 0
  IsReal p later =
      ((differing (hash_at link s p.index) p later ≡ Some (p.index, chain link (take p.index s.path), p.hash)) × (chain link (take p.index s.path) ≡ p.hash → ⊥))
      ⊎ (differing (hash_at link s p.index) p later ≡ later)

  real_cases : (p : Point) (later : Option Difference) → IsReal p later
  real_cases p later = elim (hash_cases link s p.index) [
    | inl h ↦ elim (cases_Bool (same_hash (chain link (take p.index s.path)) p.hash)) [
      | inl same ↦ inr (ap (λ o. differing o p later) h.0 ∙ cond-true _ _ _ same)
      | inr other ↦ inl (
        ap (λ o. differing o p later) h.0 ∙ cond-false _ _ _ other,
        λ is. let yes : same_hash (chain link (take p.index s.path)) p.hash ≡ true = (bytes_eq-Decides (chain link (take p.index s.path)).0 p.hash.0).1 (ap (λ (x : Hash). x.0) is) in
            absurd (let apart : true ≡ false = sym yes ∙ other in cc),
      )
    ]
    | inr h ↦ inr (ap (λ o. differing o p later) h.0)
  ]

  -- where a difference is found the two paths differ
  real_difference : (path : Path) (i : ℕ) (h : Hash) (es : Path) (d : Difference) → i ≤ length path → h ≡ chain link (take i path) → drop i path ≡ es → first_difference link s (points_from link i h es) ≡ Some d → (d.0 ≤ length path) × (take d.0 s.path ≡ take d.0 path → ⊥)
  real_difference path i h [] d le is rest found = elim (real_cases (record { index = i; hash = h }) None) [
    | inl real ↦
        let place : i ≡ d.0 = ap (λ (x : Difference). x.0) (same_Some (i, chain link (take i s.path), h) d (sym real.0 ∙ found)) in
        subst (λ k. (k ≤ length path) × (take k s.path ≡ take k path → ⊥)) place (le, λ same. real.1 (ap (chain link) same ∙ sym is))
    | inr later ↦ absurd (none-some d (sym later ∙ found))
  ]
  real_difference path i h (e ∷ es) d le is rest found =
      let step = take_step i path e es rest in
      let more : Option Difference = first_difference link s (points_from link (i + 1) (link h (i + 1) e) es) in
      elim (real_cases (record { index = i; hash = h }) more) [
        | inl real ↦
            let place : i ≡ d.0 = ap (λ (x : Difference). x.0) (same_Some (i, chain link (take i s.path), h) d (sym real.0 ∙ found)) in
            subst (λ k. (k ≤ length path) × (take k s.path ≡ take k path → ⊥)) place (le, λ same. real.1 (ap (chain link) same ∙ sym is))
        | inr later ↦
            let next : link h (i + 1) e ≡ chain link (take (i + 1) path) =
            ap (λ x. link x (i + 1) e) is ∙ (ap (λ x. link (chain link (take i path)) (x + 1) e) (sym (length-take-le i path le)) ∙ (sym (chain-push link (take i path) e) ∙ ap (chain link) (sym step.0))) in
            real_difference path (i + 1) (link h (i + 1) e) es d (omega (arith, step.2)) next step.1 (sym later ∙ found)
      ]

  -- the path after a graft is that of the node
  grafted_is : (path new : Path) (d : Option Difference) (prev : ℕ) → prev ≤ length path → Grafts s path new → ((x : Difference) → d ≡ Some x → (x.0 ≤ length path) × (take x.0 s.path ≡ take x.0 path → ⊥)) → new ≡ take (kept_length s.path d) s.path ++ drop (kept_length s.path d - prev) (drop prev path) → new ≡ cond (nat_le (length path) (common s.path path)) s.path path
  grafted_is path new d prev le (inl h) real is =
      sym (cond-true (nat_le (length path) (common s.path path)) s.path path (le-leb (length path) (common s.path path) (common_ge path s.path path (drop (length path) s.path, ap (λ y. y ++ drop (length path) s.path) (sym h.1) ∙ take-append-drop (length path) s.path) ([], Rattle.std.proofs.Common.append-nil path)))
      ∙ sym h.0)
  grafted_is path new d prev le (inr h) real is = cond_both (nat_le (length path) (common s.path path)) s.path path (λ y. new ≡ y)
      (λ b.
      let upto : take (length path) s.path ≡ take (length path) path = common_same (length path) s.path path (leb-true (length path) (common s.path path) b) in
      whole d real is upto)
      (λ b. h.0)
    where
      whole : (d : Option Difference) → ((x : Difference) → d ≡ Some x → (x.0 ≤ length path) × (take x.0 s.path ≡ take x.0 path → ⊥)) → new ≡ take (kept_length s.path d) s.path ++ drop (kept_length s.path d - prev) (drop prev path) → take (length path) s.path ≡ take (length path) path → new ≡ s.path
      whole (Some x) real is upto =
          let r = real x refl in
          absurd (r.1 (sym (take-take x.0 (length path) s.path r.0) ∙ (ap (take x.0) upto ∙ take-take x.0 (length path) path r.0)))
      whole None real is upto =
          let long : length new ≡ length (take (length s.path) s.path ++ drop (length s.path - prev) (drop prev path)) = ap length is in
          let same : length new ≡ length path = ap length h.0 in
          h.0 ∙ (sym (take_all (length path) path (omega arith)) ∙ (sym upto ∙ take_all (length path) s.path
          (omega (arith, long, same, Rattle.std.proofs.Common.length-append (take (length s.path) s.path) (drop (length s.path - prev) (drop prev path)), length-take-le (length s.path) s.path (omega arith)))))

module _ (link : Link) (first : Conf) (holds : ℕ → Bool) (Held : Path → Type 0) (closed : (p w : Path) → IsFrontOf p w → Held w → Held p) (none : NoCollisionIn link Held) (w : Machine) (v : ℕ) (s : Replica) (holder : IsHolder s.role) (mine : Held s.path) (f : Going link first holds Held w v (still s)) where
  abbrev a : Is first holds f.now v s
  a = f.at

  abbrev n : Node
  n = node_as (kind s.role) s.term s.path s.promised s.committed f.at.voted f.at.votes f.at.marks

  within : s.committed ≤ s.promised
  within = (reached_laws first is_single_change single_change_overlaps holds f.now f.at.reached).committed_promised v n f.at.here

  promised_fits : s.promised ≤ length s.path
  promised_fits = (reached_laws first is_single_change single_change_overlaps holds f.now f.at.reached).promised_held v n f.at.here

  -- the node would halt, which none does
  never_halts : (path : Path) (promise commit : ℕ) → In (node.Append s.term path promise commit) f.now.history.messages → (nat_lt (common s.path path) s.promised && nat_lt (common s.path path) (length path)) ≡ true → ⊥
  never_halts path promise commit stands bad =
      let m : node.Message = node.Append s.term path promise commit in
      let t : Node = record n { halted = true } in
      let does : node.takes v n false m ≡ node.quiet t = own_term v n false m (no_learner s.role holder) refl ∙ cond-true _ (node.quiet t) _ bad in
      let g : On first holds f.now v t [] [] = takes_message first is_single_change single_change_overlaps holds f.now v n f.at.reached f.at.here false m (node.quiet t) stands (not_above s.term) does in
      let halted : true ≡ false = (reached_laws first is_single_change single_change_overlaps holds g.machine g.reached).no_halt v t g.here in
      cc

  module _ (o : Offer) (x : AppendFits link Held f.now.history.messages s.term o.prev o.entries o.promise o.commit) where
    total : length x.path ≡ end_of o
    total = let fits = x.prev_fits in omega (arith, length-drop o.prev.index x.path, ap length x.entries_are)

    found_real : (d : Difference) → first_difference link s (points_of link o) ≡ Some d → (d.0 ≤ length x.path) × (take d.0 s.path ≡ take d.0 x.path → ⊥)
    found_real d is = real_difference link s x.path o.prev.index o.prev.hash o.entries d x.prev_fits x.hash_is (sym x.entries_are) is

    -- what is refused makes the node follow
    refused_went : (hint : ℕ) → Going link first holds Held w v (says (following s o.from) o.from (Rejected s.term o.prev.index hint))
    refused_went hint =
        let m : node.Message = node.Append s.term x.path o.promise o.commit in
        let t : Node = node.followed n in
        let does : node.takes v n true m ≡ node.quiet t = own_term v n true m (no_learner s.role holder) refl in
        let g : On first holds f.now v t [] [] = takes_message first is_single_change single_change_overlaps holds f.now v n f.at.reached f.at.here true m (node.quiet t) x.stands (not_above s.term) does in
        onward link first holds Held w v (still s) (says (following s o.from) o.from (Rejected s.term o.prev.index hint)) f t [] g
        (record {
          reached = g.reached;
          voted = f.at.voted;
          votes = λ u. false;
          marks = λ u. 0;
          here = subst (λ k. g.machine.nodes v ≡ Some (node_as k s.term s.path s.promised s.committed f.at.voted (λ u. false) (λ u. 0))) (follows s.role holder) g.here;
          mine = f.at.mine;
          some = f.at.some;
          based = f.at.based;
          vote_is = f.at.vote_is;
          acts = holder_first first s.first s.path s.committed s.role f.at.votes f.at.marks holder f.at.acts;
          awake = f.at.awake;
        })
        refl (λ held. held) (λ held old. (tt, tt)) (λ t same. inl same) refl
      where
        follows : (role : Role) → IsHolder role → node.fallen (kind role) ≡ node.Follower
        follows (Rattle.replica_model.specs.Replica.Learner taking) h = absurd h
        follows Follower h = refl
        follows (Rattle.replica_model.specs.Replica.Candidate votes) h = refl
        follows (Rattle.replica_model.specs.Replica.Leader l) h = refl

    -- what is grafted the node grafts
    grafted_went : (d : Option Difference) → first_difference link s (points_of link o) ≡ d → IsCalm s d → refusal_hint (following s o.from) d o ≡ None → Going link first holds Held w v (answered link (following s o.from) d o None)
    grafted_went d is calm hinted =
        let k : ℕ = kept_length s.path d in
        let new : Path = take k s.path ++ added k o in
        let as_offered : take k s.path ++ drop (k - o.prev.index) (drop o.prev.index x.path) ≡ new = ap (λ es. take k s.path ++ drop (k - o.prev.index) es) (sym x.entries_are) in
        let based = f.at.based in
        let g0 : Grafts s x.path new =
        subst (Grafts s x.path) as_offered
        (grafts link s Held none closed mine x.path x.held o.from o.promise o.commit o.prev d x.prev_fits x.hash_is (omega (arith, within)) promised_fits
        (ap (λ es. first_difference link s (points_from link o.prev.index o.prev.hash es)) (sym x.entries_are) ∙ is) calm
        (ap (λ es. refusal_hint s d (record o { entries = es })) (sym x.entries_are) ∙ hinted)) in
        let new_is : new ≡ cond (nat_le (length x.path) (common s.path x.path)) s.path x.path =
        grafted_is link s x.path new d o.prev.index x.prev_fits g0 (λ y same. found_real y (is ∙ same)) (sym as_offered) in
        let theirs : take (end_of o) new ≡ x.path =
        subst (λ (y : Path). take (end_of o) y ≡ x.path) (sym new_is) (subst (λ j. take j (cond (nat_le (length x.path) (common s.path x.path)) s.path x.path) ≡ x.path) total
        (cond_both (nat_le (length x.path) (common s.path x.path)) s.path x.path (λ y. take (length x.path) y ≡ x.path)
        (λ b. common_same (length x.path) s.path x.path (leb-true (length x.path) (common s.path x.path) b) ∙ take_all (length x.path) x.path (omega arith))
        (λ b. take_all (length x.path) x.path (omega arith)))) in
        let m : node.Message = node.Append s.term x.path o.promise o.commit in
        let acc : node.Message = node.Accepted s.term v x.path in
        let out : Outcome = record { node = node.grafted n x.path o.promise o.commit; sent = acc ∷ [] } in
        let peace : (nat_lt (common s.path x.path) s.promised && nat_lt (common s.path x.path) (length x.path)) ≡ false =
        elim (cases_Bool (nat_lt (common s.path x.path) s.promised && nat_lt (common s.path x.path) (length x.path))) [
          | inl bad ↦ absurd (never_halts x.path o.promise o.commit x.stands bad)
          | inr fine ↦ fine
        ] in
        let does : node.takes v n false m ≡ out = own_term v n false m (no_learner s.role holder) refl ∙ cond-false _ _ out peace in
        let g : On first holds f.now v out.node (acc ∷ []) [] = takes_message first is_single_change single_change_overlaps holds f.now v n f.at.reached f.at.here false m out x.stands (not_above s.term) does in
        let promised : ℕ = max s.promised (min o.promise (end_of o)) in
        let committed : ℕ = max s.committed (min o.commit (min o.promise (end_of o))) in
        let here : g.machine.nodes v ≡ Some (node_as node.Follower s.term new promised committed f.at.voted (λ u. false) (λ u. 0)) =
        subst (λ (y : Path). g.machine.nodes v ≡ Some (node_as node.Follower s.term y promised committed f.at.voted (λ u. false) (λ u. 0))) (sym new_is)
        (subst (λ j. g.machine.nodes v ≡ Some (node_as node.Follower s.term (cond (nat_le (length x.path) (common s.path x.path)) s.path x.path) (max s.promised (min o.promise j)) (max s.committed (min o.commit (min o.promise j))) f.at.voted (λ u. false) (λ u. 0))) total g.here) in
        onward link first holds Held w v (still s) (answered link (following s o.from) d o None) f out.node (acc ∷ []) g
        (record {
          reached = g.reached;
          voted = f.at.voted;
          votes = λ u. false;
          marks = λ u. 0;
          here = here;
          mine = f.at.mine;
          some = f.at.some;
          based = omega arith;
          vote_is = f.at.vote_is;
          acts = holder_first first s.first s.path s.committed s.role f.at.votes f.at.marks holder f.at.acts;
          awake = f.at.awake;
        })
        refl (λ held. mine)
        (λ held old. (record { path = x.path; stands = g.said acc (inl refl); held = x.held; end_is = total; hash_is = ap (chain link) (sym theirs) }, tt))
        (λ t same. inl same) refl

    pub append_went : Going link first holds Held w v (append_heard link s o)
    append_went = may.append_heard_by (Going link first holds Held w v) link s o
        (λ d is conflict.
        let real = found_real d is in
        let below : d.0 ≤ s.promised = leb-true d.0 s.promised conflict in
        let early : common s.path x.path < d.0 = elim (cases_lt (common s.path x.path) d.0) [
          | inl lt ↦ lt
          | inr ge ↦ absurd (real.1 (common_same d.0 s.path x.path ge))
        ] in
        let le = real.0 in
        absurd (never_halts x.path o.promise o.commit x.stands (and_from (nat_lt (common s.path x.path) s.promised) (nat_lt (common s.path x.path) (length x.path)) (lt-ltb _ _ (omega arith)) (lt-ltb _ _ (omega arith)))))
        (λ d hint is at. refused_went hint)
        grafted_went

-- A candidate wins, a leader pushes, a leader promises.
use Rattle.std.proofs.Common.{◌≡◌, ℕ, ◌+◌, ◌<◌, ◌≤◌, ◌==◌, Bool, true, false, not, ◌&&◌, ◌||◌, nat_le, ◌⊎◌, inl, inr, Option, Some, None, [], ◌∷◌, ◌++◌, length, take, refl, sym, ap, ◌∙◌, subst, append_assoc, arith}
use Rattle.std.proofs.lemmas.Bool.{and_parts, or_cases, leb-true, eq-eqb, cond_both, cond-true, cases_lt, not-true}
use Rattle.std.proofs.lemmas.List.{append-nil, same_from_push, length_push, take-append-le}
use Rattle.values.specs.declared.entry.Body.{Body}
use Rattle.values.specs.declared.entry.Body.TheVariants.{Noop, Ask, Members}
use Rattle.values.specs.declared.entry.LogEntry.{LogEntry}
use Rattle.replica_model.specs.Path.{Path}
use Rattle.group_quorum.specs.Conf.{Conf}
use Rattle.replica_model.specs.Configs.{is_members, changed_by, conf, conf_index}
use Rattle.group_model.specs.Log.{IsFrontOf}
use Rattle.agreement.proofs.Places.{take_front}
use Rattle.agreement.proofs.Fronts.{begins}
use Rattle.path_machine.proofs.Fronts.{front_refl, front_append, ends}
use Rattle.path_machine.specs.Node.{Role, Learner, Follower, Candidate, Leader, Node, Vote, Accepted, with_value, is_learner, is_leader, is_candidate, elects, led, pushed, may_push}
use Rattle.path_machine.specs.Machine.{Reign, History, Machine, In, won, win, grown, extended, push}
use Rattle.path_machine.specs.Changes.{Overlap}
use Rattle.path_machine.proofs.Completeness.{overlap_same, same_reign, complete, candidate_holds, shared}
use Rattle.path_machine.proofs.Good.{ledger, Sealed, Place, Known, HasAccepted, Elected, Newer, GoodReign, GoodMessage, GoodHistory, below, Leads, Fits, GoodNode, Kept}
use Rattle.path_machine.proofs.Grow.{GoesOn, Grows, sealed_more, place_more, known_more, accepted_more, safe_less, elected_more, history_more, fits_more, node_more}
use Rattle.path_laws.proofs.Steps.{value_cases, some_same, Follows, fits_step, step_kept}
use Rattle.path_laws.proofs.Local.{below_le, leader_below, no_leader, sealed_front, led_settled}
use Rattle.path_laws.proofs.Voters.{candidate_elected}

reign_cases : (o : Option Reign) → (o ≡ None) ⊎ ((r : Reign) × (o ≡ Some r))
reign_cases None = inl refl
reign_cases (Some r) = inr (r, refl)

never_some : (o : Option Reign) (r : Reign) → o ≡ None → o ≡ Some r → ⊥
never_some o r a b = let both : None ≡ Some r = sym a ∙ b in cc

pub value_here : {A : Type 0} (f : ℕ → A) (k : ℕ) (x : A) → with_value f k x k ≡ x
value_here f k x = cond-true (k == k) x (f k) (eq-eqb k k refl)

learner_apart : (r : Role) → is_learner r ≡ true → is_leader r ≡ true → ⊥
learner_apart Learner a b = cc
learner_apart Follower a b = cc
learner_apart Candidate a b = cc
learner_apart Leader a b = cc

candidate_below : (s : Node) → is_candidate s.role ≡ true → below s ≡ s.term
candidate_below s so = cond-true (is_candidate s.role) s.term (s.term + 1) so

module _ (first : Conf) (w : Machine) (v : ℕ) (s : Node) (k : Kept first w) (is : w.nodes v ≡ Some s) where
  abbrev h : History
  h = w.history

  abbrev me : GoodNode first h v s
  me = k.nodes v s is

  -- one more acceptance of this replica in its term
  keep_one : (g : History) (p : Path) → g.messages ≡ Accepted s.term v p ∷ h.messages → (n u c : ℕ) (q : Path) → In (Vote n u c q) h.messages → (t1 : ℕ) (x : Path) → HasAccepted g u t1 x → t1 < n → HasAccepted h u t1 x
  keep_one g p same n u c q at t1 x acc lt = split (subst (In (Accepted t1 u acc.0)) same acc.1)
    where
      split : In (Accepted t1 u acc.0) (Accepted s.term v p ∷ h.messages) → HasAccepted h u t1 x
      split (inl one) =
          let term : s.term ≡ t1 = cc in
          let own : v ≡ u = cc in
          let old = (me.says (Vote n v c q) (subst (λ y. In (Vote n y c q) h.messages) (sym own) at)).0 refl in
          absurd (let le = old.0 in omega (arith, term))
      split (inr old) = (acc.0, old, acc.2)

  once_one : (p : Path) (n u c d : ℕ) (a b : Path) → In (Vote n u c a) (Accepted s.term v p ∷ h.messages) → In (Vote n u d b) (Accepted s.term v p ∷ h.messages) → c ≡ d
  once_one p n u c d a b (inl one) y = cc
  once_one p n u c d a b (inr x) (inl two) = cc
  once_one p n u c d a b (inr x) (inr y) = k.history.once n u c d a b x y

  module _ (so : is_candidate s.role ≡ true) (wins : elects first s ≡ true) where
    abbrev reign : Reign
    reign = record { leader = v; base = s.path; own = []; who = s.votes }

    abbrev g : History
    g = won h v s

    elected : Elected first h s.term s.path s.votes
    elected = candidate_elected first h v s me so wins (candidate_below s so)

    newer : (u : ℕ) → s.votes u ≡ true → Newer h u s.term (s.term + 1) s.path
    newer u some = k.history.messages (Vote s.term u v s.path) ((me.stands so).votes u some)

    -- nobody led in this term
    nobody : h.reigns s.term ≡ None
    nobody = elim (reign_cases (h.reigns s.term)) [
      | inl none ↦ none
      | inr r ↦
          let good = k.history.reigns s.term r.0 r.1 in
          let both = shared first h s.term r.0.base s.path r.0.who s.votes good.elected elected (complete first h k.history s.term r.0 r.1) (candidate_holds first h k.history s.term s.path s.votes elected newer) in
          let theirs = good.voted both.0 both.1 in
          absurd ((me.stands so).apart r.0 r.1 (k.history.once s.term both.0 r.0.leader v theirs.0 s.path theirs.1 ((me.stands so).votes both.0 both.2)))
    ]

    win_grows : Grows h g
    win_grows = record {
      reigns = λ t r at. elim (value_cases h.reigns s.term (Some reign) t) [
        | inl here ↦ absurd (never_some (h.reigns t) r (subst (λ n. h.reigns n ≡ None) (sym here.0) nobody) at)
        | inr other ↦ (r, other.1 ∙ at, record { leader = refl; base = refl; who = refl; longer = front_refl (ledger r) })
      ];
      chosen = λ t p at. at;
      messages = λ m at. inr at;
    }

    at_now : g.reigns s.term ≡ Some reign
    at_now = value_here h.reigns s.term (Some reign)

    known_now : Known first g (s.term + 1) s.path
    known_now = known_more first h g win_grows (below s) (s.term + 1) s.path (below_le s) me.known

    win_reign : GoodReign first g s.term reign
    win_reign = record {
      known = subst (Known first g (s.term + 1)) (sym (append-nil s.path)) known_now;
      elected = elected_more first h g win_grows s.term s.path s.votes elected;
      voted = λ u some. (s.path, inr ((me.stands so).votes u some));
      newer = λ u some t1 p acc last lt safe.
          newer u some t1 p (keep_one g s.path refl s.term u v s.path ((me.stands so).votes u some) t1 p acc lt) last lt (λ x r gt less at. elim (cases_lt x s.term) [
            | inl earlier ↦ safe_less first h g win_grows t1 p s.term safe x r gt earlier at
            | inr here ↦ absurd (never_some (h.reigns x) r (subst (λ n. h.reigns n ≡ None) (let same : s.term ≡ x = omega arith in same) nobody) at)
          ]);
      began = inl refl;
    }

    win_history : GoodHistory first g
    win_history = history_more first h g win_grows k.history (keep_one g s.path refl)
        (λ t r at. elim (value_cases h.reigns s.term (Some reign) t) [
          | inl here ↦ inr (subst (λ n. GoodReign first g n r) (sym here.0) (subst (GoodReign first g s.term) (some_same reign r (sym here.1 ∙ at)) win_reign))
          | inr other ↦ inl (r, sym other.1 ∙ at, record { leader = refl; base = refl; who = refl; longer = front_refl (ledger r) }, known_more first h g win_grows (t + 1) (t + 1) (ledger r) (omega arith) (k.history.reigns t r (sym other.1 ∙ at)).known)
        ])
        (λ t p at. inl at)
        (λ m at. elim at [
          | inl new ↦ inr (subst (GoodMessage first g) new (reign, at_now, front_append s.path []))
          | inr old ↦ inl old
        ])
        (once_one s.path)

    led_follows : Follows h v s (led s)
    led_follows = record { term = omega arith; vote = λ same c at. at; stands = λ same never. cc; path = λ n x p at le front safe pre. pre }

    won_kept : Kept first (record { nodes = with_value w.nodes v (Some (led s)); history = g; leads = w.leads; held = w.held })
    won_kept = step_kept first w v (led s) g win_grows k win_history
        (record {
          alive = me.alive;
          known = known_now;
          fits = me.fits;
          within = me.within;
          settled = sealed_more first h g win_grows (below s) (s.term + 1) (take s.promised s.path) (below_le s) me.settled;
          leads = λ yes'. record { reign = reign; is = at_now; leader = refl; path = append-nil s.path; own = inl refl; marks = λ u n le some. absurd (omega arith); short = λ u. omega arith };
          stands = λ never. cc;
          nothing = λ never. cc;
          says = λ m at. elim at [
            | inl new ↦ subst (Fits g v (led s)) new (λ own. (omega arith, λ x pre safe. pre))
            | inr old ↦ fits_more first h g win_grows v (led s) m (fits_step first h v s (led s) led_follows m old (me.says m old))
          ];
        })
        (λ u t other good. node_more first h g win_grows u t good
        (λ n r at mine. elim (value_cases h.reigns s.term (Some reign) n) [
          | inl here ↦ absurd (never_some (h.reigns n) r (subst (λ i. h.reigns i ≡ None) (sym here.0) nobody) at)
          | inr apart ↦ apart.1 ∙ at
        ])
        (λ n r at mine. elim (value_cases h.reigns s.term (Some reign) n) [
          | inl here ↦ absurd (other (sym mine ∙ ap (λ y. y.leader) (sym (some_same reign r (sym here.1 ∙ at)))))
          | inr apart ↦ sym apart.1 ∙ at
        ])
        (λ m at. elim at [
          | inl new ↦ inr (subst (Fits g u t) new (λ own. absurd (other (sym own))))
          | inr old ↦ inl old
        ]))

  pub win_kept : Kept first (win first w v s)
  win_kept = cond_both (is_candidate s.role && elects first s) (record { nodes = with_value w.nodes v (Some (led s)); history = won w.history v s; leads = w.leads; held = w.held }) w (Kept first)
      (λ b. let parts = and_parts (is_candidate s.role) (elects first s) b in won_kept parts.0 parts.1)
      (λ b. k)

  -- a leader pushes
  module _ (near : Conf → Conf → Bool) (overlaps : (c d : Conf) → near c d ≡ true → Overlap c d) (b : Body)
      (so : is_leader s.role ≡ true)
      (one : is_members b ≡ true → (conf_index s.path ≤ s.committed) × (near (conf first s.path) (changed_by (conf first s.path) b) ≡ true)) where
    abbrev e : LogEntry
    e = record { term = s.term; body = b }

    abbrev l : Leads h v s
    l = me.leads so

    abbrev after : Reign
    after = record { leader = l.reign.leader; base = l.reign.base; own = l.reign.own ++ e ∷ []; who = l.reign.who }

    abbrev f : History
    f = extended h v s b

    long_path : ledger after ≡ s.path ++ e ∷ []
    long_path = sym (append_assoc l.reign.base l.reign.own (e ∷ [])) ∙ ap (λ y. y ++ e ∷ []) l.path

    on : GoesOn l.reign after
    on = record { leader = refl; base = refl; who = refl; longer = subst (IsFrontOf (ledger l.reign)) (append_assoc l.reign.base l.reign.own (e ∷ [])) (front_append (ledger l.reign) (e ∷ [])) }

    after_at : f.reigns s.term ≡ Some after
    after_at = value_here h.reigns s.term (grown (h.reigns s.term) e) ∙ ap (λ o. grown o e) l.is

    cases : (t : ℕ) → ((t ≡ s.term) × (f.reigns t ≡ Some after)) ⊎ ((t ≡ s.term → ⊥) × (f.reigns t ≡ h.reigns t))
    cases t = elim (value_cases h.reigns s.term (grown (h.reigns s.term) e) t) [
      | inl here ↦ inl (here.0, here.1 ∙ ap (λ o. grown o e) l.is)
      | inr other ↦ inr other
    ]

    push_grows : Grows h f
    push_grows = record {
      reigns = λ t r at. elim (cases t) [
        | inl here ↦
            let same : l.reign ≡ r = same_reign (h.reigns s.term) l.reign r l.is (subst (λ n. h.reigns n ≡ Some r) here.0 at) in
            (after, here.1, subst (λ y. GoesOn y after) same on)
        | inr other ↦ (r, other.1 ∙ at, record { leader = refl; base = refl; who = refl; longer = front_refl (ledger r) })
      ];
      chosen = λ t p at. at;
      messages = λ m at. inr at;
    }

    next_near : (c : Conf) (x : Body) → (is_members x ≡ true → near c (changed_by c x) ≡ true) → Overlap c (changed_by c x)
    next_near c Noop ok = overlap_same c
    next_near c (Ask client number request) ok = overlap_same c
    next_near c (Members margin voters) ok = overlaps c (record { margin = margin; voters = voters }) (ok refl)

    new_place : Place first f s.path e
    new_place = record {
      reign = after;
      is = after_at;
      after = subst (IsFrontOf l.reign.base) l.path (front_append l.reign.base l.reign.own);
      upto = subst (IsFrontOf (s.path ++ e ∷ [])) (sym long_path) (front_refl (s.path ++ e ∷ []));
      rises = λ x y z at. let lt = (me.known x y z at).0 in omega (arith, below_le s, lt);
      near = next_near (conf first s.path) b (λ m. (one m).1);
      older = λ m. sealed_more first h f push_grows (s.term + 1) (s.term + 1) (take (conf_index s.path) s.path) (omega arith)
          (sealed_front h (s.term + 1) (take (conf_index s.path) s.path) (take s.promised s.path) (take_front (conf_index s.path) s.promised s.path (let le = (one m).0 in omega (arith, me.within))) (led_settled first w v s k is so));
    }

    pushed_known : Known first f (s.term + 1) (s.path ++ e ∷ [])
    pushed_known c a r at = elim (ends r) [
      | inl none ↦
          let same = same_from_push c s.path a e (subst (λ y. c ++ a ∷ y ≡ s.path ++ e ∷ []) none at) in
          subst (λ y. (y.term < s.term + 1) × Place first f c y) (sym same.1) (subst (λ y. (e.term < s.term + 1) × Place first f y e) (sym same.0) (omega arith, new_place))
      | inr some ↦
          let at' : (c ++ a ∷ some.front) ++ some.entry ∷ [] ≡ s.path ++ e ∷ [] = append_assoc c (a ∷ some.front) (some.entry ∷ []) ∙ subst (λ y. c ++ a ∷ y ≡ s.path ++ e ∷ []) some.is at in
          let same = same_from_push (c ++ a ∷ some.front) s.path some.entry e at' in
          let old = me.known c a some.front same.0 in
          (let lt = old.0 in omega (arith, below_le s), place_more first h f push_grows c a old.1)
    ]

    push_history : GoodHistory first f
    push_history = history_more first h f push_grows k.history (keep_one f (s.path ++ e ∷ []) refl)
        (λ t r at. elim (cases t) [
          | inl here ↦
              let same : after ≡ r = some_same after r (sym here.1 ∙ at) in
              inl (
                l.reign,
                subst (λ n. h.reigns n ≡ Some l.reign) (sym here.0) l.is,
                subst (GoesOn l.reign) same on,
                subst (λ y. Known first f (t + 1) (ledger y)) same (subst (Known first f (t + 1)) (sym long_path) (subst (λ n. Known first f (n + 1) (s.path ++ e ∷ [])) (sym here.0) pushed_known)),
              )
          | inr other ↦ inl (r, sym other.1 ∙ at, record { leader = refl; base = refl; who = refl; longer = front_refl (ledger r) }, known_more first h f push_grows (t + 1) (t + 1) (ledger r) (omega arith) (k.history.reigns t r (sym other.1 ∙ at)).known)
        ])
        (λ t p at. inl at)
        (λ m at. elim at [
          | inl new ↦ inr (subst (GoodMessage first f) new (after, after_at, subst (IsFrontOf (s.path ++ e ∷ [])) (sym long_path) (front_refl (s.path ++ e ∷ []))))
          | inr old ↦ inl old
        ])
        (once_one (s.path ++ e ∷ []))

    pushed_follows : Follows h v s (pushed s b)
    pushed_follows = record {
      term = omega arith;
      vote = λ same c at. at;
      stands = λ same stands'. absurd (let apart : true ≡ false = sym stands' ∙ no_leader s so in cc);
      path = λ n x p at le front safe pre. begins x s.path (s.path ++ e ∷ []) pre (front_append s.path (e ∷ []));
    }

    same_front : (n : ℕ) → n ≤ length s.path → take n (s.path ++ e ∷ []) ≡ take n s.path
    same_front n le = take-append-le n s.path (e ∷ []) le

    pushed_kept : Kept first (record { nodes = with_value w.nodes v (Some (pushed s b)); history = f; leads = w.leads; held = w.held })
    pushed_kept = step_kept first w v (pushed s b) f push_grows k push_history
        (record {
          alive = me.alive;
          known = subst (λ n. Known first f n (s.path ++ e ∷ [])) (sym (leader_below s so)) pushed_known;
          fits = omega (arith, me.fits, length_push s.path e);
          within = me.within;
          settled = sealed_more first h f push_grows (below s) (below s) (take s.promised (s.path ++ e ∷ [])) (omega arith) (subst (Sealed h (below s)) (sym (same_front s.promised me.fits)) me.settled);
          leads = λ yes'. record {
            reign = after;
            is = after_at;
            leader = l.leader;
            path = long_path;
            own = inl refl;
            marks = λ u n le some. subst (HasAccepted f u s.term) (sym (same_front n (omega (arith, l.short u)))) (accepted_more first h f push_grows u s.term (take n s.path) (l.marks u n le some));
            short = λ u. omega (arith, l.short u, length_push s.path e);
          };
          stands = λ stands'. absurd (let apart : true ≡ false = sym stands' ∙ no_leader s so in cc);
          nothing = λ learner. absurd (learner_apart s.role learner so);
          says = λ m at. elim at [
            | inl new ↦ subst (Fits f v (pushed s b)) new (λ own. (omega arith, λ x pre safe. pre))
            | inr old ↦ fits_more first h f push_grows v (pushed s b) m (fits_step first h v s (pushed s b) pushed_follows m old (me.says m old))
          ];
        })
        (λ u t other good. node_more first h f push_grows u t good
        (λ n r at mine. elim (cases n) [
          | inl here ↦
              let same : l.reign ≡ r = same_reign (h.reigns s.term) l.reign r l.is (subst (λ i. h.reigns i ≡ Some r) here.0 at) in
              absurd (other (sym mine ∙ (ap (λ y. y.leader) (sym same) ∙ l.leader)))
          | inr apart ↦ apart.1 ∙ at
        ])
        (λ n r at mine. elim (cases n) [
          | inl here ↦
              let same : after ≡ r = some_same after r (sym here.1 ∙ at) in
              absurd (other (sym mine ∙ (ap (λ y. y.leader) (sym same) ∙ l.leader)))
          | inr apart ↦ sym apart.1 ∙ at
        ])
        (λ m at. elim at [
          | inl new ↦ inr (subst (Fits f u t) new (λ own. absurd (other (sym own))))
          | inr old ↦ inl old
        ]))

  pub push_kept : (near : Conf → Conf → Bool) → ((c d : Conf) → near c d ≡ true → Overlap c d) → (b : Body) → Kept first (push first near w v s b)
  push_kept near overlaps b = cond_both (may_push first near s b) (record { nodes = with_value w.nodes v (Some (pushed s b)); history = extended w.history v s b; leads = w.leads; held = w.held }) w (Kept first)
      (λ ok.
      let parts = and_parts (is_leader s.role) (not (is_members b) || (nat_le (conf_index s.path) s.committed && near (conf first s.path) (changed_by (conf first s.path) b))) ok in
      pushed_kept near overlaps b parts.0
      (λ m. elim (or_cases (not (is_members b)) (nat_le (conf_index s.path) s.committed && near (conf first s.path) (changed_by (conf first s.path) b)) parts.1) [
        | inl plain ↦ absurd (let apart : true ≡ false = sym m ∙ not-true (is_members b) plain in cc)
        | inr both ↦
            let two = and_parts (nat_le (conf_index s.path) s.committed) (near (conf first s.path) (changed_by (conf first s.path) b)) both in
            (leb-true (conf_index s.path) s.committed two.0, two.1)
      ]))
      (λ never. k)

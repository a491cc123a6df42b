-- What a replica does by itself: a higher term, standing, committing, sending.
use Rattle.std.proofs.Common.{◌≡◌, ℕ, ◌+◌, ◌<◌, ◌≤◌, true, false, cond, ◌&&◌, ◌||◌, nat_lt, nat_le, min, inl, inr, Some, List, [], ◌∷◌, ◌++◌, length, take, refl, sym, ap, ◌∙◌, subst, append_assoc, arith}
use Rattle.std.proofs.lemmas.Bool.{and_parts, ltb-true, leb-true, cond_both}
use Rattle.std.proofs.lemmas.List.{length-take, length-take-le}
use Rattle.replica_model.specs.Path.{Path}
use Rattle.group_quorum.specs.Conf.{Conf}
use Rattle.group_model.specs.Log.{IsFrontOf}
use Rattle.agreement.proofs.Places.{take_front}
use Rattle.agreement.proofs.Fronts.{begins}
use Rattle.path_machine.proofs.Fronts.{front_refl, front_of, front_long}
use Rattle.path_machine.specs.Node.{Role, Learner, Follower, Candidate, Leader, Node, Message, AskVote, Vote, Append, Accepted, Part, with_value, quiet, is_learner, is_leader, is_candidate, fallen, followed, risen, stood, stand, commit, send, hand}
use Rattle.path_machine.specs.Machine.{History, Machine, In, moved, sends, rise}
use Rattle.path_machine.proofs.Good.{ledger, Sealed, Known, Newer, GoodMessage, below, Fits, GoodNode, Kept}
use Rattle.path_machine.proofs.Grow.{Grows, known_more, sealed_more, accepted_more}
use Rattle.path_laws.proofs.Steps.{value_cases, Follows, stays_path, From, sends_grows, sent_kept, says_step, fits_step}

pub below_le : (s : Node) → below s ≤ s.term + 1
below_le s = cond_both (is_candidate s.role) s.term (s.term + 1) (λ x. x ≤ s.term + 1) (λ b. omega arith) (λ b. omega arith)

pub leader_below : (s : Node) → is_leader s.role ≡ true → below s ≡ s.term + 1
leader_below s is = at s.role is
  where
    at : (r : Role) → is_leader r ≡ true → cond (is_candidate r) s.term (s.term + 1) ≡ s.term + 1
    at Learner is = cc
    at Follower is = cc
    at Candidate is = cc
    at Leader is = refl

pub no_leader : (s : Node) → is_leader s.role ≡ true → is_candidate s.role ≡ false
no_leader s is = at s.role is
  where
    at : (r : Role) → is_leader r ≡ true → is_candidate r ≡ false
    at Learner is = cc
    at Follower is = cc
    at Candidate is = cc
    at Leader is = refl

pub known_front : (first : Conf) (h : History) (b : ℕ) (p q : Path) → IsFrontOf p q → Known first h b q → Known first h b p
known_front first h b p q pre k c a r is = k c a (r ++ pre.0) (sym (append_assoc c (a ∷ r) pre.0) ∙ (ap (λ x. x ++ pre.0) is ∙ pre.1))

pub sealed_front : (h : History) (b : ℕ) (p q : Path) → IsFrontOf p q → Sealed h b q → Sealed h b p
sealed_front h b [] q pre s = inl refl
sealed_front h b (x ∷ p) q pre (inl none) = absurd (let never : x ∷ (p ++ pre.0) ≡ [] = pre.1 ∙ none in cc)
sealed_front h b (x ∷ p) q pre (inr s) = inr (record { term = s.term; path = s.path; below = s.below; chosen = s.chosen; front = begins (x ∷ p) q s.path pre s.front })

same_grows : (h : History) → Grows h h
same_grows h = record {
  reigns = λ t r is. (r, is, record { leader = refl; base = refl; who = refl; longer = front_refl (ledger r) });
  chosen = λ t p is. is;
  messages = λ m is. is;
}

pub known_below : (first : Conf) (h : History) (b b' : ℕ) (p : Path) → b ≤ b' → Known first h b p → Known first h b' p
known_below first h b b' p le k = known_more first h h (same_grows h) b b' p le k

pub sealed_below : (first : Conf) (h : History) (b b' : ℕ) (p : Path) → b ≤ b' → Sealed h b p → Sealed h b' p
sealed_below first h b b' p le s = sealed_more first h h (same_grows h) b b' p le s

module _ (first : Conf) (w : Machine) (v : ℕ) (s : Node) (k : Kept first w) (is : w.nodes v ≡ Some s) where
  pub mine : GoodNode first w.history v s
  mine = k.nodes v s is

  pub quiet_kept : (t : Node) → GoodNode first w.history v t → Kept first (moved w v (quiet t))
  quiet_kept t good = sent_kept first w v s (quiet t) k is (λ m none. absurd none) good

  pub says_quiet : (t : Node) → Follows w.history v s t → (m : Message) → In m w.history.messages → Fits w.history v t m
  says_quiet t f m at = fits_step first w.history v s t f m at (mine.says m at)

  pub same_kept : Kept first (moved w v (quiet s))
  same_kept = quiet_kept s mine

  no_leader_fallen : (r : Role) → is_leader (fallen r) ≡ true → ⊥
  no_leader_fallen Learner so = cc
  no_leader_fallen Follower so = cc
  no_leader_fallen Candidate so = cc
  no_leader_fallen Leader so = cc

  no_candidate_fallen : (r : Role) → is_candidate (fallen r) ≡ true → ⊥
  no_candidate_fallen Learner so = cc
  no_candidate_fallen Follower so = cc
  no_candidate_fallen Candidate so = cc
  no_candidate_fallen Leader so = cc

  learner_fallen : (r : Role) → is_learner (fallen r) ≡ true → is_learner r ≡ true
  learner_fallen Learner so = refl
  learner_fallen Follower so = cc
  learner_fallen Candidate so = cc
  learner_fallen Leader so = cc

  below_fallen : (r : Role) (t : ℕ) → cond (is_candidate (fallen r)) t (t + 1) ≡ t + 1
  below_fallen Learner t = refl
  below_fallen Follower t = refl
  below_fallen Candidate t = refl
  below_fallen Leader t = refl

  pub rise_kept : (t : ℕ) → Kept first (rise w v t s)
  rise_kept t = cond_both (nat_lt s.term t) (moved w v (quiet (risen s t))) w (Kept first)
      (λ b.
      let lt : s.term < t = ltb-true s.term t b in
      let now : below (risen s t) ≡ t + 1 = below_fallen s.role t in
      quiet_kept (risen s t) (record {
        alive = mine.alive;
        known = known_below first w.history (below s) (below (risen s t)) s.path (omega (arith, below_le s, now)) mine.known;
        fits = mine.fits;
        within = mine.within;
        settled = sealed_below first w.history (below s) (below (risen s t)) (take s.promised s.path) (omega (arith, below_le s, now)) mine.settled;
        leads = λ so. absurd (no_leader_fallen s.role so);
        stands = λ so. absurd (no_candidate_fallen s.role so);
        nothing = λ so. mine.nothing (learner_fallen s.role so);
        says = says_quiet (risen s t) (record {
          term = omega arith;
          vote = λ same. absurd (omega (arith, same));
          stands = λ same so. absurd (no_candidate_fallen s.role so);
          path = stays_path w.history v s (risen s t) refl;
        });
      }))
      (λ b. k)

  pub follow_kept : Kept first (moved w v (quiet (followed s)))
  follow_kept =
      let now : below (followed s) ≡ s.term + 1 = below_fallen s.role s.term in
      quiet_kept (followed s) (record {
        alive = mine.alive;
        known = known_below first w.history (below s) (below (followed s)) s.path (omega (arith, below_le s, now)) mine.known;
        fits = mine.fits;
        within = mine.within;
        settled = sealed_below first w.history (below s) (below (followed s)) (take s.promised s.path) (omega (arith, below_le s, now)) mine.settled;
        leads = λ so. absurd (no_leader_fallen s.role so);
        stands = λ so. absurd (no_candidate_fallen s.role so);
        nothing = λ so. mine.nothing (learner_fallen s.role so);
        says = says_quiet (followed s) (record {
          term = omega arith;
          vote = λ same c at. at;
          stands = λ same so. absurd (no_candidate_fallen s.role so);
          path = λ n x p at le front safe pre. pre;
        });
      })

  stood_from : (m : Message) → In m (AskVote (s.term + 1) v s.path ∷ Vote (s.term + 1) v v s.path ∷ []) → From first w.history (sends w.history (AskVote (s.term + 1) v s.path ∷ Vote (s.term + 1) v v s.path ∷ [])) v s (stood v s) m
  stood_from m (inl one) = subst (From first w.history (sends w.history (AskVote (s.term + 1) v s.path ∷ Vote (s.term + 1) v v s.path ∷ [])) v s (stood v s)) one
      (refl, known_below first w.history (below s) (s.term + 1) s.path (below_le s) mine.known)
  stood_from m (inr (inl two)) = subst (From first w.history (sends w.history (AskVote (s.term + 1) v s.path ∷ Vote (s.term + 1) v v s.path ∷ [])) v s (stood v s)) two
      (refl, omega arith, λ d same. absurd (omega (arith, same)), refl, inl refl, newer)
    where
      old : (t1 : ℕ) (r : Path) → In (Accepted t1 v r) (AskVote (s.term + 1) v s.path ∷ Vote (s.term + 1) v v s.path ∷ w.history.messages) → In (Accepted t1 v r) w.history.messages
      old t1 r (inl never) = cc
      old t1 r (inr (inl never)) = cc
      old t1 r (inr (inr at)) = at

      newer : Newer (sends w.history (AskVote (s.term + 1) v s.path ∷ Vote (s.term + 1) v v s.path ∷ [])) v (s.term + 1) (s.term + 1 + 1) s.path
      newer t1 p acc last lt safe = (mine.says (Accepted t1 v acc.0) (old t1 acc.0 acc.1) refl).1 p acc.2 (λ u r gt less at. safe u r gt (omega arith) at)
  stood_from m (inr (inr never)) = absurd never

  stood_fits : (m : Message) → In m (AskVote (s.term + 1) v s.path ∷ Vote (s.term + 1) v v s.path ∷ []) → Fits (sends w.history (AskVote (s.term + 1) v s.path ∷ Vote (s.term + 1) v v s.path ∷ [])) v (stood v s) m
  stood_fits m (inl one) = subst (Fits (sends w.history (AskVote (s.term + 1) v s.path ∷ Vote (s.term + 1) v v s.path ∷ [])) v (stood v s)) one (λ me. (omega arith, λ same stands. refl))
  stood_fits m (inr (inl two)) = subst (Fits (sends w.history (AskVote (s.term + 1) v s.path ∷ Vote (s.term + 1) v v s.path ∷ [])) v (stood v s)) two (λ me. (omega arith, λ same. refl), λ me. (omega arith, λ same stands. refl))
  stood_fits m (inr (inr never)) = absurd never

  stood_votes : (u : ℕ) → with_value (λ x. false) v true u ≡ true → In (Vote (s.term + 1) u v s.path) (AskVote (s.term + 1) v s.path ∷ Vote (s.term + 1) v v s.path ∷ w.history.messages)
  stood_votes u some = elim (value_cases (λ x. false) v true u) [
    | inl here ↦ inr (inl (ap (λ y. Vote (s.term + 1) y v s.path) (sym here.0)))
    | inr other ↦ absurd (let never : true ≡ false = sym some ∙ other.1 in cc)
  ]

  pub stand_kept : Kept first (moved w v (stand v s))
  stand_kept = cond_both (is_learner s.role || is_leader s.role) (quiet s) (record { node = stood v s; sent = AskVote (s.term + 1) v s.path ∷ Vote (s.term + 1) v v s.path ∷ [] }) (λ out. Kept first (moved w v out))
      (λ b. same_kept)
      (λ b.
      let sent : List Message = AskVote (s.term + 1) v s.path ∷ Vote (s.term + 1) v v s.path ∷ [] in
      let grows = sends_grows first w v sent in
      sent_kept first w v s (record { node = stood v s; sent = sent }) k is stood_from
      (record {
        alive = mine.alive;
        known = known_more first w.history (sends w.history sent) grows (below s) (s.term + 1) s.path (below_le s) mine.known;
        fits = mine.fits;
        within = mine.within;
        settled = sealed_more first w.history (sends w.history sent) grows (below s) (s.term + 1) (take s.promised s.path) (below_le s) mine.settled;
        leads = λ never. cc;
        stands = λ so. record {
          votes = stood_votes;
          apart = λ r at me.
              let began = (k.history.reigns (s.term + 1) r at).began in
              let old = mine.says (Accepted (s.term + 1) v r.base) (subst (λ y. In (Accepted (s.term + 1) y r.base) w.history.messages) me began) refl in
              absurd (let le = old.0 in omega arith);
        };
        nothing = λ never. cc;
        says = says_step first w v s (record { node = stood v s; sent = sent }) k is stood_from (record {
          term = omega arith;
          vote = λ same. absurd (omega (arith, same));
          stands = λ same. absurd (omega (arith, same));
          path = stays_path w.history v s (stood v s) refl;
        }) stood_fits;
      }))

  pub commit_kept : (i : ℕ) → Kept first (moved w v (commit s i))
  commit_kept i = cond_both (nat_le s.committed i && nat_le i s.promised) (quiet (record s { committed = i })) (quiet s) (λ out. Kept first (moved w v out))
      (λ b.
      let le : i ≤ s.promised = leb-true i s.promised (and_parts (nat_le s.committed i) (nat_le i s.promised) b).1 in
      quiet_kept (record s { committed = i }) (record {
        alive = mine.alive;
        known = mine.known;
        fits = mine.fits;
        within = le;
        settled = mine.settled;
        leads = λ so. let l = mine.leads so in record { reign = l.reign; is = l.is; leader = l.leader; path = l.path; own = l.own; marks = l.marks; short = l.short };
        stands = λ so. let l = mine.stands so in record { votes = l.votes; apart = l.apart };
        nothing = mine.nothing;
        says = says_quiet (record s { committed = i }) (record { term = omega arith; vote = λ same c at. at; stands = λ same so. (so, refl); path = λ n x p at le front safe pre. pre });
      }))
      (λ b. same_kept)

  -- a leader sends a front of its path, or a part, and stays as it was
  kept_with : (m : Message) → GoodMessage first w.history m → From first w.history (sends w.history (m ∷ [])) v s s m → Fits (sends w.history (m ∷ [])) v s m → Kept first (moved w v (record { node = s; sent = m ∷ [] }))
  kept_with m good from fits =
      let grows = sends_grows first w v (m ∷ []) in
      let froms : (x : Message) → In x (m ∷ []) → From first w.history (sends w.history (m ∷ [])) v s s x =
      λ x at. elim at [ inl one ↦ subst (From first w.history (sends w.history (m ∷ [])) v s s) one from | inr never ↦ absurd never ] in
      sent_kept first w v s (record { node = s; sent = m ∷ [] }) k is froms
      (record {
        alive = mine.alive;
        known = known_more first w.history (sends w.history (m ∷ [])) grows (below s) (below s) s.path (omega arith) mine.known;
        fits = mine.fits;
        within = mine.within;
        settled = sealed_more first w.history (sends w.history (m ∷ [])) grows (below s) (below s) (take s.promised s.path) (omega arith) mine.settled;
        leads = λ so. let l = mine.leads so in record { reign = l.reign; is = l.is; leader = l.leader; path = l.path; own = inr l.own; marks = λ u n le some. accepted_more first w.history (sends w.history (m ∷ [])) grows u s.term (take n s.path) (l.marks u n le some); short = l.short };
        stands = λ so. let l = mine.stands so in record { votes = λ u some. inr (l.votes u some); apart = l.apart };
        nothing = mine.nothing;
        says = says_step first w v s (record { node = s; sent = m ∷ [] }) k is froms (record { term = omega arith; vote = λ same c at. at; stands = λ same so. (so, refl); path = λ n x p at le front safe pre. pre })
            (λ x at. elim at [ inl one ↦ subst (Fits (sends w.history (m ∷ [])) v s) one fits | inr never ↦ absurd never ]);
      })

  pub led_settled : is_leader s.role ≡ true → Sealed w.history (s.term + 1) (take s.promised s.path)
  led_settled so = subst (λ b. Sealed w.history b (take s.promised s.path)) (leader_below s so) mine.settled

  short_front : (n i : ℕ) → IsFrontOf (take (min s.promised (length (take i s.path))) (take i s.path)) (take s.promised s.path)
  short_front n i =
      let q : Path = take i s.path in
      front_long (take (min s.promised (length q)) q) (take s.promised s.path) s.path
      (begins (take (min s.promised (length q)) q) q s.path (front_of (min s.promised (length q)) q) (front_of i s.path))
      (front_of s.promised s.path)
      (let a = length-take (min s.promised (length q)) q in let b = length-take-le s.promised s.path mine.fits in omega (arith, a, b))

  pub send_kept : (i : ℕ) → Kept first (moved w v (send s i))
  send_kept i = cond_both (is_leader s.role) (record { node = s; sent = Append s.term (take i s.path) s.promised s.committed ∷ [] }) (quiet s) (λ out. Kept first (moved w v out))
      (λ so.
      let l = mine.leads so in
      let good : GoodMessage first w.history (Append s.term (take i s.path) s.promised s.committed) = (
        (l.reign, l.is, subst (IsFrontOf (take i s.path)) (sym l.path) (front_of i s.path)),
        sealed_front w.history (s.term + 1) (take (min s.promised (length (take i s.path))) (take i s.path)) (take s.promised s.path) (short_front 0 i) (led_settled so),
      ) in
      kept_with (Append s.term (take i s.path) s.promised s.committed) good good tt)
      (λ never. same_kept)

  pub hand_kept : (i : ℕ) → Kept first (moved w v (hand s i))
  hand_kept i = cond_both (is_leader s.role && nat_le i s.committed) (record { node = s; sent = Part s.term (take i s.path) ∷ [] }) (quiet s) (λ out. Kept first (moved w v out))
      (λ b.
      let parts = and_parts (is_leader s.role) (nat_le i s.committed) b in
      let le : i ≤ s.committed = leb-true i s.committed parts.1 in
      let good : GoodMessage first w.history (Part s.term (take i s.path)) = (
        known_below first w.history (below s) (s.term + 1) (take i s.path) (below_le s) (known_front first w.history (below s) (take i s.path) s.path (front_of i s.path) mine.known),
        sealed_front w.history (s.term + 1) (take i s.path) (take s.promised s.path) (take_front i s.promised s.path (omega (arith, mine.within))) (led_settled parts.0),
      ) in
      kept_with (Part s.term (take i s.path)) good good tt)
      (λ never. same_kept)

-- A replica is asked for its vote, hears a vote, hears an acceptance.
use Rattle.std.proofs.Common.{◌≡◌, ℕ, ◌+◌, ◌<◌, ◌≤◌, ◌==◌, true, ◌&&◌, nat_le, max, inl, inr, Option, Some, None, [], ◌∷◌, length, take, refl, sym, ap, ◌∙◌, subst, arith}
use Rattle.std.proofs.lemmas.Bool.{and_parts, leb-true, eqb-true, cond_both, cases_lt}
use Rattle.replica_model.specs.Path.{Path, last_term}
use Rattle.group_quorum.specs.Conf.{Conf}
use Rattle.path_machine.specs.Node.{common, Node, Message, AskVote, Vote, Accepted, with_value, quiet, is_leader, is_candidate, is_vote_for, asked, heard, accepted}
use Rattle.group_model.specs.Log.{IsFrontOf}
use Rattle.path_machine.proofs.Fronts.{front_of}
use Rattle.replica_model.specs.Votes.{as_new}
use Rattle.path_machine.specs.Machine.{History, Machine, In, moved, sends}
use Rattle.path_machine.proofs.Same.{common_same, common_le, max_cases}
use Rattle.path_machine.proofs.Completeness.{as_new_holds}
use Rattle.path_machine.proofs.Good.{HasAccepted, Newer, below, Fits, GoodNode, Kept}
use Rattle.path_machine.proofs.Grow.{known_more, sealed_more, accepted_more}
use Rattle.path_laws.proofs.Steps.{value_cases, some_same, From, sends_grows, sent_kept, says_step}
use Rattle.path_laws.proofs.Local.{known_below, mine, quiet_kept, says_quiet, same_kept}

module _ (first : Conf) (w : Machine) (v : ℕ) (s : Node) (k : Kept first w) (is : w.nodes v ≡ Some s) where
  abbrev me : GoodNode first w.history v s
  me = mine first w v s k is

  abbrev voted : ℕ → Node
  voted u = record s { vote = Some u }

  voted_for : (o : Option ℕ) (u d : ℕ) → is_vote_for o u ≡ true → o ≡ Some d → d ≡ u
  voted_for None u d for at = absurd (let apart : None ≡ Some d = at in cc)
  voted_for (Some c) u d for at = sym (some_same c d at) ∙ eqb-true c u for

  pub asked_kept : (u : ℕ) (q : Path) → In (AskVote s.term u q) w.history.messages → Kept first (moved w v (asked v s u q))
  asked_kept u q at = cond_both (is_vote_for s.vote u && as_new s.path (length q) (last_term q)) (record { node = voted u; sent = Vote s.term v u q ∷ [] }) (quiet s) (λ out. Kept first (moved w v out))
      (λ b.
      let parts = and_parts (is_vote_for s.vote u) (as_new s.path (length q) (last_term q)) b in
      let m : Message = Vote s.term v u q in
      let g : History = sends w.history (m ∷ []) in
      let grows = sends_grows first w v (m ∷ []) in
      let newer : Newer g v s.term (s.term + 1) q = λ t1 p acc last lt safe.
      let old : In (Accepted t1 v acc.0) w.history.messages = elim acc.1 [ inl apart ↦ cc | inr old ↦ old ] in
      let pre : IsFrontOf p s.path = (me.says (Accepted t1 v acc.0) old refl).1 p acc.2 safe in
      as_new_holds first w.history (below s) s.term t1 p s.path q me.known (known_below first w.history s.term (s.term + 1) q (omega arith) (k.history.messages (AskVote s.term u q) at)) pre last safe parts.1 in
      let from : From first w.history g v s (voted u) m =
      (refl, omega arith, λ d same vote. voted_for s.vote u d parts.0 vote, refl, inr at, newer) in
      let froms : (x : Message) → In x (m ∷ []) → From first w.history g v s (voted u) x = λ x here. elim here [ inl one ↦ subst (From first w.history g v s (voted u)) one from | inr never ↦ absurd never ] in
      let fits : Fits g v (voted u) m = (λ own. (omega arith, λ same. refl), λ own. me.says (AskVote s.term u q) at own) in
      sent_kept first w v s (record { node = voted u; sent = m ∷ [] }) k is froms
      (record {
        alive = me.alive;
        known = known_more first w.history g grows (below s) (below s) s.path (omega arith) me.known;
        fits = me.fits;
        within = me.within;
        settled = sealed_more first w.history g grows (below s) (below s) (take s.promised s.path) (omega arith) me.settled;
        leads = λ so. let l = me.leads so in record { reign = l.reign; is = l.is; leader = l.leader; path = l.path; own = inr l.own; marks = λ x n le some. accepted_more first w.history g grows x s.term (take n s.path) (l.marks x n le some); short = l.short };
        stands = λ so. let l = me.stands so in record { votes = λ x some. inr (l.votes x some); apart = l.apart };
        nothing = me.nothing;
        says = says_step first w v s (record { node = voted u; sent = m ∷ [] }) k is froms
            (record {
              term = omega arith;
              vote = λ same c had. ap Some (sym (voted_for s.vote u c parts.0 had));
              stands = λ same so. (so, refl);
              path = λ n x p here le front safe pre. pre;
            })
            (λ x here. elim here [ inl one ↦ subst (Fits g v (voted u)) one fits | inr never ↦ absurd never ]);
      }))
      (λ b. same_kept first w v s k is)

  abbrev counts : ℕ → Node
  counts u = record s { votes = with_value s.votes u true }

  pub heard_kept : (u c : ℕ) (q : Path) → In (Vote s.term u c q) w.history.messages → Kept first (moved w v (heard v s u c))
  heard_kept u c q at = cond_both ((c == v) && is_candidate s.role) (quiet (counts u)) (quiet s) (λ out. Kept first (moved w v out))
      (λ b.
      let parts = and_parts (c == v) (is_candidate s.role) b in
      let own : c ≡ v = eqb-true c v parts.0 in
      let same : s.path ≡ q = ((me.says (Vote s.term u c q) at).1 own).1 refl parts.1 in
      let l = me.stands parts.1 in
      let vote : In (Vote s.term u v s.path) w.history.messages = subst (λ y. In (Vote s.term u v y) w.history.messages) (sym same) (subst (λ y. In (Vote s.term u y q) w.history.messages) own at) in
      quiet_kept first w v s k is (counts u) (record {
        alive = me.alive;
        known = me.known;
        fits = me.fits;
        within = me.within;
        settled = me.settled;
        leads = λ so. let l' = me.leads so in record { reign = l'.reign; is = l'.is; leader = l'.leader; path = l'.path; own = l'.own; marks = l'.marks; short = l'.short };
        stands = λ so. record {
          votes = λ x some. elim (value_cases s.votes u true x) [
            | inl here ↦ subst (λ y. In (Vote s.term y v s.path) w.history.messages) (sym here.0) vote
            | inr other ↦ l.votes x (sym other.1 ∙ some)
          ];
          apart = l.apart;
        };
        nothing = me.nothing;
        says = says_quiet first w v s k is (counts u) (record { term = omega arith; vote = λ same c at. at; stands = λ same so. (so, refl); path = λ n x p at le front safe pre. pre });
      }))
      (λ b. same_kept first w v s k is)

  abbrev marked : ℕ → Path → Node
  marked u r = record s { marks = with_value s.marks u (max (s.marks u) (length r)) }

  pub accepted_kept : (u : ℕ) (r : Path) → In (Accepted s.term u r) w.history.messages → Kept first (moved w v (accepted s u r))
  accepted_kept u r at = cond_both (is_leader s.role && nat_le (length r) (common s.path r)) (quiet (marked u r)) (quiet s) (λ out. Kept first (moved w v out))
      (λ b.
      let parts = and_parts (is_leader s.role) (nat_le (length r) (common s.path r)) b in
      let le : length r ≤ common s.path r = leb-true (length r) (common s.path r) parts.1 in
      let l = me.leads parts.0 in
      let here : (n : ℕ) → n ≤ max (s.marks u) (length r) → 0 < n → HasAccepted w.history u s.term (take n s.path) = λ n upto some. elim (cases_lt (s.marks u) n) [
        | inr old ↦ l.marks u n old some
        | inl new ↦
            let short : n ≤ length r = elim (max_cases (s.marks u) (length r)) [ inl a ↦ absurd (omega (arith, a)) | inr a ↦ omega (arith, a) ] in
            (r, at, subst (λ y. IsFrontOf y r) (sym (common_same n s.path r (omega arith))) (front_of n r))
      ] in
      quiet_kept first w v s k is (marked u r) (record {
        alive = me.alive;
        known = me.known;
        fits = me.fits;
        within = me.within;
        settled = me.settled;
        leads = λ so. record {
          reign = l.reign;
          is = l.is;
          leader = l.leader;
          path = l.path;
          own = l.own;
          marks = λ x n upto some. elim (value_cases s.marks u (max (s.marks u) (length r)) x) [
            | inl mine ↦ subst (λ y. HasAccepted w.history y s.term (take n s.path)) (sym mine.0) (here n (subst (λ y. n ≤ y) mine.1 upto) some)
            | inr other ↦ l.marks x n (subst (λ y. n ≤ y) other.1 upto) some
          ];
          short = λ x. elim (value_cases s.marks u (max (s.marks u) (length r)) x) [
            | inl mine ↦ subst (λ y. y ≤ length s.path) (sym mine.1) (elim (max_cases (s.marks u) (length r)) [ inl a ↦ omega (arith, a, l.short u) | inr a ↦ omega (arith, a, common_le s.path r) ])
            | inr other ↦ subst (λ y. y ≤ length s.path) (sym other.1) (l.short x)
          ];
        };
        stands = λ so. let l' = me.stands so in record { votes = l'.votes; apart = l'.apart };
        nothing = me.nothing;
        says = says_quiet first w v s k is (marked u r) (record { term = omega arith; vote = λ same c at. at; stands = λ same so. (so, refl); path = λ n x p at le front safe pre. pre });
      }))
      (λ b. same_kept first w v s k is)

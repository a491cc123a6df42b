-- Elections and requests are moves of the node.
use Rattle.path_machine.specs.Node.{Node, Outcome, with_value}
use Rattle.step_walk.specs.Rules.{IsHolder}
use Rattle.step_walk.proofs.Outcomes as may
use Rattle.step_walk.proofs.Outcomes.{same_to_each}
use Rattle.std.proofs.Common.{◌≡◌, ℕ, ◌+◌, ◌<◌, ◌≤◌, ◌⊎◌, inl, inr, Bool, true, false, ◌&&◌, ◌||◌, ◌==◌, nat_lt, Option, Some, List, [], ◌∷◌, ◌++◌, length, refl, sym, ap, ◌∙◌, subst, arith}
use Rattle.std.proofs.lemmas.Bool.{cond_both, cond-true, and_parts, and_from, or_cases, cases_eq, eqb-true, eq-eqb, le-ltb}
use Rattle.std.proofs.lemmas.Map.Views.{any-filter_same}
use Rattle.std.proofs.lemmas.Option.{same_Some}
use Rattle.values.specs.declared.entry.Body.{Body}
use Rattle.values.specs.declared.entry.Body.TheVariants.{Noop, Ask}
use Rattle.values.specs.declared.entry.LogEntry.{LogEntry}
use Rattle.values.specs.declared.ids.ClientId.{ClientId}
use Rattle.values.specs.declared.peer.PeerMsg.TheVariants.{AskVote, Vote}
use Rattle.client_msgs.specs.Canonical.{canonical_request}
use Rattle.client_msgs.specs.Reading.{request_of}
use Rattle.group_quorum.specs.Conf.{Conf}
use Rattle.group_quorum.specs.Voters.{is_in}
use Rattle.replica_model.specs.Path.{Path, Link, last_term}
use Rattle.replica_model.specs.Enough.{met_by_both}
use Rattle.replica_model.specs.Message.{Message, plain}
use Rattle.replica_model.specs.Replica.{Role, Candidate, Leader, Leading, Replica, Named}
use Rattle.replica_model.specs.Peers.{others, voters_counted}
use Rattle.replica_model.specs.Call.{Call, still, says, empty_batch}
use Rattle.replica_model.specs.Raise.{pushed}
use Rattle.replica_model.specs.Votes.{is_elected, leading_anew, led, win, stood, asks_votes, stand, as_new, vote_asked, with_vote, vote_heard}
use Rattle.replica_model.specs.Clients.{asked, client_request}
use Rattle.group_model.specs.Log.{IsFrontOf}
use Rattle.path_machine.specs.Node as node
use Rattle.path_machine.specs.Machine.{Machine, In}
use Rattle.path_machine.specs.Changes.{is_single_change}
use Rattle.path_machine.proofs.Changes.{single_change_overlaps}
use Rattle.path_machine.proofs.Counted.{both_more}
use Rattle.path_laws.proofs.Goes.{reached_laws, wins, pushes, takes_message}
use Rattle.path_laws.proofs.Goes as goes
use Rattle.halt_laws.proofs.Alike.{kind, node_as, VoteFits, LeadingFits, RoleFits, MsgFits, On, At, Is}
use Rattle.halt_laws.proofs.Onward.{own_term, no_learner, holder_first, known_of, here_as, Going, onward, turned, says_went}
use Rattle.halt_laws.proofs.Raising.{led_node, lead_at, raise_went}
use Rattle.halt_laws.proofs.Leading.{anew_fits, pushed_fits}

pub not_above : (n : ℕ) → nat_lt n n ≡ false
not_above n = le-ltb n n (omega arith)

-- a vote after one more is that one or was there before
in_votes : (s : Replica) (votes : List ℕ) (from u : ℕ) → is_in (with_vote s votes from) u ≡ true → (u ≡ from) ⊎ (is_in votes u ≡ true)
in_votes s votes from u heard =
    let voted : ℕ → Bool = λ v. v == from || is_in votes v in
    let both : (voted u && is_in (voters_counted s) u) ≡ true =
    sym (any-filter_same (λ x. x == u) voted (voted u) (λ v e. ap voted (eqb-true v u e)) (voters_counted s)) ∙ heard in
    elim (or_cases (u == from) (is_in votes u) (and_parts (voted u) (is_in (voters_counted s) u) both).0) [
      | inl here ↦ inl (eqb-true u from here)
      | inr old ↦ inr old
    ]

-- whom the replica may vote for, the node may
vote_free : (vote from : ℕ) (voted : Option ℕ) → VoteFits vote voted → (vote == 0 || vote == from) ≡ true → node.is_vote_for voted from ≡ true
vote_free vote from voted (inl none) ok = subst (λ o. node.is_vote_for o from ≡ true) (sym none) refl
vote_free vote from voted (inr one) ok =
    let some : 0 < vote = one.0 in
    subst (λ o. node.is_vote_for o from ≡ true) (sym one.1)
    (elim (or_cases (vote == 0) (vote == from) ok) [
      | inl zero ↦ absurd (let is : vote ≡ 0 = eqb-true vote 0 zero in omega arith)
      | inr same ↦ same
    ])

module _ (link : Link) (first : Conf) (holds : ℕ → Bool) (Held : Path → Type 0) (closed : (p w : Path) → IsFrontOf p w → Held w → Held p) (w : Machine) (v : ℕ) where
  -- a leader pushes an entry
  pub pushing : (x : Machine) (s : Replica) (l l' : Leading) (a : Is first holds x v s) (is : s.role ≡ Leader l) → LeadingFits s.path s.committed l' a.marks → (body : Body) → node.may_push first is_single_change (led_node first v s l a.voted a.votes a.marks a.mine (known_of first holds x v s a l is).0 (known_of first holds x v s a l is).1) body ≡ true → (role : Role) → role ≡ Leader l'
      → (g : On first holds x v (node.pushed (led_node first v s l a.voted a.votes a.marks a.mine (known_of first holds x v s a l is).0 (known_of first holds x v s a l is).1) body) (node.Accepted s.term v (s.path ++ record { term = s.term; body = body } ∷ []) ∷ []) [])
      × At first holds g.machine v s.me s.first (s.path ++ record { term = s.term; body = body } ∷ []) s.base s.promised s.committed s.term s.vote role s.halted
  pushing x s l l' a is fits body may role leads =
      let known = known_of first holds x v s a l is in
      let n : Node = led_node first v s l a.voted a.votes a.marks a.mine known.0 known.1 in
      let stands = here_as first holds x v s a (Leader l) is in
      let laws = reached_laws first is_single_change single_change_overlaps holds x a.reached in
      let within : s.committed ≤ s.promised = laws.committed_promised v n stands in
      let promised : s.promised ≤ length s.path = laws.promised_held v n stands in
      let e : LogEntry = record { term = s.term; body = body } in
      let g : On first holds x v (node.pushed n body) (node.Accepted s.term v (s.path ++ e ∷ []) ∷ []) [] = pushes first is_single_change single_change_overlaps holds x v n a.reached stands body may in (
        g,
        lead_at first holds g.machine v s.me s.first (s.path ++ e ∷ []) s.base s.promised s.committed s.term s.vote role s.halted l' leads g.reached a.voted a.votes a.marks g.here a.mine a.some a.based a.vote_is known.0
            (pushed_fits s.path s.committed l' a.marks e (omega arith) fits) a.awake,
      )

  -- win
  pub win_went : (s : Replica) (votes : List ℕ) → s.role ≡ Candidate votes → is_elected s votes ≡ true → Going link first holds Held w v (still s) → Going link first holds Held w v (win s)
  win_went s votes is elected f =
      let a = f.at in
      let of_first = subst (λ r. RoleFits first s.first s.path s.committed r a.votes a.marks) is a.acts in
      let n : Node = node_as node.Candidate s.term s.path s.promised s.committed a.voted a.votes a.marks in
      let enough : met_by_both first s.path s.committed a.votes a.votes ≡ true =
      both_more first s.path s.committed (is_in votes) (is_in votes) a.votes a.votes of_first.1 of_first.1
      (subst (λ c. met_by_both c s.path s.committed (is_in votes) (is_in votes) ≡ true) of_first.0 elected) in
      let g : On first holds f.now v (node.led n) (node.Accepted s.term v s.path ∷ []) [] =
      wins first is_single_change single_change_overlaps holds f.now v n a.reached (here_as first holds f.now v s a (Candidate votes) is) refl enough in
      let l : Leading = leading_anew s in
      let c : Call = record (still (led s l)) { batch = record empty_batch { lead = Some s.term } } in
      let fits : LeadingFits s.path s.committed l (λ u. 0) = anew_fits s s.path s.committed (λ u. 0) (omega arith) in
      let laws = reached_laws first is_single_change single_change_overlaps holds g.machine g.reached in
      let f1 : Going link first holds Held w v c =
      onward link first holds Held w v (still s) c f (node.led n) (node.Accepted s.term v s.path ∷ []) g
      (record { reached = g.reached; voted = a.voted; votes = a.votes; marks = λ u. 0; here = g.here; mine = a.mine; some = a.some; based = a.based; vote_is = a.vote_is; acts = (of_first.0, fits); awake = a.awake })
      refl (λ held. held) (λ held x. x)
      (λ t same. inr (s.path, subst (λ k. In (record { term = k; leader = v; path = s.path }) g.machine.leads) (same_Some s.term t same) (laws.lead_recorded v (node.led n) g.here refl)))
      refl in
      let e : LogEntry = record { term = s.term; body = Noop } in
      let known = known_of first holds f1.now v (led s l) f1.at l (refl {a = Leader l}) in
      let n1 : Node = led_node first v (led s l) l f1.at.voted f1.at.votes f1.at.marks f1.at.mine known.0 known.1 in
      let p = pushing f1.now (led s l) l l f1.at (refl {a = Leader l}) (f1.at.acts).1 Noop (refl {a = true}) (Leader l) (refl {a = Leader l}) in
      let c' : Call = record (still (pushed (led s l) Noop)) { batch = record empty_batch { lead = Some s.term } } in
      let f2 : Going link first holds Held w v c' =
      onward link first holds Held w v c c' f1 (node.pushed n1 Noop) (node.Accepted s.term v (s.path ++ e ∷ []) ∷ []) p.0 p.1 refl (closed s.path (s.path ++ e ∷ []) (e ∷ [], refl)) (λ held x. x) (λ t same. inl same) refl in
      raise_went link first holds Held w v c' l f2 refl

  -- stand for election
  pub stand_went : (s : Replica) → (node.is_learner (kind s.role) || node.is_leader (kind s.role)) ≡ false → IsHolder s.role → Going link first holds Held w v (still s) → Going link first holds Held w v (stand s)
  stand_went s behind holder f = may.stand_by (Going link first holds Held w v) s f
      (λ b.
      let a = f.at in
      let n : Node = node_as (kind s.role) s.term s.path s.promised s.committed a.voted a.votes a.marks in
      let said : List node.Message = node.AskVote (s.term + 1) v s.path ∷ node.Vote (s.term + 1) v v s.path ∷ [] in
      let g : On first holds f.now v (node.stood v n) said [] = goes.stands first is_single_change single_change_overlaps holds f.now v n a.reached a.here behind in
      let s' : Replica = stood s in
      let theirs = holder_first first s.first s.path s.committed s.role a.votes a.marks holder a.acts in
      let some = a.some in
      let stood_at : Is first holds g.machine v s' =
      record {
        reached = g.reached;
        voted = Some v;
        votes = with_value (λ u. false) v true;
        marks = λ u. 0;
        here = g.here;
        mine = a.mine;
        some = a.some;
        based = a.based;
        vote_is = inr (subst (λ k. 0 < k) (sym a.mine) some, ap Some (sym a.mine));
        acts = (theirs, λ u heard. mine_alone s.me a.mine u heard);
        awake = a.awake;
      } in (
        λ elected. win_went s' (s.me ∷ []) refl elected (turned link first holds Held w v s s' f (node.stood v n) said g stood_at (λ held. held)),
        onward link first holds Held w v (still s) (asks_votes s') f (node.stood v n) said g stood_at refl (λ held. held)
            (λ held x. same_to_each (λ (m : ℕ × Message). MsgFits link first Held g.machine.history.messages v m.0 m.1.names m.1.msg) (plain (AskVote (s.term + 1) (length s.path) (last_term s.path))) (λ to. (s.path, g.said (node.AskVote (s.term + 1) v s.path) (inl refl), refl, refl)) (others s.me (voters_counted s')))
            (λ t same. inl same) refl,
      ))
    where
      mine_alone : (me : ℕ) → me ≡ v → (u : ℕ) → is_in (me ∷ []) u ≡ true → with_value (λ x. false) v true u ≡ true
      mine_alone me is u heard = elim (or_cases (me == u) false heard) [
        | inl same ↦ cond-true (u == v) true false (eq-eqb u v (sym (eqb-true me u same) ∙ is))
        | inr never ↦ absurd (let apart : false ≡ true = never in cc)
      ]

  -- vote asked
  pub vote_asked_went : (s : Replica) → IsHolder s.role → (from last_index last : ℕ) (names : Named) → 0 < from → (f : Going link first holds Held w v (still s)) → MsgFits link first Held f.now.history.messages from v names (AskVote s.term last_index last) → Going link first holds Held w v (vote_asked s from last_index last)
  vote_asked_went s holder from last_index last names some f k = may.vote_asked_by (Going link first holds Held w v) s from last_index last
      (λ ok.
      let a = f.at in
      let n : Node = node_as (kind s.role) s.term s.path s.promised s.committed a.voted a.votes a.marks in
      let p : Path = k.0 in
      let m : node.Message = node.AskVote s.term from p in
      let out : Outcome = record { node = record n { vote = Some from }; sent = node.Vote s.term v from p ∷ [] } in
      let parts = and_parts (s.vote == 0 || s.vote == from) (as_new s.path last_index last) ok in
      let newer : as_new s.path (length p) (last_term p) ≡ true = subst (λ i. as_new s.path i (last_term p) ≡ true) (sym k.2) (subst (λ t. as_new s.path last_index t ≡ true) (sym k.3) parts.1) in
      let free : (node.is_vote_for a.voted from && as_new s.path (length p) (last_term p)) ≡ true = and_from (node.is_vote_for a.voted from) (as_new s.path (length p) (last_term p)) (vote_free s.vote from a.voted a.vote_is parts.0) newer in
      let does : node.takes v n false m ≡ out = own_term v n false m (no_learner s.role holder) refl ∙ cond-true _ out (node.quiet n) free in
      let g : On first holds f.now v out.node out.sent [] = takes_message first is_single_change single_change_overlaps holds f.now v n a.reached a.here false m out k.1 (not_above s.term) does in
      let s' : Replica = record s { vote = from } in
      onward link first holds Held w v (still s) (says s' from (Vote s.term true)) f out.node out.sent g
      (record { reached = g.reached; voted = Some from; votes = a.votes; marks = a.marks; here = g.here; mine = a.mine; some = a.some; based = a.based; vote_is = inr (some, refl); acts = a.acts; awake = a.awake })
      refl (λ held. held)
      (λ held x. (λ yes. (p, g.said (node.Vote s.term v from p) (inl refl)), tt))
      (λ t same. inl same) refl)
      (says_went link first holds Held w v (still s) f from (plain (Vote s.term false)) (λ held yes. absurd (let apart : false ≡ true = yes in cc)))

  -- vote heard
  pub vote_heard_went : (s : Replica) (votes : List ℕ) → s.role ≡ Candidate votes → (from : ℕ) (granted : Bool) (names : Named) → (f : Going link first holds Held w v (still s)) → MsgFits link first Held f.now.history.messages from v names (Vote s.term granted) → Going link first holds Held w v (vote_heard s (Candidate votes) from granted)
  vote_heard_went s votes is from granted names f k = may.vote_heard_by (Going link first holds Held w v) s f votes from granted
      (λ yes.
      let a = f.at in
      let of_first = subst (λ r. RoleFits first s.first s.path s.committed r a.votes a.marks) is a.acts in
      let n : Node = node_as node.Candidate s.term s.path s.promised s.committed a.voted a.votes a.marks in
      let o = k yes in
      let m : node.Message = node.Vote s.term from v o.0 in
      let t : Node = record n { votes = with_value a.votes from true } in
      let does : node.takes v n false m ≡ node.quiet t = own_term v n false m refl refl ∙ cond-true (v == v && true) (node.quiet t) (node.quiet n) (and_from (v == v) true (eq-eqb v v refl) refl) in
      let g : On first holds f.now v t [] [] = takes_message first is_single_change single_change_overlaps holds f.now v n a.reached (here_as first holds f.now v s a (Candidate votes) is) false m (node.quiet t) o.1 (not_above s.term) does in
      let s' : Replica = record s { role = Candidate (with_vote s votes from) } in
      let counted_at : Going link first holds Held w v (still s') =
      turned link first holds Held w v s s' f t [] g
      (record {
        reached = g.reached;
        voted = a.voted;
        votes = with_value a.votes from true;
        marks = a.marks;
        here = g.here;
        mine = a.mine;
        some = a.some;
        based = a.based;
        vote_is = a.vote_is;
        acts = (
          of_first.0,
          λ u heard. elim (cases_eq u from) [
            | inl here ↦ cond-true (u == from) true (a.votes u) (eq-eqb u from here)
            | inr other ↦ elim (in_votes s votes from u heard) [
              | inl same ↦ absurd (other same)
              | inr old ↦ cond_both (u == from) true (a.votes u) (λ b. b ≡ true) (λ b. refl) (λ b. of_first.1 u old)
            ]
          ],
        );
        awake = a.awake;
      })
      (λ held. held) in
      (λ elected. win_went s' (with_vote s votes from) refl elected counted_at, counted_at))

  -- a client's request
  pub client_went : (s : Replica) (client : ClientId) (number : ℕ) (bytes : List ℕ) → Going link first holds Held w v (still s) → Going link first holds Held w v (client_request s client number bytes)
  client_went s client number bytes f = may.on_request_by (Going link first holds Held w v) s client number (request_of bytes) f (λ why. f)
      (λ l request read is.
      let body : Body = Ask client number (canonical_request request) in
      let e : LogEntry = record { term = s.term; body = body } in
      let p = pushing f.now s l l f.at is (known_of first holds f.now v s f.at l is).1 body refl s.role is in
      raise_went link first holds Held w v (still (asked s client number request)) l
      (turned link first holds Held w v s (asked s client number request) f _ _ p.0 p.1 (closed s.path (s.path ++ e ∷ []) (e ∷ [], refl))) is)

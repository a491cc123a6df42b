-- What a leader hears of its appends and its tables, its timer, and what a learner takes, are moves of the node.
use Rattle.step_walk.proofs.Outcomes as may
use Rattle.step_walk.proofs.Outcomes.{again_by}
use Rattle.std.proofs.Common.{◌≡◌, ℕ, ◌+◌, ◌<◌, ◌≤◌, inl, inr, Bool, false, ◌==◌, nat_lt, min, max, Option, Some, None, List, [], ◌∷◌, length, take, refl, sym, ap, ◌∙◌, subst, arith}
use Rattle.std.specs.Prelude.{filter_map, option_map}
use Rattle.std.specs.List.{cons_option}
use Rattle.std.proofs.lemmas.Bool.{cond_both, cond-true, and_parts, cases_Bool, eq-eqb, le-leb, le-ltb, ltb-false, ltb-true}
use Rattle.std.proofs.lemmas.List.{length-take-le}
use Rattle.values.specs.declared.entry.Point.{Point}
use Rattle.values.specs.declared.peer.TablePart.{TablePart}
use Rattle.values.specs.declared.peer.PeerMsg.TheVariants.{Part}
use Rattle.group_quorum.specs.Conf.{Conf}
use Rattle.replica_model.specs.declared.Progress.{Progress}
use Rattle.replica_model.specs.Path.{Path, Link}
use Rattle.replica_model.specs.Keyed.{value_at, put, without}
use Rattle.replica_model.specs.Message.{Message}
use Rattle.replica_model.specs.Replica.{Named, Sending, Taking, Learner, Leader, Leading, Replica}
use Rattle.replica_model.specs.Peers.{is_peer, peers, progress_of, with_progress, leads_with}
use Rattle.replica_model.specs.Call.{Call, still}
use Rattle.replica_model.specs.Graft.{matches}
use Rattle.replica_model.specs.Heard.{accepted_upto, accepted_heard, rejected_heard}
use Rattle.replica_model.specs.Tables.{part_message, taken_with, takes_whole, take_part, sends_next, part_taken}
use Rattle.replica_model.specs.Ticks.{sent_again, all_again, parts_again, leader_tick}
use Rattle.group_model.specs.Log.{IsFrontOf}
use Rattle.log_laws.proofs.Chain.{NoCollisionIn, same_points}
use Rattle.log_laws.proofs.Leading.{front}
use Rattle.log_laws.proofs.Offered.{matches_is}
use Rattle.path_machine.specs.Node as node
use Rattle.path_machine.specs.Node.{Node, with_value, common}
use Rattle.path_machine.specs.Machine.{Machine, In}
use Rattle.path_machine.specs.Changes.{is_single_change}
use Rattle.path_machine.proofs.Changes.{single_change_overlaps}
use Rattle.path_machine.proofs.Fronts.{common_ge}
use Rattle.path_laws.proofs.Goes.{reached_laws, hands, takes_message, rises}
use Rattle.halt_laws.proofs.Alike.{kind, node_as, LeadingFits, RoleFits, AcceptedFits, MsgFits, On}
use Rattle.halt_laws.proofs.Onward.{own_term, known_of, here_as, Going, onward, turned, says_went, restated, leads_on}
use Rattle.halt_laws.proofs.Raising.{led_node, lead_at, raise_went}
use Rattle.halt_laws.proofs.Electing.{not_above}
use Rattle.halt_laws.proofs.Leading.{put_fits, sending_put, sending_gone}

module _ (link : Link) (first : Conf) (holds : ℕ → Bool) (Held : Path → Type 0) (closed : (p w : Path) → IsFrontOf p w → Held w → Held p) (none : NoCollisionIn link Held) (w : Machine) (v : ℕ) (s : Replica) (f : Going link first holds Held w v (still s)) where
  module _ (l : Leading) (is : s.role ≡ Leader l) where
    abbrev known : (s.first ≡ first) × LeadingFits s.path s.committed l f.at.marks
    known = known_of first holds f.now v s f.at l is

    abbrev n : Node
    n = led_node first v s l f.at.voted f.at.votes f.at.marks f.at.mine (known_of first holds f.now v s f.at l is).0 (known_of first holds f.now v s f.at l is).1

    stands : f.now.nodes v ≡ Some n
    stands = here_as first holds f.now v s f.at (Leader l) is

    within : s.committed ≤ s.promised
    within = (reached_laws first is_single_change single_change_overlaps holds f.now f.at.reached).committed_promised v n stands

    promised_fits : s.promised ≤ length s.path
    promised_fits = (reached_laws first is_single_change single_change_overlaps holds f.now f.at.reached).promised_held v n stands

    -- accepted heard
    pub accepted_at : Held s.path → (from : ℕ) (end : Point) (promised : ℕ) → AcceptedFits link Held f.now.history.messages s.term from end → Going link first holds Held w v (accepted_heard link s (Leader l) from end promised)
    accepted_at mine from end promised x =
        let p : Progress = accepted_upto (progress_of l from) end.index promised in
        let l' : Leading = with_progress l from p in
        may.accepted_heard_by (Going link first holds Held w v) link s f l from (λ c done. done) end promised (λ done. done)
        (λ b.
        let at = matches_is link s end (and_parts (is_peer s l from) (matches link s end) b).1 in
        let same : take end.index s.path ≡ x.path =
        same_points link Held none closed end.index (take end.index s.path) x.path (length-take-le end.index s.path at.0) x.end_is
        (closed (take end.index s.path) s.path (front end.index s.path) mine) x.held (at.1 ∙ sym x.hash_is) in
        let begun : IsFrontOf x.path s.path = subst (λ y. IsFrontOf y s.path) same (front end.index s.path) in
        let all : length x.path ≤ common s.path x.path = common_ge x.path s.path x.path begun ([], Rattle.std.proofs.Common.append-nil x.path) in
        let m : node.Message = node.Accepted s.term from x.path in
        let marks : ℕ → ℕ = with_value f.at.marks from (max (f.at.marks from) (length x.path)) in
        let t : Node = record n { marks = marks } in
        let does : node.takes v n false m ≡ node.quiet t = own_term v n false m refl refl ∙ cond-true _ (node.quiet t) (node.quiet n) (le-leb (length x.path) (common s.path x.path) all) in
        let g : On first holds f.now v t [] [] = takes_message first is_single_change single_change_overlaps holds f.now v n f.at.reached stands false m (node.quiet t) x.stands (not_above s.term) does in
        let next_fits = known.1.next_fits from in
        let mark_fits = known.1.mark_fits from in
        let marked = known.1.marked from in
        let fits = at.0 in
        let end_is = x.end_is in
        let more : (u : ℕ) → f.at.marks u ≤ marks u = λ u. cond_both (u == from) (max (f.at.marks from) (length x.path)) (f.at.marks u) (λ k. f.at.marks u ≤ k)
        (λ here. let same : f.at.marks u ≡ f.at.marks from = ap f.at.marks (Rattle.std.proofs.lemmas.Bool.eqb-true u from here) in omega (arith, same))
        (λ other. omega arith) in
        let here : marks from ≡ max (f.at.marks from) (length x.path) = cond-true (from == from) (max (f.at.marks from) (length x.path)) (f.at.marks from) (eq-eqb from from refl) in
        let fits' : LeadingFits s.path s.committed l' marks = put_fits s.path s.committed l f.at.marks marks from p (omega arith) (omega arith) (omega (arith, here, end_is)) more known.1 in
        let f1 : Going link first holds Held w v (still (leads_with s l')) = turned link first holds Held w v s (leads_with s l') f t [] g
        (lead_at first holds g.machine v s.me s.first s.path s.base s.promised s.committed s.term s.vote (Leader l') s.halted l' refl g.reached f.at.voted f.at.votes marks g.here f.at.mine f.at.some f.at.based f.at.vote_is known.0 fits' f.at.awake)
        (λ held. held) in
        raise_went link first holds Held w v (still (leads_with s l')) l' f1 refl)

    -- the replica leads with this, and nothing else moves
    leading_on : (l' : Leading) → LeadingFits s.path s.committed l' f.at.marks → Going link first holds Held w v (still (leads_with s l'))
    leading_on l' fits = leads_on link first holds Held w v (still s) l l' f is fits

    -- the next index of a peer is put
    next_put : (marks : ℕ → ℕ) (l' : Leading) (u next : ℕ) → LeadingFits s.path s.committed l' marks → next ≤ length s.path + 1 → LeadingFits s.path s.committed (with_progress l' u (record (progress_of l' u) { next = next })) marks
    next_put marks l' u next fits le = put_fits s.path s.committed l' marks marks u (record (progress_of l' u) { next = next }) le (fits.mark_fits u) (fits.marked u) (λ x. omega arith) fits

    -- rejected heard
    pub rejected_at : (from hint : ℕ) → Going link first holds Held w v (rejected_heard s (Leader l) from hint)
    rejected_at from hint =
        let l' : Leading = record l { sendings = without l.sendings from } in
        let fits : LeadingFits s.path s.committed l' f.at.marks = sending_gone s.path s.committed l f.at.marks from known.1 in
        may.rejected_heard_by (Going link first holds Held w v) link s f l from (λ c done. done) hint (leading_on l' fits) (leading_on _ (next_put f.at.marks l' from (min hint (length s.path) + 1) fits (omega arith)))

    -- the next part goes out
    next_went : (from : ℕ) (on : Sending) → length on.path ≤ s.committed → take (length on.path) s.path ≡ on.path → Going link first holds Held w v (sends_next link s l from on)
    next_went from on le same =
        let i : ℕ = length on.path in
        let said : node.Message = node.Part s.term (take i s.path) in
        let g : On first holds f.now v n (said ∷ []) [] = hands first is_single_change single_change_overlaps holds f.now v n f.at.reached stands i refl (le-leb i s.committed le) in
        let l' : Leading = record l { sendings = put l.sendings from on } in
        onward link first holds Held w v (still s) (sends_next link s l from on) f n (said ∷ []) g
        (lead_at first holds g.machine v s.me s.first s.path s.base s.promised s.committed s.term s.vote (Leader l') s.halted l' refl g.reached f.at.voted f.at.votes f.at.marks g.here f.at.mine f.at.some f.at.based f.at.vote_is known.0 (sending_put s.path s.committed l f.at.marks from on le same known.1) f.at.awake)
        refl (λ held. held)
        (λ held old. ((subst (λ (y : Path). In (node.Part s.term y) g.machine.history.messages) same (g.said said (inl refl)), known.0), tt))
        (λ t is'. inl is') refl

    -- what was taken of a table
    pub taken_at : (from : ℕ) (point : Point) (next : ℕ) → Going link first holds Held w v (part_taken link s (Leader l) from point next)
    taken_at from point next = may.part_taken_by (Going link first holds Held w v) link s f l from (λ c done. done) point next
        (λ sending has.
        let l' : Leading = record l { sendings = without l.sendings from } in
        let x = known.1.sendings from sending has in (
          leading_on _ (next_put f.at.marks l' from (length sending.path + 1) (sending_gone s.path s.committed l f.at.marks from known.1) (omega (arith, x.0, within, promised_fits))),
          λ later. next_went from (record sending { part = next }) x.0 x.1,
        ))

    -- a leader's tick
    again_fits : (marks : ℕ → ℕ) (l' : Leading) (u : ℕ) → LeadingFits s.path s.committed l' marks → LeadingFits s.path s.committed (with_progress l' u (sent_again s (progress_of l' u))) marks
    again_fits marks l' u fits = cond_both ((progress_of l' u).mark == 0) (progress_of l' u) (record (progress_of l' u) { next = max (progress_of l' u).mark s.base + 1 }) (λ p. LeadingFits s.path s.committed (with_progress l' u p) marks)
        (λ b. put_fits s.path s.committed l' marks marks u (progress_of l' u) (fits.next_fits u) (fits.mark_fits u) (fits.marked u) (λ x. omega arith) fits)
        (λ b.
        let mark_fits = fits.mark_fits u in
        let based = f.at.based in
        next_put marks l' u (max (progress_of l' u).mark s.base + 1) fits (omega (arith, within, promised_fits)))

    -- the call with these parts sent
    abbrev handed : List (ℕ × Message) → Call
    handed sent = record (still s) { sent = sent }

    one_part : (u : ℕ) (o : Option Sending) (sent : List (ℕ × Message)) → value_at l.sendings u ≡ o → (h : Going link first holds Held w v (handed sent)) → Going link first holds Held w v (handed (cons_option (option_map (λ sending. (u, part_message link s sending)) o) sent))
    one_part u None sent stood h = h
    one_part u (Some sending) sent stood h =
        let known' = known_of first holds h.now v s h.at l is in
        let x = known.1.sendings u sending stood in
        let i : ℕ = length sending.path in
        let n' : Node = led_node first v s l h.at.voted h.at.votes h.at.marks h.at.mine known'.0 known'.1 in
        let said : node.Message = node.Part s.term (take i s.path) in
        let g : On first holds h.now v n' (said ∷ []) [] = hands first is_single_change single_change_overlaps holds h.now v n' h.at.reached (here_as first holds h.now v s h.at (Leader l) is) i refl (le-leb i s.committed x.0) in
        onward link first holds Held w v (handed sent) (handed ((u, part_message link s sending) ∷ sent)) h n' (said ∷ []) g
        (lead_at first holds g.machine v s.me s.first s.path s.base s.promised s.committed s.term s.vote s.role s.halted l is g.reached h.at.voted h.at.votes h.at.marks g.here h.at.mine h.at.some h.at.based h.at.vote_is known'.0 known'.1 h.at.awake)
        refl (λ held. held)
        (λ held old. ((subst (λ (y : Path). In (node.Part s.term y) g.machine.history.messages) x.1 (g.said said (inl refl)), known.0), old))
        (λ t is'. inl is') refl

    parts_went : (us : List ℕ) → Going link first holds Held w v (handed (filter_map (λ u. option_map (λ sending. (u, part_message link s sending)) (value_at l.sendings u)) us))
    parts_went [] = f
    parts_went (u ∷ us) = one_part u (value_at l.sendings u) (filter_map (λ x. option_map (λ sending. (x, part_message link s sending)) (value_at l.sendings x)) us) refl (parts_went us)

    pub tick_at : Going link first holds Held w v (leader_tick link s l)
    tick_at =
        let h = parts_went (peers s l) in
        let known' = known_of first holds h.now v s h.at l is in
        leads_on link first holds Held w v (handed (parts_again link s l)) l (all_again s l (peers s l)) h is (again_by (λ l. LeadingFits s.path s.committed l h.at.marks) s (again_fits h.at.marks) (peers s l) l known'.1)

  module _ (mine : Held s.path) (t : Taking) (is : s.role ≡ Learner t) where
    -- with the last part a learner holds a table's path
    whole_went : (from limit term : ℕ) (part : TablePart) (names : Named) → term ≤ s.term → In (node.Part term names.path) f.now.history.messages → names.first ≡ first → Going link first holds Held w v (takes_whole link s from part names limit)
    whole_went from limit term part names low stands of_first =
        let a = f.at in
        let n : Node = node_as node.Learner s.term s.path s.promised s.committed a.voted a.votes a.marks in
        let m : node.Message = node.Part term names.path in
        let t' : Node = node.taken n term names.path in
        let g : On first holds f.now v t' [] [] = takes_message first is_single_change single_change_overlaps holds f.now v n a.reached (here_as first holds f.now v s a (Learner t) is) false m (node.quiet t') stands (le-ltb s.term term low) refl in
        let high : max s.term term ≡ s.term = omega arith in
        onward link first holds Held w v (still s) (takes_whole link s from part names limit) f t' [] g
        (record {
          reached = g.reached;
          voted = a.voted;
          votes = a.votes;
          marks = a.marks;
          here = subst (λ k. g.machine.nodes v ≡ Some (node_as node.Follower k names.path (length names.path) (length names.path) a.voted a.votes a.marks)) high g.here;
          mine = a.mine;
          some = a.some;
          based = omega arith;
          vote_is = a.vote_is;
          acts = of_first;
          awake = a.awake;
        })
        refl (λ held. mine) (λ held old. (tt, tt)) (λ k same. inl same) refl

    -- a part that is not the last one is kept in mind
    taking_went : (t' : Taking) → Going link first holds Held w v (still (record s { role = Learner t' }))
    taking_went t' =
        let a = f.at in
        restated link first holds Held w v (still s) (record s { role = Learner t' }) f
        (record { reached = a.reached; voted = a.voted; votes = a.votes; marks = a.marks; here = here_as first holds f.now v s a (Learner t) is; mine = a.mine; some = a.some; based = a.based; vote_is = a.vote_is; acts = tt; awake = a.awake })
        refl

    part_went : (from term : ℕ) (part : TablePart) (names : Named) → term ≤ s.term → In (node.Part term names.path) f.now.history.messages → names.first ≡ first → Going link first holds Held w v (take_part link s t from part names)
    part_went from term part names low stands of_first =
        may.take_part_by (Going link first holds Held w v) link s t from part names
        (λ b. (
          whole_went from (taken_with t part names).names.limit term part names low stands of_first,
          says_went link first holds Held w v (still (record s { role = Learner (taken_with t part names) })) (taking_went (taken_with t part names)) from _ (λ held. tt),
        ))
        (says_went link first holds Held w v (still s) f from _ (λ held. tt))

module _ (link : Link) (first : Conf) (holds : ℕ → Bool) (Held : Path → Type 0) (closed : (p w : Path) → IsFrontOf p w → Held w → Held p) (none : NoCollisionIn link Held) (w : Machine) (v : ℕ) (s : Replica) (f : Going link first holds Held w v (still s)) (mine : Held s.path) (t : Taking) (is : s.role ≡ Learner t) where
  -- a learner takes the term alone
  learner_rises : (term : ℕ) → Going link first holds Held w v (still (record s { term = max s.term term }))
  learner_rises term = elim (cases_Bool (nat_lt s.term term)) [
    | inl up ↦
        let a = f.at in
        let n : Node = node_as node.Learner s.term s.path s.promised s.committed a.voted a.votes a.marks in
        let g : On first holds f.now v (node.risen n term) [] [] = rises first is_single_change single_change_overlaps holds f.now v n a.reached (here_as first holds f.now v s a (Learner t) is) term up in
        let higher : term ≡ max s.term term = let lt : s.term < term = ltb-true s.term term up in omega arith in
        let here : g.machine.nodes v ≡ Some (node_as (kind s.role) (max s.term term) s.path s.promised s.committed None (λ u. false) (λ u. 0)) =
        subst (λ k. g.machine.nodes v ≡ Some (node_as (kind s.role) k s.path s.promised s.committed None (λ u. false) (λ u. 0))) higher
        (subst (λ r. g.machine.nodes v ≡ Some (node_as (kind r) term s.path s.promised s.committed None (λ u. false) (λ u. 0))) (sym is) g.here) in
        turned link first holds Held w v s (record s { term = max s.term term }) f (node.risen n term) [] g
        (record {
          reached = g.reached;
          voted = None;
          votes = λ u. false;
          marks = λ u. 0;
          here = here;
          mine = a.mine;
          some = a.some;
          based = a.based;
          vote_is = inl refl;
          acts = subst (λ r. RoleFits first s.first s.path s.committed r (λ u. false) (λ u. 0)) (sym is) tt;
          awake = a.awake;
        })
        (λ held. held)
    | inr low ↦
        let le : term ≤ s.term = ltb-false s.term term low in
        let same : s.term ≡ max s.term term = omega arith in
        subst (λ k. Going link first holds Held w v (still (record s { term = k }))) same f
  ]

  -- a learner takes parts alone
  pub learner_went : (from : ℕ) (names : Named) (term : ℕ) (part : TablePart) → MsgFits link first Held w.history.messages from v names (Part term part) → Going link first holds Held w v (take_part link (record s { term = max s.term term }) t from part names)
  learner_went from names term part x =
      let h = learner_rises term in
      part_went link first holds Held closed none w v (record s { term = max s.term term }) h mine t is from term part names (omega arith) (h.later.messages (node.Part term names.path) x.0) x.1

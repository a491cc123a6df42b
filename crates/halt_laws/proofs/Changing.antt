-- Changes of the members are moves of the node: each is a single change.
use Rattle.step_walk.proofs.Outcomes as may
use Rattle.std.proofs.Common.{◌≡◌, ℕ, ◌+◌, ◌≤◌, inl, inr, Bool, true, false, cond, not, ◌&&◌, nat_le, Option, Some, None, [], ◌∷◌, ◌++◌, length, take, refl, sym, ap, ◌∙◌, subst, arith}
use Rattle.std.proofs.lemmas.Bool.{cond-true, cond-false, cases_Bool, and_parts, and_from, le-leb, ltb-false}
use Rattle.std.proofs.lemmas.Option.{none-some}
use Rattle.std.proofs.lemmas.List.{length-take-le}
use Rattle.values.specs.declared.batch.Refusal.{Refusal}
use Rattle.values.specs.declared.entry.Body.{Body}
use Rattle.values.specs.declared.entry.Body.TheVariants.{Members}
use Rattle.values.specs.declared.entry.LogEntry.{LogEntry}
use Rattle.group_quorum.specs.Conf.{Conf}
use Rattle.group_quorum.specs.Voters.{is_in}
use Rattle.replica_model.specs.Path.{Path, Link}
use Rattle.replica_model.specs.Configs.{conf, conf_index}
use Rattle.replica_model.specs.Replica.{Leader, Leading, Replica}
use Rattle.replica_model.specs.Peers.{is_pending, newest, others, leads_with}
use Rattle.replica_model.specs.Call.{Call, still, empty_batch, send_to}
use Rattle.replica_model.specs.Raise.{pushed}
use Rattle.replica_model.specs.Tables.{part_message}
use Rattle.replica_model.specs.Changes.{join_refusal, admit_refusal, remove_refusal, margin_refusal, joined, join, push_members, with_voter, without_voter, admit, remove, set_margin}
use Rattle.group_model.specs.Log.{IsFrontOf}
use Rattle.log_laws.proofs.Good.{front_refl}
use Rattle.path_machine.specs.Node as node
use Rattle.path_machine.specs.Node.{Node}
use Rattle.path_machine.specs.Machine.{Machine}
use Rattle.path_machine.specs.Changes.{is_rising, is_single_change}
use Rattle.path_machine.proofs.Changes.{single_change_overlaps}
use Rattle.path_machine.proofs.Rising.{admission_is_single, removal_is_single, margin_is_single}
use Rattle.path_laws.proofs.Goes.{reached_laws, hands}
use Rattle.halt_laws.proofs.Alike.{LeadingFits, On}
use Rattle.halt_laws.proofs.Onward.{known_of, here_as, Going, onward}
use Rattle.halt_laws.proofs.Raising.{led_node, lead_at, raise_went}
use Rattle.halt_laws.proofs.Leading.{put_fits, sending_put}
use Rattle.halt_laws.proofs.Electing.{pushing}

-- a refusal whose test failed, and what comes after it
passed : (b : Bool) (r : Refusal) (rest : Option Refusal) → cond b (Some r) rest ≡ None → (b ≡ false) × (rest ≡ None)
passed b r rest none = elim (cases_Bool b) [
  | inl holds ↦ absurd (none-some r (sym none ∙ cond-true b (Some r) rest holds))
  | inr fails ↦ (fails, sym (cond-false b (Some r) rest fails) ∙ none)
]

not_fails : (b : Bool) → not b ≡ false → b ≡ true
not_fails true h = refl
not_fails false h = absurd (let apart : true ≡ false = h in cc)

module _ (link : Link) (first : Conf) (rises : is_rising first.voters ≡ true) (holds : ℕ → Bool) (Held : Path → Type 0) (closed : (p w : Path) → IsFrontOf p w → Held w → Held p) (w : Machine) (v : ℕ) (s : Replica) (f : Going link first holds Held w v (still s)) where
  module _ (l : Leading) (is : s.role ≡ Leader l) where
    abbrev known : (s.first ≡ first) × LeadingFits s.path s.committed l f.at.marks
    known = known_of first holds f.now v s f.at l is

    abbrev n : Node
    n = led_node first v s l f.at.voted f.at.votes f.at.marks f.at.mine (known_of first holds f.now v s f.at l is).0 (known_of first holds f.now v s f.at l is).1

    stands : f.now.nodes v ≡ Some n
    stands = here_as first holds f.now v s f.at (Leader l) is

    -- the voters of the newest configuration rise
    voters_rise : is_rising (newest s).voters ≡ true
    voters_rise =
        let laws = reached_laws first is_single_change single_change_overlaps holds f.now f.at.reached in
        let upto : is_rising (conf first s.path).voters ≡ true = elim (laws.changes s.path (s.path, laws.path_recorded v n stands, front_refl s.path)) [
          | inl same ↦ subst (λ (c : Conf). is_rising c.voters ≡ true) (sym same) rises
          | inr step ↦ (and_parts (is_rising (conf first s.path).voters) _ step.1).0
        ] in
        subst (λ c. is_rising (conf c s.path).voters ≡ true) (sym known.0) upto

    -- join
    pub join_went : (id : ℕ) (linked : Bool) → Going link first holds Held w v (join link s l id linked)
    join_went id linked = may.unless_by (Going link first holds Held w v) s (join_refusal s l id linked) _ (λ r at. f)
        (λ fine.
        let laws = reached_laws first is_single_change single_change_overlaps holds f.now f.at.reached in
        let within : s.committed ≤ s.promised = laws.committed_promised v n stands in
        let fits : s.promised ≤ length s.path = laws.promised_held v n stands in
        let long : length (take s.committed s.path) ≡ s.committed = length-take-le s.committed s.path (omega arith) in
        let said : node.Message = node.Part s.term (take s.committed s.path) in
        let g : On first holds f.now v n (said ∷ []) [] = hands first is_single_change single_change_overlaps holds f.now v n f.at.reached stands s.committed refl (le-leb s.committed s.committed (omega arith)) in
        let l' : Leading = joined s l id in
        let put : LeadingFits s.path s.committed l' f.at.marks =
        (let k = put_fits s.path s.committed l f.at.marks f.at.marks id (record { next = s.committed + 1; mark = 0; promised = 0 }) (omega arith) (omega arith) (omega arith) (λ x. omega arith) known.1 in
        let t = sending_put s.path s.committed l f.at.marks id (record { path = take s.committed s.path; part = 0 }) (omega (arith, long)) (ap (λ i. take i s.path) long) known.1 in
        record { next_fits = k.next_fits; mark_fits = k.mark_fits; marked = k.marked; sendings = t.sendings }) in
        onward link first holds Held w v (still s) (send_to (still (leads_with s l')) id (part_message link s (record { path = take s.committed s.path; part = 0 }))) f n (said ∷ []) g
        (lead_at first holds g.machine v s.me s.first s.path s.base s.promised s.committed s.term s.vote (Leader l') s.halted l' refl g.reached f.at.voted f.at.votes f.at.marks g.here f.at.mine f.at.some f.at.based f.at.vote_is known.0 put f.at.awake)
        refl (λ held. held)
        (λ held old. ((g.said said (inl refl), known.0), tt))
        (λ t same. inl same) refl)

    -- a Members entry is pushed
    push_members_went : (l' : Leading) (c : Conf) → LeadingFits s.path s.committed l' f.at.marks → is_pending s ≡ false → is_single_change (newest s) c ≡ true → Going link first holds Held w v (push_members s l' c)
    push_members_went l' c fits settled single =
        let body : Body = Members c.margin c.voters in
        let e : LogEntry = record { term = s.term; body = body } in
        let single' : is_single_change (conf first s.path) c ≡ true = subst (λ x. is_single_change (conf x s.path) c ≡ true) known.0 single in
        let may : (nat_le (conf_index s.path) s.committed && is_single_change (conf first s.path) c) ≡ true = and_from (nat_le (conf_index s.path) s.committed) (is_single_change (conf first s.path) c) (le-leb (conf_index s.path) s.committed (ltb-false s.committed (conf_index s.path) settled)) single' in
        let p = pushing link first holds Held closed w v f.now s l l' f.at is fits body may (Leader l') refl in
        let c' : Call = record (still (pushed (leads_with s l') body)) { batch = record empty_batch { members = (length s.path + 1, c.margin, c.voters) ∷ [] } } in
        raise_went link first holds Held w v c' l'
        (onward link first holds Held w v (still s) c' f _ _ p.0 p.1 refl (closed s.path (s.path ++ e ∷ []) (e ∷ [], refl)) (λ held x. x) (λ t same. inl same) refl)
        refl

    pub admit_went : (id : ℕ) → Going link first holds Held w v (admit s l id)
    admit_went id = may.unless_by (Going link first holds Held w v) s (admit_refusal s l id) _ (λ r at. f)
        (λ fine.
        let p1 = passed _ _ _ fine in
        let p2 = passed _ _ _ p1.1 in
        let p3 = passed _ _ _ p2.1 in
        push_members_went (record l { learners = others id l.learners }) (with_voter (newest s) id)
        (record { next_fits = known.1.next_fits; mark_fits = known.1.mark_fits; marked = known.1.marked; sendings = known.1.sendings })
        p2.0 (admission_is_single (newest s) id voters_rise p3.0))

    pub remove_went : (id : ℕ) → Going link first holds Held w v (remove s l id)
    remove_went id = may.unless_by (Going link first holds Held w v) s (remove_refusal s id) _ (λ r at. f)
        (λ fine.
        let p1 = passed _ _ _ fine in
        let p2 = passed _ _ _ p1.1 in
        let p3 = passed _ _ _ p2.1 in
        push_members_went l (without_voter (newest s) id) known.1 p2.0 (removal_is_single (newest s) id voters_rise (not_fails (is_in (newest s).voters id) p3.0)))

    pub margin_went : (margin : ℕ) → Going link first holds Held w v (set_margin s l margin)
    margin_went margin = may.unless_by (Going link first holds Held w v) s (margin_refusal s margin) _ (λ r at. f)
        (λ fine.
        let p1 = passed _ _ _ fine in
        let p2 = passed _ _ _ p1.1 in
        push_members_went l (record (newest s) { margin = margin }) known.1 p2.0 (margin_is_single (newest s) margin voters_rise))

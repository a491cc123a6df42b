-- Who leads and what is held after any move is recorded, and stays so.
use Rattle.std.proofs.Common.{◌≡◌, ℕ, ◌==◌, Bool, true, false, cond, inl, inr, Option, Some, None, List, [], ◌∷◌, slice_get, refl, sym, ◌∙◌, subst}
use Rattle.std.proofs.lemmas.Bool.{cond_both, cases_eq}
use Rattle.group_quorum.specs.Conf.{Conf}
use Rattle.path_machine.specs.Node.{Learner, Follower, Node, Message, Outcome, with_value, quiet, empty, is_leader, risen, followed, stand, led, pushed, promising, commit, send, hand, term_of, takes}
use Rattle.path_machine.specs.Machine.{Lead, Machine, Move, Do, Deliver, Act, Rise, Follow, Stand, Win, Push, Note, Raise, Commit, Send, Hand, Crash, start, moved, noted, acts, by, rise, come, deliver, happens, mover, with_lead, seen, next, run, In}
use Rattle.path_laws.proofs.Steps.{value_cases, some_same}

-- what is recorded of the nodes
pub record Recorded (w : Machine) : Type 0 where
  pub leads : (v : ℕ) (s : Node) → w.nodes v ≡ Some s → is_leader s.role ≡ true → In (record { term = s.term; leader = v; path = s.path }) w.leads
  pub held : (v : ℕ) (s : Node) → w.nodes v ≡ Some s → In s.path w.held

-- one node alone is changed, and nothing recorded
pub record Touches (w : Machine) (v : ℕ) (x : Machine) : Type 0 where
  pub others : (u : ℕ) → (u ≡ v → ⊥) → x.nodes u ≡ w.nodes u
  pub leads : x.leads ≡ w.leads
  pub held : x.held ≡ w.held

pub at_other : (w : Machine) (v : ℕ) (o : Option Node) (u : ℕ) → (u ≡ v → ⊥) → with_value w.nodes v o u ≡ w.nodes u
at_other w v o u apart = elim (value_cases w.nodes v o u) [ inl here ↦ absurd (apart here.0) | inr other ↦ other.1 ]

touch_refl : (w : Machine) (v : ℕ) → Touches w v w
touch_refl w v = record { others = λ u apart. refl; leads = refl; held = refl }

touch_moved : (w : Machine) (v : ℕ) (out : Outcome) → Touches w v (moved w v out)
touch_moved w v out = record { others = λ u apart. at_other w v (Some out.node) u apart; leads = refl; held = refl }

touch_both : (w x y : Machine) (v : ℕ) → Touches w v x → Touches x v y → Touches w v y
touch_both w x y v a b = record { others = λ u apart. b.others u apart ∙ a.others u apart; leads = b.leads ∙ a.leads; held = b.held ∙ a.held }

touch_noted : (first : Conf) (w : Machine) (v : ℕ) (s : Node) (wanted : ℕ → Bool) → Touches w v (noted first w v s wanted)
touch_noted first w v s wanted = record { others = λ u apart. refl; leads = refl; held = refl }

module _ (first : Conf) (near : Conf → Conf → Bool) where
  pub touch_acts : (w : Machine) (v : ℕ) (act : Act) (s : Node) → Touches w v (acts first near w v act s)
  touch_acts w v (Rise t) s = cond_both _ _ w (Touches w v) (λ b. touch_moved w v (quiet (risen s t))) (λ b. touch_refl w v)
  touch_acts w v Follow s = touch_moved w v (quiet (followed s))
  touch_acts w v Stand s = touch_moved w v (stand v s)
  touch_acts w v Win s = cond_both _ _ w (Touches w v) (λ b. record { others = λ u apart. at_other w v (Some (led s)) u apart; leads = refl; held = refl }) (λ b. touch_refl w v)
  touch_acts w v (Push b) s = cond_both _ _ w (Touches w v) (λ x. record { others = λ u apart. at_other w v (Some (pushed s b)) u apart; leads = refl; held = refl }) (λ x. touch_refl w v)
  touch_acts w v (Note wanted) s = touch_noted first w v s wanted
  touch_acts w v (Raise i) s = cond_both _ _ w (Touches w v)
      (λ b. touch_both w (noted first w v s (λ j. j == i)) (moved (noted first w v s (λ j. j == i)) v (quiet (promising s i))) v (touch_noted first w v s (λ j. j == i)) (touch_moved (noted first w v s (λ j. j == i)) v (quiet (promising s i))))
      (λ b. touch_refl w v)
  touch_acts w v (Commit i) s = touch_moved w v (commit s i)
  touch_acts w v (Send i) s = touch_moved w v (send s i)
  touch_acts w v (Hand i) s = touch_moved w v (hand s i)
  touch_acts w v Crash s = record { others = λ u apart. at_other w v None u apart; leads = refl; held = refl }

  touch_by : (w : Machine) (v : ℕ) (o : Option Node) (f : Node → Machine) → ((s : Node) → Touches w v (f s)) → Touches w v (by o w f)
  touch_by w v None f all = touch_refl w v
  touch_by w v (Some s) f all = cond_both s.halted w (f s) (Touches w v) (λ b. touch_refl w v) (λ b. all s)

  touch_deliver : (w : Machine) (v : ℕ) (refuses : Bool) (o : Option Message) → Touches w v (deliver w v refuses o)
  touch_deliver w v refuses None = touch_refl w v
  touch_deliver w v refuses (Some m) =
      let x : Machine = by (w.nodes v) w (rise w v (term_of m)) in
      touch_both w x (come x v refuses m) v
      (touch_by w v (w.nodes v) (rise w v (term_of m)) (λ s. touch_acts w v (Rise (term_of m)) s))
      (touch_by x v (x.nodes v) (λ s. moved x v (takes v s refuses m)) (λ s. touch_moved x v (takes v s refuses m)))

  pub touch_happens : (w : Machine) (e : Move) → Touches w (mover e) (happens first near w e)
  touch_happens w (Do v act) = touch_by w v (w.nodes v) (acts first near w v act) (λ s. touch_acts w v act s)
  touch_happens w (Deliver v i refuses) = touch_deliver w v refuses (slice_get w.history.messages i)

  lead_stays : (v : ℕ) (s : Node) (leads : List Lead) (l : Lead) → In l leads → In l (with_lead v s leads)
  lead_stays v s leads l at = cond_both (is_leader s.role) (record { term = s.term; leader = v; path = s.path } ∷ leads) leads (In l) (λ b. inr at) (λ b. at)

  lead_now : (v : ℕ) (s : Node) (leads : List Lead) → is_leader s.role ≡ true → In (record { term = s.term; leader = v; path = s.path }) (with_lead v s leads)
  lead_now v s leads so = cond_both (is_leader s.role) (record { term = s.term; leader = v; path = s.path } ∷ leads) leads (In (record { term = s.term; leader = v; path = s.path }))
      (λ b. inl refl)
      (λ other. absurd (let apart : true ≡ false = sym so ∙ other in cc))

  seen_recorded : (w x : Machine) (v : ℕ) (o : Option Node) → x.nodes v ≡ o → Recorded w → Touches w v x → Recorded (seen x v o)
  seen_recorded w x v None is r t = record {
    leads = λ u s at so. elim (cases_eq u v) [
      | inl same ↦ absurd (let apart : None ≡ Some s = sym is ∙ subst (λ y. x.nodes y ≡ Some s) same at in cc)
      | inr apart ↦ subst (In (record { term = s.term; leader = u; path = s.path })) (sym t.leads) (r.leads u s (sym (t.others u apart) ∙ at) so)
    ];
    held = λ u s at. elim (cases_eq u v) [
      | inl same ↦ absurd (let apart : None ≡ Some s = sym is ∙ subst (λ y. x.nodes y ≡ Some s) same at in cc)
      | inr apart ↦ subst (In s.path) (sym t.held) (r.held u s (sym (t.others u apart) ∙ at))
    ];
  }
  seen_recorded w x v (Some n) is r t = record {
    leads = λ u s at so. elim (cases_eq u v) [
      | inl same ↦
          let one : n ≡ s = some_same n s (sym is ∙ subst (λ y. x.nodes y ≡ Some s) same at) in
          let now = lead_now v n x.leads (subst (λ y. is_leader y.role ≡ true) (sym one) so) in
          subst (λ y. In (record { term = s.term; leader = y; path = s.path }) (with_lead v n x.leads)) (sym same)
          (subst (λ y. In (record { term = y.term; leader = v; path = y.path }) (with_lead v n x.leads)) one now)
      | inr apart ↦ lead_stays v n x.leads (record { term = s.term; leader = u; path = s.path }) (subst (In (record { term = s.term; leader = u; path = s.path })) (sym t.leads) (r.leads u s (sym (t.others u apart) ∙ at) so))
    ];
    held = λ u s at. elim (cases_eq u v) [
      | inl same ↦
          let one : n ≡ s = some_same n s (sym is ∙ subst (λ y. x.nodes y ≡ Some s) same at) in
          inl (subst (λ y. n.path ≡ y.path) one refl)
      | inr apart ↦ inr (subst (In s.path) (sym t.held) (r.held u s (sym (t.others u apart) ∙ at)))
    ];
  }

  next_recorded : (w : Machine) (e : Move) → Recorded w → Recorded (next first near w e)
  next_recorded w e r =
      let x : Machine = happens first near w e in
      seen_recorded w x (mover e) (x.nodes (mover e)) refl r (touch_happens w e)

  pub run_recorded : (w : Machine) (moves : List Move) → Recorded w → Recorded (run first near w moves)
  run_recorded w [] r = r
  run_recorded w (e ∷ moves) r = run_recorded (next first near w e) moves (next_recorded w e r)

start_role : (b : Bool) → is_leader (empty (cond b Follower Learner)).role ≡ true → ⊥
start_role true so = cc
start_role false so = cc

pub start_recorded : (begins : ℕ → Bool) → Recorded (start begins)
start_recorded begins = record {
  leads = λ v s is so.
      let same : empty (cond (begins v) Follower Learner) ≡ s = some_same (empty (cond (begins v) Follower Learner)) s is in
      absurd (start_role (begins v) (subst (λ y. is_leader y.role ≡ true) (sym same) so));
  held = λ v s is.
      let same : empty (cond (begins v) Follower Learner) ≡ s = some_same (empty (cond (begins v) Follower Learner)) s is in
      inl (subst (λ y. [] ≡ y.path) same refl);
}

-- What a leader has enough acceptances for is chosen, and may be promised.
use Rattle.std.proofs.Common.{◌≡◌, ℕ, zero, suc, ◌+◌, ◌<◌, ◌≤◌, ◌==◌, Bool, true, ◌&&◌, nat_lt, nat_le, inl, inr, Some, [], ◌∷◌, ◌++◌, length, take, refl, sym, ap, ◌∙◌, subst, append_assoc, arith}
use Rattle.std.proofs.lemmas.Bool.{and_parts, and_from, eq-eqb, leb-true, ltb-true, eqb-true, cond_both, cond-true, cases_order}
use Rattle.values.specs.declared.entry.LogEntry.{LogEntry}
use Rattle.replica_model.specs.Path.{Path, last_term, term_at}
use Rattle.group_quorum.specs.Conf.{Conf}
use Rattle.group_model.specs.Log.{IsFrontOf}
use Rattle.agreement.proofs.Fronts.{begins}
use Rattle.replica_model.proofs.Paths.{last_term-take}
use Rattle.path_machine.proofs.Fronts.{front_refl, front_append, front_of}
use Rattle.path_machine.specs.Node.{Node, quiet, is_leader, may_choose, mark, promising}
use Rattle.path_machine.specs.Machine.{raise, choosing, noted, Choice, History, Machine, In, Chosen, moved, choices, seen}
use Rattle.replica_model.specs.Enough.{is_enough}
use Rattle.path_machine.proofs.Good.{ledger, Settled, Known, Fixed, GoodChoice, GoodHistory, below, Leads, GoodNode, OfReign, Kept}
use Rattle.path_machine.proofs.Grow.{lead_more, Grows, known_more, fixed_more, history_more, node_more}
use Rattle.path_laws.proofs.Steps.{in_append, in_left, in_right}
use Rattle.path_laws.proofs.Local.{leader_below, quiet_kept, says_quiet}
use Rattle.path_laws.proofs.Voters.{chosen_fixed}

-- the parts of the test
pub record MayParts (first : Conf) (v : ℕ) (s : Node) (i : ℕ) : Type 0 where
  pub so : is_leader s.role ≡ true
  pub some : 0 < i
  pub le : i ≤ length s.path
  pub last : last_term (take i s.path) ≡ s.term
  pub wins : is_enough first s.path i (mark v s) s.committed ≡ true

pub may_parts : (first : Conf) (v : ℕ) (s : Node) (i : ℕ) → may_choose first v s i ≡ true → MayParts first v s i
may_parts first v s i ok =
    let wins : Bool = is_enough first s.path i (mark v s) s.committed in
    let p1 = and_parts (is_leader s.role) (nat_lt 0 i && (nat_le i (length s.path) && ((term_at s.path i == s.term) && wins))) ok in
    let p3 = and_parts (nat_lt 0 i) (nat_le i (length s.path) && ((term_at s.path i == s.term) && wins)) p1.1 in
    let p4 = and_parts (nat_le i (length s.path)) ((term_at s.path i == s.term) && wins) p3.1 in
    let p5 = and_parts (term_at s.path i == s.term) wins p4.1 in
    let le : i ≤ length s.path = leb-true i (length s.path) p4.0 in
    record { so = p1.0; some = ltb-true 0 i p3.0; le = le; last = last_term-take i s.path le ∙ eqb-true (term_at s.path i) s.term p5.0; wins = p5.1 }

-- the choice of an index
abbrev pub choice : Node → ℕ → Choice
choice s i = record { term = s.term; path = take i s.path }

-- what is wanted and may be chosen is among the choices
pub choice_in : (first : Conf) (v : ℕ) (s : Node) (wanted : ℕ → Bool) (n i : ℕ) → i ≤ n → 0 < i → wanted i ≡ true → may_choose first v s i ≡ true → In (choice s i) (choices first v s wanted n)
choice_in first v s wanted zero i le some want ok = absurd (omega arith)
choice_in first v s wanted (suc n) i le some want ok = elim (cases_order i (suc n)) [
  | inl same ↦
      let both : (wanted i && may_choose first v s i) ≡ true = and_from (wanted i) (may_choose first v s i) want ok in
      let both' : (wanted (suc n) && may_choose first v s (suc n)) ≡ true = subst (λ j. (wanted j && may_choose first v s j) ≡ true) same both in
      subst (In (choice s i))
      (sym (cond-true (wanted (suc n) && may_choose first v s (suc n)) (choice s (suc n) ∷ choices first v s wanted n) (choices first v s wanted n) both'))
      (inl (ap (λ j. choice s j) (sym same)))
  | inr apart ↦ elim apart [
    | inl less ↦
        let old = choice_in first v s wanted n i (omega arith) some want ok in
        cond_both (wanted (suc n) && may_choose first v s (suc n)) (choice s (suc n) ∷ choices first v s wanted n) (choices first v s wanted n) (In (choice s i)) (λ b. inr old) (λ b. old)
    | inr more ↦ absurd (omega arith)
  ]
]

-- each choice has its index
abbrev pub IsChoice : Conf → ℕ → Node → (ℕ → Bool) → Choice → Type 0
IsChoice first v s wanted c = (i : ℕ) × (wanted i ≡ true) × (may_choose first v s i ≡ true) × (choice s i ≡ c)

pub choice_of : (first : Conf) (v : ℕ) (s : Node) (wanted : ℕ → Bool) (n : ℕ) (c : Choice) → In c (choices first v s wanted n) → IsChoice first v s wanted c
choice_of first v s wanted zero c at = absurd at
choice_of first v s wanted (suc n) c at =
    cond_both (wanted (suc n) && may_choose first v s (suc n)) (choice s (suc n) ∷ choices first v s wanted n) (choices first v s wanted n) (λ xs. In c xs → IsChoice first v s wanted c)
    (λ ok here.
    let parts = and_parts (wanted (suc n)) (may_choose first v s (suc n)) ok in
    elim here [ inl new ↦ (suc n, parts.0, parts.1, new) | inr old ↦ choice_of first v s wanted n c old ])
    (λ b here. choice_of first v s wanted n c here)
    at

module _ (first : Conf) (w : Machine) (v : ℕ) (s : Node) (k : Kept first w) (is : w.nodes v ≡ Some s) where
  abbrev h : History
  h = w.history

  abbrev me : GoodNode first h v s
  me = k.nodes v s is

  module _ (wanted : ℕ → Bool) where
    abbrev g : History
    g = choosing h (choices first v s wanted (length s.path))

    note_grows : Grows h g
    note_grows = record {
      reigns = λ t r at. (r, at, record { leader = refl; base = refl; who = refl; longer = front_refl (ledger r) });
      chosen = λ t p at. in_right (record { term = t; path = p }) (choices first v s wanted (length s.path)) h.chosen at;
      messages = λ m at. at;
    }

    fixed_later : (t : ℕ) (c : Path) (a : LogEntry) → t ≤ s.term → Fixed first g t c a → Fixed first g s.term c a
    fixed_later t c a short x = record {
      settled = record { term = x.settled.term; path = x.settled.path; below = let lt : x.settled.term < t + 1 = x.settled.below in omega arith; chosen = x.settled.chosen; front = x.settled.front };
      config = x.config;
      near = x.near;
      who = x.who;
      each = x.each;
      enough = x.enough;
    }

    older_fixed : (p : Path) → Settled h (s.term + 1) p → (c : Path) (a : LogEntry) → IsFrontOf (c ++ a ∷ []) p → Fixed first g s.term c a
    older_fixed p x c a pre =
        let whole : IsFrontOf (c ++ a ∷ []) x.path = begins (c ++ a ∷ []) p x.path pre x.front in
        let at : c ++ a ∷ whole.0 ≡ x.path = sym (append_assoc c (a ∷ []) whole.0) ∙ whole.1 in
        let lt : x.term < s.term + 1 = x.below in
        fixed_later x.term c a (omega arith) (fixed_more first h g note_grows x.term c a ((k.history.chosen x.term x.path x.chosen).fixed c a whole.0 at))

    -- what is wanted and may be chosen now is chosen after
    pub now_chosen : (i : ℕ) → wanted i ≡ true → may_choose first v s i ≡ true → Chosen g s.term (take i s.path)
    now_chosen i want ok =
        let may = may_parts first v s i ok in
        in_left (choice s i) (choices first v s wanted (length s.path)) h.chosen (choice_in first v s wanted (length s.path) i may.le may.some want ok)

    new_choice : (i : ℕ) → wanted i ≡ true → may_choose first v s i ≡ true → GoodChoice first g s.term (take i s.path)
    new_choice i want ok =
        let may = may_parts first v s i ok in
        let lead : Leads h v s = me.leads may.so in
        record {
          reign = lead.reign;
          is = lead.is;
          front = subst (IsFrontOf (take i s.path)) (sym lead.path) (front_of i s.path);
          last = may.last;
          fixed = chosen_fixed first h g v s i note_grows (subst (λ b. Known first h b s.path) (leader_below s may.so) me.known) lead may.some may.le may.wins (now_chosen i want ok) older_fixed;
        }

    note_history : GoodHistory first g
    note_history = history_more first h g note_grows k.history (λ t u c q at t1 p acc lt. acc)
        (λ t r at. inl (r, at, record { leader = refl; base = refl; who = refl; longer = front_refl (ledger r) }, known_more first h g note_grows (t + 1) (t + 1) (ledger r) (omega arith) (k.history.reigns t r at).known))
        (λ t p at. elim (in_append (record { term = t; path = p }) (choices first v s wanted (length s.path)) h.chosen at) [
          | inl new ↦
              let o = choice_of first v s wanted (length s.path) (record { term = t; path = p }) new in
              let term : s.term ≡ t = ap (λ y. y.term) o.3 in
              let path : take o.0 s.path ≡ p = ap (λ y. y.path) o.3 in
              inr (subst (λ y. GoodChoice first g y p) term (subst (GoodChoice first g s.term) path (new_choice o.0 o.1 o.2)))
          | inr old ↦ inl old
        ])
        (λ m at. inl at)
        k.history.once

    pub note_kept : Kept first (noted first w v s wanted)
    note_kept = record {
      history = note_history;
      nodes = λ u t at. node_more first h g note_grows u t (k.nodes u t at) (λ x r here mine. here) (λ x r here mine. here) (λ m here. inl here);
      leads = λ l at. lead_more first h g note_grows l (k.leads l at);
      held = λ p at. let o = k.held p at in (o.0, known_more first h g note_grows o.0 o.0 p (omega arith) o.1);
    }

  -- a leader promises what is chosen
  promise_kept : (i : ℕ) → may_choose first v s i ≡ true → s.promised ≤ i → Chosen h s.term (take i s.path) → Kept first (moved w v (quiet (promising s i)))
  promise_kept i ok up now =
      let may = may_parts first v s i ok in
      quiet_kept first w v s k is (promising s i) (record {
        alive = me.alive;
        known = me.known;
        fits = may.le;
        within = omega (arith, me.within);
        settled = inr (record { term = s.term; path = take i s.path; below = (let b = leader_below s may.so in omega (arith, b)); chosen = now; front = front_refl (take i s.path) });
        leads = λ so. let x = me.leads so in record { reign = x.reign; is = x.is; leader = x.leader; path = x.path; own = x.own; marks = x.marks; short = x.short };
        stands = λ so. let x = me.stands so in record { votes = x.votes; apart = x.apart };
        nothing = me.nothing;
        says = says_quiet first w v s k is (promising s i) (record { term = omega arith; vote = λ same c at. at; stands = λ same so. (so, refl); path = λ n x p at le front safe pre. pre });
      })

  -- a lead is of its term's reign
  new_lead : is_leader s.role ≡ true → OfReign h (record { term = s.term; leader = v; path = s.path })
  new_lead so =
      let l = me.leads so in
      (l.reign, l.is, l.leader, subst (IsFrontOf l.reign.base) l.path (front_append l.reign.base l.reign.own))

  -- who leads and what is held is recorded
  pub seen_kept : Kept first (seen w v (Some s))
  seen_kept = record {
    history = k.history;
    nodes = k.nodes;
    leads = λ l at. cond_both (is_leader s.role) (record { term = s.term; leader = v; path = s.path } ∷ w.leads) w.leads (λ xs. In l xs → OfReign h l)
        (λ so here. elim here [ inl new ↦ subst (OfReign h) new (new_lead so) | inr old ↦ k.leads l old ])
        (λ other here. k.leads l here)
        at;
    held = λ p at. elim at [ inl new ↦ (below s, subst (Known first h (below s)) new me.known) | inr old ↦ k.held p old ];
  }

-- a leader promises, and what it promises is noted
pub raise_kept : (first : Conf) (w : Machine) (v : ℕ) (s : Node) → Kept first w → w.nodes v ≡ Some s → (i : ℕ) → Kept first (raise first w v s i)
raise_kept first w v s k is i = cond_both (nat_le s.promised i && may_choose first v s i) (moved (noted first w v s (λ j. j == i)) v (quiet (promising s i))) w (Kept first)
    (λ b.
    let parts = and_parts (nat_le s.promised i) (may_choose first v s i) b in
    promise_kept first (noted first w v s (λ j. j == i)) v s (note_kept first w v s k is (λ j. j == i)) is i parts.1 (leb-true s.promised i parts.0)
    (now_chosen first w v s k is (λ j. j == i) i (eq-eqb i i refl) parts.1))
    (λ b. k)

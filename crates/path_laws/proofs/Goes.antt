-- One node goes on by moves: what each act and each message does to a machine that was reached.
use Rattle.std.proofs.Common.{◌≡◌, ℕ, suc, ◌+◌, ◌==◌, Bool, true, false, ◌&&◌, ◌||◌, nat_lt, nat_le, ◌⊎◌, inl, inr, Some, None, List, [], ◌∷◌, ◌++◌, length, take, slice_get, refl, sym, ap, ◌∙◌, subst, append_assoc}
use Rattle.std.proofs.lemmas.Bool.{cond_both, cond-true, cond-false, and_from}
use Rattle.values.specs.declared.entry.Body.{Body}
use Rattle.replica_model.specs.Path.{Path}
use Rattle.group_quorum.specs.Conf.{Conf}
use Rattle.path_machine.specs.Node.{Node, Message, AskVote, Vote, Append, Accepted, Part, Outcome, with_value, quiet, is_learner, is_leader, is_candidate, risen, followed, stood, elects, led, pushed, may_push, may_choose, promising, term_of, takes}
use Rattle.path_machine.specs.Machine.{Choice, Lead, Machine, Move, Do, Deliver, Act, Rise, Follow, Stand, Win, Push, Note, Raise, Commit, Send, Hand, Crash, start, moved, won, extended, choices, noted, acts, by, rise, come, deliver, happens, mover, seen, next, run, In}
use Rattle.path_machine.specs.Changes.{Overlaps}
use Rattle.path_machine.specs.Laws.{MachineLaws}
use Rattle.path_laws.proofs.Steps.{in_append, in_left, in_right}
use Rattle.path_laws.proofs.Reigning.{value_here}
use Rattle.path_laws.proofs.Recorded.{at_other}
use Rattle.path_laws.proofs.Lawful.{lawful_run}

-- what stands in a list has a place there
pub place_of : {A : Type 0} (x : A) (xs : List A) → In x xs → (k : ℕ) × (slice_get xs k ≡ Some x)
place_of x [] h = absurd h
place_of x (y ∷ ys) (inl same) = (0, ap Some same)
place_of x (y ∷ ys) (inr h) = let rest = place_of x ys h in (suc rest.0, rest.1)

-- all that was sent, led, held and chosen stays
pub record Later (w x : Machine) : Type 0 where
  pub messages : (m : Message) → In m w.history.messages → In m x.history.messages
  pub leads : (l : Lead) → In l w.leads → In l x.leads
  pub held : (p : Path) → In p w.held → In p x.held
  pub chosen : (c : Choice) → In c w.history.chosen → In c x.history.chosen

pub later_refl : (w : Machine) → Later w w
later_refl w = record { messages = λ m at. at; leads = λ l at. at; held = λ p at. at; chosen = λ c at. at }

pub later_on : (w x y : Machine) → Later w x → Later x y → Later w y
later_on w x y a b = record {
  messages = λ m at. b.messages m (a.messages m at);
  leads = λ l at. b.leads l (a.leads l at);
  held = λ p at. b.held p (a.held p at);
  chosen = λ c at. b.chosen c (a.chosen c at);
}

-- v becomes t and sends these messages, and these choices are noted; nothing else changes
record Turns (w x : Machine) (v : ℕ) (t : Node) (sent : List Message) (more : List Choice) : Type 0 where
  here : x.nodes v ≡ Some t
  others : (u : ℕ) → (u ≡ v → ⊥) → x.nodes u ≡ w.nodes u
  messages : x.history.messages ≡ sent ++ w.history.messages
  chosen : x.history.chosen ≡ more ++ w.history.chosen
  leads : x.leads ≡ w.leads
  held : x.held ≡ w.held

turns_moved : (w : Machine) (v : ℕ) (out : Outcome) → Turns w (moved w v out) v out.node out.sent []
turns_moved w v out = record {
  here = value_here w.nodes v (Some out.node);
  others = λ u apart. at_other w v (Some out.node) u apart;
  messages = refl;
  chosen = refl;
  leads = refl;
  held = refl;
}

run_on : (first : Conf) (near : Conf → Conf → Bool) (w : Machine) (moves : List Move) (e : Move) → run first near w (moves ++ e ∷ []) ≡ next first near (run first near w moves) e
run_on first near w [] e = refl
run_on first near w (m ∷ moves) e = run_on first near (next first near w m) moves e

module _ (first : Conf) (near : Conf → Conf → Bool) (overlaps : Overlaps near) (holds : ℕ → Bool) where
  -- some moves lead from the start to the machine
  abbrev pub Reached : Machine → Type 0
  Reached w = (moves : List Move) × (run first near (start holds) moves ≡ w)

  pub start_reached : Reached (start holds)
  start_reached = ([], refl)

  next_reached : (w : Machine) (e : Move) → Reached w → Reached (next first near w e)
  next_reached w e r = (r.0 ++ e ∷ [], run_on first near (start holds) r.0 e ∙ ap (λ x. next first near x e) r.1)

  pub reached_laws : (w : Machine) → Reached w → MachineLaws first near w
  reached_laws w r = subst (MachineLaws first near) r.1 (lawful_run near overlaps first holds r.0)

  -- by some moves v became t; all these messages were sent on the way, and these choices noted and no others
  pub record Goes (w : Machine) (v : ℕ) (t : Node) (sent : List Message) (more : List Choice) : Type 0 where
    pub machine : Machine
    pub reached : Reached machine
    pub here : machine.nodes v ≡ Some t
    pub others : (u : ℕ) → (u ≡ v → ⊥) → machine.nodes u ≡ w.nodes u
    pub later : Later w machine
    pub said : (m : Message) → In m sent → In m machine.history.messages
    pub chosen : machine.history.chosen ≡ more ++ w.history.chosen

  pub stays : (w : Machine) (v : ℕ) (s : Node) → Reached w → w.nodes v ≡ Some s → Goes w v s [] []
  stays w v s r is = record {
    machine = w;
    reached = r;
    here = is;
    others = λ u apart. refl;
    later = later_refl w;
    said = λ m none. absurd none;
    chosen = refl;
  }

  -- first the one, then the other
  pub goes_on : (w : Machine) (v : ℕ) (s t : Node) (sent1 sent2 : List Message) (more1 more2 : List Choice) (g : Goes w v s sent1 more1) → Goes g.machine v t sent2 more2 → Goes w v t (sent2 ++ sent1) (more2 ++ more1)
  goes_on w v s t sent1 sent2 more1 more2 g f = record {
    machine = f.machine;
    reached = f.reached;
    here = f.here;
    others = λ u apart. f.others u apart ∙ g.others u apart;
    later = later_on w g.machine f.machine g.later f.later;
    said = λ m at. elim (in_append m sent2 sent1 at) [ inl new ↦ f.said m new | inr old ↦ f.later.messages m (g.said m old) ];
    chosen = f.chosen ∙ (ap (λ y. more2 ++ y) g.chosen ∙ sym (append_assoc more2 more1 w.history.chosen));
  }

  -- a choice on the way is one of these or stood before
  pub goes_chosen : (w : Machine) (v : ℕ) (t : Node) (sent : List Message) (more : List Choice) (g : Goes w v t sent more) (c : Choice) → In c g.machine.history.chosen → In c more ⊎ In c w.history.chosen
  goes_chosen w v t sent more g c at = in_append c more w.history.chosen (subst (In c) g.chosen at)

  module _ (w : Machine) (v : ℕ) (s : Node) (r : Reached w) (is : w.nodes v ≡ Some s) where
    awake : (f : Node → Machine) → by (w.nodes v) w f ≡ f s
    awake f = ap (λ o. by o w f) is ∙ cond-false s.halted w (f s) ((reached_laws w r).no_halt v s is)

    seen_goes : (e : Move) (x : Machine) (t : Node) (sent : List Message) (more : List Choice) → mover e ≡ v → happens first near w e ≡ x → Turns w x v t sent more → Goes w v t sent more
    seen_goes e x t sent more mine does turns =
        let y : Machine = seen x v (Some t) in
        let same : next first near w e ≡ y =
        ap (λ z. seen z (mover e) (z.nodes (mover e))) does ∙ (ap (λ n. seen x n (x.nodes n)) mine ∙ ap (seen x v) turns.here) in
        record {
          machine = y;
          reached = subst Reached same (next_reached w e r);
          here = turns.here;
          others = turns.others;
          later = record {
            messages = λ m at. subst (In m) (sym turns.messages) (in_right m sent w.history.messages at);
            leads = λ l at.
                cond_both (is_leader t.role) (record { term = t.term; leader = v; path = t.path } ∷ x.leads) x.leads (In l)
                (λ b. inr (subst (In l) (sym turns.leads) at))
                (λ b. subst (In l) (sym turns.leads) at);
            held = λ p at. inr (subst (In p) (sym turns.held) at);
            chosen = λ c at. subst (In c) (sym turns.chosen) (in_right c more w.history.chosen at);
          };
          said = λ m at. subst (In m) (sym turns.messages) (in_left m sent w.history.messages at);
          chosen = turns.chosen;
        }

    act_goes : (act : Act) (x : Machine) (t : Node) (sent : List Message) (more : List Choice) → acts first near w v act s ≡ x → Turns w x v t sent more → Goes w v t sent more
    act_goes act x t sent more does turns = seen_goes (Do v act) x t sent more refl (awake (acts first near w v act) ∙ does) turns

    moved_goes : (act : Act) (out : Outcome) → acts first near w v act s ≡ moved w v out → Goes w v out.node out.sent []
    moved_goes act out does = act_goes act (moved w v out) out.node out.sent [] does (turns_moved w v out)

    pub rises : (t : ℕ) → nat_lt s.term t ≡ true → Goes w v (risen s t) [] []
    rises t lt = moved_goes (Rise t) (quiet (risen s t)) (cond-true (nat_lt s.term t) (moved w v (quiet (risen s t))) w lt)

    pub follows : Goes w v (followed s) [] []
    follows = moved_goes Follow (quiet (followed s)) refl

    pub stands : (is_learner s.role || is_leader s.role) ≡ false → Goes w v (stood v s) (AskVote (s.term + 1) v s.path ∷ Vote (s.term + 1) v v s.path ∷ []) []
    stands may =
        let out : Outcome = record { node = stood v s; sent = AskVote (s.term + 1) v s.path ∷ Vote (s.term + 1) v v s.path ∷ [] } in
        moved_goes Stand out (ap (moved w v) (cond-false (is_learner s.role || is_leader s.role) (quiet s) out may))

    pub wins : is_candidate s.role ≡ true → elects first s ≡ true → Goes w v (led s) (Accepted s.term v s.path ∷ []) []
    wins so enough =
        let x : Machine = record { nodes = with_value w.nodes v (Some (led s)); history = won w.history v s; leads = w.leads; held = w.held } in
        act_goes Win x (led s) (Accepted s.term v s.path ∷ []) [] (cond-true (is_candidate s.role && elects first s) x w (and_from (is_candidate s.role) (elects first s) so enough))
        (record {
          here = value_here w.nodes v (Some (led s));
          others = λ u apart. at_other w v (Some (led s)) u apart;
          messages = refl;
          chosen = refl;
          leads = refl;
          held = refl;
        })

    pub pushes : (b : Body) → may_push first near s b ≡ true → Goes w v (pushed s b) (Accepted s.term v (pushed s b).path ∷ []) []
    pushes b may =
        let x : Machine = record { nodes = with_value w.nodes v (Some (pushed s b)); history = extended w.history v s b; leads = w.leads; held = w.held } in
        act_goes (Push b) x (pushed s b) (Accepted s.term v (pushed s b).path ∷ []) [] (cond-true (may_push first near s b) x w may)
        (record {
          here = value_here w.nodes v (Some (pushed s b));
          others = λ u apart. at_other w v (Some (pushed s b)) u apart;
          messages = refl;
          chosen = refl;
          leads = refl;
          held = refl;
        })

    turns_noted : (wanted : ℕ → Bool) → Turns w (noted first w v s wanted) v s [] (choices first v s wanted (length s.path))
    turns_noted wanted = record { here = is; others = λ u apart. refl; messages = refl; chosen = refl; leads = refl; held = refl }

    pub notes : (wanted : ℕ → Bool) → Goes w v s [] (choices first v s wanted (length s.path))
    notes wanted = act_goes (Note wanted) (noted first w v s wanted) s [] (choices first v s wanted (length s.path)) refl (turns_noted wanted)

    pub raises : (i : ℕ) → nat_le s.promised i ≡ true → may_choose first v s i ≡ true → Goes w v (promising s i) [] (choices first v s (λ j. j == i) (length s.path))
    raises i up may =
        let y : Machine = noted first w v s (λ j. j == i) in
        let x : Machine = moved y v (quiet (promising s i)) in
        act_goes (Raise i) x (promising s i) [] (choices first v s (λ j. j == i) (length s.path)) (cond-true (nat_le s.promised i && may_choose first v s i) x w (and_from (nat_le s.promised i) (may_choose first v s i) up may))
        (record {
          here = value_here w.nodes v (Some (promising s i));
          others = λ u apart. at_other w v (Some (promising s i)) u apart;
          messages = refl;
          chosen = refl;
          leads = refl;
          held = refl;
        })

    pub commits : (i : ℕ) → nat_le s.committed i ≡ true → nat_le i s.promised ≡ true → Goes w v (record s { committed = i }) [] []
    commits i up within =
        let out : Outcome = quiet (record s { committed = i }) in
        moved_goes (Commit i) out (ap (moved w v) (cond-true (nat_le s.committed i && nat_le i s.promised) out (quiet s) (and_from (nat_le s.committed i) (nat_le i s.promised) up within)))

    pub appends : (k : ℕ) → is_leader s.role ≡ true → Goes w v s (Append s.term (take k s.path) s.promised s.committed ∷ []) []
    appends k so =
        let out : Outcome = record { node = s; sent = Append s.term (take k s.path) s.promised s.committed ∷ [] } in
        moved_goes (Send k) out (ap (moved w v) (cond-true (is_leader s.role) out (quiet s) so))

    pub hands : (i : ℕ) → is_leader s.role ≡ true → nat_le i s.committed ≡ true → Goes w v s (Part s.term (take i s.path) ∷ []) []
    hands i so within =
        let out : Outcome = record { node = s; sent = Part s.term (take i s.path) ∷ [] } in
        moved_goes (Hand i) out (ap (moved w v) (cond-true (is_leader s.role && nat_le i s.committed) out (quiet s) (and_from (is_leader s.role) (nat_le i s.committed) so within)))

    -- a message that was sent, of no higher term than the node's
    pub takes_message : (refuses : Bool) (m : Message) (out : Outcome) → In m w.history.messages → nat_lt s.term (term_of m) ≡ false → takes v s refuses m ≡ out → Goes w v out.node out.sent []
    takes_message refuses m out at low does =
        let k = place_of m w.history.messages at in
        let here : by (w.nodes v) w (rise w v (term_of m)) ≡ w = awake (rise w v (term_of m)) ∙ cond-false (nat_lt s.term (term_of m)) (moved w v (quiet (risen s (term_of m)))) w low in
        let taken : happens first near w (Deliver v k.0 refuses) ≡ moved w v out =
        ap (deliver w v refuses) k.1 ∙ (ap (λ x. come x v refuses m) here ∙ (awake (λ t. moved w v (takes v t refuses m)) ∙ ap (moved w v) does)) in
        seen_goes (Deliver v k.0 refuses) (moved w v out) out.node out.sent [] refl taken (turns_moved w v out)

    -- v is gone, and nothing else has changed
    pub record Gone : Type 0 where
      pub machine : Machine
      pub reached : Reached machine
      pub here : machine.nodes v ≡ None
      pub others : (u : ℕ) → (u ≡ v → ⊥) → machine.nodes u ≡ w.nodes u
      pub history : machine.history ≡ w.history
      pub leads : machine.leads ≡ w.leads
      pub held : machine.held ≡ w.held

    pub crashes : Gone
    crashes =
        let x : Machine = record { nodes = with_value w.nodes v None; history = w.history; leads = w.leads; held = w.held } in
        let none : x.nodes v ≡ None = value_here w.nodes v None in
        let same : next first near w (Do v Crash) ≡ x = ap (λ z. seen z v (z.nodes v)) (awake (acts first near w v Crash)) ∙ ap (seen x v) none in
        record {
          machine = x;
          reached = subst Reached same (next_reached w (Do v Crash) r);
          here = none;
          others = λ u apart. at_other w v None u apart;
          history = refl;
          leads = refl;
          held = refl;
        }

-- A call goes on by moves of its node.
use Rattle.step_walk.specs.Rules.{IsHolder}
use Rattle.std.proofs.Common.{◌≡◌, ℕ, nat_lt, Bool, true, false, ◌⊎◌, inl, inr, Some, None, List, [], ◌∷◌, refl, sym, ◌∙◌, subst}
use Rattle.std.proofs.lemmas.Bool.{cond-true, cond-false, eq-eqb}
use Rattle.std.proofs.lemmas.Option.{none-some}
use Rattle.group_quorum.specs.Conf.{Conf}
use Rattle.replica_model.specs.Path.{Path, Link}
use Rattle.replica_model.specs.Message.{Message}
use Rattle.replica_model.specs.Replica.{Role, Learner, Follower, Candidate, Leader, Leading, Replica}
use Rattle.replica_model.specs.Peers.{leads_with}
use Rattle.replica_model.specs.Call.{Call, still, send_to}
use Rattle.replica_model.specs.Term.{followed}
use Rattle.group_model.specs.Log.{AnyByRecursion}
use Rattle.group_model.specs.Halts.{EnoughAt}
use Rattle.log_laws.proofs.Ending.{all-append}
use Rattle.path_machine.specs.Node as node
use Rattle.path_machine.specs.Node.{Node, risen}
use Rattle.path_machine.specs.Machine.{Machine, In}
use Rattle.path_laws.proofs.Goes.{later_refl, later_on, goes_chosen, rises}
use Rattle.path_machine.specs.Changes.{is_single_change}
use Rattle.path_machine.proofs.Changes.{single_change_overlaps}
use Rattle.halt_laws.proofs.Alike.{kind, node_as, LeadingFits, RoleFits, MsgFits, SentFits, sent_more, On, Is, Went}

-- a node that holds a log takes a message of its own term as it hears it
pub own_term : (v : ℕ) (s : Node) (r : Bool) (m : node.Message) → node.is_learner s.role ≡ false → node.term_of m ≡ s.term → node.takes v s r m ≡ node.hears v s r m
own_term v s r m holds same =
    cond-false (node.is_learner s.role) (node.learns s r m) _ holds ∙ cond-true _ (node.hears v s r m) (node.quiet s) (eq-eqb (node.term_of m) s.term same)

pub no_learner : (role : Role) → IsHolder role → node.is_learner (kind role) ≡ false
no_learner (Learner taking) h = absurd h
no_learner other h = refl

pub fallen_kind : (role : Role) → node.fallen (kind role) ≡ kind (followed role)
fallen_kind (Learner taking) = refl
fallen_kind Follower = refl
fallen_kind (Candidate votes) = refl
fallen_kind (Leader l) = refl

module _ (first theirs : Conf) (path : Path) (committed : ℕ) where
  -- who holds a log reads it by the first configuration
  pub holder_first : (role : Role) (votes : ℕ → Bool) (marks : ℕ → ℕ) → IsHolder role → RoleFits first theirs path committed role votes marks → theirs ≡ first
  holder_first (Learner taking) votes marks h x = absurd h
  holder_first Follower votes marks h x = x
  holder_first (Candidate heard) votes marks h x = x.0
  holder_first (Leader l) votes marks h x = x.0

  pub followed_fits : (role : Role) (votes votes' : ℕ → Bool) (marks marks' : ℕ → ℕ) → RoleFits first theirs path committed role votes marks → RoleFits first theirs path committed (followed role) votes' marks'
  followed_fits (Learner taking) votes votes' marks marks' x = x
  followed_fits Follower votes votes' marks marks' x = x
  followed_fits (Candidate heard) votes votes' marks marks' x = x.0
  followed_fits (Leader l) votes votes' marks marks' x = x.0

module _ (first : Conf) (holds : ℕ → Bool) (w : Machine) (v : ℕ) (s : Replica) (a : Is first holds w v s) where
  -- a leader
  pub known_of : (l : Leading) → s.role ≡ Leader l → (s.first ≡ first) × LeadingFits s.path s.committed l a.marks
  known_of l is = subst (λ r. RoleFits first s.first s.path s.committed r a.votes a.marks) is a.acts

  -- the same node, of a role
  pub here_as : (role : Role) → s.role ≡ role → w.nodes v ≡ Some (node_as (kind role) s.term s.path s.promised s.committed a.voted a.votes a.marks)
  here_as role is = subst (λ r. w.nodes v ≡ Some (node_as (kind r) s.term s.path s.promised s.committed a.voted a.votes a.marks)) is a.here

  -- a leader with other knowledge
  pub leading_at : (l l' : Leading) → s.role ≡ Leader l → LeadingFits s.path s.committed l' a.marks → Is first holds w v (leads_with s l')
  leading_at l l' is x = record {
    reached = a.reached;
    voted = a.voted;
    votes = a.votes;
    marks = a.marks;
    here = here_as (Leader l) is;
    mine = a.mine;
    some = a.some;
    based = a.based;
    vote_is = a.vote_is;
    acts = ((known_of l is).0, x);
    awake = a.awake;
  }

module _ (link : Link) (first : Conf) (holds : ℕ → Bool) (Held : Path → Type 0) (w : Machine) (v : ℕ) where
  abbrev pub Going : Call → Type 0
  Going c = Went first holds link Held w v c

  -- nothing has happened
  pub still_went : (s : Replica) → Is first holds w v s → Going (still s)
  still_went s a = record {
    now = w;
    at = a;
    others = λ u apart. refl;
    later = later_refl w;
    noted = λ c h. inl h;
    enough = λ c none. absurd none;
    told = λ held. tt;
    led = λ t is. absurd (none-some t is);
    untold = refl;
  }

  -- some moves more, by which nothing is noted
  pub onward : (c c' : Call) (f : Going c) (t : Node) (said : List node.Message) (g : On first holds f.now v t said []) → Is first holds g.machine v c'.state → c'.moments ≡ c.moments → (Held c'.state.path → Held c.state.path) → (Held c'.state.path → SentFits link first Held g.machine.history.messages v c.sent → SentFits link first Held g.machine.history.messages v c'.sent) → ((n : ℕ) → c'.batch.lead ≡ Some n → (c.batch.lead ≡ Some n) ⊎ ((p : Path) × In (record { term = n; leader = v; path = p }) g.machine.leads)) → c'.batch.halt ≡ None → Going c'
  onward c c' f t said g a same back told led untold = record {
    now = g.machine;
    at = a;
    others = λ u apart. g.others u apart ∙ f.others u apart;
    later = later_on w f.now g.machine f.later g.later;
    noted = λ x h. subst (λ ms. In x w.history.chosen ⊎ AnyByRecursion (EnoughAt x.term x.path) ms) (sym same)
        (f.noted x (elim (goes_chosen first is_single_change single_change_overlaps holds f.now v t said [] g x h) [ inl none ↦ absurd none | inr old ↦ old ]));
    enough = λ x h. g.later.chosen x (f.enough x (subst (λ ms. AnyByRecursion (EnoughAt x.term x.path) ms) same h));
    told = λ held. told held (sent_more link first Held Held (λ p h. h) f.now.history.messages g.machine.history.messages g.later.messages v c.sent (f.told (back held)));
    led = λ n is. elim (led n is) [
      | inl old ↦ let y = f.led n old in (y.0, g.later.leads (record { term = n; leader = v; path = y.0 }) y.1)
      | inr new ↦ new
    ];
    untold = untold;
  }

  -- the same where only the state changes
  pub turned : (s s' : Replica) (f : Going (still s)) (t : Node) (said : List node.Message) (g : On first holds f.now v t said []) → Is first holds g.machine v s' → (Held s'.path → Held s.path) → Going (still s')
  turned s s' f t said g a back = onward (still s) (still s') f t said g a refl back (λ held x. x) (λ n is. inl is) refl

  -- one message more
  pub says_went : (c : Call) (f : Going c) (to : ℕ) (m : Message) → (Held c.state.path → MsgFits link first Held f.now.history.messages v to m.names m.msg) → Going (send_to c to m)
  says_went c f to m fits = record {
    now = f.now;
    at = f.at;
    others = f.others;
    later = f.later;
    noted = f.noted;
    enough = f.enough;
    told = λ held. all-append (λ (x : ℕ × Message). MsgFits link first Held f.now.history.messages v x.0 x.1.names x.1.msg) c.sent ((to, m) ∷ []) (f.told held) (fits held, tt);
    led = f.led;
    untold = f.untold;
  }

  -- the same machine, and another state that stands beside its node
  pub restated : (c : Call) (s' : Replica) (f : Going c) → Is first holds f.now v s' → s'.path ≡ c.state.path → Going (record c { state = s' })
  restated c s' f a same = record {
    now = f.now;
    at = a;
    others = f.others;
    later = f.later;
    noted = f.noted;
    enough = f.enough;
    told = λ held. f.told (subst Held same held);
    led = f.led;
    untold = f.untold;
  }

  -- a leader with other knowledge
  pub leads_on : (c : Call) (l l' : Leading) (f : Going c) → c.state.role ≡ Leader l → LeadingFits c.state.path c.state.committed l' f.at.marks → Going (record c { state = leads_with c.state l' })
  leads_on c l l' f is x = restated c (leads_with c.state l') f (leading_at first holds f.now v c.state f.at l l' is x) refl

  -- a higher term
  pub rise_went : (s : Replica) (t : ℕ) → Going (still s) → nat_lt s.term t ≡ true → Going (still (record s { term = t; vote = 0; known = 0; role = followed s.role }))
  rise_went s t f up =
      let a = f.at in
      let n : Node = node_as (kind s.role) s.term s.path s.promised s.committed a.voted a.votes a.marks in
      let g : On first holds f.now v (risen n t) [] [] = rises first is_single_change single_change_overlaps holds f.now v n a.reached a.here t up in
      turned s (record s { term = t; vote = 0; known = 0; role = followed s.role }) f (risen n t) [] g
      (record {
        reached = g.reached;
        voted = None;
        votes = λ u. false;
        marks = λ u. 0;
        here = subst (λ k. g.machine.nodes v ≡ Some (node_as k t s.path s.promised s.committed None (λ u. false) (λ u. 0))) (fallen_kind s.role) g.here;
        mine = a.mine;
        some = a.some;
        based = a.based;
        vote_is = inl refl;
        acts = followed_fits first s.first s.path s.committed s.role a.votes (λ u. false) a.marks (λ u. 0) a.acts;
        awake = a.awake;
      })
      (λ held. held)

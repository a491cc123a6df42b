-- What holds of the empty path, of each front and of each path that is pushed holds of all paths; so each configuration
-- followed another by a change that may be pushed.
use Rattle.std.proofs.Common.{◌≡◌, ℕ, ◌+◌, ◌==◌, Bool, true, false, cond, not, ◌&&◌, ◌||◌, nat_lt, nat_le, ◌⊎◌, inl, inr, Option, Some, None, List, [], ◌∷◌, ◌++◌, length, take, slice_get, refl, sym, ap, ◌∙◌, subst}
use Rattle.std.proofs.lemmas.Bool.{cond_both, and_parts, or_cases, not-true}
use Rattle.values.specs.declared.entry.Body.{Body}
use Rattle.values.specs.declared.entry.Body.TheVariants.{Noop, Ask, Members}
use Rattle.values.specs.declared.entry.LogEntry.{LogEntry}
use Rattle.replica_model.specs.Path.{Path}
use Rattle.group_quorum.specs.Conf.{Conf}
use Rattle.replica_model.specs.Configs.{is_members, changed_by, conf, conf_index}
use Rattle.replica_model.proofs.Paths.{conf-append}
use Rattle.group_model.specs.Log.{IsFrontOf}
use Rattle.path_machine.specs.Node.{Learner, Follower, Node, Message, AskVote, Vote, Append, Accepted, Part, Outcome, with_value, quiet, empty, is_learner, is_leader, is_candidate, risen, followed, stood, stand, elects, led, pushed, may_push, may_choose, promising, commit, common, grafted, append, taken, term_of, learns, hears, takes}
use Rattle.path_machine.specs.Machine.{History, Machine, Move, Do, Deliver, Act, Rise, Follow, Stand, Win, Push, Note, Raise, Commit, Send, Hand, Crash, start, moved, noted, acts, by, rise, deliver, happens, mover, seen, next, run, In}
use Rattle.agreement.proofs.Fronts.{begins}
use Rattle.path_machine.proofs.Fronts.{front_refl, front_of}
use Rattle.path_laws.proofs.Steps.{value_cases, some_same, in_append}
use Rattle.path_laws.proofs.Kept.{in_get}

abbrev path_of : Message → Path
path_of (AskVote t u p) = p
path_of (Vote t u c p) = p
path_of (Append t p promise commit) = p
path_of (Accepted t u p) = p
path_of (Part t p) = p

-- what a path gains by a push
abbrev Gains : Conf → (Conf → Conf → Bool) → (Path → Type 0) → Type 0
Gains first near Q = (s : Node) (b : Body) → may_push first near s b ≡ true → Q s.path → Q (pushed s b).path

-- all paths of the machine are such
record All (Q : Path → Type 0) (w : Machine) : Type 0 where
  nodes : (v : ℕ) (s : Node) → w.nodes v ≡ Some s → Q s.path
  messages : (m : Message) → In m w.history.messages → Q (path_of m)
  held : (p : Path) → In p w.held → Q p

module _ (first : Conf) (near : Conf → Conf → Bool) (Q : Path → Type 0) (nil : Q []) (fronts : (p q : Path) → IsFrontOf p q → Q q → Q p) (gains : Gains first near Q) where
  moved_all : (w : Machine) (v : ℕ) (out : Outcome) → All Q w → Q out.node.path → ((m : Message) → In m out.sent → Q (path_of m)) → All Q (moved w v out)
  moved_all w v out a mine sent = record {
    nodes = λ u s is. elim (value_cases w.nodes v (Some out.node) u) [
      | inl here ↦ subst (λ y. Q y.path) (some_same out.node s (sym here.1 ∙ is)) mine
      | inr other ↦ a.nodes u s (sym other.1 ∙ is)
    ];
    messages = λ m at. elim (in_append m out.sent w.history.messages at) [ inl new ↦ sent m new | inr old ↦ a.messages m old ];
    held = a.held;
  }

  one : (m n : Message) → Q (path_of m) → In n (m ∷ []) → Q (path_of n)
  one m n q (inl same) = subst (λ y. Q (path_of y)) same q
  one m n q (inr never) = absurd never

  quiet_all : (w : Machine) (v : ℕ) (s : Node) → All Q w → Q s.path → All Q (moved w v (quiet s))
  quiet_all w v s a q = moved_all w v (quiet s) a q (λ m none. absurd none)

  -- one node, one message of the leader, with a path
  with_all : (w : Machine) (v : ℕ) (s : Node) (m : Message) (h : History) → h.messages ≡ m ∷ w.history.messages → All Q w → Q s.path → Q (path_of m) → All Q (record { nodes = with_value w.nodes v (Some s); history = h; leads = w.leads; held = w.held })
  with_all w v s m h is a q new = record {
    nodes = λ u t at. elim (value_cases w.nodes v (Some s) u) [
      | inl here ↦ subst (λ y. Q y.path) (some_same s t (sym here.1 ∙ at)) q
      | inr other ↦ a.nodes u t (sym other.1 ∙ at)
    ];
    messages = λ n at. elim (subst (In n) is at) [ inl same ↦ subst (λ y. Q (path_of y)) same new | inr old ↦ a.messages n old ];
    held = a.held;
  }

  stand_all : (w : Machine) (v : ℕ) (s : Node) → All Q w → Q s.path → All Q (moved w v (stand v s))
  stand_all w v s a q = cond_both (is_learner s.role || is_leader s.role) (quiet s) (record { node = stood v s; sent = AskVote (s.term + 1) v s.path ∷ Vote (s.term + 1) v v s.path ∷ [] }) (λ out. All Q (moved w v out))
      (λ b. quiet_all w v s a q)
      (λ b. moved_all w v (record { node = stood v s; sent = AskVote (s.term + 1) v s.path ∷ Vote (s.term + 1) v v s.path ∷ [] }) a q
      (λ m at. elim at [ inl same ↦ subst (λ y. Q (path_of y)) same q | inr rest ↦ one (Vote (s.term + 1) v v s.path) m q rest ]))

  acts_all : (w : Machine) (v : ℕ) (act : Act) (s : Node) → All Q w → Q s.path → All Q (acts first near w v act s)
  acts_all w v (Rise t) s a q = cond_both (nat_lt s.term t) (moved w v (quiet (risen s t))) w (All Q) (λ b. quiet_all w v (risen s t) a q) (λ b. a)
  acts_all w v Follow s a q = quiet_all w v (followed s) a q
  acts_all w v Stand s a q = stand_all w v s a q
  acts_all w v Win s a q = cond_both (is_candidate s.role && elects first s) _ w (All Q) (λ b. with_all w v (led s) (Accepted s.term v s.path) _ refl a q q) (λ b. a)
  acts_all w v (Push b) s a q = cond_both (may_push first near s b) _ w (All Q)
      (λ ok. with_all w v (pushed s b) (Accepted s.term v (pushed s b).path) _ refl a (gains s b ok q) (gains s b ok q))
      (λ never. a)
  acts_all w v (Note wanted) s a q = record { nodes = a.nodes; messages = a.messages; held = a.held }
  acts_all w v (Raise i) s a q = cond_both (nat_le s.promised i && may_choose first v s i) (moved (noted first w v s (λ j. j == i)) v (quiet (promising s i))) w (All Q)
      (λ b. quiet_all (noted first w v s (λ j. j == i)) v (promising s i) (record { nodes = a.nodes; messages = a.messages; held = a.held }) q)
      (λ b. a)
  acts_all w v (Commit i) s a q = cond_both (nat_le s.committed i && nat_le i s.promised) (quiet (record s { committed = i })) (quiet s) (λ out. All Q (moved w v out))
      (λ b. quiet_all w v (record s { committed = i }) a q)
      (λ b. quiet_all w v s a q)
  acts_all w v (Send i) s a q = cond_both (is_leader s.role) (record { node = s; sent = Append s.term (take i s.path) s.promised s.committed ∷ [] }) (quiet s) (λ out. All Q (moved w v out))
      (λ b. moved_all w v (record { node = s; sent = Append s.term (take i s.path) s.promised s.committed ∷ [] }) a q (λ m at. one (Append s.term (take i s.path) s.promised s.committed) m (fronts (take i s.path) s.path (front_of i s.path) q) at))
      (λ b. quiet_all w v s a q)
  acts_all w v (Hand i) s a q = cond_both (is_leader s.role && nat_le i s.committed) (record { node = s; sent = Part s.term (take i s.path) ∷ [] }) (quiet s) (λ out. All Q (moved w v out))
      (λ b. moved_all w v (record { node = s; sent = Part s.term (take i s.path) ∷ [] }) a q (λ m at. one (Part s.term (take i s.path)) m (fronts (take i s.path) s.path (front_of i s.path) q) at))
      (λ b. quiet_all w v s a q)
  acts_all w v Crash s a q = record {
    nodes = λ u t is. elim (value_cases w.nodes v None u) [
      | inl here ↦ absurd (let apart : None ≡ Some t = sym here.1 ∙ is in cc)
      | inr other ↦ a.nodes u t (sym other.1 ∙ is)
    ];
    messages = a.messages;
    held = a.held;
  }

  takes_all : (w : Machine) (v : ℕ) (s : Node) (refuses : Bool) (m : Message) → All Q w → Q s.path → Q (path_of m) → All Q (moved w v (takes v s refuses m))
  takes_all w v s refuses m a q new = cond_both (is_learner s.role) (learns s refuses m) (cond (term_of m == s.term) (hears v s refuses m) (quiet s)) (λ out. All Q (moved w v out))
      (λ learner. learns_all m new)
      (λ other. cond_both (term_of m == s.term) (hears v s refuses m) (quiet s) (λ out. All Q (moved w v out)) (λ same. hears_all m new) (λ apart. still))
    where
      still : All Q (moved w v (quiet s))
      still = quiet_all w v s a q

      learns_all : (m : Message) → Q (path_of m) → All Q (moved w v (learns s refuses m))
      learns_all (AskVote t u p) new = still
      learns_all (Vote t u c p) new = still
      learns_all (Append t p promise commit) new = still
      learns_all (Accepted t u p) new = still
      learns_all (Part t p) new = cond_both refuses (quiet s) (quiet (taken s t p)) (λ out. All Q (moved w v out)) (λ b. still) (λ b. quiet_all w v (taken s t p) a new)

      append_all : (p : Path) (promise commit : ℕ) → Q p → All Q (moved w v (append v s p promise commit))
      append_all p promise commit new = cond_both (nat_lt (common s.path p) s.promised && nat_lt (common s.path p) (length p)) (quiet (record s { halted = true })) (record { node = grafted s p promise commit; sent = Accepted s.term v p ∷ [] }) (λ out. All Q (moved w v out))
          (λ b. quiet_all w v (record s { halted = true }) a q)
          (λ b. moved_all w v (record { node = grafted s p promise commit; sent = Accepted s.term v p ∷ [] }) a
          (cond_both (nat_le (length p) (common s.path p)) s.path p Q (λ c. q) (λ c. new))
          (λ m at. one (Accepted s.term v p) m new at))

      hears_all : (m : Message) → Q (path_of m) → All Q (moved w v (hears v s refuses m))
      hears_all (AskVote t u p) new = cond_both _ (record { node = record s { vote = Some u }; sent = Vote s.term v u p ∷ [] }) (quiet s) (λ out. All Q (moved w v out))
          (λ b. moved_all w v (record { node = record s { vote = Some u }; sent = Vote s.term v u p ∷ [] }) a q (λ m at. one (Vote s.term v u p) m new at))
          (λ b. still)
      hears_all (Vote t u c p) new = cond_both _ (quiet (record s { votes = with_value s.votes u true })) (quiet s) (λ out. All Q (moved w v out)) (λ b. quiet_all w v (record s { votes = with_value s.votes u true }) a q) (λ b. still)
      hears_all (Append t p promise commit) new = cond_both refuses (quiet (followed s)) (append v s p promise commit) (λ out. All Q (moved w v out)) (λ b. quiet_all w v (followed s) a q) (λ b. append_all p promise commit new)
      hears_all (Accepted t u p) new = cond_both _ (quiet (record s { marks = _ })) (quiet s) (λ out. All Q (moved w v out)) (λ b. quiet_all w v (record s { marks = _ }) a q) (λ b. still)
      hears_all (Part t p) new = still

  by_all : (w : Machine) (v : ℕ) (o : Option Node) (f : Node → Machine) → o ≡ w.nodes v → All Q w → ((s : Node) → Q s.path → All Q (f s)) → All Q (by o w f)
  by_all w v None f is a all = a
  by_all w v (Some s) f is a all = cond_both s.halted w (f s) (All Q) (λ b. a) (λ b. all s (a.nodes v s (sym is)))

  deliver_all : (w : Machine) (v : ℕ) (refuses : Bool) (o : Option Message) → ((m : Message) → o ≡ Some m → Q (path_of m)) → All Q w → All Q (deliver w v refuses o)
  deliver_all w v refuses None new a = a
  deliver_all w v refuses (Some m) new a =
      let x : Machine = by (w.nodes v) w (rise w v (term_of m)) in
      let b : All Q x = by_all w v (w.nodes v) (rise w v (term_of m)) refl a (λ s q. acts_all w v (Rise (term_of m)) s a q) in
      by_all x v (x.nodes v) (λ s. moved x v (takes v s refuses m)) refl b (λ s q. takes_all x v s refuses m b q (new m refl))

  happens_all : (w : Machine) (e : Move) → All Q w → All Q (happens first near w e)
  happens_all w (Do v act) a = by_all w v (w.nodes v) (acts first near w v act) refl a (λ s q. acts_all w v act s a q)
  happens_all w (Deliver v i refuses) a = deliver_all w v refuses (slice_get w.history.messages i) (λ m is. a.messages m (in_get w.history.messages i m is)) a

  seen_all : (x : Machine) (v : ℕ) (o : Option Node) → x.nodes v ≡ o → All Q x → All Q (seen x v o)
  seen_all x v None is a = a
  seen_all x v (Some s) is a = record {
    nodes = a.nodes;
    messages = a.messages;
    held = λ p at. elim at [ inl new ↦ subst Q new (a.nodes v s is) | inr old ↦ a.held p old ];
  }

  run_all : (w : Machine) (moves : List Move) → All Q w → All Q (run first near w moves)
  run_all w [] a = a
  run_all w (e ∷ moves) a =
      let x : Machine = happens first near w e in
      run_all (next first near w e) moves (seen_all x (mover e) (x.nodes (mover e)) refl (happens_all w e a))

  -- each path that was ever held is such
  pub held_all : (holds : ℕ → Bool) (moves : List Move) (p : Path) → In p (run first near (start holds) moves).held → Q p
  held_all holds moves p at = (run_all (start holds) moves (record {
    nodes = λ v s is. subst (λ y. Q y.path) (some_same (empty (cond (holds v) Follower Learner)) s is) nil;
    messages = λ m never. absurd never;
    held = λ q here. elim here [ inl new ↦ subst Q new nil | inr never ↦ absurd never ];
  })).held p at

-- each configuration on the way is the first one, or followed another by such a change
abbrev pub Changed : Conf → (Conf → Conf → Bool) → Path → Type 0
Changed first near p = (q : Path) → IsFrontOf q p → (conf first q ≡ first) ⊎ ((c : Conf) × (near c (conf first q) ≡ true))

-- the configuration after one more entry
after_push : (near : Conf → Conf → Bool) (first c : Conf) (b : Body) → (is_members b ≡ true → near c (changed_by c b) ≡ true) → (c ≡ first) ⊎ ((d : Conf) × (near d c ≡ true)) → (changed_by c b ≡ first) ⊎ ((d : Conf) × (near d (changed_by c b) ≡ true))
after_push near first c Noop may old = old
after_push near first c (Ask client number request) may old = old
after_push near first c (Members margin voters) may old = inr (c, may refl)

push_near : (first : Conf) (near : Conf → Conf → Bool) (s : Node) (b : Body) → may_push first near s b ≡ true → is_members b ≡ true → near (conf first s.path) (changed_by (conf first s.path) b) ≡ true
push_near first near s b ok m =
    let change : Bool = nat_le (conf_index s.path) s.committed && near (conf first s.path) (changed_by (conf first s.path) b) in
    elim (or_cases (not (is_members b)) change (and_parts (is_leader s.role) (not (is_members b) || change) ok).1) [
      | inl plain ↦ absurd (let apart : true ≡ false = sym m ∙ not-true (is_members b) plain in cc)
      | inr both ↦ (and_parts (nat_le (conf_index s.path) s.committed) (near (conf first s.path) (changed_by (conf first s.path) b)) both).1
    ]

-- a front of a path and one more entry is a front of the path, or the whole
front_push : (q p : Path) (e : LogEntry) → IsFrontOf q (p ++ e ∷ []) → IsFrontOf q p ⊎ (q ≡ p ++ e ∷ [])
front_push [] p e pre = inl (p, refl)
front_push (x ∷ q) [] e pre = inr (only x q pre.0 e pre.1)
  where
    only : (x : LogEntry) (q r : Path) (e : LogEntry) → x ∷ (q ++ r) ≡ e ∷ [] → x ∷ q ≡ e ∷ []
    only x [] r e is = let head : x ≡ e = cc in ap (λ y. y ∷ []) head
    only x (y ∷ q) r e is = cc
front_push (x ∷ q) (y ∷ p) e pre =
    let is : x ∷ (q ++ pre.0) ≡ y ∷ (p ++ e ∷ []) = pre.1 in
    let head : x ≡ y = cc in
    let tail : q ++ pre.0 ≡ p ++ e ∷ [] = cc in
    elim (front_push q p e (pre.0, tail)) [
      | inl short ↦ inl (short.0, let rest : q ++ short.0 ≡ p = short.1 in cc)
      | inr whole ↦ inr (let rest : q ≡ p ++ e ∷ [] = whole in cc)
    ]

pub held_changed : (first : Conf) (near : Conf → Conf → Bool) (holds : ℕ → Bool) (moves : List Move) (p : Path) → In p (run first near (start holds) moves).held → Changed first near p
held_changed first near = held_all first near (Changed first near)
    (λ q pre. inl (only_nil q pre.0 pre.1))
    (λ p q pre all x up. all x (begins x p q up pre))
    (λ s b ok all q pre. elim (front_push q s.path (record { term = s.term; body = b }) pre) [
      | inl short ↦ all q short
      | inr whole ↦
          let now : conf first q ≡ changed_by (conf first s.path) b = ap (conf first) whole ∙ conf-append first s.path (record { term = s.term; body = b } ∷ []) in
          subst (λ y. (y ≡ first) ⊎ ((c : Conf) × (near c y ≡ true))) (sym now)
          (after_push near first (conf first s.path) b (push_near first near s b ok) (all s.path (front_refl s.path)))
    ])
  where
    only_nil : (q r : Path) → q ++ r ≡ [] → conf first q ≡ first
    only_nil [] r is = refl
    only_nil (x ∷ q) r is = cc

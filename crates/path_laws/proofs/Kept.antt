-- Every move keeps what is kept, so every run is sound.
use Rattle.std.proofs.Common.{◌≡◌, ℕ, zero, suc, ◌==◌, Bool, true, false, cond, inl, inr, Option, Some, None, List, [], ◌∷◌, ◌++◌, slice_get, refl, sym, ◌∙◌, subst, arith}
use Rattle.std.proofs.lemmas.Bool.{cond_both, eqb-true, cases_Bool}
use Rattle.values.specs.declared.entry.LogEntry.{LogEntry}
use Rattle.replica_model.specs.Path.{Path}
use Rattle.group_quorum.specs.Conf.{Conf}
use Rattle.path_machine.specs.Node.{Role, Learner, Follower, Node, Message, AskVote, Vote, Append, Accepted, Part, quiet, empty, is_learner, is_leader, is_candidate, followed, commit, term_of, append, hears, learns, takes}
use Rattle.path_machine.specs.Machine.{Note, Machine, Move, Do, Deliver, Act, Rise, Follow, Stand, Win, Push, Raise, Commit, Send, Hand, Crash, start, moved, acts, by, rise, come, deliver, crash, happens, mover, seen, next, run, In}
use Rattle.path_machine.specs.Changes.{Overlap}
use Rattle.path_machine.proofs.Good.{GoodMessage, GoodNode, Kept}
use Rattle.path_laws.proofs.Steps.{value_cases, some_same}
use Rattle.path_laws.proofs.Local.{same_kept, rise_kept, follow_kept, stand_kept, commit_kept, send_kept, hand_kept}
use Rattle.path_laws.proofs.Hearing.{asked_kept, heard_kept, accepted_kept}
use Rattle.path_laws.proofs.Grafting.{append_kept, learns_kept}
use Rattle.path_laws.proofs.Reigning.{win_kept, push_kept}
use Rattle.path_laws.proofs.Choosing.{note_kept, raise_kept, seen_kept}

pub in_get : {A : Type 0} (xs : List A) (k : ℕ) (x : A) → slice_get xs k ≡ Some x → In x xs
in_get [] k x is = cc
in_get (y ∷ xs) zero x is = inl (some_same y x is)
in_get (y ∷ xs) (suc k) x is = inr (in_get xs k x is)

module _ (first : Conf) (near : Conf → Conf → Bool) (overlaps : (c d : Conf) → near c d ≡ true → Overlap c d) where
  pub crash_kept : (w : Machine) (v : ℕ) → Kept first w → Kept first (crash w v)
  crash_kept w v k = record {
    history = k.history;
    nodes = λ u s is. elim (value_cases w.nodes v None u) [
      | inl h ↦ absurd (let apart : None ≡ Some s = sym h.1 ∙ is in cc)
      | inr h ↦ k.nodes u s (sym h.1 ∙ is)
    ];
    leads = k.leads;
    held = k.held;
  }

  acts_kept : (w : Machine) (v : ℕ) (act : Act) (s : Node) → w.nodes v ≡ Some s → Kept first w → Kept first (acts first near w v act s)
  acts_kept w v (Rise t) s is k = rise_kept first w v s k is t
  acts_kept w v Follow s is k = follow_kept first w v s k is
  acts_kept w v Stand s is k = stand_kept first w v s k is
  acts_kept w v Win s is k = win_kept first w v s k is
  acts_kept w v (Push b) s is k = push_kept first w v s k is near overlaps b
  acts_kept w v (Note wanted) s is k = note_kept first w v s k is wanted
  acts_kept w v (Raise i) s is k = raise_kept first w v s k is i
  acts_kept w v (Commit i) s is k = commit_kept first w v s k is i
  acts_kept w v (Send i) s is k = send_kept first w v s k is i
  acts_kept w v (Hand i) s is k = hand_kept first w v s k is i
  acts_kept w v Crash s is k = crash_kept w v k

  by_kept : (w : Machine) (o : Option Node) (f : Node → Machine) → ((s : Node) → o ≡ Some s → Kept first (f s)) → Kept first w → Kept first (by o w f)
  by_kept w None f all k = k
  by_kept w (Some s) f all k = cond_both s.halted w (f s) (Kept first) (λ b. k) (λ b. all s refl)

  hears_kept : (w : Machine) (v : ℕ) (s : Node) (refuses : Bool) (m : Message) → w.nodes v ≡ Some s → Kept first w → In m w.history.messages → term_of m ≡ s.term → Kept first (moved w v (hears v s refuses m))
  hears_kept w v s refuses (AskVote t u q) is k at same = asked_kept first w v s k is u q (subst (λ n. In (AskVote n u q) w.history.messages) same at)
  hears_kept w v s refuses (Vote t u c q) is k at same = heard_kept first w v s k is u c q (subst (λ n. In (Vote n u c q) w.history.messages) same at)
  hears_kept w v s refuses (Append t q promise commit) is k at same = cond_both refuses (quiet (followed s)) (append v s q promise commit) (λ out. Kept first (moved w v out))
      (λ b. follow_kept first w v s k is)
      (λ b. append_kept first w v s k is q promise commit (subst (λ n. GoodMessage first w.history (Append n q promise commit)) same (k.history.messages (Append t q promise commit) at)))
  hears_kept w v s refuses (Accepted t u q) is k at same = accepted_kept first w v s k is u q (subst (λ n. In (Accepted n u q) w.history.messages) same at)
  hears_kept w v s refuses (Part t q) is k at same = same_kept first w v s k is

  pub takes_kept : (w : Machine) (v : ℕ) (s : Node) (refuses : Bool) (m : Message) → w.nodes v ≡ Some s → Kept first w → In m w.history.messages → Kept first (moved w v (takes v s refuses m))
  takes_kept w v s refuses m is k at = cond_both (is_learner s.role) (learns s refuses m) (cond (term_of m == s.term) (hears v s refuses m) (quiet s)) (λ out. Kept first (moved w v out))
      (λ learner. learns_kept first w v s k is refuses m learner (k.history.messages m at))
      (λ other. cond_both (term_of m == s.term) (hears v s refuses m) (quiet s) (λ out. Kept first (moved w v out))
      (λ same. hears_kept w v s refuses m is k at (eqb-true (term_of m) s.term same))
      (λ apart. same_kept first w v s k is))

  come_kept : (w : Machine) (v : ℕ) (refuses : Bool) (m : Message) → Kept first w → In m w.history.messages → Kept first (come w v refuses m)
  come_kept w v refuses m k at = by_kept w (w.nodes v) (λ s. moved w v (takes v s refuses m)) (λ s is. takes_kept w v s refuses m is k at) k

  -- a rise sends nothing
  rise_sent : (w : Machine) (v t : ℕ) (s : Node) (m : Message) → In m w.history.messages → In m (rise w v t s).history.messages
  rise_sent w v t s m at = cond_both _ _ w (λ x. In m x.history.messages) (λ b. at) (λ b. at)

  by_sent : (w : Machine) (o : Option Node) (f : Node → Machine) (m : Message) → ((s : Node) → In m (f s).history.messages) → In m w.history.messages → In m (by o w f).history.messages
  by_sent w None f m all at = at
  by_sent w (Some s) f m all at = cond_both s.halted w (f s) (λ x. In m x.history.messages) (λ b. at) (λ b. all s)

  deliver_kept : (w : Machine) (v : ℕ) (refuses : Bool) (o : Option Message) → ((m : Message) → o ≡ Some m → In m w.history.messages) → Kept first w → Kept first (deliver w v refuses o)
  deliver_kept w v refuses None sent k = k
  deliver_kept w v refuses (Some m) sent k =
      let at : In m w.history.messages = sent m refl in
      come_kept (by (w.nodes v) w (rise w v (term_of m))) v refuses m
      (by_kept w (w.nodes v) (rise w v (term_of m)) (λ s is. rise_kept first w v s k is (term_of m)) k)
      (by_sent w (w.nodes v) (rise w v (term_of m)) m (λ s. rise_sent w v (term_of m) s m at) at)

  happens_kept : (w : Machine) (e : Move) → Kept first w → Kept first (happens first near w e)
  happens_kept w (Do v act) k = by_kept w (w.nodes v) (acts first near w v act) (λ s is. acts_kept w v act s is k) k
  happens_kept w (Deliver v i refuses) k = deliver_kept w v refuses (slice_get w.history.messages i) (λ m is. in_get w.history.messages i m is) k

  some_seen : (x : Machine) (v : ℕ) (o : Option Node) → x.nodes v ≡ o → Kept first x → Kept first (seen x v o)
  some_seen x v None is k = k
  some_seen x v (Some s) is k = seen_kept first x v s k is

  pub next_kept : (w : Machine) (e : Move) → Kept first w → Kept first (next first near w e)
  next_kept w e k = let x : Machine = happens first near w e in some_seen x (mover e) (x.nodes (mover e)) refl (happens_kept w e k)

  nothing : (c : Path) (a : LogEntry) (r : Path) → c ++ a ∷ r ≡ [] → ⊥
  nothing [] a r is = cc
  nothing (x ∷ c) a r is = cc

  empty_good : (holds : ℕ → Bool) (v : ℕ) (r : Role) → is_leader r ≡ false → is_candidate r ≡ false → GoodNode first (start holds).history v (empty r)
  empty_good holds v r a b = record {
    alive = refl;
    known = λ c e z is. absurd (nothing c e z is);
    fits = omega arith;
    within = omega arith;
    settled = inl refl;
    leads = λ so. absurd (let apart : true ≡ false = sym so ∙ a in cc);
    stands = λ so. absurd (let apart : true ≡ false = sym so ∙ b in cc);
    nothing = λ so. refl;
    says = λ m at. absurd at;
  }

  pub start_kept : (holds : ℕ → Bool) → Kept first (start holds)
  start_kept holds = record {
    history = record {
      reigns = λ t r is. absurd (let apart : None ≡ Some r = is in cc);
      chosen = λ t p at. absurd at;
      messages = λ m at. absurd at;
      once = λ t v c d p q a b. absurd a;
    };
    nodes = λ v s is.
        let same : empty (cond (holds v) Follower Learner) ≡ s = some_same (empty (cond (holds v) Follower Learner)) s is in
        subst (GoodNode first (start holds).history v) same
        (elim (cases_Bool (holds v)) [
          | inl yes' ↦ rw yes' (empty_good holds v Follower refl refl)
          | inr none ↦ rw none (empty_good holds v Learner refl refl)
        ]);
    leads = λ l at. absurd at;
    held = λ p at. elim at [ inl new ↦ (0, λ c e z is. absurd (nothing c e z (is ∙ sym new))) | inr never ↦ absurd never ];
  }

  pub run_kept : (w : Machine) (moves : List Move) → Kept first w → Kept first (run first near w moves)
  run_kept w [] k = k
  run_kept w (e ∷ moves) k = run_kept (next first near w e) moves (next_kept w e k)

-- What one replica does keeps a run beside the machine.
use Rattle.std.proofs.Common.{◌≡◌, ℕ, ◌<◌, ◌==◌, Bool, true, false, inl, inr, Some, None, List, ◌∷◌, ◌++◌, map, refl, subst, arith}
use Rattle.std.proofs.lemmas.Bool.{or_left, or_parts, eq-eqb}
use Rattle.std.proofs.lemmas.List.{append-nil}
use Rattle.group_quorum.specs.Conf.{Conf}
use Rattle.group_quorum.specs.Voters.{is_in}
use Rattle.replica_model.specs.Path.{Path, Link}
use Rattle.replica_model.specs.Keyed.{value_at}
use Rattle.replica_model.specs.Replica.{Replica, learner}
use Rattle.replica_model.specs.Message.{Message}
use Rattle.replica_model.specs.Call.{still}
use Rattle.group_model.specs.Enclave.{Learn, started, HostInput, Peer, Enclave, called}
use Rattle.group_model.specs.Group.{Sent, sent_by}
use Rattle.group_model.specs.Run.{Recorded, Enclaves, moves, newly, start_enclave}
use Rattle.log_laws.proofs.Chain.{NoCollisionIn}
use Rattle.log_laws.proofs.History.{with_call, HeldIn, held_shorter}
use Rattle.path_machine.specs.Changes.{is_rising}
use Rattle.path_machine.specs.Node as node
use Rattle.halt_laws.proofs.Alike.{Is, msg_more}
use Rattle.halt_laws.proofs.Onward.{still_went}
use Rattle.halt_laws.proofs.Stepping.{HostInputFits, called_went}
use Rattle.halt_laws.proofs.Moving.{Simulated, moves_simulated}

-- the same over a larger history
handed_more : (link : Link) (first : Conf) (Held Larger : Path → Type 0) → ((p : Path) → Held p → Larger p) → (messages : List node.Message) (v : ℕ) (e : Enclave) (input : HostInput Message) → HostInputFits link first Held messages v e input → HostInputFits link first Larger messages v e input
handed_more link first Held Larger larger messages v e (Peer from to m) x = (x.0, msg_more link first Held Larger larger messages messages (λ y h. h) from v m.names m.msg x.1)
handed_more link first Held Larger larger messages v e other x = x

module _ (link : Link) (first : Conf) (holds : ℕ → Bool) (started' : List ℕ) (messages : List (Sent Message)) (f : Enclaves) (k : Simulated link first holds started' messages f) where
  -- a call of a replica that runs
  pub called_simulated : is_rising first.voters ≡ true → (v : ℕ) (e : Enclave) (input : HostInput Message) → value_at f.running v ≡ Some e → HostInputFits link first (HeldIn f.history) k.machine.history.messages v e input → NoCollisionIn link (HeldIn (with_call f.history v e.replica (Some input) (called link e input).call)) → Simulated link first holds started' (messages ++ map (sent_by v) (called link e input).call.sent) (moves f v e.replica (Some input) (called link e input))
  called_simulated rises v e input is x none =
      let history' : List Recorded = with_call f.history v e.replica (Some input) (called link e input).call in
      let old = k.states v e is in
      let c = called_went link first rises holds (HeldIn history') (held_shorter history') none k.machine v e old.0 (inr old.1) input (handed_more link first (HeldIn f.history) (HeldIn history') (λ p h. inr h) k.machine.history.messages v e input x) in
      moves_simulated link first holds started' messages f k started' (λ u h. h) v (k.used v e is) e.replica (Some input) (called link e input) c.same c.call

  -- a learner starts
  pub learner_simulated : (x : ℕ) (running : List ℕ) → is_in started' x ≡ false → 0 < x → Simulated link first holds (x ∷ started') messages (start_enclave f (Learn x running))
  learner_simulated x running new some =
      let s : Replica = learner x in
      let here : Is first holds k.machine x s =
      record {
        reached = k.reached;
        voted = None;
        votes = λ u. false;
        marks = λ u. 0;
        here = k.fresh x new;
        mine = refl;
        some = some;
        based = omega arith;
        vote_is = inl refl;
        acts = tt;
        awake = refl;
      } in
      subst (λ m. Simulated link first holds (x ∷ started') m (start_enclave f (Learn x running))) (append-nil messages)
      (moves_simulated link first holds started' messages f k (x ∷ started') (λ u out. (or_parts (x == u) (is_in started' u) out).1) x (or_left (x == x) (is_in started' x) (eq-eqb x x refl)) s None (newly (started (Learn x running))) refl
      (still_went link first holds (HeldIn (with_call f.history x s None (still s))) k.machine x s here))

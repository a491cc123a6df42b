-- A run beside the generous machine, and that it stays so where one replica goes on.
use Rattle.std.proofs.Common.{◌≡◌, ℕ, ◌<◌, Bool, true, false, inl, inr, Option, Some, None, List, ◌++◌, refl, sym, ◌∙◌, subst}
use Rattle.std.specs.Prelude.{map}
use Rattle.std.specs.List.{AllByRecursion}
use Rattle.std.proofs.lemmas.Bool.{both_ways}
use Rattle.group_quorum.specs.Conf.{Conf}
use Rattle.group_quorum.specs.Voters.{is_in}
use Rattle.replica_model.specs.Path.{Path, Link}
use Rattle.replica_model.specs.Keyed.{value_at, put, without}
use Rattle.replica_model.specs.Replica.{Replica, Role, Leader}
use Rattle.replica_model.specs.Message.{Message}
use Rattle.group_model.specs.Enclave.{HostInput, Enclave, Called}
use Rattle.group_model.specs.Group.{Sent, sent_by}
use Rattle.group_model.specs.Run.{Recorded, Enclaves, moves}
use Rattle.group_model.specs.Log.{AnyByRecursion, IsFrontOf, state_of, promised_path}
use Rattle.group_model.specs.Halts.{EnoughAt, Leads}
use Rattle.log_laws.proofs.Good.{front_refl}
use Rattle.log_laws.proofs.Ending.{all-append}
use Rattle.log_laws.proofs.History.{with_call, HeldIn, all_more}
use Rattle.log_laws.proofs.Lookups.{without_stood}
use Rattle.log_laws.proofs.Standing.{goes_on, mailed}
use Rattle.path_machine.specs.Node as node
use Rattle.path_machine.specs.Node.{Node}
use Rattle.path_machine.specs.Machine.{Choice, Machine, In}
use Rattle.path_machine.specs.Changes.{is_single_change}
use Rattle.path_machine.proofs.Changes.{single_change_overlaps}
use Rattle.path_laws.proofs.Goes.{Later, reached_laws}
use Rattle.halt_laws.proofs.Alike.{kind, node_as, MsgFits, msg_more, Reach, Is, Went}

-- in some call of a history there was a moment with enough marks
abbrev pub EnoughIn : List Recorded → ℕ → Path → Type 0
EnoughIn history t p = AnyByRecursion (λ (r : Recorded). AnyByRecursion (EnoughAt t p) r.call.moments) history

-- what the machine tells of a call
pub record Recounted (m : Machine) (Enough : ℕ → Path → Type 0) (r : Recorded) : Type 0 where
  pub led : (t : ℕ) → r.call.batch.lead ≡ Some t → (p : Path) × In (record { term = t; leader = r.replica; path = p }) m.leads
  pub leads : Leads (state_of r).role → In (record { term = (state_of r).term; leader = r.replica; path = (state_of r).path }) m.leads
  pub held : In (state_of r).path m.held
  pub lies : 0 < (state_of r).promised → (t : ℕ) × (p : Path) × Enough t p × IsFrontOf (promised_path (state_of r)) p
  pub awake : (state_of r).halted ≡ None
  pub untold : r.call.batch.halt ≡ None

pub recounted_more : (m n : Machine) → Later m n → (Enough More : ℕ → Path → Type 0) → ((t : ℕ) (p : Path) → Enough t p → More t p) → (r : Recorded) → Recounted m Enough r → Recounted n More r
recounted_more m n later Enough More more r x = record {
  led = λ t is. let y = x.led t is in (y.0, later.leads (record { term = t; leader = r.replica; path = y.0 }) y.1);
  leads = λ so. later.leads (record { term = (state_of r).term; leader = r.replica; path = (state_of r).path }) (x.leads so);
  held = later.held (state_of r).path x.held;
  lies = λ some. let y = x.lies some in (y.0, y.1, more y.0 y.1 y.2, y.3);
  awake = x.awake;
  untold = x.untold;
}

abbrev pub MailFits : Link → Conf → List Recorded → List node.Message → Sent Message → Type 0
MailFits link first history messages m = (0 < m.from) × MsgFits link first (HeldIn history) messages m.from m.to m.message.names m.message.msg

-- a run beside a machine: who runs stands beside its node, who was never started holds nothing, each message beside one
-- that a node sent; what had enough marks is what was chosen; and each call is told
pub record Simulated (link : Link) (first : Conf) (holds : ℕ → Bool) (started : List ℕ) (messages : List (Sent Message)) (f : Enclaves) : Type 0 where
  pub machine : Machine
  pub reached : Reach first holds machine
  pub states : (v : ℕ) (e : Enclave) → value_at f.running v ≡ Some e → Is first holds machine v e.replica × HeldIn f.history e.replica.path
  pub used : (v : ℕ) (e : Enclave) → value_at f.running v ≡ Some e → is_in started v ≡ true
  pub fresh : (v : ℕ) → is_in started v ≡ false → machine.nodes v ≡ Some (node.empty node.Learner)
  pub mail : AllByRecursion (MailFits link first f.history machine.history.messages) messages
  pub noted : (c : Choice) → In c machine.history.chosen → EnoughIn f.history c.term c.path
  pub enough : (c : Choice) → EnoughIn f.history c.term c.path → In c machine.history.chosen
  pub recounted : AllByRecursion (Recounted machine (EnoughIn f.history)) f.history

leader_kind : (role : Role) → Leads role → node.is_leader (kind role) ≡ true
leader_kind (Leader l) so = refl
leader_kind other so = absurd so

module _ (link : Link) (first : Conf) (holds : ℕ → Bool) (started : List ℕ) (messages : List (Sent Message)) (f : Enclaves) (k : Simulated link first holds started messages f) where
  module _ (started' : List ℕ) (fewer : (u : ℕ) → is_in started' u ≡ false → is_in started u ≡ false) (v : ℕ) (used : is_in started' v ≡ true) (before : Replica) (input : Option (HostInput Message)) (c : Called) (same : c.call.state ≡ c.enclave.replica) (went : Went first holds link (HeldIn (with_call f.history v before input c.call)) k.machine v c.call) where
    abbrev history' : List Recorded
    history' = with_call f.history v before input c.call

    apart_from : (u : ℕ) → is_in started' u ≡ false → u ≡ v → ⊥
    apart_from u out is = both_ways (is_in started' v) (subst (λ x. is_in started' x ≡ false) is out) used

    -- the call is told
    told : Recounted went.now (EnoughIn history') (record { replica = v; before = before; input = input; call = c.call })
    told =
        let s : Replica = c.call.state in
        let n : Node = node_as (kind s.role) s.term s.path s.promised s.committed went.at.voted went.at.votes went.at.marks in
        let laws = reached_laws first is_single_change single_change_overlaps holds went.now went.at.reached in
        record {
          led = went.led;
          leads = λ so. laws.lead_recorded v n went.at.here (leader_kind s.role so);
          held = laws.path_recorded v n went.at.here;
          lies = λ some.
              let y = laws.promises_lie v n went.at.here some in
              (y.0, y.1, elim (went.noted (record { term = y.0; path = y.1 }) y.2) [ inl old ↦ inr (k.noted (record { term = y.0; path = y.1 }) old) | inr new ↦ inl new ], y.3);
          awake = went.at.awake;
          untold = went.untold;
        }

    -- one replica goes on
    pub moves_simulated : Simulated link first holds started' (messages ++ map (sent_by v) c.call.sent) (moves f v before input c)
    moves_simulated = record {
      machine = went.now;
      reached = went.at.reached;
      states = states;
      used = goes_on (λ u e. is_in started u ≡ true) (λ u e. is_in started' u ≡ true) f.running v c.enclave used (λ u e apart. in_more u) k.used;
      fresh = λ u out. went.others u (apart_from u out) ∙ k.fresh u (fewer u out);
      mail = all-append (MailFits link first history' went.now.history.messages) messages (map (sent_by v) c.call.sent)
          (all_more (MailFits link first f.history k.machine.history.messages) (MailFits link first history' went.now.history.messages)
          (λ m x. (x.0, msg_more link first (HeldIn f.history) (HeldIn history') (λ p h. inr h) k.machine.history.messages went.now.history.messages went.later.messages m.from m.to m.message.names m.message.msg x.1))
          messages k.mail)
          (mailed (MailFits link first history' went.now.history.messages) v c.call.sent (all_more (λ (m : ℕ × Message). MsgFits link first (HeldIn history') went.now.history.messages v m.0 m.1.names m.1.msg) (λ m. MailFits link first history' went.now.history.messages (sent_by v m)) (λ m x. (went.at.some, x)) c.call.sent (went.told (inl (front_refl c.call.state.path)))));
      noted = λ x at. elim (went.noted x at) [ inl old ↦ inr (k.noted x old) | inr new ↦ inl new ];
      enough = λ x h. elim h [ inl new ↦ went.enough x new | inr old ↦ went.later.chosen x (k.enough x old) ];
      recounted = (told, all_more (Recounted k.machine (EnoughIn f.history)) (Recounted went.now (EnoughIn history')) (recounted_more k.machine went.now went.later (EnoughIn f.history) (EnoughIn history') (λ t p h. inr h)) f.history k.recounted);
    }
      where
        in_more : (u : ℕ) → is_in started u ≡ true → is_in started' u ≡ true
        in_more u stood = elim (Rattle.std.proofs.lemmas.Bool.cases_Bool (is_in started' u)) [ inl stands ↦ stands | inr out ↦ absurd (both_ways (is_in started u) (fewer u out) stood) ]

        states : (u : ℕ) (e : Enclave) → value_at (put f.running v c.enclave) u ≡ Some e → Is first holds went.now u e.replica × HeldIn history' e.replica.path
        states = goes_on (λ u e. Is first holds k.machine u e.replica × HeldIn f.history e.replica.path) (λ u e. Is first holds went.now u e.replica × HeldIn history' e.replica.path) f.running v c.enclave
            (subst (λ (s : Replica). Is first holds went.now v s × HeldIn history' s.path) same (went.at, inl (front_refl c.call.state.path)))
            (λ u e apart old.
            let a = old.0 in (
              record {
                reached = went.at.reached;
                voted = a.voted;
                votes = a.votes;
                marks = a.marks;
                here = went.others u (λ same'. apart (sym same')) ∙ a.here;
                mine = a.mine;
                some = a.some;
                based = a.based;
                vote_is = a.vote_is;
                acts = a.acts;
                awake = a.awake;
              },
              inr old.1,
            ))
            k.states

    -- no other node moves
    pub moves_others : (u : ℕ) → (u ≡ v → ⊥) → moves_simulated.machine.nodes u ≡ k.machine.nodes u
    unfolding moves_simulated
    moves_others u apart = went.others u apart

  -- a replica stops
  pub stopped_simulated : (v : ℕ) → Simulated link first holds started messages (record f { running = without f.running v })
  stopped_simulated v = record {
    machine = k.machine;
    reached = k.reached;
    states = λ u e is. k.states u e (without_stood f.running v u e is);
    used = λ u e is. k.used u e (without_stood f.running v u e is);
    fresh = k.fresh;
    mail = k.mail;
    noted = k.noted;
    enough = k.enough;
    recounted = k.recounted;
  }

-- One call of a replica, and of its enclave, is some moves of its node.
use Rattle.replica_model.specs.Step.{step as step_of}
use Rattle.replica_model.specs.Replica.{nothing_named, Named, Role, Learner, Follower, Candidate, Leader, Replica}
use Rattle.step_walk.specs.Rules.{IsBehind, Rules}
use Rattle.step_walk.proofs.Outcomes as may
use Rattle.step_walk.proofs.Walk.{holds_behind, step_keeps}
use Rattle.halt_laws.proofs.Hearing.{accepted_at, rejected_at, taken_at, tick_at, learner_went}
use Rattle.halt_laws.proofs.Changing.{join_went, admit_went, remove_went, margin_went}
use Rattle.std.proofs.Common.{◌≡◌, ℕ, ◌<◌, ◌||◌, Bool, true, false, None, List, slice_get, refl, sym, ◌∙◌, subst}
use Rattle.std.proofs.lemmas.Bool.{lt-ltb}
use Rattle.std.proofs.lemmas.Option.{none-some}
use Rattle.values.specs.declared.peer.PeerMsg.{PeerMsg}
use Rattle.values.specs.declared.peer.PeerMsg.TheVariants.{AskVote, Vote, Append, Accepted, Rejected, PartTaken}
use Rattle.group_quorum.specs.Conf.{Conf}
use Rattle.replica_model.specs.Path.{Path, Link}
use Rattle.replica_model.specs.Message.{Message, plain}
use Rattle.replica_model.specs.Call as step
use Rattle.replica_model.specs.Call.{Input, Call, still}
use Rattle.values.specs.Terms.{term_of}
use Rattle.group_model.specs.Enclave.{HostInput, Enclave, called}
use Rattle.group_model.specs.Log.{IsFrontOf}
use Rattle.event_walk.specs.Enclosed.{Handed, Enclosed}
use Rattle.event_walk.proofs.Enclosed.{call_keeps}
use Rattle.log_laws.proofs.Chain.{NoCollisionIn}
use Rattle.path_machine.specs.Node as node
use Rattle.path_machine.specs.Machine.{Machine}
use Rattle.path_machine.specs.Changes.{is_rising}
use Rattle.halt_laws.proofs.Alike.{kind, MsgFits, msg_more, Is, Went}
use Rattle.halt_laws.proofs.Onward.{Going, still_went, says_went, rise_went}
use Rattle.halt_laws.proofs.Sending.{ended_went}
use Rattle.halt_laws.proofs.Electing.{stand_went, vote_asked_went, vote_heard_went, client_went}
use Rattle.halt_laws.proofs.Offering.{append_went}

-- a message that is handed to v stands beside one that was sent
abbrev pub InputFits : Link → Conf → (Path → Type 0) → List node.Message → ℕ → Input → Type 0
InputFits link first Held messages v (step.Peer from m) = (0 < from) × MsgFits link first Held messages from v m.names m.msg
InputFits link first Held messages v input = Unit {0}

-- the same of what a host hands, where nothing is put back
abbrev pub HostInputFits : Link → Conf → (Path → Type 0) → List node.Message → ℕ → Enclave → HostInput Message → Type 0
HostInputFits link first Held messages v e = Handed e (λ input. InputFits link first Held messages v) (λ k. slice_get e.saved k ≡ None)

module _ (link : Link) (first : Conf) (rises : is_rising first.voters ≡ true) (holds : ℕ → Bool) (Held : Path → Type 0) (closed : (p w : Path) → IsFrontOf p w → Held w → Held p) (none : NoCollisionIn link Held) (w : Machine) (v : ℕ) where
  abbrev Fit : ℕ → Named → PeerMsg → Type 0
  Fit from names msg = (0 < from) × MsgFits link first Held w.history.messages from v names msg

  abbrev Goes : Call → Type 0
  Goes c = Going link first holds Held w v c

  -- a state that the moves so far have come to
  record Come (s : Replica) : Type 0 where
    going : Goes (still s)
    mine : Held s.path

  -- a message that fitted fits, in the replica's own term
  now_fits : (s : Replica) (f : Goes (still s)) (from : ℕ) (names : Named) (msg : PeerMsg) → Fit from names msg → MsgFits link first Held f.now.history.messages from v names msg
  now_fits s f from names msg x = msg_more link first Held Held (λ p h. h) w.history.messages f.now.history.messages f.later.messages from v names msg x.1

  says : (s : Replica) → Come s → (to : ℕ) (msg : PeerMsg) → ((messages : List node.Message) → MsgFits link first Held messages v to nothing_named msg) → Goes (Rattle.replica_model.specs.Call.says s to msg)
  says s f to msg fits = says_went link first holds Held w v (still s) f.going to (plain msg) (λ held. fits f.going.now.history.messages)

  behind_kind : (role : Role) → IsBehind role → (node.is_learner (kind role) || node.is_leader (kind role)) ≡ false
  behind_kind (Learner taking) behind = absurd behind
  behind_kind Follower behind = refl
  behind_kind (Candidate votes) behind = refl
  behind_kind (Leader l) behind = absurd behind

  rules : Rules link Come (λ s. InputFits link first Held w.history.messages v) Fit (λ s. Goes) (λ s input. Goes)
  rules = record {
    idle = λ s f. f.going;
    not_leader = λ s known le f. f.going;
    rises = λ s from names msg f holder x up. record { going = rise_went link first holds Held w v s (term_of msg) f.going (lt-ltb s.term (term_of msg) up); mine = f.mine };
    back = λ s t c done. done;
    message = λ s from m x. x;
    stands = λ s f behind x. stand_went link first holds Held closed w v s (behind_kind s.role behind) (holds_behind s.role behind) f.going;
    asked_vote = λ s from names term last_index last f holder same x.
        vote_asked_went link first holds Held closed w v s holder from last_index last names x.0 f.going (subst (λ t. MsgFits link first Held f.going.now.history.messages from v names (AskVote t last_index last)) same (now_fits s f.going from names (AskVote term last_index last) x));
    heard_vote = λ s votes from names term granted f is same x.
        vote_heard_went link first holds Held closed w v s votes is from granted names f.going (subst (λ t. MsgFits link first Held f.going.now.history.messages from v names (Vote t granted)) same (now_fits s f.going from names (Vote term granted) x));
    heard_append = λ s names term o f holder same x.
        append_went link first holds Held closed none w v s holder f.mine f.going o (subst (λ t. MsgFits link first Held f.going.now.history.messages o.from v names (Append t o.prev o.entries o.promise o.commit)) same (now_fits s f.going o.from names (Append term o.prev o.entries o.promise o.commit) x));
    older_vote = λ s from names term last_index last f holder x. says s f from (Vote s.term false) (λ messages yes'. absurd (let apart : false ≡ true = yes' in cc));
    older_append = λ s from names term prev entries promise commit f holder x. says s f from (Rejected s.term prev.index s.promised) (λ messages. tt);
    older_part = λ s from names term part f holder x. says s f from (Rejected s.term part.point.index s.promised) (λ messages. tt);
    heard_part = λ s from names term part f holder x. may.part_heard_by Goes link s from part (says s f from (PartTaken s.term part.point part.parts) (λ messages. tt)) (λ hint at. says s f from (Rejected s.term part.point.index hint) (λ messages. tt));
    takes_part = λ s taking from names term part f is x. learner_went link first holds Held closed none w v s f.going f.mine taking is from names term part x.1;
    heard_accepted = λ s l from names term end promised f is same x.
        accepted_at link first holds Held closed none w v s f.going l is f.mine from end promised (subst (λ t. MsgFits link first Held f.going.now.history.messages from v names (Accepted t end promised)) same (now_fits s f.going from names (Accepted term end promised) x));
    heard_rejected = λ s l from names term asked hint f is same x. rejected_at link first holds Held closed none w v s f.going l is from hint;
    heard_taken = λ s l from names term point next f is x. taken_at link first holds Held closed none w v s f.going l is from point next;
    leader_ticks = λ s l f is x. tick_at link first holds Held closed none w v s f.going l is;
    joins = λ s l id linked f is x. join_went link first rises holds Held closed w v s f.going l is id linked;
    admits = λ s l id f is x. admit_went link first rises holds Held closed w v s f.going l is id;
    removes = λ s l id f is x. remove_went link first rises holds Held closed w v s f.going l is id;
    sets_margin = λ s l margin f is x. margin_went link first rises holds Held closed w v s f.going l is margin;
    asked = λ s client number request f x. client_went link first holds Held closed w v s client number request f.going;
    others = λ s input c other done. done;
    ends = λ s input c done. ended_went link first holds Held closed w v c c.state.halted done;
  }

  step_went : (s : Replica) (a : Is first holds w v s) → Held s.path → (input : Input) → InputFits link first Held w.history.messages v input → Goes (step_of link s input)
  step_went s a mine input x =
      step_keeps link Come (λ s. InputFits link first Held w.history.messages v) Fit (λ s. Goes) (λ s input. Goes) rules s (record { going = still_went link first holds Held w v s a; mine = mine }) input x

  -- a call of an enclave is some moves
  pub called_went : (e : Enclave) → Is first holds w v e.replica → Held e.replica.path → (input : HostInput Message) → HostInputFits link first Held w.history.messages v e input → Enclosed (Went first holds link Held w v) e (called link e input)
  called_went e a mine = call_keeps link e (λ input. InputFits link first Held w.history.messages v) (λ k. slice_get e.saved k ≡ None) (λ input. Went first holds link Held w v)
      (record {
        stays = λ why x. still_went link first holds Held w v e.replica a;
        steps = λ input told x. step_went e.replica a mine told x;
        rolls = λ k s some none. absurd (none-some s (sym none ∙ some));
      })

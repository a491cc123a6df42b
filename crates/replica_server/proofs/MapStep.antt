-- A step of a replica keeps what it took of tables by the map.
use Rattle.std.proofs.Common.{◌≡◌, ℕ, ◌+◌, inl, inr, Bool, true, false, cond, Option, Some, None, Result, Ok, Err, List, [], refl, sym, ap, subst, ◌∙◌}
use Rattle.std.specs.Prelude.{◌⊎◌, not, ◌&&◌, nat_le, ◌==◌}
use Rattle.std.proofs.lemmas.Bool.{cond_both}
use Rattle.client_msgs.specs.declared.fault.RequestFault.{RequestFault}
use Rattle.client_msgs.specs.declared.fault.RequestFault.TheVariants as request
use Rattle.values.specs.declared.entry.Hash.{Hash}
use Rattle.values.specs.declared.entry.Point.{Point}
use Rattle.values.specs.declared.ids.ClientId.{ClientId}
use Rattle.values.specs.declared.message.Request.{Request}
use Rattle.values.specs.declared.peer.PeerMsg.{PeerMsg}
use Rattle.values.specs.declared.peer.PeerMsg.TheVariants.{AskVote, Vote, Append, Accepted, Rejected, Part, PartTaken}
use Rattle.values.specs.declared.peer.TablePart.{TablePart}
use Rattle.replica_model.specs.Linked.{sha_link}
use Rattle.replica_model.specs.Message.{Message}
use Rattle.replica_model.specs.Replica.{Named, Taking, Role, Learner, Follower, Candidate, Leader, Replica, learner}
use Rattle.replica_model.specs.Call.{Input, Tick, Peer, Client, Join, Admit, Remove, Margin, Call}
use Rattle.replica_model.specs.Clients.{on_request}
use Rattle.replica_model.specs.Configs.{conf_index}
use Rattle.replica_model.specs.Peers.{is_voter}
use Rattle.replica_model.specs.Send.{ended, stepped_down, concluded, send_appends}
use Rattle.replica_model.specs.Step.{step, acts}
use Rattle.replica_model.specs.Tables.{IsTruePart, is_taken, taken_with, takes, takes_whole, expects, take_part, learner_hears}
use Rattle.replica_model.specs.Term.{learner_term}
use Rattle.group_quorum.specs.Conf.{Conf}
use Rattle.replica_core.specs.declared.role.Role.{Role as Kind}
use Rattle.replica_core.specs.declared.role.Role.TheVariants as kind
use Rattle.replica_core.specs.declared.replica.State.{State}
use Rattle.replica_core.specs.declared.replica.State.TheVariants as state
use Rattle.replica_core.specs.Standing as core
use Rattle.replica_server.specs.Standing.{IsByMap, IsByMapAt}
use Rattle.replica_server.proofs.MapTaken.{map_taken}

-- what a learner that holds nothing is told of a table is a true part of the map's path at its point
abbrev pub IsToldBy : (Point → Named) → Role → PeerMsg → Named → Type 0
IsToldBy names (Learner t) (Part term part) n = (n ≡ names part.point) × IsTruePart sha_link part n
IsToldBy names role msg n = Unit {0}

abbrev pub IsTold : (Point → Named) → Role → Input → Type 0
IsTold names role (Peer from m) = IsToldBy names role m.msg m.names
IsTold names role i = Unit {0}

-- it holds a log
abbrev pub Holds : State → Type 0
Holds state.Spent = ⊥
Holds (state.Learner l) = ⊥
Holds (state.Holder h) = Unit {0}

module _ (names : Point → Named) where
  -- a call that sends nothing more, and whose replica took by the map
  abbrev Kept : Call → Type 0
  Kept c = (c.appends ≡ []) × IsByMapAt names c.state

  down : (s : Replica) (r : Role) → s.role ≡ r → IsByMap names r → IsByMapAt names (stepped_down s r)
  down s (Leader l) e h =
      cond_both (not (is_voter s) && nat_le (conf_index s.path) s.committed) (record s { role = Follower; known = 0 }) s (λ x. IsByMapAt names x) (λ _. tt) (λ _. subst (IsByMap names) (sym e) tt)
  down s (Learner t) e h = subst (IsByMap names) (sym e) h
  down s Follower e h = subst (IsByMap names) (sym e) tt
  down s (Candidate votes) e h = subst (IsByMap names) (sym e) tt

  ended_kept : (c : Call) (halted : Option (ℕ × Hash × Hash)) → Kept c → IsByMapAt names (ended sha_link c halted).state
  ended_kept c (Some d) h = h.1
  ended_kept c None h =
      subst (λ vs. IsByMapAt names (concluded (send_appends sha_link c vs)).state) (sym h.0) (down c.state c.state.role refl h.1)

  -- a learner that holds nothing
  abbrev pub learning : (me term : ℕ) → Taking → Replica
  learning me term t = record (learner me) { term = term; role = Learner t }

  on_request_kept : (me term : ℕ) (t : Taking) (client : ClientId) (number : ℕ) (r : Result Request RequestFault) → IsByMap names (Learner t)
      → Kept (on_request (learning me term t) client number r)
  on_request_kept me term t client number (Ok r) h = (refl, h)
  on_request_kept me term t client number (Err request.Memory) h = (refl, h)
  on_request_kept me term t client number (Err (request.Wire fault)) h = (refl, h)
  on_request_kept me term t client number (Err request.Nothing) h = (refl, h)
  on_request_kept me term t client number (Err (request.Size part size)) h = (refl, h)

  takes_kept : (s : Replica) (from : ℕ) (t : Taking) (part : TablePart) (n : Named) → IsByMap names (Learner t) → Kept (takes sha_link s from t part n)
  takes_kept s from t part n h =
      cond_both (part.part + 1 == part.parts) (takes_whole sha_link s from part n t.names.limit) (expects sha_link (record s { role = Learner t }) from t) Kept (λ _. (refl, tt)) (λ _. (refl, h))

  part_kept : (me term : ℕ) (t : Taking) (from : ℕ) (part : TablePart) (b : Bool) → is_taken sha_link t part ≡ b → IsByMap names (Learner t) → IsTruePart sha_link part (names part.point)
      → Kept (cond b (takes sha_link (learning me term t) from (taken_with t part (names part.point)) part (names part.point)) (expects sha_link (learning me term t) from t))
  part_kept me term t from part true e h is = takes_kept (learning me term t) from (taken_with t part (names part.point)) part (names part.point) (map_taken names t part e h is)
  part_kept me term t from part false e h is = (refl, h)

  heard_kept : (me term : ℕ) (t : Taking) (from : ℕ) (n : Named) (msg : PeerMsg) → IsByMap names (Learner t) → IsToldBy names (Learner t) msg n
      → Kept (learner_hears sha_link (learning me term t) t from n msg)
  heard_kept me term t from n (Part at part) h (e, is) =
      subst (λ m. Kept (learner_hears sha_link (learning me term t) t from m (Part at part))) (sym e)
      (part_kept me (learner_term (learning me term t) at).term t from part (is_taken sha_link t part) refl h (subst (IsTruePart sha_link part) e is))
  heard_kept me term t from n (AskVote a b c) h is = (refl, h)
  heard_kept me term t from n (Vote a b) h is = (refl, h)
  heard_kept me term t from n (Append a b c d e) h is = (refl, h)
  heard_kept me term t from n (Accepted a b c) h is = (refl, h)
  heard_kept me term t from n (Rejected a b c) h is = (refl, h)
  heard_kept me term t from n (PartTaken a b c) h is = (refl, h)

  acts_kept : (me term : ℕ) (t : Taking) (i : Input) → IsByMap names (Learner t) → IsTold names (Learner t) i → Kept (acts sha_link (learning me term t) None i)
  acts_kept me term t Tick h is = (refl, h)
  acts_kept me term t (Peer from m) h is = heard_kept me term t from m.names m.msg h is
  acts_kept me term t (Client client number bytes) h is = on_request_kept me term t client number _ h
  acts_kept me term t (Join id linked) h is = (refl, h)
  acts_kept me term t (Admit id) h is = (refl, h)
  acts_kept me term t (Remove id) h is = (refl, h)
  acts_kept me term t (Margin margin) h is = (refl, h)

  learner_step : (me term : ℕ) (t : Taking) (s : Replica) (i : Input) → s ≡ learning me term t → IsByMapAt names s → IsTold names s.role i → IsByMapAt names (step sha_link s i).state
  learner_step me term t s i e h is =
      subst (λ x. IsByMapAt names (step sha_link x i).state) (sym e)
      (ended_kept (acts sha_link (learning me term t) None i) (acts sha_link (learning me term t) None i).state.halted
      (acts_kept me term t i (subst (IsByMapAt names) e h) (subst (λ x. IsTold names x.role i) e is)))

  not_learning : (limit : ℕ) (first : Conf) (k : Kind) (r : Role) → core.RoleAs limit first k r → IsByMap names r
  not_learning limit first k Follower h = tt
  not_learning limit first k (Candidate votes) h = tt
  not_learning limit first k (Leader l) h = tt
  not_learning limit first kind.Follower (Learner t) h = absurd h
  not_learning limit first (kind.Candidate votes) (Learner t) h = absurd h
  not_learning limit first (kind.Leader l) (Learner t) h = absurd h

  holder_by_map : (st : State) (s : Replica) → Holds st → core.StandsFor st s → IsByMapAt names s
  holder_by_map (state.Holder h) s holds stands = not_learning s.limit s.first h.role s.role stands.role
  holder_by_map (state.Learner l) s holds stands = absurd holds
  holder_by_map state.Spent s holds stands = absurd holds

  -- a step: whoever holds a log goes on holding one
  pub step_by_map : (st next : State) (s : Replica) (i : Input) → core.StandsFor st s → IsByMapAt names s → IsTold names s.role i
      → (Holds st → Holds next) → core.StandsFor next (step sha_link s i).state → IsByMapAt names (step sha_link s i).state
  step_by_map state.Spent next s i stands h is on after = absurd stands
  step_by_map (state.Holder k) next s i stands h is on after = holder_by_map next _ (on tt) after
  step_by_map (state.Learner l) next s i stands h is on after =
      learner_step l.me l.term stands.taking s i stands.same h is

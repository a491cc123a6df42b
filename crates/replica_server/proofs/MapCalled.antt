-- A call of an enclave keeps what its replicas took of tables by the map, and hears what the map names.
use Rattle.std.proofs.Common.{◌≡◌, ℕ, zero, suc, ◌+◌, ◌-◌, inl, inr, Bool, true, false, Option, Some, None, Result, Ok, Err, List, [], ◌∷◌, ◌++◌, length, refl, sym, ap, subst, ◌∙◌}
use Rattle.std.specs.Prelude.{◌⊎◌, not, ◌==◌, slice_get, IfSome, IfOk}
use Rattle.std.specs.List.{AllByRecursion}
use Rattle.group_quorum.specs.Voters.{is_in}
use Rattle.schedule_model.specs.Reading.{max_u32}
use Rattle.values.specs.declared.batch.Refusal.{Refusal}
use Rattle.values.specs.declared.entry.Point.{Point}
use Rattle.values.specs.declared.peer.PeerMsg.{PeerMsg}
use Rattle.values.specs.declared.peer.PeerMsg.TheVariants.{AskVote, Vote, Append, Accepted, Rejected, Part, PartTaken}
use Rattle.replica_model.specs.Linked.{sha_link}
use Rattle.replica_model.specs.Message.{Message}
use Rattle.replica_model.specs.Replica.{Named, Role, Learner, Follower, Candidate, Leader, Replica, nothing_named}
use Rattle.replica_model.specs.Call as model_call
use Rattle.replica_model.specs.Step.{step}
use Rattle.replica_core.specs.declared.replica.State.{State}
use Rattle.replica_core.specs.Inputs.{IsNamed}
use Rattle.replica_core.specs.Standing as core
use Rattle.group_model.specs.Enclave.{Hello, Begin, Learn, HostInput, Tick, Peer, Client, Join, Admit, Remove, Save, Roll, Connect, Margin, Enclave, Called, started, called, calls, accepts, saves_if, rolls_to}
use Rattle.trace_model.specs.Session.{Content, Starts, Frames, Hands, Tagging, named, accepted_of, message_called, frame_called, content_called, IsTrueMessage, IsTrueHanded}
use Rattle.host_inputs.specs.declared.input.HostFault.{HostFault}
use Rattle.host_inputs.specs.Inputs.{Input}
use Rattle.host_inputs.specs.Inputs as read
use Rattle.host_inputs.specs.Reading.{input_in}
use Rattle.enclave_host.specs.Words.{wording, content_in, content_if}
use Rattle.enclave_host.specs.Handing as host
use Rattle.enclave_host.specs.declared.running.Running.{Running}
use Rattle.enclave_host.specs.Standing.{RunsFor}
use Rattle.replica_server.specs.Standing.{IsByMap, IsByMapAt, AreByMap}
use Rattle.replica_server.proofs.MapTaken.{map_goes_on}
use Rattle.replica_server.proofs.MapStep.{Holds, IsTold, IsToldBy, step_by_map}

-- no content says that a message was let through: that is for the enclave to say of a link frame
abbrev pub IsOfHost : Content → Type 0
IsOfHost (Starts hello) = Unit {0}
IsOfHost (Frames frame) = Unit {0}
IsOfHost (Hands (Peer from to m)) = ⊥
IsOfHost (Hands input) = Unit {0}

content_of_host : (i : Input) → IsOfHost (content_in i)
content_of_host (read.Begin id margin limit voters) = tt
content_of_host (read.Learn id linked) = tt
content_of_host read.Tick = tt
content_of_host (read.Peer frame) = tt
content_of_host (read.Client client number request) = tt
content_of_host (read.Join id) = tt
content_of_host (read.Admit id) = tt
content_of_host (read.Remove id) = tt
content_of_host read.Save = tt
content_of_host (read.Roll k) = tt
content_of_host (read.Link id) = tt
content_of_host (read.Margin margin) = tt

said_of_host : (r : Result Input HostFault) (said : Content) → content_if r ≡ Ok said → IsOfHost said
said_of_host (Ok i) said e = subst (λ x. IfOk x IsOfHost) e (content_of_host i)
said_of_host (Err fault) said e = absurd (cc)

pub is_of_host : (bytes : List ℕ) (said : Content) → wording.content_of bytes ≡ Ok said → IsOfHost said
is_of_host bytes said e = said_of_host (input_in bytes) said e

module _ (tagging : Tagging) (names : Point → Named) where
  -- what a link frame's message names
  abbrev pub names_of : Result (ℕ × PeerMsg) Refusal → Named
  names_of (Ok (from, Part term part)) = names part.point
  names_of r = nothing_named

  -- the session's call is the enclave's, by what the map names
  pub same_call : (e : Enclave) (r : Result (ℕ × PeerMsg) Refusal) → message_called wording tagging sha_link names e r ≡ host.heard (names_of r) e r
  same_call e (Ok (from, AskVote a b c)) = refl
  same_call e (Ok (from, Vote a b)) = refl
  same_call e (Ok (from, Append a b c d x)) = refl
  same_call e (Ok (from, Accepted a b c)) = refl
  same_call e (Ok (from, Rejected a b c)) = refl
  same_call e (Ok (from, Part term part)) = refl
  same_call e (Ok (from, PartTaken a b c)) = refl
  same_call e (Err refusal) = refl

  -- the frame is read in the same way
  pub same_accepted : (e : Enclave) (frame : List ℕ) → accepted_of wording tagging sha_link names e frame ≡ host.accepted_of e frame
  same_accepted e frame = refl

  -- the enclave's premise of what a message names
  pub is_named : (role : Role) (r : Result (ℕ × PeerMsg) Refusal) → IsByMap names role → IsTrueMessage wording tagging sha_link names role r → host.IsNamedIn (names_of r) role r
  is_named (Learner t) (Ok (from, Part term part)) h is = (is, map_goes_on names t part h is)
  is_named (Learner t) (Ok (from, AskVote a b c)) h is = tt
  is_named (Learner t) (Ok (from, Vote a b)) h is = tt
  is_named (Learner t) (Ok (from, Append a b c d x)) h is = tt
  is_named (Learner t) (Ok (from, Accepted a b c)) h is = tt
  is_named (Learner t) (Ok (from, Rejected a b c)) h is = tt
  is_named (Learner t) (Ok (from, PartTaken a b c)) h is = tt
  is_named (Learner t) (Err refusal) h is = tt
  is_named Follower (Ok (from, msg)) h is = tt
  is_named Follower (Err refusal) h is = tt
  is_named (Candidate votes) (Ok (from, msg)) h is = tt
  is_named (Candidate votes) (Err refusal) h is = tt
  is_named (Leader l) (Ok (from, msg)) h is = tt
  is_named (Leader l) (Err refusal) h is = tt

  told_by : (role : Role) (msg : PeerMsg) (from : ℕ) → IsTrueMessage wording tagging sha_link names role (Ok (from, msg))
      → IsToldBy names role (named names msg).msg (named names msg).names
  told_by (Learner t) (Part term part) from is = (refl, is)
  told_by (Learner t) (AskVote a b c) from is = tt
  told_by (Learner t) (Vote a b) from is = tt
  told_by (Learner t) (Append a b c d x) from is = tt
  told_by (Learner t) (Accepted a b c) from is = tt
  told_by (Learner t) (Rejected a b c) from is = tt
  told_by (Learner t) (PartTaken a b c) from is = tt
  told_by Follower msg from is = tt
  told_by (Candidate votes) msg from is = tt
  told_by (Leader l) msg from is = tt

  -- a started enclave has taken nothing
  pub start_by_map : (hello : Hello) → AreByMap names (started hello)
  start_by_map (Begin id margin limit voters) = (tt, (tt, tt))
  start_by_map (Learn id linked) = (inl (refl, refl), (inl (refl, refl), tt))

  saved_at : (saved : List Replica) (k : ℕ) (s : Replica) → AllByRecursion (IsByMapAt names) saved → slice_get saved k ≡ Some s → IsByMapAt names s
  saved_at [] k s h e = absurd (cc)
  saved_at (x ∷ saved) zero s h e = subst (λ o. IfSome o (IsByMapAt names)) e h.0
  saved_at (x ∷ saved) (suc k) s h e = saved_at saved k s h.1 e

  saved_last : (saved : List Replica) (s : Replica) → AllByRecursion (IsByMapAt names) saved → IsByMapAt names s → AllByRecursion (IsByMapAt names) (saved ++ s ∷ [])
  saved_last [] s h is = (is, tt)
  saved_last (x ∷ saved) s h is = (h.0, saved_last saved s h.1 is)

  saved_by_map : (b : Bool) (e : Enclave) → AreByMap names e → AreByMap names (saves_if b e).enclave
  saved_by_map true e h = (h.0, saved_last e.saved e.replica h.1 h.0)
  saved_by_map false e h = h

  rolled_by_map : (e : Enclave) (k : ℕ) (o : Option Replica) → slice_get e.saved k ≡ o → AreByMap names e → AreByMap names (rolls_to e k o).enclave
  rolled_by_map e k None is h = h
  rolled_by_map e k (Some s) is h = (saved_at e.saved k s h.1 is, h.1)

  -- the running enclave stands for the model's before and after
  module _ (old new : State) (e : Enclave) (stands : core.StandsFor old e.replica) (h : AreByMap names e) where
    stepped : (Holds old → Holds new) → (i : model_call.Input) → IsTold names e.replica.role i → core.StandsFor new (step sha_link e.replica i).state
        → AreByMap names (calls e (step sha_link e.replica i)).enclave
    stepped on i is after = (step_by_map names old new e.replica i stands h.0 is on after, h.1)

    pub kept_by_map : (input : HostInput Message) → (host.IsNoRoll (Hands input) → Holds old → Holds new) → IsOfHost (Hands input)
        → core.StandsFor new (called sha_link e input).enclave.replica → AreByMap names (called sha_link e input).enclave
    kept_by_map Tick on is after = stepped (on tt) model_call.Tick tt after
    kept_by_map (Peer from to m) on is after = absurd is
    kept_by_map (Client client number request) on is after = stepped (on tt) (model_call.Client client number request) tt after
    kept_by_map (Join id) on is after = stepped (on tt) (model_call.Join id (is_in e.links id)) tt after
    kept_by_map (Admit id) on is after = stepped (on tt) (model_call.Admit id) tt after
    kept_by_map (Remove id) on is after = stepped (on tt) (model_call.Remove id) tt after
    kept_by_map Save on is after = saved_by_map (not (length e.saved - 1 == max_u32)) e h
    kept_by_map (Roll k) on is after = rolled_by_map e k (slice_get e.saved k) refl h
    kept_by_map (Connect id) on is after = h
    kept_by_map (Margin margin) on is after = stepped (on tt) (model_call.Margin margin) tt after

    accepted_by_map : (Holds old → Holds new) → (mine linked : Bool) (from to : ℕ) (m : Message) → IsToldBy names e.replica.role m.msg m.names
        → core.StandsFor new (accepts mine linked sha_link e from to m).enclave.replica → AreByMap names (accepts mine linked sha_link e from to m).enclave
    accepted_by_map on false linked from to m is after = h
    accepted_by_map on true false from to m is after = h
    accepted_by_map on true true from to m is after = stepped on (model_call.Peer from m) is after

    pub frame_by_map : (Holds old → Holds new) → (r : Result (ℕ × PeerMsg) Refusal) → IsTrueMessage wording tagging sha_link names e.replica.role r
        → core.StandsFor new (message_called wording tagging sha_link names e r).enclave.replica → AreByMap names (message_called wording tagging sha_link names e r).enclave
    frame_by_map on (Ok (from, msg)) is after =
        accepted_by_map on (e.replica.me == e.replica.me) (is_in e.links from) from e.replica.me (named names msg) (told_by e.replica.role msg from is) after
    frame_by_map on (Err refusal) is after = h

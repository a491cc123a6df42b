-- What a call of the enclave, and its start, come to in a session.
use Rattle.std.proofs.Common.{◌≡◌, ℕ, Option, Some, None, Result, Ok, Err, List, [], ◌++◌, refl, sym, ap, subst, ◌∙◌, append-nil}
use Rattle.std.specs.Prelude.{OnOk}
use Rattle.std.specs.Result.{IsOkAnd}
use Rattle.values.specs.declared.entry.Point.{Point}
use Rattle.host_inputs.specs.declared.input.HostFault.{HostFault}
use Rattle.replica_model.specs.Linked.{sha_link}
use Rattle.replica_model.specs.Replica.{Named, nothing_named}
use Rattle.replica_model.specs.Message.{Message}
use Rattle.group_model.specs.Enclave.{Enclave, HostInput, Called, Roll, called, started}
use Rattle.group_model.specs.Run.{newly}
use Rattle.trace_model.specs.Session.{Content, Starts, Frames, Hands, Tagging, accepted_of, message_called, IsTrueHanded, content_called}
use Rattle.trace_model.specs.Session as session
use Rattle.enclave_host.specs.Words.{wording}
use Rattle.enclave_host.specs.Handing as host
use Rattle.enclave_host.specs.Standing as standing
use Rattle.enclave_host.specs.Answers.{IsStart, IsNoStart, CallAnswers, StartsBy}
use Rattle.enclave_host.specs.declared.running.Running.{Running}
use Rattle.enclave_host.specs.declared.enclave.EnclaveFault.{EnclaveFault}
use Rattle.enclave_host.specs.declared.enclave.EnclaveFault.TheVariants.{Memory, Spent, Frame, NotBegun, BegunAgain}
use Rattle.replica_server.specs.Answering.{IsCalled, IsRefused, IsLeft, batch_of}
use Rattle.replica_server.specs.Answering as answering
use Rattle.replica_server.specs.Standing.{Stands, AreByMap, IfByMap}
use Rattle.replica_server.proofs.MapCalled.{names_of, same_call, is_named, start_by_map, is_of_host, kept_by_map, frame_by_map}

-- what was read, where it was
read_ok : {E : Type 0} (P : Content → Type 0) (read : Result Content E) → IsOkAnd read P → (said : Content) × (read ≡ Ok said) × P said
read_ok P (Ok said) h = (said, refl, h)
read_ok P (Err fault) h = absurd h

module _ (tagging : Tagging) (names : Point → Named) (content out_old out_new : List ℕ) where
  -- the model's clause of a call, and that who holds a log goes on with one
  abbrev Model : (old new : Option Running) → Type 0
  Model old new =
      (e : Enclave) (n : Named) (said : Content) → standing.StandsFor old e → wording.content_of content ≡ Ok said → host.IsNamedFor n e said
      → standing.StandsFor new (host.handed n e said).enclave
      × (out_new ≡ out_old ++ wording.batch_bytes (host.handed n e said).enclave.replica.me (host.handed n e said).call.batch)

  -- the enclave stands for this one, and its batch was appended
  abbrev Leaves : (new : Option Running) → Called → Type 0
  Leaves new c = standing.StandsFor new c.enclave × (out_new ≡ out_old ++ batch_of c)

  abbrev LeftSo : (new : Option Running) → Enclave → Called → Type 0
  LeftSo new e c = IsLeft tagging names (Some e) content (Some new) c × (out_new ≡ out_old ++ batch_of c)

  frame_left : (r : Running) (new : Option Running) (e : Enclave) (frame : List ℕ) → standing.RunsFor r e → AreByMap names e → Model (Some r) new
      → standing.HoldsOn (Some r) new → wording.content_of content ≡ Ok (Frames frame) → IsTrueHanded wording tagging sha_link names (Some e) (Frames frame)
      → LeftSo new e (message_called wording tagging sha_link names e (host.accepted_of e frame))
  frame_left r None e frame runs h model on says is =
      absurd (model e (names_of tagging names (host.accepted_of e frame)) (Frames frame) runs says (is_named tagging names e.replica.role (host.accepted_of e frame) h.0 is)).0
  frame_left r (Some t) e frame runs h model on says is =
      let a = host.accepted_of e frame in
      let left : Leaves (Some t) (message_called wording tagging sha_link names e a) =
      subst (Leaves (Some t)) (sym (same_call tagging names e a)) (model e (names_of tagging names a) (Frames frame) runs says (is_named tagging names e.replica.role a h.0 is)) in
      (record { stands = left.0; by_map = frame_by_map tagging names r.replica t.replica e runs.replica h on a is left.0.replica }, left.1)

  input_left : (r : Running) (new : Option Running) (e : Enclave) (input : HostInput Message) → standing.RunsFor r e → AreByMap names e → Model (Some r) new
      → (host.IsNoRoll (Hands input) → standing.HoldsOn (Some r) new) → wording.content_of content ≡ Ok (Hands input) → LeftSo new e (called sha_link e input)
  input_left r None e input runs h model on says = absurd (model e nothing_named (Hands input) runs says tt).0
  input_left r (Some t) e input runs h model on says =
      let left = model e nothing_named (Hands input) runs says tt in
      (record { stands = left.0; by_map = kept_by_map tagging names r.replica t.replica e runs.replica h input on (is_of_host content (Hands input) says) left.0.replica }, left.1)

  -- a content that is called
  call_left : (r : Running) (new : Option Running) (e : Enclave) (said : Content) → IsNoStart said → standing.RunsFor r e → AreByMap names e → Model (Some r) new
      → (host.IsNoRoll said → standing.HoldsOn (Some r) new) → wording.content_of content ≡ Ok said
      → (c : Called) × IsCalled tagging names (Some e) content said c
      × (IsTrueHanded wording tagging sha_link names (Some e) said → IsLeft tagging names (Some e) content (Some new) c × (out_new ≡ out_old ++ batch_of c))
  call_left r new e (Starts hello) fresh runs h model on says = absurd (fresh tt)
  call_left r new e (Frames frame) fresh runs h model on says = (
    message_called wording tagging sha_link names e (host.accepted_of e frame),
    record { says = says; calls = refl },
    λ is. frame_left r new e frame runs h model (on tt) says is,
  )
  call_left r new e (Hands input) fresh runs h model on says =
      (called sha_link e input, record { says = says; calls = refl }, λ is. input_left r new e input runs h model on says)

  no_start : (said : Content) (e : Enclave) → IsStart said → content_called wording tagging sha_link names (Some e) said ≡ Err session.BegunAgain
  no_start (Starts hello) e h = refl
  no_start (Frames frame) e h = absurd h
  no_start (Hands input) e h = absurd h

  not_begun : (said : Content) → IsNoStart said → content_called wording tagging sha_link names None said ≡ Err session.NotBegun
  not_begun (Starts hello) h = absurd (h tt)
  not_begun (Frames frame) h = refl
  not_begun (Hands input) h = refl

  -- a call of the enclave that runs
  pub hands_on : (old new : Option Running) (before : Option Enclave) (r : Result (Unit {0}) EnclaveFault) → Stands (Some old) before → IfByMap names before
      → (¬ (standing.IsSpent old) → CallAnswers r (wording.content_of content))
      → ((e : Enclave) (n : Named) (said : Content) → standing.StandsFor old e → wording.content_of content ≡ Ok said → host.IsNamedFor n e said
      → OnOk r (standing.StandsFor new (host.handed n e said).enclave
      × (out_new ≡ out_old ++ wording.batch_bytes (host.handed n e said).enclave.replica.me (host.handed n e said).call.batch)))
      → ((said : Content) → wording.content_of content ≡ Ok said → host.IsNoRoll said → OnOk r (standing.HoldsOn old new))
      → answering.Hands tagging names before content (Some new) out_old out_new r
  hands_on old new None r stands h exact model on = absurd stands
  hands_on None new (Some e) r stands h exact model on = absurd stands
  hands_on (Some k) new (Some e) (Ok done) stands h exact model on =
      let (said, says, fresh) = read_ok IsNoStart (wording.content_of content) (exact (λ x. x)) in
      let (c, is, leaves) = call_left k new e said fresh stands h model (on said says) says in
      (said, c, is, leaves)
  hands_on (Some k) new (Some e) (Err Memory) stands h exact model on = tt
  hands_on (Some k) new (Some e) (Err Spent) stands h exact model on = tt
  hands_on (Some k) new (Some e) (Err (Frame fault)) stands h exact model on = (exact (λ x. x)).1
  hands_on (Some k) new (Some e) (Err NotBegun) stands h exact model on = absurd (exact (λ x. x))
  hands_on (Some k) new (Some e) (Err BegunAgain) stands h exact model on =
      let (said, says, is) = read_ok IsStart (wording.content_of content) (exact (λ x. x)) in
      record { said = said; says = says; refused = no_start said e is }

  -- a start
  pub hands_first : (started_one : Option Running) (before : Option Enclave) → Stands None before → StartsBy (Ok started_one) (wording.content_of content)
      → answering.Hands tagging names before content (Some started_one) out_old out_old (Ok tt)
  hands_first enclave (Some e) stands is = absurd stands
  hands_first enclave None stands is = (
    Starts is.hello,
    newly (started is.hello),
    record { says = is.said; calls = refl },
    λ truth. (record { stands = is.stands; by_map = start_by_map tagging names is.hello }, sym (append-nil out_old)),
  )

  pub hands_none : (before : Option Enclave) (fault : EnclaveFault) → Stands None before → StartsBy (Err fault) (wording.content_of content)
      → answering.Hands tagging names before content None out_old out_new (Err fault)
  hands_none (Some e) fault stands is = absurd stands
  hands_none None Memory stands is = tt
  hands_none None Spent stands is = tt
  hands_none None (Frame fault) stands is = is.1
  hands_none None NotBegun stands is =
      let (said, says, fresh) = read_ok IsNoStart (wording.content_of content) is in
      record { said = said; says = says; refused = not_begun said fresh }
  hands_none None BegunAgain stands is = absurd is

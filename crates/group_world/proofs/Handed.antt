-- An enclave that is handed a content does what the model's enclave does with the input that the content says.
use Rattle.std.proofs.Common.{refl, sym, ap, subst, ◌∙◌, ◌≡◌, ℕ, ◌==◌, Bool, true, false, cond, List, [], ◌∷◌, length, drop, take, map, Option, Some, None, Result, Ok, Err, arith}
use Rattle.std.specs.Prelude.{nat_lt}
use Rattle.std.specs.Int.{w32, from_be_bytes}
use Rattle.std.specs.Result.{IsOkAnd}
use Rattle.std.proofs.lemmas.Bool.{eq-eqb, ltb-true}
use Rattle.std.proofs.lemmas.List.{length-drop, nil_from_length}
use Rattle.values.specs.declared.batch.Batch.{Batch}
use Rattle.values.specs.declared.batch.Refusal.{Refusal}
use Rattle.values.specs.declared.batch.Refusal.TheVariants.{BadPeer}
use Rattle.values.specs.declared.peer.PeerMsg.{PeerMsg}
use Rattle.proto_wire.specs.Fields.{sequence_behind}
use Rattle.group_quorum.specs.Voters.{is_in}
use Rattle.group_msgs.specs.Peer.{peer_of}
use Rattle.group_msgs.specs.declared.fault.PeerFault.TheVariants as peer
use Rattle.replica_model.specs.Linked.{sha_link}
use Rattle.replica_model.specs.Message.{Message}
use Rattle.replica_model.specs.Replica.{Named, Replica, nothing_named}
use Rattle.host_msgs.specs.Again.{IsReadAgain, sender_of}
use Rattle.host_msgs.specs.Batches.{batch_in}
use Rattle.host_msgs.specs.declared.gathered.Gathered.{Gathered}
use Rattle.group_model.specs.Enclave.{HostInput, Tick, Peer, Client, Join, Admit, Remove, Save, Roll, Connect, Margin, Enclave, Called, accepts, called, rolls_to, saves_if}
use Rattle.trace_model.specs.PartMap.{IsLinkFrame, SaysInput as InContent}
use Rattle.trace_model.specs.Session.{Content, Starts, Frames, Hands, untagged}
use Rattle.trace_model.specs.Session as session
use Rattle.enclave_host.specs.declared.running.Running.{Running}
use Rattle.enclave_host.specs.Fields.{SaysBatch, Steps}
use Rattle.enclave_host.specs.Handing.{IsNamedFor, IsNamedIn, accepted_of, handed, heard}
use Rattle.enclave_host.specs.Standing.{StandsFor}
use Rattle.enclave_host.specs.Words.{message_if, wording}
use Rattle.group_world.specs.Meanings.{OfEnclaves, IsNamedTo, SaysInput, SaysMessage}
use Rattle.group_world.specs.Plays.{IsBatch, SayEach}
use Rattle.group_world.proofs.Framed.{AreFrames, batch_framed}

-- ---- a message in its link frame

no_message : peer_of [] ≡ Err peer.Nothing
unfolding sequence_behind
no_message = refl

-- what message a call was handed names
names_of : HostInput Message → Named
names_of (Peer from to m) = m.names
names_of input = nothing_named

abbrev accepted_by : Bool → Bool → ℕ → ℕ → List ℕ → Result (ℕ × PeerMsg) Refusal
accepted_by mine linked from to bytes = session.accepted_from wording untagged sha_link (λ point. nothing_named) mine linked from to bytes

module _ (e : Enclave) (from to : ℕ) (m : Message) (frame : List ℕ) (says : IsLinkFrame wording untagged from to m.msg frame) where
  not_short : (short : Bool) → nat_lt (length frame) 8 ≡ short → short ≡ false
  not_short false is = refl
  not_short true is =
      let few = ltb-true (length frame) 8 is in
      let size = length-drop 8 frame in
      let none = nil_from_length (drop 8 frame) (omega (arith, few, size)) in
      let read : Err 0 ≡ Ok m.msg = sym (ap message_if no_message) ∙ ap wording.message_of (sym none) ∙ says.message in
      absurd (cc read)

  -- the frame is taken by its parts
  accepted_is : accepted_of e frame ≡ accepted_by (to == e.replica.me) (is_in e.links from) from to (drop 8 frame)
  accepted_is =
      ap (λ (short : Bool). cond short (Err (BadPeer 0)) (session.accepted_parts wording untagged sha_link (λ point. nothing_named) e (from_be_bytes w32 (take 4 frame)) (from_be_bytes w32 (take 4 (drop 4 frame))) (drop 8 frame))) (not_short (nat_lt (length frame) 8) refl)
      ∙ (λ i. accepted_by (says.addressee i == e.replica.me) (is_in e.links (says.sender i)) (says.sender i) (says.addressee i) (drop 8 frame))

  heard_by : (mine linked : Bool) → is_in e.links from ≡ linked → heard m.names e (accepted_by mine linked from to (drop 8 frame)) ≡ accepts mine linked sha_link e from to m
  heard_by false linked is = refl
  heard_by true false is = refl
  heard_by true true is =
      ap (λ (r : Result PeerMsg ℕ). heard m.names e (session.read_message wording untagged sha_link (λ point. nothing_named) from r)) says.message
      ∙ ap (λ (b : Bool). accepts b (is_in e.links from) sha_link e from e.replica.me m) (eq-eqb e.replica.me e.replica.me refl)
      ∙ ap (λ (b : Bool). accepts true b sha_link e from e.replica.me m) is

  frame_handed : handed m.names e (Frames frame) ≡ called sha_link e (Peer from to m)
  frame_handed = ap (heard m.names e) accepted_is ∙ heard_by (to == e.replica.me) (is_in e.links from) refl

  named_by : IsNamedTo e.replica.role (Some (Peer from to m)) → (mine linked : Bool) → IsNamedIn m.names e.replica.role (accepted_by mine linked from to (drop 8 frame))
  named_by named false linked = tt
  named_by named true false = tt
  named_by named true true =
      subst (λ (r : Result PeerMsg ℕ). IsNamedIn m.names e.replica.role (session.read_message wording untagged sha_link (λ point. nothing_named) from r)) (sym says.message) named

  frame_named : IsNamedTo e.replica.role (Some (Peer from to m)) → IsNamedFor m.names e (Frames frame)
  frame_named named = subst (IsNamedIn m.names e.replica.role) (sym accepted_is) (named_by named (to == e.replica.me) (is_in e.links from))

-- ---- any input

module _ (e : Enclave) where
  input_handed : (input : HostInput Message) (said : Content) → InContent wording untagged (Some input) said → handed (names_of input) e said ≡ called sha_link e input
  unfolding names_of
  input_handed (Peer from to m) (Frames frame) says = frame_handed e from to m frame says
  input_handed (Peer from to m) (Starts hello) says = absurd says
  input_handed (Peer from to m) (Hands other) says = absurd says
  input_handed Tick (Hands other) says = ap (called sha_link e) says
  input_handed Tick (Starts hello) says = absurd says
  input_handed Tick (Frames frame) says = absurd says
  input_handed (Client client number request) (Hands other) says = ap (called sha_link e) says
  input_handed (Client client number request) (Starts hello) says = absurd says
  input_handed (Client client number request) (Frames frame) says = absurd says
  input_handed (Join id) (Hands other) says = ap (called sha_link e) says
  input_handed (Join id) (Starts hello) says = absurd says
  input_handed (Join id) (Frames frame) says = absurd says
  input_handed (Admit id) (Hands other) says = ap (called sha_link e) says
  input_handed (Admit id) (Starts hello) says = absurd says
  input_handed (Admit id) (Frames frame) says = absurd says
  input_handed (Remove id) (Hands other) says = ap (called sha_link e) says
  input_handed (Remove id) (Starts hello) says = absurd says
  input_handed (Remove id) (Frames frame) says = absurd says
  input_handed Save (Hands other) says = ap (called sha_link e) says
  input_handed Save (Starts hello) says = absurd says
  input_handed Save (Frames frame) says = absurd says
  input_handed (Roll k) (Hands other) says = ap (called sha_link e) says
  input_handed (Roll k) (Starts hello) says = absurd says
  input_handed (Roll k) (Frames frame) says = absurd says
  input_handed (Connect id) (Hands other) says = ap (called sha_link e) says
  input_handed (Connect id) (Starts hello) says = absurd says
  input_handed (Connect id) (Frames frame) says = absurd says
  input_handed (Margin margin) (Hands other) says = ap (called sha_link e) says
  input_handed (Margin margin) (Starts hello) says = absurd says
  input_handed (Margin margin) (Frames frame) says = absurd says

  input_named : (input : HostInput Message) (said : Content) → InContent wording untagged (Some input) said → IsNamedTo e.replica.role (Some input) → IsNamedFor (names_of input) e said
  unfolding names_of
  input_named input (Starts hello) says named = tt
  input_named input (Hands other) says named = tt
  input_named (Peer from to m) (Frames frame) says named = frame_named e from to m frame says named
  input_named Tick (Frames frame) says named = absurd says
  input_named (Client client number request) (Frames frame) says named = absurd says
  input_named (Join id) (Frames frame) says named = absurd says
  input_named (Admit id) (Frames frame) says named = absurd says
  input_named (Remove id) (Frames frame) says named = absurd says
  input_named Save (Frames frame) says named = absurd says
  input_named (Roll k) (Frames frame) says named = absurd says
  input_named (Connect id) (Frames frame) says named = absurd says
  input_named (Margin margin) (Frames frame) says named = absurd says

ok_and : {T E : Type 0} (r : Result T E) (P : T → Type 0) → IsOkAnd r P → (x : T) × (r ≡ Ok x) × P x
ok_and (Ok x) P is = (x, refl, is)
ok_and (Err e) P is = absurd is

pub steps_as : (old new : Option Running) (bytes out : List ℕ) (e : Enclave) (input : HostInput Message) → Steps old bytes new out → StandsFor old e
    → SaysInput OfEnclaves bytes input → IsNamedTo e.replica.role (Some input)
    → StandsFor new (called sha_link e input).enclave × SaysBatch (called sha_link e input) out
unfolding SaysInput
steps_as old new bytes out e input steps stands says named =
    let (said, is, so) = ok_and (wording.content_of bytes) (InContent wording untagged (Some input)) says in
    subst (λ (c : Called). StandsFor new c.enclave × SaysBatch c out) (input_handed e input said so)
    (steps e (names_of input) said stands is (input_named e input said so named))

-- ---- the batch of a call

-- the messages of a call stand in its batch
abbrev plainly : ℕ × Message → ℕ × PeerMsg
plainly m = (m.0, m.1.msg)

abbrev pub SentInBatch : Called → Type 0
SentInBatch c = c.call.batch.sent ≡ map plainly c.call.sent

module _ (e : Enclave) where
  accepted_sent : (mine linked : Bool) (from to : ℕ) (m : Message) → SentInBatch (accepts mine linked sha_link e from to m)
  accepted_sent false linked from to m = refl
  accepted_sent true false from to m = refl
  accepted_sent true true from to m = refl

  saved_sent : (room : Bool) → SentInBatch (saves_if room e)
  saved_sent true = refl
  saved_sent false = refl

  rolled_sent : (k : ℕ) (o : Option Replica) → SentInBatch (rolls_to e k o)
  rolled_sent k None = refl
  rolled_sent k (Some s) = refl

  pub called_sent : (input : HostInput Message) → SentInBatch (called sha_link e input)
  called_sent Tick = refl
  called_sent (Peer from to m) = accepted_sent (to == e.replica.me) (is_in e.links from) from to m
  called_sent (Client client number bytes) = refl
  called_sent (Join id) = refl
  called_sent (Admit id) = refl
  called_sent (Remove id) = refl
  called_sent Save = saved_sent _
  called_sent (Roll k) = rolled_sent k _
  called_sent (Connect id) = refl
  called_sent (Margin margin) = refl

from_me : (me : ℕ) (fs : List (List ℕ)) (ss : List (ℕ × PeerMsg)) → AreFrames (sender_of me ss) fs ss → AreFrames me fs ss
from_me me [] [] h = tt
from_me me [] (s ∷ ss) h = absurd h
from_me me (f ∷ fs) [] h = absurd h
from_me me (f ∷ fs) (s ∷ ss) h = h

each_says : (r : ℕ) (fs : List (List ℕ)) (sent : List (ℕ × Message)) → AreFrames r fs (map plainly sent) → SayEach OfEnclaves r fs sent
unfolding SaysMessage
each_says r [] [] h = tt
each_says r [] (s ∷ sent) h = absurd h
each_says r (f ∷ fs) [] h = absurd h
each_says r (f ∷ fs) (s ∷ sent) (here, h) =
    (record { sender = here.sender; addressee = here.addressee; message = ap message_if here.message }, each_says r fs sent h)

-- the content of a call, read as a batch, is that of the call, and its frames say the call's messages
pub batch_as : (c : Called) (r : ℕ) (content : List ℕ) (batch : Batch) (frames : List (List ℕ)) → c.enclave.replica.me ≡ r → SentInBatch c → SaysBatch c content → IsBatch content batch frames
    → (batch ≡ c.call.batch) × SayEach OfEnclaves r frames c.call.sent
batch_as c r content batch frames mine sent says read =
    let found : Gathered = record { last = read.last; sender = read.sender; batch = batch; frames = frames } in
    let (same, sender, spelled) = subst (IsReadAgain c.enclave.replica.me c.call.batch) read.read says.again in
    let of_call : batch.sent ≡ c.call.batch.sent = ap (λ (b : Batch). b.sent) same in
    let all = batch_framed content found read.read in
    let mine_all = subst (AreFrames (sender_of c.enclave.replica.me c.call.batch.sent) frames) of_call (subst (λ (k : ℕ). AreFrames k frames batch.sent) sender all) in
    let whole = subst (λ (k : ℕ). AreFrames k frames c.call.batch.sent) mine (from_me c.enclave.replica.me frames c.call.batch.sent mine_all) in
    (same, each_says r frames c.call.sent (subst (AreFrames r frames) sent whole))

-- it is always read as one
pub batch_read : (c : Called) (content : List ℕ) (at : ℕ) → SaysBatch c content → batch_in content ≡ Err at → ⊥
batch_read c content at says is = subst (IsReadAgain c.enclave.replica.me c.call.batch) is says.again

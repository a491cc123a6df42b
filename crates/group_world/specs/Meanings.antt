-- How the answers of a field are understood: as those of the model's enclaves, as given contents, or as either up to the
-- first ask that fails. The world is proved once, over any of them, and never asks which.
use Rattle.std.specs.Prelude.{ℕ, ◌≡◌, false, List, length, Option, Some, None, Result, Ok, Err, IsSomeAnd}
use Rattle.std.specs.List.{AllByRecursion}
use Rattle.std.specs.Result.{IsOkAnd}
use Rattle.values.specs.declared.batch.Batch.{Batch}
use Rattle.values.specs.declared.peer.PeerMsg.{PeerMsg}
use Rattle.replica_model.specs.Keyed.{value_at}
use Rattle.replica_model.specs.Linked.{sha_link}
use Rattle.replica_model.specs.Message.{Message}
use Rattle.replica_model.specs.Replica.{Role}
use Rattle.replica_core.specs.Inputs.{IsNamed}
use Rattle.host_msgs.specs.declared.gathered.Gathered.{Gathered}
use Rattle.host_msgs.specs.Batches.{batch_in}
use Rattle.group_model.specs.Enclave.{HostInput, Peer, Enclave}
use Rattle.group_model.specs.Field.{Field}
use Rattle.group_model.specs.Run.{Enclaves, Recorded, enclaves}
use Rattle.trace_model.specs.Contents.{ReadsBatch, contents}
use Rattle.trace_model.specs.PartMap.{IsLinkFrame, SaysInput as InContent}
use Rattle.trace_model.specs.Session.{untagged}
use Rattle.enclave_host.specs.declared.running.Running.{Running}
use Rattle.enclave_host.specs.Fields.{Map}
use Rattle.enclave_host.specs.Standing.{StandsFor}
use Rattle.enclave_host.specs.Words.{wording}
use Rattle.group_world.specs.Failing.{Failing, failing}
use Rattle.group_world.specs.Given.{Given, contents_in}

pub data Meaning : Type 0 where
  OfEnclaves : Meaning
  OfContents : Meaning
  Until : (m : Meaning) → Meaning

abbrev pub MessageOf : Meaning → Type 0
MessageOf OfEnclaves = Message
MessageOf OfContents = PeerMsg
MessageOf (Until m) = MessageOf m

abbrev pub StateOf : Meaning → Type 0
StateOf OfEnclaves = Enclaves
StateOf OfContents = List (List ℕ)
StateOf (Until m) = Failing (StateOf m)

-- the batch of a content, or the offset of what is no part of one
abbrev pub batch_if : Result Gathered ℕ → Result Batch ℕ
batch_if (Ok g) = Ok g.batch
batch_if (Err at) = Err at

abbrev pub batch_of : ReadsBatch
batch_of content = batch_if (batch_in content)

unfoldable pub model_of : (m : Meaning) → Field (MessageOf m) (StateOf m)
model_of OfEnclaves = enclaves sha_link
model_of OfContents = contents batch_of
model_of (Until m) = failing (model_of m)

-- the enclave of an id stands for the model's, where either runs
pub record IsEnclave (id : ℕ) (c : Option Running) (e : Enclave) : Type 0 where
  pub stands : StandsFor c e
  pub me : e.replica.me ≡ id
  pub saved : AllByRecursion (λ s. s.me ≡ id) e.saved

abbrev pub StandsAt : ℕ → Option (Option Running) → Option Enclave → Type 0
StandsAt id None None = Unit {0}
StandsAt id None (Some e) = ⊥
StandsAt id (Some c) None = ⊥
StandsAt id (Some c) (Some e) = IsEnclave id c e

-- a model's state answers as the field does that tells this map, where these answers are still to come
unfoldable pub Fits : (m : Meaning) → Option Map → List Given → StateOf m → Type 0
Fits OfEnclaves map given f = IsSomeAnd map (λ now. (id : ℕ) → StandsAt id (now id) (value_at f.running id))
Fits OfContents map given f = f ≡ contents_in given
Fits (Until m) map given f = Fits m map given f.inner × ((f.left ≡ length given) × (f.failed ≡ false))

-- bytes say what is handed to a replica, and what a message hands over, as far as the meaning looks at them
unfoldable pub SaysInput : (m : Meaning) → List ℕ → HostInput (MessageOf m) → Type 0
SaysInput OfEnclaves bytes input = IsOkAnd (wording.content_of bytes) (InContent wording untagged (Some input))
SaysInput OfContents bytes input = Unit {0}
SaysInput (Until m) bytes input = SaysInput m bytes input

unfoldable pub SaysMessage : (m : Meaning) → (from to : ℕ) → List ℕ → MessageOf m → Type 0
SaysMessage OfEnclaves from to frame message = IsLinkFrame wording untagged from to message.msg frame
SaysMessage OfContents from to frame message = Unit {0}
SaysMessage (Until m) from to frame message = SaysMessage m from to frame message

-- A learner that holds nothing was handed a true part of the path that the message names, and a later part of a table at one
-- point is of the same path as those before it. Without a collision so it is of every call.
abbrev pub IsNamedTo : Role → Option (HostInput Message) → Type 0
IsNamedTo role (Some (Peer from to m)) = IsNamed role m.msg m.names
IsNamedTo role other = Unit {0}

abbrev pub IsNamedCall : Recorded → Type 0
IsNamedCall r = IsNamedTo r.before.role r.input

-- so of each call that this state has seen, where the meaning looks at what messages name
unfoldable pub AreNamed : (m : Meaning) → StateOf m → Type 0
AreNamed OfEnclaves f = AllByRecursion IsNamedCall f.history
AreNamed OfContents f = Unit {0}
AreNamed (Until m) f = AreNamed m f.inner

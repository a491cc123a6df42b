-- What a running enclave makes of a content.
use Rattle.std.specs.Prelude.{◌≡◌, ℕ, List, [], ◌∷◌, Result, Ok, Err}
use Rattle.values.specs.declared.batch.Refusal.{Refusal}
use Rattle.values.specs.declared.batch.Refusal.TheVariants.{BadPeer, NotForMe, NoLink}
use Rattle.values.specs.declared.peer.PeerMsg.{PeerMsg}
use Rattle.attested_link.specs.declared.frames.LinkFault.{LinkFault}
use Rattle.attested_link.specs.declared.frames.LinkFault.TheVariants as link
use Rattle.replica_model.specs.Replica.{Named, Role, nothing_named}
use Rattle.replica_model.specs.Linked.{sha_link}
use Rattle.replica_core.specs.Inputs.{IsNamed}
use Rattle.group_model.specs.Enclave.{Enclave, Called, Peer, Roll, called, refuses}
use Rattle.group_model.specs.Run.{newly}
use Rattle.trace_model.specs.Session.{Content, Starts, Frames, Hands, untagged}
use Rattle.trace_model.specs.Session as session
use Rattle.enclave_host.specs.Words.{wording}

-- the sender and the message of a link frame that the enclave takes, or why it refuses the frame
abbrev pub accepted_of : Enclave → List ℕ → Result (ℕ × PeerMsg) Refusal
accepted_of e frame = session.accepted_of wording untagged sha_link (λ point. nothing_named) e frame

-- what bytes from one that is linked say
abbrev pub read_from : ℕ → List ℕ → Result (ℕ × PeerMsg) Refusal
read_from from bytes = session.read_message wording untagged sha_link (λ point. nothing_named) from (wording.message_of bytes)

-- why a link frame is refused
abbrev pub link_refusal : LinkFault → Refusal
link_refusal (link.Short size) = BadPeer 0
link_refusal (link.NotForMe to) = NotForMe to
link_refusal (link.NoLink from) = NoLink from

-- a message that was taken is handed on with what it names
abbrev pub heard : Named → Enclave → Result (ℕ × PeerMsg) Refusal → Called
heard names e (Ok (from, msg)) = called sha_link e (Peer from e.replica.me (record { msg = msg; names = names }))
heard names e (Err refusal) = refuses e refusal

-- what a running enclave makes of a content, where the message of a link frame names this. It is not started again
abbrev pub handed : Named → Enclave → Content → Called
handed names e (Starts hello) = newly e
handed names e (Frames frame) = heard names e (accepted_of e frame)
handed names e (Hands input) = called sha_link e input

-- a learner that holds nothing takes a message only where this is what the message names
abbrev pub IsNamedIn : Named → Role → Result (ℕ × PeerMsg) Refusal → Type 0
IsNamedIn names role (Ok (from, msg)) = IsNamed role msg names
IsNamedIn names role (Err refusal) = Unit {0}

abbrev pub IsNamedFor : Named → Enclave → Content → Type 0
IsNamedFor names e (Starts hello) = Unit {0}
IsNamedFor names e (Frames frame) = IsNamedIn names e.replica.role (accepted_of e frame)
IsNamedFor names e (Hands input) = Unit {0}

-- no saved state is put back, which may be one of a learner
abbrev pub IsNoRoll : Content → Type 0
IsNoRoll (Starts hello) = Unit {0}
IsNoRoll (Frames frame) = Unit {0}
IsNoRoll (Hands (Roll k)) = ⊥
IsNoRoll (Hands input) = Unit {0}

-- the enclave after each of these contents was handed to it
abbrev pub after_all : List (Named × Content) → Enclave → Enclave
after_all [] e = e
after_all ((names, content) ∷ later) e = after_all later (handed names e content).enclave

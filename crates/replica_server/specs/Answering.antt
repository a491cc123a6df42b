-- What handing a content to the enclave, and answering a frame, come to.
use Rattle.std.specs.Prelude.{◌≡◌, ℕ, ◌<◌, ◌≤◌, Bool, true, false, List, ◌++◌, length, Option, Some, Result, Ok, Err}
use Rattle.values.specs.declared.entry.Point.{Point}
use Rattle.values.specs.declared.limits.TheConstants.{MAX_BATCH}
use Rattle.host_inputs.specs.declared.input.HostFault.{HostFault}
use Rattle.replica_model.specs.Linked.{sha_link}
use Rattle.replica_model.specs.Replica.{Named}
use Rattle.group_model.specs.Enclave.{Enclave, Called}
use Rattle.trace_model.specs.Session.{Tagging, Cause, content_called, IsTrueHanded, batch_frame}
use Rattle.trace_model.specs.Session as session
use Rattle.enclave_host.specs.Words.{wording}
use Rattle.enclave_host.specs.declared.running.Running.{Running}
use Rattle.enclave_host.specs.declared.enclave.EnclaveFault.{EnclaveFault}
use Rattle.enclave_host.specs.declared.enclave.EnclaveFault.TheVariants as host
use Rattle.replica_server.specs.declared.answer.Unanswered.{Unanswered}
use Rattle.replica_server.specs.declared.answer.Unanswered.TheVariants as answer
use Rattle.replica_server.specs.Standing.{Stands, AreByMap}

-- the content of a batch frame
abbrev pub batch_of : Called → List ℕ
batch_of c = wording.batch_bytes c.enclave.replica.me c.call.batch

module _ (tagging : Tagging) (names : Point → Named) (before : Option Enclave) (content : List ℕ) where
  -- the content is called
  pub record IsCalled (said : session.Content) (c : Called) : Type 0 where
    pub says : wording.content_of content ≡ Ok said
    pub calls : content_called wording tagging sha_link names before said ≡ Ok c

  -- the content is not called, for this reason
  pub record IsRefused (cause : Cause HostFault) : Type 0 where
    pub said : session.Content
    pub says : wording.content_of content ≡ Ok said
    pub refused : content_called wording tagging sha_link names before said ≡ Err cause

  -- the enclave is as a call leaves the model's
  pub record IsLeft (enclave : Option (Option Running)) (c : Called) : Type 0 where
    pub stands : Stands enclave (Some c.enclave)
    pub by_map : AreByMap names c.enclave

  -- What handing the content to the enclave comes to. What it leaves is told where what it takes of tables is true.
  abbrev pub Hands : (enclave : Option (Option Running)) → (old new : List ℕ) → Result (Unit {0}) EnclaveFault → Type 0
  Hands enclave old new (Ok done) =
      (said : session.Content) × (c : Called) × IsCalled said c
      × (IsTrueHanded wording tagging sha_link names before said → IsLeft enclave c × (new ≡ old ++ batch_of c))
  Hands enclave old new (Err host.Memory) = Unit {0}
  Hands enclave old new (Err host.Spent) = Unit {0}
  Hands enclave old new (Err (host.Frame fault)) = wording.content_of content ≡ Err fault
  Hands enclave old new (Err host.NotBegun) = IsRefused session.NotBegun
  Hands enclave old new (Err host.BegunAgain) = IsRefused session.BegunAgain

  module _ (number : ℕ) (tag : List ℕ) where
    abbrev pub IsRight : Type 0
    IsRight = tagging.is_right number content tag ≡ true

    -- What answering the frame comes to: its batch frame, or why there is none.
    abbrev pub Answers : (enclave : Option (Option Running)) → (out : List ℕ) → Result (Unit {0}) Unanswered → Type 0
    Answers enclave out (Ok done) =
        IsRight × (said : session.Content) × (c : Called) × IsCalled said c
        × (IsTrueHanded wording tagging sha_link names before said
        → IsLeft enclave c × (length (batch_of c) ≤ MAX_BATCH) × (out ≡ batch_frame wording tagging sha_link names number (batch_of c)))
    Answers enclave out (Err answer.Limit) =
        IsRight × (said : session.Content) × (c : Called) × IsCalled said c
        × (IsTrueHanded wording tagging sha_link names before said → MAX_BATCH < length (batch_of c))
    Answers enclave out (Err answer.Memory) = Unit {0}
    Answers enclave out (Err answer.Tag) = tagging.is_right number content tag ≡ false
    Answers enclave out (Err (answer.Content fault)) = IsRight × (wording.content_of content ≡ Err fault)
    Answers enclave out (Err answer.NotBegun) = IsRight × IsRefused session.NotBegun
    Answers enclave out (Err answer.BegunAgain) = IsRight × IsRefused session.BegunAgain

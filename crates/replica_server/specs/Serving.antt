-- How the serving of a session ends, by the definition of the session.
use Rattle.std.specs.Prelude.{◌≡◌, ℕ, ◌<◌, ◌≤◌, ◌⊎◌, List, [], ◌∷◌, ◌++◌, length, All, Option, Some, None}
use Rattle.std.specs.Io.KnownBytes.{Appends, Consumes}
use Rattle.values.specs.declared.entry.Point.{Point}
use Rattle.values.specs.declared.limits.TheConstants.{MAX_BATCH, MAX_FRAMES}
use Rattle.host_inputs.specs.declared.input.HostFault.{HostFault}
use Rattle.replica_model.specs.Linked.{sha_link}
use Rattle.replica_model.specs.Replica.{Named}
use Rattle.trace_model.specs.Session.{Tagging, Handed, Session, Cause, End, Bad, session_with, batch_frames_from}
use Rattle.trace_model.specs.Session as session
use Rattle.enclave_host.specs.Words.{wording}
use Rattle.replica_server.specs.declared.served.Served.{Served}
use Rattle.replica_server.specs.declared.served.Served.TheVariants as served
use Rattle.replica_server.specs.declared.served.FrameCause.{FrameCause}
use Rattle.replica_server.specs.declared.served.FrameCause.TheVariants as cause

-- texts one behind the other
abbrev pub joined : List (List ℕ) → List ℕ
joined [] = []
joined (text ∷ texts) = text ++ joined texts

-- a cause as the session has it
abbrev pub cause_of : FrameCause → Cause HostFault
cause_of cause.Cut = session.Cut
cause_of (cause.Length length) = session.Length length
cause_of (cause.Tag number) = session.Tag number
cause_of (cause.Content fault) = session.Faulty fault
cause_of cause.NotBegun = session.NotBegun
cause_of cause.BegunAgain = session.BegunAgain

module _ (tagging : Tagging) (names : Point → Named) where
  -- the session of bytes
  abbrev pub session_of : List ℕ → Session HostFault
  session_of bytes = session_with wording tagging sha_link names bytes

  -- the content of the batch frame that answers a frame
  abbrev pub answer_of : Handed → List ℕ
  answer_of h = wording.batch_bytes h.called.enclave.replica.me h.called.call.batch

  -- the batch frames that answer these frames
  abbrev pub answers_to : List Handed → List ℕ
  answers_to hs = joined (batch_frames_from wording tagging sha_link names 0 hs)

  -- no batch content is too long
  abbrev pub AreShort : List Handed → Type 0
  AreShort hs = All (λ h. length (answer_of h) ≤ MAX_BATCH) hs

  -- what stands behind so many frames passes a limit: bytes behind the greatest number of frames, or a batch content that is too long
  abbrev pub Passes : (number : ℕ) → List Handed → End HostFault → Type 0
  Passes number [] session.Done = ⊥
  Passes number [] (Bad offset why) = number ≡ MAX_FRAMES
  Passes number (h ∷ hs) end = (number ≡ MAX_FRAMES) ⊎ (MAX_BATCH < length (answer_of h))

  -- a limit is passed behind these frames, and before that none
  pub record Limited (s : Session HostFault) (before : List Handed) : Type 0 where
    pub behind : List Handed
    pub parts : s.handed ≡ before ++ behind
    pub short : AreShort before
    pub few : length before ≤ MAX_FRAMES
    pub passes : Passes (length before) behind s.end

  -- no limit is passed
  pub record Unlimited (s : Session HostFault) : Type 0 where
    pub short : AreShort s.handed
    pub few : length s.handed ≤ MAX_FRAMES

  -- these are first bytes of a text
  abbrev pub IsFrontOf : (written text : List ℕ) → Type 0
  IsFrontOf written text = (rest : List ℕ) × (text ≡ written ++ rest)

  -- all that was read are whole frames, and the answers to all but the last were written whole
  pub record UpToLast (read written : List ℕ) : Type 0 where
    pub before : List Handed
    pub last : Handed
    pub whole : session_of read ≡ record { handed = before ++ last ∷ []; end = session.Done }
    pub rest : List ℕ
    pub gained : written ≡ answers_to before ++ rest
    pub front : IsFrontOf written (answers_to (before ++ last ∷ []))

  -- How serving ended over a source that held all these bytes, with what it has left and what the sink gained.
  abbrev pub ServedOver : (all : List ℕ) → (left old new : Option (List ℕ)) → Served → Type 0
  ServedOver all left old new served.Done =
      (left ≡ Some []) × ((session_of all).end ≡ session.Done) × Unlimited (session_of all) × Appends old new (answers_to (session_of all).handed)
  ServedOver all left old new (served.Frame at why) =
      ((session_of all).end ≡ Bad at (cause_of why)) × Unlimited (session_of all) × (length (session_of all).handed < MAX_FRAMES)
      × Appends old new (answers_to (session_of all).handed)
  ServedOver all left old new served.Limit =
      (before : List Handed) × Limited (session_of all) before × Appends old new (answers_to before)
  ServedOver all left old new served.ReadFault =
      (read : List ℕ) × Consumes (Some all) left read × Unlimited (session_of read) × Appends old new (answers_to (session_of read).handed)
  ServedOver all left old new served.WriteFault =
      (read : List ℕ) × Consumes (Some all) left read × (written : List ℕ) × UpToLast read written × Appends old new written
  ServedOver all left old new served.Memory =
      (read : List ℕ) × Consumes (Some all) left read × (written : List ℕ) × IsFrontOf written (answers_to (session_of read).handed) × Appends old new written

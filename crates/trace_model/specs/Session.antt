-- A session: frames that a host sends to one enclave, and the batch frames that it is sent back.
use Rattle.std.specs.Prelude.{ℕ, zero, suc, ◌+◌, ◌==◌, ◌||◌, nat_lt, Bool, true, false, if◌then◌else◌, List, [], ◌∷◌, ◌++◌, length, take, drop, bytes_eq, Option, Some, None, Result, Ok, Err}
use Rattle.std.specs.List.{AllByRecursion}
use Rattle.std.specs.Int.{w32, w64, to_be_bytes, from_be_bytes}
use Rattle.group_quorum.specs.Voters.{is_in}
use Rattle.values.specs.declared.batch.Batch.{Batch}
use Rattle.values.specs.declared.batch.Refusal.{Refusal}
use Rattle.values.specs.declared.batch.Refusal.TheVariants.{BadPeer, NoLink, NotForMe}
use Rattle.values.specs.declared.entry.Point.{Point}
use Rattle.values.specs.declared.limits.TheConstants.{MAX_CONTENT}
use Rattle.values.specs.declared.peer.PeerMsg.{PeerMsg}
use Rattle.values.specs.declared.peer.PeerMsg.TheVariants.{Part}
use Rattle.replica_model.specs.Path.{Link}
use Rattle.replica_model.specs.Replica.{Named, Role, Learner}
use Rattle.replica_model.specs.Message.{Message, plain}
use Rattle.replica_model.specs.Tables.{IsTruePart}
use Rattle.group_model.specs.Enclave.{Hello, HostInput, Peer, Enclave, Called, started, called, refuses}
use Rattle.group_model.specs.Run.{newly}

-- what the content of a host's frame says: a start, a link frame from another replica, or any other input
pub data Content : Type 0 where
  Starts : (hello : Hello) → Content
  Frames : (frame : List ℕ) → Content
  Hands : (input : HostInput Message) → Content

-- how the bytes of frames are read and written: contents, with their faults of type E; peer messages, with the offset that
-- a refusal tells; batches
pub record Wording (E : Type 0) : Type 0 where
  pub content_of : List ℕ → Result Content E
  pub message_of : List ℕ → Result PeerMsg ℕ
  pub batch_bytes : ℕ → Batch → List ℕ

-- what stands at the end of each frame: nothing, or a tag. A frame's number counts from 0
pub record Tagging : Type 0 where
  pub size : ℕ
  pub is_right : (number : ℕ) (content tag : List ℕ) → Bool
  pub tag_of : (number : ℕ) (content : List ℕ) → List ℕ

abbrev pub untagged : Tagging
untagged = record { size = 0; is_right = λ number content tag. true; tag_of = λ number content. [] }

-- the tag of a host's frame is made of the byte 1, the frame's number and the content; that of a batch frame of the byte 2
-- and the same
abbrev pub tagged_by : (List ℕ → List ℕ) → Tagging
tagged_by hmac =
    record {
      size = 32;
      is_right = λ number content tag. bytes_eq tag (hmac (1 ∷ (to_be_bytes w64 number ++ content)));
      tag_of = λ number content. hmac (2 ∷ (to_be_bytes w64 number ++ content));
    }

-- why a frame is bad
pub data Cause (E : Type 0) : Type 0 where
  Cut : Cause E
  Length : (length : ℕ) → Cause E
  Tag : (number : ℕ) → Cause E
  Faulty : (fault : E) → Cause E
  NotBegun : Cause E
  BegunAgain : Cause E

-- a session ends between two frames, or at a bad one, at the offset of its first byte
pub data End (E : Type 0) : Type 0 where
  Done : End E
  Bad : (offset : ℕ) (cause : Cause E) → End E

-- one frame: what it handed to the enclave, the enclave that it found, if any, and what came of it
pub record Handed : Type 0 where
  pub before : Option Enclave
  pub content : Content
  pub called : Called

pub record Session (E : Type 0) : Type 0 where
  pub handed : List Handed
  pub end : End E

-- a part names the path that the map has at its point
abbrev pub named : (Point → Named) → PeerMsg → Message
named names (Part term part) = record { msg = Part term part; names = names part.point }
named names msg = plain msg

module _ {E : Type 0} (wording : Wording E) (tagging : Tagging) (link : Link) (names : Point → Named) where
  -- a message from one that is linked, or why it is refused
  abbrev pub read_message : ℕ → Result PeerMsg ℕ → Result (ℕ × PeerMsg) Refusal
  read_message from (Ok msg) = Ok (from, msg)
  read_message from (Err offset) = Err (BadPeer offset)

  abbrev pub accepted_from : Bool → Bool → ℕ → ℕ → List ℕ → Result (ℕ × PeerMsg) Refusal
  accepted_from false linked from to bytes = Err (NotForMe to)
  accepted_from true false from to bytes = Err (NoLink from)
  accepted_from true true from to bytes = read_message from (wording.message_of bytes)

  abbrev pub accepted_parts : Enclave → ℕ → ℕ → List ℕ → Result (ℕ × PeerMsg) Refusal
  accepted_parts e from to bytes = accepted_from (to == e.replica.me) (is_in e.links from) from to bytes

  -- a link frame has four bytes of its sender's id, four of its addressee's, and the message. It is short, for another, from
  -- one that is not linked, or no message, tried in this order
  abbrev pub accepted_of : Enclave → List ℕ → Result (ℕ × PeerMsg) Refusal
  accepted_of e frame =
      if nat_lt (length frame) 8 then Err (BadPeer 0)
      else accepted_parts e (from_be_bytes w32 (take 4 frame)) (from_be_bytes w32 (take 4 (drop 4 frame))) (drop 8 frame)

  abbrev pub message_called : Enclave → Result (ℕ × PeerMsg) Refusal → Called
  message_called e (Ok (from, msg)) = called link e (Peer from e.replica.me (named names msg))
  message_called e (Err refusal) = refuses e refusal

  abbrev pub frame_called : Enclave → List ℕ → Called
  frame_called e frame = message_called e (accepted_of e frame)

  -- the first content starts the enclave, and no later one does
  abbrev pub content_called : Option Enclave → Content → Result Called (Cause E)
  content_called None (Starts hello) = Ok (newly (started hello))
  content_called None (Frames frame) = Err NotBegun
  content_called None (Hands input) = Err NotBegun
  content_called (Some e) (Starts hello) = Err BegunAgain
  content_called (Some e) (Frames frame) = Ok (frame_called e frame)
  content_called (Some e) (Hands input) = Ok (called link e input)

  abbrev pub ends_at : ℕ → Cause E → Session E
  ends_at offset cause = record { handed = []; end = Bad offset cause }

  abbrev pub onto : Handed → Session E → Session E
  onto h s = record s { handed = h ∷ s.handed }

  -- the session goes on after a frame, where its content was called; else the frame is a bad one
  abbrev pub goes_on : ℕ → Option Enclave → Content → Result Called (Cause E) → (Enclave → Session E) → Session E
  goes_on offset before content (Ok c) next = onto (record { before = before; content = content; called = c }) (next c.enclave)
  goes_on offset before content (Err cause) next = ends_at offset cause

  abbrev pub read_content : ℕ → Option Enclave → Result Content E → (Enclave → Session E) → Session E
  read_content offset before (Err fault) next = ends_at offset (Faulty fault)
  read_content offset before (Ok content) next = goes_on offset before content (content_called before content) next

  -- a frame with a content and a tag
  abbrev pub whole_frame : ℕ → ℕ → Option Enclave → List ℕ → List ℕ → (Enclave → Session E) → Session E
  whole_frame offset number before content tag next =
      if tagging.is_right number content tag then read_content offset before (wording.content_of content) next
      else ends_at offset (Tag number)

  -- the content has this length
  abbrev pub sized_frame : ℕ → ℕ → Option Enclave → ℕ → List ℕ → (Enclave → Session E) → Session E
  sized_frame offset number before n bytes next =
      if nat_lt n 1 || nat_lt MAX_CONTENT n then ends_at offset (Length n)
      else if nat_lt (length bytes) (n + tagging.size) then ends_at offset Cut
      else whole_frame offset number before (take n bytes) (take tagging.size (drop n bytes)) next

  abbrev pub length_of : List ℕ → ℕ
  length_of bytes = from_be_bytes w32 (take 4 bytes)

  -- how long a whole frame is
  abbrev pub frame_size : List ℕ → ℕ
  frame_size bytes = 4 + (length_of bytes + tagging.size)

  -- the frames at the front of bytes that stand at an offset, at most n, where so many frames came before
  abbrev pub session_from : ℕ → ℕ → ℕ → Option Enclave → List ℕ → Session E
  session_from n offset number before [] = record { handed = []; end = Done }
  session_from zero offset number before (b ∷ bytes) = record { handed = []; end = Done }
  session_from (suc n) offset number before (b ∷ bytes) =
      elim (nat_lt (length (b ∷ bytes)) 4) [
        | true ↦ ends_at offset Cut
        | false ↦ sized_frame offset number before (length_of (b ∷ bytes)) (drop 4 (b ∷ bytes))
            (λ e. session_from n (offset + frame_size (b ∷ bytes)) (number + 1) (Some e) (drop (frame_size (b ∷ bytes)) (b ∷ bytes)))
      ]

  -- the session of bytes
  abbrev pub session_with : List ℕ → Session E
  session_with bytes = session_from (length bytes) 0 0 None bytes

  -- a batch frame: the length of its content as four bytes, the content, and its tag
  abbrev pub batch_frame : ℕ → List ℕ → List ℕ
  batch_frame number content = to_be_bytes w32 (length content) ++ (content ++ tagging.tag_of number content)

  -- a start and a link are answered by an empty batch like any other call that says nothing
  abbrev pub batch_frames_from : ℕ → List Handed → List (List ℕ)
  batch_frames_from number [] = []
  batch_frames_from number (h ∷ hs) =
      batch_frame number (wording.batch_bytes h.called.enclave.replica.me h.called.call.batch) ∷ batch_frames_from (number + 1) hs

  abbrev pub batch_frames : List ℕ → List (List ℕ)
  batch_frames bytes = batch_frames_from 0 (session_with bytes).handed

  -- a part that is handed to a learner which holds nothing is a true part of the map's path at its point
  abbrev pub IsTrueAt : Role → PeerMsg → Type 0
  IsTrueAt (Learner taking) (Part term part) = IsTruePart link part (names part.point)
  IsTrueAt role msg = Unit {0}

  abbrev pub IsTrueMessage : Role → Result (ℕ × PeerMsg) Refusal → Type 0
  IsTrueMessage role (Ok (from, msg)) = IsTrueAt role msg
  IsTrueMessage role (Err refusal) = Unit {0}

  abbrev pub IsTrueHanded : Option Enclave → Content → Type 0
  IsTrueHanded (Some e) (Frames frame) = IsTrueMessage e.replica.role (accepted_of e frame)
  IsTrueHanded before content = Unit {0}

  -- the map is one for these bytes
  abbrev pub IsMapFor : List ℕ → Type 0
  IsMapFor bytes = AllByRecursion (λ (h : Handed). IsTrueHanded h.before h.content) (session_with bytes).handed

-- the session and the tagged session of bytes, with a map from points to paths
abbrev pub session_of : {E : Type 0} → Wording E → Link → (Point → Named) → List ℕ → Session E
session_of wording link names bytes = session_with wording untagged link names bytes

abbrev pub tagged_session_of : {E : Type 0} → Wording E → (List ℕ → List ℕ) → Link → (Point → Named) → List ℕ → Session E
tagged_session_of wording hmac link names bytes = session_with wording (tagged_by hmac) link names bytes

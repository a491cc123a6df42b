-- The map from points to paths of the table parts that a run hands out, and the frames in which it hands them.
use Rattle.std.specs.Prelude.{◌≡◌, ℕ, ◌<◌, ◌≤◌, ◌==◌, List, [], ◌∷◌, ◌++◌, length, take, drop, filter, reverse, Option, Some, None, IsOkAnd, Ok}
use Rattle.std.specs.List.{AllByRecursion}
use Rattle.std.specs.Int.{w32, to_be_bytes, from_be_bytes}
use Rattle.values.specs.declared.entry.Point.{Point}
use Rattle.values.specs.declared.limits.TheConstants.{MAX_CONTENT}
use Rattle.values.specs.declared.peer.PeerMsg.{PeerMsg}
use Rattle.values.specs.declared.peer.PeerMsg.TheVariants.{Part}
use Rattle.replica_model.specs.Path.{Link}
use Rattle.replica_model.specs.Replica.{Named, Role, Learner}
use Rattle.replica_model.specs.Message.{Message}
use Rattle.replica_model.specs.Tables.{IsTruePart}
use Rattle.group_model.specs.Enclave.{HostInput, Tick, Peer, Client, Join, Admit, Remove, Save, Roll, Connect, Margin}
use Rattle.group_model.specs.Run.{Recorded, World}
use Rattle.trace_model.specs.Session.{Content, Starts, Frames, Hands, Wording, Tagging, IsMapFor}

-- a part that was handed to a learner which holds nothing is a true part of what it names, and the map names the same at
-- its point
abbrev pub IsNamed : Link → (Point → Named) → PeerMsg → Named → Type 0
IsNamed link names (Part term part) n = IsTruePart link part n × (names part.point ≡ n)
IsNamed link names msg n = Unit {0}

abbrev pub IsNamedAt : Link → (Point → Named) → Role → Option (HostInput Message) → Type 0
IsNamedAt link names (Learner taking) (Some (Peer from to m)) = IsNamed link names m.msg m.names
IsNamedAt link names role input = Unit {0}

-- all that a run handed to a replica, in its order
abbrev pub calls_of : World → ℕ → List Recorded
calls_of w v = filter (λ (r : Recorded). r.replica == v) (reverse w.field.history)

module _ {E : Type 0} (wording : Wording E) (tagging : Tagging) where
  -- a link frame has its sender's id, its addressee's, and the message
  pub record IsLinkFrame (from to : ℕ) (msg : PeerMsg) (frame : List ℕ) : Type 0 where
    pub sender : from_be_bytes w32 (take 4 frame) ≡ from
    pub addressee : from_be_bytes w32 (take 4 (drop 4 frame)) ≡ to
    pub message : wording.message_of (drop 8 frame) ≡ Ok msg

  -- the content says what was handed: a start, a message in its link frame, or the input itself
  abbrev pub SaysInput : Option (HostInput Message) → Content → Type 0
  SaysInput None (Starts hello) = Unit {0}
  SaysInput (Some (Peer from to m)) (Frames frame) = IsLinkFrame from to m.msg frame
  SaysInput (Some (Peer from to m)) content = ⊥
  SaysInput (Some input) (Hands handed) = handed ≡ input
  SaysInput input content = ⊥

  -- a content and the tag behind it are the frame of what was handed
  pub record IsFrameOf (input : Option (HostInput Message)) (content tag : List ℕ) : Type 0 where
    pub some : 0 < length content
    pub fits : length content ≤ MAX_CONTENT
    pub tagged : length tag ≡ tagging.size
    pub says : IsOkAnd (wording.content_of content) (SaysInput input)

  -- these are the frames of these calls
  abbrev pub AreFramesOf : List Recorded → List (List ℕ × List ℕ) → Type 0
  AreFramesOf [] [] = Unit {0}
  AreFramesOf [] (frame ∷ frames) = ⊥
  AreFramesOf (r ∷ rs) [] = ⊥
  AreFramesOf (r ∷ rs) ((content, tag) ∷ frames) = IsFrameOf r.input content tag × AreFramesOf rs frames

  -- their bytes: before each content its length as four bytes
  abbrev pub bytes_of : List (List ℕ × List ℕ) → List ℕ
  bytes_of [] = []
  bytes_of ((content, tag) ∷ frames) = to_be_bytes w32 (length content) ++ (content ++ (tag ++ bytes_of frames))

  -- the map serves every session whose frames are those that the run hands to one replica
  abbrev pub ServesSessions : Link → World → (Point → Named) → Type 0
  ServesSessions link w names =
      (v : ℕ) (frames : List (List ℕ × List ℕ)) → AreFramesOf (calls_of w v) frames → IsMapFor wording tagging link names (bytes_of frames)

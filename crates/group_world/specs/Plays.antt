-- What became of an event, on each understanding of what the field answered.
use Rattle.std.specs.Prelude.{ℕ, ◌≡◌, map, nat_lt, true, List, [], ◌∷◌, ◌++◌, length, Option, Result, Ok, Err, Box}
use Rattle.std.specs.Global.{Global}
use Rattle.values.specs.declared.batch.Batch.{Batch}
use Rattle.values.specs.declared.event.Event.{Event}
use Rattle.values.specs.declared.limits.TheConstants.{MAX_ANSWERS, MAX_CLIENTS, MAX_MESSAGES, MAX_STATES}
use Rattle.values.specs.declared.peer.PeerMsg.{PeerMsg}
use Rattle.group_quorum.specs.Voters.{is_in}
use Rattle.host_msgs.specs.Batches.{batch_in}
use Rattle.schedule_model.specs.Lines as lines
use Rattle.schedule_model.specs.Quantities as quantity
use Rattle.schedule_model.specs.Quantities.{Quantity}
use Rattle.schedule_model.specs.Written.{On, Off, Stop, AtLimit, AtFrame, AtField, last_of}
use Rattle.trace_text.specs.Refused.{meant, quantity_of}
use Rattle.trace_text.specs.declared.refused.GroupRefusal.{GroupRefusal}
use Rattle.group_model.specs.Enclave.{HostInput}
use Rattle.group_model.specs.Field.{Field}
use Rattle.group_model.specs.Group.{Group, but, keeps, numbered}
use Rattle.group_model.specs.Happens.{Came, Refused, Replied, Reported, Passed, Happening, Happened, Broken, Unanswered, acts, acts_in, calls, delivers, tells}
use Rattle.trace_model.specs.Limits.{first_passed}
use Rattle.trace_model.specs.Trace.{Playing, played}
use Rattle.enclave_host.specs.Fields.{Map, Calling, Gains, SameBut, WhereTold}
use Rattle.group_world.specs.declared.came.Came as code
use Rattle.group_world.specs.declared.came.Came.TheVariants as came
use Rattle.group_world.specs.declared.came.Unplayed.{Unplayed}
use Rattle.group_world.specs.declared.came.Unplayed.TheVariants as unplayed
use Rattle.group_world.specs.declared.happened.Happened.{Happened as Telling}
use Rattle.group_world.specs.declared.world.World.{World}
use Rattle.group_world.specs.Given.{Given, contents_in}
use Rattle.group_world.specs.Happened.{TellsEvent}
use Rattle.group_world.specs.Meanings.{Meaning, Until, MessageOf, StateOf, model_of, batch_of, AreNamed, Fits, SaysInput, SaysMessage}
use Rattle.group_world.specs.Standing.{IsWorld, Sees}

-- ---- what the code says came of an event

abbrev pub came_of : code.Came → Came
came_of (came.Refused r) = Refused (meant r)
came_of (came.Replied r batch) = Replied r batch.value
came_of (came.Reported client report) = Reported client report
came_of came.Passed = Passed

-- its lines, by the numbers of the next message and the next answer
abbrev pub lines_by : ℕ → ℕ → Came → List lines.Line
lines_by m a (Refused r) = lines.refused_line (lines.group_refusal_fields r) ∷ []
lines_by m a (Replied r batch) = lines.batch_lines r m a batch
lines_by m a (Reported client report) = lines.client_line client report ∷ []
lines_by m a Passed = []

-- ---- a call

-- these frames say these messages, sent by `from`
abbrev pub SayEach : (m : Meaning) → (from : ℕ) → List (List ℕ) → List (ℕ × MessageOf m) → Type 0
SayEach m from [] [] = Unit {0}
SayEach m from [] (s ∷ ss) = ⊥
SayEach m from (f ∷ fs) [] = ⊥
SayEach m from (f ∷ fs) (s ∷ ss) = SaysMessage m from s.0 f s.1 × SayEach m from fs ss

-- a content says this batch, with these frames of its messages
pub record IsBatch (content : List ℕ) (batch : Batch) (frames : List (List ℕ)) : Type 0 where
  pub sender : ℕ
  pub last : ℕ
  pub read : batch_in content ≡ Ok (record { last = last; sender = sender; batch = batch; frames = frames })

-- the field was asked once, and answered by this content
pub record IsCalled (map map' : Option Map) (told told' : Option (List (List ℕ))) (id : ℕ) (input content : List ℕ) : Type 0 where
  pub gained : Gains told told' (content ∷ [])
  pub stepped : WhereTold map map' (λ was now. Calling was now id input content × SameBut was now id)

-- it was answered by a batch, or by what is none, or not at all
abbrev pub Calls : Option Map → Option Map → Option (List (List ℕ)) → Option (List (List ℕ)) → ℕ → List ℕ → Result (Box Batch Global × List (List ℕ)) Unplayed → Type 0
Calls map map' told told' id input (Ok (batch, frames)) =
    (content : List ℕ) × IsCalled map map' told told' id input content × IsBatch content batch.value frames
Calls map map' told told' id input (Err (unplayed.Frame at)) =
    (content : List ℕ) × IsCalled map map' told told' id input content × (batch_of content ≡ Err at)
Calls map map' told told' id input (Err unplayed.FieldFault) = Gains told told' []
Calls map map' told told' id input (Err unplayed.Memory) = (given : List Given) × Gains told told' (contents_in given)
Calls map map' told told' id input (Err (unplayed.Limit which)) = ⊥

-- ---- an event

-- the field failed in what happened
abbrev pub IsFailed : {M F : Type 0} → Field M F → Happening M F → Type 0
IsFailed field (Happened came g) = field.has_failed g.field ≡ true
IsFailed field (Broken at f) = ⊥
IsFailed field Unanswered = Unit {0}

-- what the field was handed up to here was named as it is without a collision
abbrev pub IsNamedIn : (m : Meaning) → Happening (MessageOf m) (StateOf m) → Type 0
IsNamedIn m (Happened came g) = AreNamed m g.field
IsNamedIn m (Broken at f) = AreNamed m f
IsNamedIn m Unanswered = Unit {0}

-- which happenings of a group are spoken of
abbrev pub What : Type 1
What = (m : Meaning) → Group (MessageOf m) (StateOf m) → Happening (MessageOf m) (StateOf m) → Type 0

-- what such a happening does to the group that the world is seen as
abbrev pub Does : What → World → World → Option Map → Option Map → List Given → Result code.Came Unplayed → Type 0
Does what w w' map map' given (Ok c) =
    (m : Meaning) (later : List Given) (g : Group (MessageOf m) (StateOf m)) (x : Happening (MessageOf m) (StateOf m)) → Sees m w map (given ++ later) g → what m g x → IsNamedIn m x
    → (h : Group (MessageOf m) (StateOf m)) × (x ≡ Happened (came_of c) h) × Sees m w' map' later h
Does what w w' map map' given (Err (unplayed.Frame at)) =
    (m : Meaning) (g : Group (MessageOf m) (StateOf m)) (x : Happening (MessageOf m) (StateOf m)) → Sees m w map given g → what m g x → IsNamedIn m x
    → (f : StateOf m) × (x ≡ Broken at f) × Fits m map' [] f
Does what w w' map map' given (Err unplayed.FieldFault) =
    (m : Meaning) (g : Group (MessageOf (Until m)) (StateOf (Until m))) (x : Happening (MessageOf (Until m)) (StateOf (Until m))) → Sees (Until m) w map given g → what (Until m) g x → IsNamedIn (Until m) x
    → IsFailed (model_of (Until m)) x
Does what w w' map map' given (Err unplayed.Memory) = Unit {0}
Does what w w' map map' given (Err (unplayed.Limit which)) = ⊥

-- what the field was asked, and what became of such a happening
abbrev pub Did : What → World → World → Option Map → Option Map → Option (List (List ℕ)) → Option (List (List ℕ)) → Result code.Came Unplayed → Type 0
Did what w w' map map' told told' result = (given : List Given) × Gains told told' (contents_in given) × Does what w w' map map' given result

-- a replica is handed this content
abbrev pub Tells : ℕ → List ℕ → What
Tells r bytes m g x = (input : HostInput (MessageOf m)) × SaysInput m bytes input × (x ≡ tells (model_of m) r input g)

-- an event of a group that has begun, or of any
abbrev pub Acts : Event → What
Acts e m g x = x ≡ acts (model_of m) e g

abbrev pub ActsIn : Event → What
ActsIn e m g x = x ≡ acts_in (model_of m) g.setup e g

-- the messages of a batch, in full, with their frames
pub record AreSent (m : Meaning) (r : ℕ) (batch : Batch) (frames : List (List ℕ)) (sent : List (ℕ × MessageOf m)) : Type 0 where
  pub to : map (λ (s : ℕ × PeerMsg). s.0) batch.sent ≡ map (λ (s : ℕ × MessageOf m). s.0) sent
  pub says : SayEach m r frames sent

-- the world keeps a batch
abbrev pub Keeps : World → World → ℕ → Batch → List (List ℕ) → Type 0
Keeps w w' r batch frames =
    (m : Meaning) (g : Group (MessageOf m) (StateOf m)) (sent : List (ℕ × MessageOf m)) (f : StateOf m) → IsWorld (SaysMessage m) w g → AreSent m r batch frames sent
    → IsWorld (SaysMessage m) w' (keeps g r batch sent f)

-- what is handed over of a message, in every group that the world stands for
abbrev pub Hands : World → ℕ → Result (ℕ × List ℕ) GroupRefusal → Type 0
Hands w k (Err refusal) =
    (m : Meaning) (g : Group (MessageOf m) (StateOf m)) → IsWorld (SaysMessage m) w g → delivers (model_of m) k (numbered g.messages k) g ≡ Happened (Refused (meant refusal)) g
Hands w k (Ok found) =
    (is_in w.running.items found.0 ≡ true)
    × ((m : Meaning) (g : Group (MessageOf m) (StateOf m)) → IsWorld (SaysMessage m) w g
    → (input : HostInput (MessageOf m)) × SaysInput m found.1 input × (delivers (model_of m) k (numbered g.messages k) g ≡ calls (model_of m) found.0 input (record g { waiting = but k g.waiting })))

-- ---- an event and its lines

-- the limit that the world has passed
abbrev pub passed_in : World → Option Quantity
passed_in w =
    first_passed (
    (nat_lt MAX_MESSAGES (length w.post), quantity.Messages)
    ∷ (nat_lt MAX_ANSWERS (length w.answers.items), quantity.Answers)
    ∷ (nat_lt MAX_STATES (length w.saves.items), quantity.States)
    ∷ (nat_lt MAX_CLIENTS (length w.clients), quantity.Clients)
    ∷ []
    )

-- the world and its field are seen as a schedule that is being played
abbrev pub SeesPlaying : (m : Meaning) → World → Option Map → List Given → Playing (MessageOf m) (StateOf m) → Type 0
SeesPlaying m w map given p = Sees m w map given p.group × (p.stands ≡ p.group.field)

-- what the field was handed in an event was named as it is without a collision
abbrev pub IsNamedBy : (m : Meaning) → Playing (MessageOf m) (StateOf m) → Event → Type 0
IsNamedBy m p e = AreNamed m (last_of (played (model_of m) p e)).stands

-- an event ended the text for this reason, and the field gave no more than these answers
abbrev pub EndsAt : World → Option Map → Option Map → List Given → Event → Stop → Type 0
EndsAt w map map' given e stop =
    (m : Meaning) (p : Playing (MessageOf m) (StateOf m)) → SeesPlaying m w map given p → IsNamedBy m p e
    → (q : Playing (MessageOf m) (StateOf m)) × (played (model_of m) p e ≡ Off [] stop q) × Fits m map' [] q.stands

-- one event was played, and wrote one text and told what came of it on every understanding; or it ended the text
abbrev pub Plays : World → World → Option Map → Option Map → List Given → Event → List ℕ → List ℕ → Result Telling Unplayed → Type 0
Plays w w' map map' given e before after (Ok told) =
    (text : List ℕ) × (after ≡ before ++ text)
    × ((m : Meaning) (later : List Given) (p : Playing (MessageOf m) (StateOf m)) → SeesPlaying m w map (given ++ later) p → IsNamedBy m p e
    → (q : Playing (MessageOf m) (StateOf m)) × (played (model_of m) p e ≡ On text q) × SeesPlaying m w' map' later q × (q.records ≡ p.records) × TellsEvent m e told p.group q.group)
Plays w w' map map' given e before after (Err (unplayed.Limit which)) = (after ≡ before) × EndsAt w map map' given e (AtLimit (quantity_of which))
Plays w w' map map' given e before after (Err (unplayed.Frame at)) = (after ≡ before) × EndsAt w map map' given e (AtFrame at)
Plays w w' map map' given e before after (Err unplayed.FieldFault) =
    (after ≡ before)
    × ((m : Meaning) (p : Playing (MessageOf (Until m)) (StateOf (Until m))) → SeesPlaying (Until m) w map given p → IsNamedBy (Until m) p e
    → (q : Playing (MessageOf (Until m)) (StateOf (Until m))) × (played (model_of (Until m)) p e ≡ Off [] AtField q))
Plays w w' map map' given e before after (Err unplayed.Memory) = after ≡ before

-- The trace of a group whose calls are answered by given contents, and which of these it takes.
use Rattle.std.specs.Prelude.{◌≡◌, ℕ, false, List, [], ◌∷◌, ◌++◌, Option, Some, Result, Ok, Err}
use Rattle.std.specs.List.{AllByRecursion}
use Rattle.values.specs.declared.batch.Batch.{Batch}
use Rattle.values.specs.declared.peer.PeerMsg.{PeerMsg}
use Rattle.group_model.specs.Field.{Field, Reply, Answers, Unreadable, Nothing}
use Rattle.schedule_model.specs.Written.{Stop, AtFrame, Written, text_with, last_of, stop_of}
use Rattle.trace_model.specs.Trace.{Playing, closing, schedule_played}

-- the batch that a content says, or the offset of what is no part of one
abbrev pub ReadsBatch : Type 0
ReadsBatch = List ℕ → Result Batch ℕ

abbrev pub reply_by : List (List ℕ) → Result Batch ℕ → Reply PeerMsg (List (List ℕ))
reply_by later (Ok batch) = Answers batch batch.sent later
reply_by later (Err at) = Unreadable at later

-- the next content answers a call, whatever is asked
abbrev pub next_reply : ReadsBatch → List (List ℕ) → Reply PeerMsg (List (List ℕ))
next_reply batch_of [] = Nothing
next_reply batch_of (content ∷ later) = reply_by later (batch_of content)

-- a field that answers by contents, one after another
abbrev pub contents : ReadsBatch → Field PeerMsg (List (List ℕ))
contents batch_of = record { start = λ f hello. f; call = λ f r input. next_reply batch_of f; stop = λ f r. f; has_failed = λ f. false }

-- what a schedule writes where these contents answer its calls, and where it ends
abbrev pub played_from : ReadsBatch → List ℕ → List (List ℕ) → Written (Playing PeerMsg (List (List ℕ)))
played_from batch_of bytes given = schedule_played (contents batch_of) given bytes

-- the text of such a schedule
abbrev pub trace_from : ReadsBatch → List ℕ → List (List ℕ) → List ℕ
trace_from batch_of bytes given = text_with closing (played_from batch_of bytes given)

-- the contents that it does not take
abbrev pub left_from : ReadsBatch → List ℕ → List (List ℕ) → List (List ℕ)
left_from batch_of bytes given = (last_of (played_from batch_of bytes given)).stands

-- why it ends before its schedule, where it does
abbrev pub stop_from : ReadsBatch → List ℕ → List (List ℕ) → Option Stop
stop_from batch_of bytes given = stop_of (played_from batch_of bytes given)

-- each of these contents says a batch
abbrev pub AreBatches : ReadsBatch → List (List ℕ) → Type 0
AreBatches batch_of taken = AllByRecursion (λ content. (batch : Batch) × (batch_of content ≡ Ok batch)) taken

-- the last of these contents is no batch, from this offset on, and all before it are batches
pub record EndsAtNone (batch_of : ReadsBatch) (at : ℕ) (taken : List (List ℕ)) : Type 0 where
  pub read : List (List ℕ)
  pub refused : List ℕ
  pub is_last : taken ≡ read ++ refused ∷ []
  pub batches : AreBatches batch_of read
  pub offset : batch_of refused ≡ Err at

-- what a text takes that ends so: batches, of which only one that ends it is none, and that one is the last
abbrev pub AreTaken : ReadsBatch → Option Stop → List (List ℕ) → Type 0
AreTaken batch_of (Some (AtFrame at)) taken = EndsAtNone batch_of at taken
AreTaken batch_of stop taken = AreBatches batch_of taken

-- the text takes every content that was given
pub record TakesAll (batch_of : ReadsBatch) (bytes : List ℕ) (given : List (List ℕ)) : Type 0 where
  pub none_left : left_from batch_of bytes given ≡ []
  pub taken : AreTaken batch_of (stop_from batch_of bytes given) given

-- of any contents the text takes those at the front
pub record TakesFront (batch_of : ReadsBatch) (bytes : List ℕ) (given : List (List ℕ)) : Type 0 where
  pub front : List (List ℕ)
  pub rest : given ≡ front ++ left_from batch_of bytes given
  pub taken : AreTaken batch_of (stop_from batch_of bytes given) front

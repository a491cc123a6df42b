-- Schedules whose calls are answered by contents that name batches.
use Rattle.std.specs.Prelude.{◌≡◌, ℕ, List, [], ◌∷◌, ◌++◌, map, filter, reverse, slice_get, slice_index, Option, Some, None, is_some, Result, Ok, Err}
use Rattle.std.specs.List.{range_with_len}
use Prim.Native.String.{String}
use Rattle.values.specs.declared.batch.Batch.{Batch}
use Rattle.values.specs.declared.peer.PeerMsg.{PeerMsg}
use Rattle.schedule_model.specs.Written.{Stop, Written, text_with, last_of, stop_of}
use Rattle.group_model.specs.Run.{Recorded}
use Rattle.trace_model.specs.Trace.{Playing, closing}
use Rattle.trace_model.specs.Contents.{ReadsBatch, played_from}
use Rattle.trace_model.specs.Schedules.{enclaves_of}
use Rattle.model_rows.specs.Shown.{bytes_of, shown}
use Rattle.model_rows.specs.Toy.{toy_link}

-- the batches of the calls that a schedule makes, in their order, those of the event that ends it included
abbrev pub batches_of : List String → List Batch
batches_of schedule =
    map (λ (r : Recorded). r.call.batch) (filter (λ (r : Recorded). is_some r.input) (reverse (enclaves_of toy_link (bytes_of schedule)).history))

-- a content names a batch by its place; one that names none is no batch from that offset on
abbrev pub batch_at : ℕ → Option Batch → Result Batch ℕ
batch_at place (Some batch) = Ok batch
batch_at place None = Err place

abbrev pub named_in : List Batch → ReadsBatch
named_in batches content = batch_at (slice_index content 0) (slice_get batches (slice_index content 0))

-- the first n contents
abbrev pub contents_to : ℕ → List (List ℕ)
contents_to n = map (λ k. k ∷ []) (range_with_len 0 n)

-- what the schedule writes where the first n contents answer its calls, and after them these
abbrev pub answered_by : List String → ℕ → List (List ℕ) → Written (Playing PeerMsg (List (List ℕ)))
answered_by schedule n more = played_from (named_in (batches_of schedule)) (bytes_of schedule) (contents_to n ++ more)

-- it has this trace then, ends for this reason, and takes all but these
pub record IsAnswered (x : Written (Playing PeerMsg (List (List ℕ)))) (trace : List String) (stop : Option Stop) (left : List (List ℕ)) : Type 0 where
  pub trace_is : shown (text_with closing x) ≡ trace
  pub stop_is : stop_of x ≡ stop
  pub left_are : (last_of x).stands ≡ left

abbrev pub AnsweredBy : List String → ℕ → List (List ℕ) → List String → Option Stop → List (List ℕ) → Type 0
AnsweredBy schedule n more trace stop left = IsAnswered (answered_by schedule n more) trace stop left

-- What a group over a field wrote of a whole source.
use Rattle.std.specs.Prelude.{IsSomeAnd, ℕ, ◌≡◌, ◌≤◌, ◌<◌, ◌++◌, ◌⊎◌, false, List, [], length, take, Option, Some, None, IfSome, IsSome}
use Rattle.std.specs.List.{AllByRecursion}
use Rattle.std.specs.Io.KnownBytes.{Appends, Consumes, IsAtEnd}
use Rattle.record_cutting.specs.Lines.{Record, records_of, whole_records}
use Rattle.record_stream.specs.Ends.{IsFrontOf, limit, piece_size}
use Rattle.record_stream.specs.declared.source.Ended.{Ended}
use Rattle.record_stream.specs.declared.source.Ended.TheVariants as ended
use Rattle.schedule_model.specs.Quantities as quantity
use Rattle.schedule_model.specs.Quantities.{Quantity}
use Rattle.schedule_model.specs.Written.{Stop, AtRecord, AtLimit, AtFrame, AtField, Written, last_of, no_closing, stop_of, text_with}
use Rattle.replica_model.specs.Keyed.{value_at}
use Rattle.replica_model.specs.Linked.{sha_link}
use Rattle.group_model.specs.Field.{Field}
use Rattle.group_model.specs.Group.{nothing_started}
use Rattle.group_model.specs.Run.{Enclaves, enclaves, no_enclaves}
use Rattle.trace_model.specs.Contents.{contents}
use Rattle.trace_model.specs.Trace.{Playing, closing, playing, records_played}
use Rattle.trace_text.specs.declared.stopped.Quantity.{Quantity as Counted}
use Rattle.trace_text.specs.declared.stopped.Quantity.TheVariants as counted
use Rattle.enclave_host.specs.Fields.{Gains, Map}
use Rattle.group_world.specs.declared.halt.Halt.{Halt}
use Rattle.group_world.specs.declared.halt.Halt.TheVariants as halt
use Rattle.group_world.specs.declared.schedule.Played.{Played}
use Rattle.group_world.specs.declared.schedule.Played.TheVariants as end
use Rattle.group_world.specs.declared.schedule.Which.{Which}
use Rattle.group_world.specs.declared.schedule.Which.TheVariants as which
use Rattle.group_world.specs.Failing.{Failing, failing}
use Rattle.group_world.specs.Given.{Given, contents_in}
use Rattle.group_world.specs.Meanings.{IsNamedCall, StandsAt, batch_of}

-- ---- how it ended, in code and in the model

abbrev pub which_of : Counted → Which
which_of counted.Events = which.Events
which_of counted.Messages = which.Messages
which_of counted.Answers = which.Answers
which_of counted.Replicas = which.Replicas
which_of counted.States = which.States
which_of counted.Clients = which.Clients

abbrev pub halted_as : Halt → Played
halted_as (halt.Record number cause field) = end.Schedule number cause field
halted_as (halt.Limit q) = end.Limit (which_of q)
halted_as (halt.Frame at) = end.Frame at

abbrev pub played_by : Ended Halt → Played
played_by ended.Done = end.Done
played_by (ended.Stopped why) = halted_as why
played_by ended.Memory = end.Memory
played_by ended.ReadFault = end.ReadFault
played_by ended.WriteFault = end.WriteFault
played_by ended.Limit = end.Limit which.Bytes
played_by ended.Failed = end.FieldFault

abbrev pub which_for : Quantity → Which
which_for quantity.Events = which.Events
which_for quantity.Messages = which.Messages
which_for quantity.Answers = which.Answers
which_for quantity.Replicas = which.Replicas
which_for quantity.States = which.States
which_for quantity.Clients = which.Clients

-- how it ends where nothing but the records and the field's answers decides
abbrev pub played_for : Option Stop → Played
played_for None = end.Done
played_for (Some (AtRecord number fault)) = end.Schedule number fault.cause fault.field
played_for (Some (AtLimit passed)) = end.Limit (which_for passed)
played_for (Some (AtFrame at)) = end.Frame at
played_for (Some AtField) = end.FieldFault

-- ---- a schedule, from where nothing has started

-- Of a field in this state. Of records it is said where what the field was handed in them is `named`, as it is without a
-- collision; and `spent` says of the field's state after them that it has no answers left.
module _ {M F : Type 0} (field : Field M F) (f : F) (named spent : F → Type 0) where
  abbrev pub plays : List Record → Written (Playing M F)
  plays rs = records_played field (playing (nothing_started f)) rs

  abbrev pub IsNamedOver : List Record → Type 0
  IsNamedOver rs = named (last_of (plays rs)).stands

  -- the text of records, with the closing lines or without them
  abbrev pub trace_of : List Record → List ℕ
  trace_of rs = text_with closing (plays rs)

  abbrev pub lines_of : List Record → List ℕ
  lines_of rs = text_with no_closing (plays rs)

  -- these records ended so, and asked for all that the field answered
  pub record Ends (rs : List Record) (stop : Option Stop) : Type 0 where
    pub stopped : stop_of (plays rs) ≡ stop
    pub asked : spent (last_of (plays rs)).stands

  -- all records ended so, and the sink gained the whole trace
  abbrev pub EndsAs : Option Stop → List ℕ → Option (List ℕ) → Option (List ℕ) → Type 0
  EndsAs stop all old new = IsNamedOver (records_of all) → Ends (records_of all) stop × Appends old new (trace_of (records_of all))

  -- none of the records that stand whole in these bytes ended the trace, and the sink gained exactly their lines
  abbrev pub WroteLines : List ℕ → Option (List ℕ) → Option (List ℕ) → Type 0
  WroteLines bytes old new = IsNamedOver (whole_records bytes) → Ends (whole_records bytes) None × Appends old new (lines_of (whole_records bytes))

  -- first bytes of the lines of the records that stand whole in the bytes read, as far as they are played, or, where all was
  -- read, of these and the closing lines
  abbrev pub IsOfRead : List ℕ → Option (List ℕ) → List ℕ → Type 0
  IsOfRead read left written =
      (IsNamedOver (whole_records (take limit read)) → IsFrontOf written (lines_of (whole_records (take limit read))))
      ⊎ (IsAtEnd left × (length read ≤ limit) × (IsNamedOver (records_of read) → IsFrontOf written (trace_of (records_of read))))

  -- The sink gained such bytes. All that had been read but for the last piece, of at most 65,536 bytes, had been played
  -- before: the lines of the records whole in it were gained.
  pub record CutOff (all : List ℕ) (left old new : Option (List ℕ)) : Type 0 where
    pub read : List ℕ
    pub consumed : Consumes (Some all) left read
    pub written : List ℕ
    pub of_read : IsOfRead read left written
    pub before : List ℕ
    pub piece : List ℕ
    pub rest : List ℕ
    pub parts : read ≡ before ++ piece
    pub short : length piece ≤ piece_size
    pub lines : IsNamedOver (whole_records before) → written ≡ lines_of (whole_records before) ++ rest
    pub gained : Appends old new written

  -- how it ended over a source that held all these bytes, with what the source has left and what the sink gained
  abbrev pub RunsOver : List ℕ → Option (List ℕ) → Option (List ℕ) → Option (List ℕ) → Played → Type 0
  RunsOver all left old new end.Done = (left ≡ Some []) × (length all ≤ limit) × EndsAs None all old new
  RunsOver all left old new (end.Schedule line cause at) = EndsAs (Some (AtRecord line (record { cause = cause; field = at }))) all old new
  RunsOver all left old new (end.Limit which.Bytes) = (limit < length all) × WroteLines (take limit all) old new
  RunsOver all left old new (end.Limit which.Events) = EndsAs (Some (AtLimit quantity.Events)) all old new
  RunsOver all left old new (end.Limit which.Messages) = EndsAs (Some (AtLimit quantity.Messages)) all old new
  RunsOver all left old new (end.Limit which.Answers) = EndsAs (Some (AtLimit quantity.Answers)) all old new
  RunsOver all left old new (end.Limit which.Replicas) = EndsAs (Some (AtLimit quantity.Replicas)) all old new
  RunsOver all left old new (end.Limit which.States) = EndsAs (Some (AtLimit quantity.States)) all old new
  RunsOver all left old new (end.Limit which.Clients) = EndsAs (Some (AtLimit quantity.Clients)) all old new
  RunsOver all left old new (end.Frame at) = EndsAs (Some (AtFrame at)) all old new
  RunsOver all left old new end.ReadFault = (read : List ℕ) × Consumes (Some all) left read × WroteLines read old new
  RunsOver all left old new end.WriteFault = CutOff all left old new
  RunsOver all left old new end.Memory = CutOff all left old new
  RunsOver all left old new end.FieldFault = CutOff all left old new

  -- where nothing failed, the records and the field's answers decided how it ended
  abbrev pub Decides : List ℕ → Played → Type 0
  Decides all result = IsNamedOver (records_of all) → result ≡ played_for (stop_of (plays (records_of all)))

-- ---- what is said of a field

-- what messages name is what they name without a collision of the hash
abbrev pub IsWithoutCollision : Enclaves → Type 0
IsWithoutCollision f = AllByRecursion IsNamedCall f.history

abbrev pub any : {F : Type 0} → F → Type 0
any f = Unit {0}

-- over the model's enclaves
abbrev pub OverEnclaves : List ℕ → Option (List ℕ) → Option (List ℕ) → Option (List ℕ) → Played → Type 0
OverEnclaves all left old new result = RunsOver (enclaves sha_link) no_enclaves IsWithoutCollision any all left old new result

-- The same trace over enclaves that answer as many asks as the field did, and not the next: the records come to that ask,
-- and the trace ends with the lines of the events before the one that asks it. Where the field tells its answers, they are
-- the contents among those.
abbrev pub FailedOver : (told told' : Option (List (List ℕ))) → List ℕ → Option (List ℕ) → Option (List ℕ) → Type 0
FailedOver told told' all old new =
    (given : List Given) × Gains told told' (contents_in given)
    × (let f : Failing Enclaves = record { inner = no_enclaves; left = length given; failed = false } in
    EndsAs (failing (enclaves sha_link)) f (λ s. IsWithoutCollision s.inner) any (Some AtField) all old new)

-- from the contents that the field gave, where they are told
abbrev pub OverContents : Option (List (List ℕ)) → Option (List (List ℕ)) → List ℕ → Option (List ℕ) → Option (List ℕ) → Option (List ℕ) → Played → Type 0
OverContents told told' all left old new result =
    IfSome told (λ was.
    (given : List (List ℕ)) × (told' ≡ Some (was ++ given)) × RunsOver (contents batch_of) given any (λ later. later ≡ []) all left old new result)

-- and so the records decide, over either
pub record DecidedOver (map : Option Map) (told told' : Option (List (List ℕ))) (all : List ℕ) (result : Played) : Type 0 where
  pub enclaves_decide : IsSome map → Decides (enclaves sha_link) no_enclaves IsWithoutCollision any all result
  pub contents_decide : IfSome told (λ was. (given : List (List ℕ)) × (told' ≡ Some (was ++ given)) × Decides (contents batch_of) given any (λ later. later ≡ []) all result)

-- the model's enclaves after records
abbrev pub enclaves_after : List Record → Enclaves
enclaves_after rs = (last_of (plays (enclaves sha_link) no_enclaves IsWithoutCollision any rs)).group.field

-- Who runs in a field that tells it, after all records: each replica that the model's group runs, in a place that stands for
-- its enclave there, and nobody else.
abbrev pub RunsAfter : List ℕ → Option Map → Type 0
RunsAfter all map =
    IsNamedOver (enclaves sha_link) no_enclaves IsWithoutCollision any (records_of all)
    → IsSomeAnd map (λ now. (id : ℕ) → StandsAt id (now id) (value_at (enclaves_after (records_of all)).running id))

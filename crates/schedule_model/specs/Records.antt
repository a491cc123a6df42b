-- The event that a record of a schedule stands for, or its fault.
use Rattle.std.specs.Prelude.{ℕ, ◌==◌, nat_eq, nat_le, ◌&&◌, if◌then◌else◌, Bool, true, false, List, [], ◌∷◌, length, drop, bytes_eq, codes, Option, Some, None, Result, Ok, Err}
use Rattle.std.specs.List.{starts_with}
use Rattle.group_quorum.specs.Voters.{fault_of}
use Rattle.group_quorum.specs.declared.ConfigFault.{ConfigFault}
use Rattle.group_quorum.specs.declared.ConfigFault.TheVariants as config
use Rattle.values.specs.declared.event.Event.{Event}
use Rattle.values.specs.declared.event.Event.TheVariants as event
use Rattle.values.specs.declared.event.Cause.{Cause}
use Rattle.values.specs.declared.event.Cause.TheVariants as cause
use Rattle.values.specs.declared.want.Want.TheVariants as want
use Rattle.record_cutting.specs.Lines.{Record}
use Rattle.group_quorum.specs.declared.TheConstants.{MAX_MARGIN}
use Rattle.values.specs.declared.limits.TheConstants.{MAX_SETTLED, MOST_ROWS}
use Rattle.schedule_model.specs.Reading.{RecordFault, fault, ◌>>=◌, field, number_at, replica_at, hex_at, client_at, pin_at, request_at, replicas_from, max_u32, max_u64}

-- what a record says by its first field; of a want, by its third
pub data Word : Type 0 where
  Begin : Word
  Start : Word
  Tick : Word
  Deliver : Word
  Lose : Word
  Settle : Word
  Crash : Word
  Save : Word
  Roll : Word
  Join : Word
  Admit : Word
  Remove : Word
  Margin : Word
  Ask : Word
  Store : Word
  Recover : Word
  Erase : Word
  Say : Word
  Hear : Word
  Again : Word

-- what a text means in a list of texts with their meanings
abbrev pub meaning : {A : Type 0} → List ℕ → List (List ℕ × A) → Option A
meaning text [] = None
meaning text (w ∷ ws) = if bytes_eq text w.0 then Some w.1 else meaning text ws

abbrev pub first_words : List (List ℕ × Word)
first_words =
    (codes "begin", Begin)
    ∷ (codes "start", Start)
    ∷ (codes "tick", Tick)
    ∷ (codes "deliver", Deliver)
    ∷ (codes "lose", Lose)
    ∷ (codes "settle", Settle)
    ∷ (codes "crash", Crash)
    ∷ (codes "save", Save)
    ∷ (codes "roll", Roll)
    ∷ (codes "join", Join)
    ∷ (codes "admit", Admit)
    ∷ (codes "remove", Remove)
    ∷ (codes "margin", Margin)
    ∷ (codes "ask", Ask)
    ∷ (codes "say", Say)
    ∷ (codes "hear", Hear)
    ∷ []

abbrev pub want_words : List (List ℕ × Word)
want_words = (codes "store", Store) ∷ (codes "recover", Recover) ∷ (codes "delete", Erase) ∷ []

abbrev pub word_or : Cause → ℕ → Option Word → Result Word RecordFault
word_or cause k (Some word) = Ok word
word_or cause k None = fault cause k

-- the word of a record; `again` is one where the schedule is driven
abbrev pub word_of : Bool → Record → Result Word RecordFault
word_of driven fields =
    if bytes_eq (field fields 1) (codes "want") then
    (if nat_le 3 (length fields) then word_or cause.Word 3 (meaning (field fields 3) want_words) else fault cause.Fields 0)
    else if driven && bytes_eq (field fields 1) (codes "again") then Ok Again
    else word_or cause.Word 1 (meaning (field fields 1) first_words)

-- whether a record of this word may have n fields
abbrev pub has_fields : Word → ℕ → Bool
has_fields Begin n = nat_le 4 n
has_fields Start n = n == 2
has_fields Tick n = n == 2
has_fields Deliver n = n == 2
has_fields Lose n = n == 2
has_fields Settle n = n == 2
has_fields Crash n = n == 2
has_fields Save n = n == 2
has_fields Roll n = n == 3
has_fields Join n = n == 3
has_fields Admit n = n == 3
has_fields Remove n = n == 3
has_fields Margin n = n == 3
has_fields Ask n = n == 5
has_fields Store n = n == 6
has_fields Recover n = n == 4
has_fields Erase n = n == 3
has_fields Say n = n == 3
has_fields Hear n = n == 3
has_fields Again n = n == 2

-- the begin record comes first, and once
abbrev pub placed : Bool → Word → Result Word RecordFault
placed false Begin = Ok Begin
placed true Begin = fault cause.SecondBegin 0
placed false word = fault cause.NoBegin 0
placed true word = Ok word

-- the fault of a list of voters as that of a record; each id is in range there
abbrev pub cause_of : ConfigFault → Cause
cause_of (config.TooMany n) = cause.TooMany
cause_of (config.BadId id) = cause.Range
cause_of (config.Double id) = cause.Double
cause_of (config.TooFew n) = cause.TooFew

abbrev pub begin_or : Option ConfigFault → ℕ → ℕ → List ℕ → Result Event RecordFault
begin_or (Some f) margin limit voters = fault (cause_of f) 0
begin_or None margin limit voters = Ok (event.Begin margin limit voters)

abbrev pub begin_of : Record → Result Event RecordFault
begin_of fields = do
  margin ← number_at fields 2 0 MAX_MARGIN
  limit ← number_at fields 3 1 MOST_ROWS
  voters ← replicas_from 4 (drop 3 fields)
  begin_or (fault_of margin voters) margin limit voters

-- a record of a replica alone
abbrev pub of_replica : (ℕ → Event) → Record → Result Event RecordFault
of_replica make fields = do
  replica ← replica_at fields 2
  Ok (make replica)

-- a record of a replica and another
abbrev pub of_two : (ℕ → ℕ → Event) → Record → Result Event RecordFault
of_two make fields = do
  replica ← replica_at fields 2
  id ← replica_at fields 3
  Ok (make replica id)

-- a record of a replica and a number
abbrev pub of_replica_and : (ℕ → ℕ → Event) → ℕ → Record → Result Event RecordFault
of_replica_and make high fields = do
  replica ← replica_at fields 2
  number ← number_at fields 3 0 high
  Ok (make replica number)

-- a record of a number
abbrev pub of_number : (ℕ → Event) → ℕ → ℕ → Record → Result Event RecordFault
of_number make low high fields = do
  number ← number_at fields 2 low high
  Ok (make number)

abbrev pub ask_of : Record → Result Event RecordFault
ask_of fields = do
  replica ← replica_at fields 2
  client ← client_at fields 3
  number ← number_at fields 4 0 max_u64
  request ← request_at fields 5
  Ok (event.Ask replica client number request)

abbrev pub store_of : Record → Result Event RecordFault
store_of fields = do
  client ← client_at fields 2
  secret ← hex_at fields 4
  pin ← pin_at fields 5
  tries ← number_at fields 6 0 max_u32
  Ok (event.Want client (want.Store secret pin tries))

abbrev pub recover_of : Record → Result Event RecordFault
recover_of fields = do
  client ← client_at fields 2
  pin ← pin_at fields 4
  Ok (event.Want client (want.Recover pin))

abbrev pub erase_of : Record → Result Event RecordFault
erase_of fields = do
  client ← client_at fields 2
  Ok (event.Want client want.Erase)

abbrev pub say_of : Record → Result Event RecordFault
say_of fields = do
  client ← client_at fields 2
  replica ← replica_at fields 3
  Ok (event.Say client replica)

abbrev pub hear_of : Record → Result Event RecordFault
hear_of fields = do
  client ← client_at fields 2
  answer ← number_at fields 3 1 max_u64
  Ok (event.Hear client answer)

abbrev pub again_of : Record → Result Event RecordFault
again_of fields = do
  client ← client_at fields 2
  Ok (event.Again client)

-- the event of a record of this word and a right number of fields, by its fields from left to right
abbrev pub fields_as : Word → Record → Result Event RecordFault
fields_as Begin = begin_of
fields_as Start = of_replica event.Start
fields_as Tick = of_replica event.Tick
fields_as Deliver = of_number event.Deliver 1 max_u64
fields_as Lose = of_number event.Lose 1 max_u64
fields_as Settle = of_number event.Settle 0 MAX_SETTLED
fields_as Crash = of_replica event.Crash
fields_as Save = of_replica event.Save
fields_as Roll = of_replica_and event.Roll max_u32
fields_as Join = of_two event.Join
fields_as Admit = of_two event.Admit
fields_as Remove = of_two event.Remove
fields_as Margin = of_replica_and event.Margin MAX_MARGIN
fields_as Ask = ask_of
fields_as Store = store_of
fields_as Recover = recover_of
fields_as Erase = erase_of
fields_as Say = say_of
fields_as Hear = hear_of
fields_as Again = again_of

-- a record whose first field begins with # is a remark
abbrev pub is_remark : Record → Bool
is_remark fields = starts_with nat_eq (field fields 1) (codes "#")

-- the event of a record that is no remark: its word, the number of its fields, its place, and then each field
abbrev pub event_at : Bool → Bool → Record → Result Event RecordFault
event_at driven begun fields = do
  word ← word_of driven fields
  counted ← if has_fields word (length fields) then Ok word else fault cause.Fields 0
  allowed ← placed begun counted
  fields_as allowed fields

abbrev pub some_event : Result Event RecordFault → Result (Option Event) RecordFault
some_event (Ok e) = Ok (Some e)
some_event (Err f) = Err f

-- the event of a record, none for a remark, or its fault, where the group has begun or not
abbrev pub event_of : Bool → Bool → Record → Result (Option Event) RecordFault
event_of driven begun fields = if is_remark fields then Ok None else some_event (event_at driven begun fields)

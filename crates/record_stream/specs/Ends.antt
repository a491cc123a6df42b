-- How the playing of a source ends.
use Rattle.std.specs.Prelude.{ℕ, ◌≡◌, ◌≢◌, ◌≤◌, ◌<◌, ◌⊎◌, true, false, List, [], ◌++◌, length, take, fold, Option, Some, None}
use Rattle.std.specs.Io.KnownBytes.{Appends, Consumes, IsAtEnd}
use Rattle.record_cutting.specs.Lines.{Record, records_of, whole_records}
use Rattle.record_stream.specs.Course.{Course, Outlook}
use Rattle.values.specs.declared.limits.TheConstants.{MAX_SOURCE}
use Rattle.record_stream.specs.declared.source.Ended.{Ended}
use Rattle.record_stream.specs.declared.source.Ended.TheVariants as ended

-- the most bytes that are played
abbrev pub limit : ℕ
limit = MAX_SOURCE

-- the most bytes of one read
abbrev pub piece_size : ℕ
piece_size = 65536

-- The last read gave at most a piece. The records that stood whole in what was read before it had been written whole.
pub record ReadAhead {R : Type 0} (a : Course R) (read written : List ℕ) : Type 0 where
  pub before : List ℕ
  pub piece : List ℕ
  pub rest : List ℕ
  pub parts : read ≡ before ++ piece
  pub short : length piece ≤ piece_size
  pub gained : a.holds (whole_records before) → written ≡ a.text false (whole_records before) ++ rest

-- these are first bytes of a text
abbrev pub IsFrontOf : (written text : List ℕ) → Type 0
IsFrontOf written text = (rest : List ℕ) × (text ≡ written ++ rest)

-- these are first bytes of the lines of the records that stand whole in the bytes read, as far as they are played, or,
-- where all was read, of these and the closing lines
abbrev pub IsOfRead : {R : Type 0} → Course R → (read : List ℕ) → Option (List ℕ) → List ℕ → Type 0
IsOfRead a read left written =
    (a.holds (whole_records (take limit read)) → IsFrontOf written (a.text false (whole_records (take limit read))))
    ⊎ (IsAtEnd left × (length read ≤ limit) × (a.holds (records_of read) → IsFrontOf written (a.text true (records_of read))))

-- the sink gained such bytes, and all lines but those that the last piece ended
pub record CutOff {R : Type 0} (a : Course R) (read : List ℕ) (left old new : Option (List ℕ)) : Type 0 where
  pub written : List ℕ
  pub of_read : IsOfRead a read left written
  pub ahead : ReadAhead a read written
  pub gained : Appends old new written

-- no record stopped the player, or one did for this reason; and they asked for exactly what it was answered
abbrev pub Unstopped : {R : Type 0} → Course R → List Record → Type 0
Unstopped a rs = (a.reason rs ≡ None) × (a.takes_all rs ≡ true)

abbrev pub StoppedFor : {R : Type 0} → Course R → List Record → R → Type 0
StoppedFor a rs why = (a.reason rs ≡ Some why) × (a.takes_all rs ≡ true)

-- what the player asked for itself failed in these records
abbrev pub FailedIn : {R : Type 0} → Course R → List Record → Type 0
FailedIn a rs = a.failed rs ≡ true

-- no record that stands whole in these bytes stopped the player, and the sink gained the lines of all of them
abbrev pub WroteWhole : {R : Type 0} → Course R → List ℕ → Option (List ℕ) → Option (List ℕ) → Type 0
WroteWhole a bytes old new =
    a.holds (whole_records bytes) → Unstopped a (whole_records bytes) × Appends old new (a.text false (whole_records bytes))

-- How the playing of a source ended that held all these bytes, with what the source has left and what the sink gained.
-- What records made of it is said of those of which the course holds.
abbrev pub EndsOver : {R : Type 0} → Course R → List ℕ → Option (List ℕ) → Option (List ℕ) → Option (List ℕ) → Ended R → Type 0
EndsOver a all left old new ended.Done =
    (left ≡ Some []) × (length all ≤ limit)
    × (a.holds (records_of all) → Unstopped a (records_of all) × Appends old new (a.text true (records_of all)))
EndsOver a all left old new (ended.Stopped why) =
    a.holds (records_of all) → StoppedFor a (records_of all) why × Appends old new (a.text true (records_of all))
EndsOver a all left old new ended.ReadFault = (read : List ℕ) × Consumes (Some all) left read × WroteWhole a read old new
EndsOver a all left old new ended.Limit = (limit < length all) × WroteWhole a (take limit all) old new
EndsOver a all left old new ended.WriteFault = (read : List ℕ) × Consumes (Some all) left read × CutOff a read left old new
EndsOver a all left old new ended.Memory = (read : List ℕ) × Consumes (Some all) left read × CutOff a read left old new
EndsOver a all left old new ended.Failed = (read : List ℕ) × Consumes (Some all) left read × CutOff a read left old new

-- how it ends where nothing but the records decides
abbrev pub ended_for : {R : Type 0} → Option R → Ended R
ended_for None = ended.Done
ended_for (Some why) = ended.Stopped why

-- no fault and no want of memory ended it
abbrev pub CanDecide : {R : Type 0} → Ended R → Type 0
CanDecide result = (result ≢ ended.Memory) × ((result ≢ ended.ReadFault) × ((result ≢ ended.WriteFault) × (result ≢ ended.Failed)))

-- How the playing ended of a player, by what it got for itself: on each way that these answers allow. Where what it asked
-- failed, it failed in these records on the way that fails after these answers, and the text is exactly the one up to
-- there. Where all was played, the player stands on the way after all records.
pub record PlayedOver {S R W G : Type 0} (gains : S → S → List G → Type 0) (takes : S → Outlook W G) (course : W → Course R) (step : W → Record → W) (p q : S) (all : List ℕ) (left old new : Option (List ℕ)) (result : Ended R) : Type 0 where
  pub given : List G
  pub gained : gains p q given
  pub ends : (w : W) → takes p false given w → EndsOver (course w) all left old new result
  pub fails : result ≡ ended.Failed → (w : W) → takes p true given w
      → (course w).holds (records_of all) → FailedIn (course w) (records_of all) × Appends old new ((course w).text true (records_of all))
  pub reason : (w : W) → takes p false given w → (course w).holds (records_of all)
      → length all ≤ limit → CanDecide result → result ≡ ended_for ((course w).reason (records_of all))
  pub stays : result ≡ ended.Done → (w : W) → takes p false given w → takes q false [] (fold step w (records_of all))

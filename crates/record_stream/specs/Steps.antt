-- What the layers of the engine say to one another.
use Rattle.std.specs.Prelude.{ℕ, ◌≡◌, ◌≢◌, ◌≤◌, ◌<◌, true, false, List, [], ◌++◌, length, take, fold, Option, IfSome, Result, Ok, Err, OnOk}
use Rattle.std.specs.Io.KnownBytes.{Appends, IsAtEnd}
use Rattle.record_cutting.specs.Lines.{Record, records_of}
use Rattle.record_stream.specs.Course.{Course, Outlook}
use Rattle.record_stream.specs.Ends.{CutOff, FailedIn, IsFrontOf, StoppedFor, Unstopped, WroteWhole, limit}
use Rattle.record_stream.specs.declared.player.Stop.{Stop}
use Rattle.record_stream.specs.declared.player.Stop.TheVariants as stop
use Rattle.record_stream.specs.declared.source.Ended.{Ended}
use Rattle.record_stream.specs.declared.source.Ended.TheVariants as ended

-- how the playing of a source ended of which these bytes were read
abbrev pub EndsAfter : {R : Type 0} → Course R → List ℕ → Option (List ℕ) → Option (List ℕ) → Option (List ℕ) → Ended R → Type 0
EndsAfter a read left old new ended.Done =
    IsAtEnd left × (length read ≤ limit)
    × (a.holds (records_of read) → Unstopped a (records_of read) × Appends old new (a.text true (records_of read)))
EndsAfter a read left old new (ended.Stopped why) =
    (written : List ℕ)
    × IfSome left (λ later. a.holds (records_of (read ++ later)) → StoppedFor a (records_of (read ++ later)) why × (a.text true (records_of (read ++ later)) ≡ written))
    × Appends old new written
EndsAfter a read left old new ended.ReadFault = WroteWhole a read old new
EndsAfter a read left old new ended.Limit = (limit < length read) × WroteWhole a (take limit read) old new
EndsAfter a read left old new ended.Memory = CutOff a read left old new
EndsAfter a read left old new ended.Failed = CutOff a read left old new
EndsAfter a read left old new ended.WriteFault = CutOff a read left old new

-- what a player's stop makes of the whole
abbrev pub ended_by : {R : Type 0} → Stop R → Ended R
ended_by stop.Memory = ended.Memory
ended_by (stop.Stopped why) = ended.Stopped why
ended_by stop.Failed = ended.Failed

-- how the last records and the closing lines were played, by the lines that they gave
abbrev pub Last : {R T : Type 0} → Course R → List Record → List ℕ → Result T (Stop R) → Type 0
Last a rs lines (Ok done) = Unstopped a rs × (a.text true rs ≡ lines)
Last a rs lines (Err (stop.Stopped why)) = StoppedFor a rs why × (a.text true rs ≡ lines)
Last a rs lines (Err stop.Memory) = IsFrontOf lines (a.text true rs)
Last a rs lines (Err stop.Failed) = IsFrontOf lines (a.text true rs)

-- how the playing ended with them, by what of their lines was written
abbrev pub Finishes : {R : Type 0} → Course R → List Record → List ℕ → Ended R → Type 0
Finishes a rs written ended.Done = Unstopped a rs × (a.text true rs ≡ written)
Finishes a rs written (ended.Stopped why) = StoppedFor a rs why × (a.text true rs ≡ written)
Finishes a rs written ended.Memory = IsFrontOf written (a.text true rs)
Finishes a rs written ended.WriteFault = IsFrontOf written (a.text true rs)
Finishes a rs written ended.Failed = IsFrontOf written (a.text true rs)
Finishes a rs written ended.ReadFault = ⊥
Finishes a rs written ended.Limit = ⊥

-- of a player, what it got between two states, which ways it may take, the course of each, and the way that goes on after a record
module _ {S R W G : Type 0} (gains : S → S → List G → Type 0) (takes : S → Outlook W G) (course : W → Course R) (step : W → Record → W) where
  -- the same on each way; and where what the player asked for itself failed, on the way that fails, exactly up to there
  pub record EndsFrom (p q : S) (read : List ℕ) (left old new : Option (List ℕ)) (result : Ended R) : Type 0 where
    pub given : List G
    pub gained : gains p q given
    pub ends : (w : W) → takes p false given w → EndsAfter (course w) read left old new result
    pub fails : result ≡ ended.Failed → (w : W) → takes p true given w
        → (written : List ℕ)
        × IfSome left (λ later. (course w).holds (records_of (read ++ later)) → FailedIn (course w) (records_of (read ++ later)) × ((course w).text true (records_of (read ++ later)) ≡ written))
        × Appends old new written
    pub stays : result ≡ ended.Done
        → IfSome left (λ later. (w : W) → takes p false given w → takes q false [] (fold step w (records_of (read ++ later))))

  pub record LastFrom {T : Type 0} (p : S) (rs : List Record) (q : S) (lines : List ℕ) (result : Result T (Stop R)) : Type 0 where
    pub given : List G
    pub gained : gains p q given
    pub last : (w : W) → takes p false given w → (course w).holds rs → Last (course w) rs lines result
    pub fails : result ≡ Err stop.Failed → (w : W) → takes p true given w → (course w).holds rs → FailedIn (course w) rs × ((course w).text true rs ≡ lines)
    pub stays : OnOk result ((w : W) → takes p false given w → takes q false [] (fold step w rs))

  pub record FinishesFrom (p : S) (rs : List Record) (q : S) (old new : Option (List ℕ)) (result : Ended R) : Type 0 where
    pub given : List G
    pub gained : gains p q given
    pub written : List ℕ
    pub wrote : Appends old new written
    pub ends : (w : W) → takes p false given w → (course w).holds rs → Finishes (course w) rs written result
    pub fails : result ≡ ended.Failed → (w : W) → takes p true given w → (course w).holds rs → FailedIn (course w) rs × ((course w).text true rs ≡ written)
    pub stays : result ≡ ended.Done → (w : W) → takes p false given w → takes q false [] (fold step w rs)
    -- nothing is read
    pub reads : (result ≢ ended.ReadFault) × (result ≢ ended.Limit)

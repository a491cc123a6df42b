-- What a player writes, said for whatever records follow.
use Rattle.std.specs.Prelude.{ℕ, ◌≡◌, Bool, true, false, List, [], ◌++◌, fold, Option, Some, Result, Ok, Err}
use Rattle.record_cutting.specs.Lines.{Record}
use Rattle.record_stream.specs.declared.player.Stop.{Stop}
use Rattle.record_stream.specs.declared.player.Stop.TheVariants as stop

-- The course of a player from some state on: of records of which it holds, the text that it writes for them, with its
-- closing lines or without them, why one of them stops it, where one does, whether what it asks for itself fails in
-- them, and whether they ask for exactly what it is answered. Of other records it says nothing.
pub record Course (R : Type 0) : Type 1 where
  pub holds : List Record → Type 0
  pub text : Bool → List Record → List ℕ
  pub reason : List Record → Option R
  pub failed : List Record → Bool
  pub takes_all : List Record → Bool

-- lines grow by a text
abbrev pub Grows : (old new text : List ℕ) → Type 0
Grows old new text = new ≡ old ++ text

-- they grow by a text, or after an error by some first bytes of it
abbrev pub Adds : {T E : Type 0} → List ℕ → (old new : List ℕ) → Result T E → Type 0
Adds text old new (Ok done) = Grows old new text
Adds text old new (Err e) = (written rest : List ℕ) × (text ≡ written ++ rest) × Grows old new written

-- these records are played and write this text; what follows takes that course
pub record Goes {R : Type 0} (a : Course R) (rs : List Record) (b : Course R) (written : List ℕ) : Type 0 where
  pub holds : (more : List Record) → a.holds (rs ++ more) → b.holds more
  pub text : (closed : Bool) (more : List Record) → a.holds (rs ++ more) → a.text closed (rs ++ more) ≡ written ++ b.text closed more
  pub reason : (more : List Record) → a.holds (rs ++ more) → a.reason (rs ++ more) ≡ b.reason more
  pub failed : (more : List Record) → a.holds (rs ++ more) → a.failed (rs ++ more) ≡ b.failed more
  pub takes_all : (more : List Record) → a.holds (rs ++ more) → a.takes_all (rs ++ more) ≡ b.takes_all more

-- one of these records stops the player, and its text ends there, whatever follows
pub record Stops {R : Type 0} (a : Course R) (rs : List Record) (why : R) (written : List ℕ) : Type 0 where
  pub text : (closed : Bool) (more : List Record) → a.holds (rs ++ more) → a.text closed (rs ++ more) ≡ written
  pub reason : (more : List Record) → a.holds (rs ++ more) → a.reason (rs ++ more) ≡ Some why
  pub takes_all : (more : List Record) → a.holds (rs ++ more) → a.takes_all (rs ++ more) ≡ true

-- the text begins with these bytes, whatever follows
pub record Begins {R : Type 0} (a : Course R) (rs : List Record) (written : List ℕ) : Type 0 where
  pub text : (closed : Bool) (more : List Record) → a.holds (rs ++ more) → (rest : List ℕ) × (a.text closed (rs ++ more) ≡ written ++ rest)

-- what the player asks for itself fails in one of these records, and its text ends there, whatever follows
pub record Breaks {R : Type 0} (a : Course R) (rs : List Record) (written : List ℕ) : Type 0 where
  pub text : (closed : Bool) (more : List Record) → a.holds (rs ++ more) → a.text closed (rs ++ more) ≡ written
  pub failed : (more : List Record) → a.holds (rs ++ more) → a.failed (rs ++ more) ≡ true

-- Which ways a player may take from here on, by what it asks for itself: these answers come, and no others are asked for;
-- or these come, and what is asked next fails. Each way has its course.
abbrev pub Outlook : Type 0 → Type 0 → Type 1
Outlook W G = Bool → List G → W → Type 0

-- what a player got for itself between two states, as a history does
pub record IsHistory {S G : Type 0} (gains : S → S → List G → Type 0) : Type 0 where
  pub none : (p : S) → gains p p []
  pub then : (p q r : S) (gs hs : List G) → gains p q gs → gains q r hs → gains p r (gs ++ hs)

-- of a player, what it got between two states, which ways it may take, the course of each, and the way that goes on after a record
module _ {S R W G : Type 0} (gains : S → S → List G → Type 0) (takes : S → Outlook W G) (course : W → Course R) (step : W → Record → W) where
  -- the way that goes on after records
  abbrev pub after : W → List Record → W
  after w rs = fold step w rs

  -- these records are played and write this text, on each way that the answers to come allow
  pub record Advances (p : S) (rs : List Record) (q : S) (written : List ℕ) : Type 0 where
    pub given : List G
    pub gained : gains p q given
    pub goes : (fails : Bool) (later : List G) (w : W) → takes p fails (given ++ later) w → Goes (course w) rs (course (after w rs)) written × takes q fails later (after w rs)

  -- one of these records stops the player
  pub record Halts (p : S) (rs : List Record) (q : S) (why : R) (written : List ℕ) : Type 0 where
    pub given : List G
    pub gained : gains p q given
    pub stops : (w : W) → takes p false given w → Stops (course w) rs why written

  -- the text begins so
  pub record Cuts (p : S) (rs : List Record) (q : S) (written : List ℕ) : Type 0 where
    pub given : List G
    pub gained : gains p q given
    pub begins : (w : W) → takes p false given w → Begins (course w) rs written

  -- What the player asked for itself failed. On a way where that fails which is asked after the answers given, it fails in
  -- these records, and the text is exactly the one up to there.
  pub record Fails (p : S) (rs : List Record) (q : S) (written : List ℕ) : Type 0 where
    pub given : List G
    pub gained : gains p q given
    pub breaks : (w : W) → takes p true given w → Breaks (course w) rs written
    pub begins : (w : W) → takes p false given w → Begins (course w) rs written

  -- what became of records, and by what text the lines grew
  abbrev pub PlaysTo : {T : Type 0} → S → List Record → S → List ℕ → List ℕ → Result T (Stop R) → Type 0
  PlaysTo p rs q old new (Ok done) = (written : List ℕ) × Advances p rs q written × Grows old new written
  PlaysTo p rs q old new (Err (stop.Stopped why)) = (written : List ℕ) × Halts p rs q why written × Grows old new written
  PlaysTo p rs q old new (Err stop.Memory) = (written : List ℕ) × Cuts p rs q written × Grows old new written
  PlaysTo p rs q old new (Err stop.Failed) = (written : List ℕ) × Fails p rs q written × Grows old new written

  -- the closing lines: one text, on each way
  pub record Closes (p : S) (text : List ℕ) : Type 0 where
    pub text_is : (fails : Bool) (w : W) → takes p fails [] w → (course w).holds [] → (course w).text true [] ≡ text

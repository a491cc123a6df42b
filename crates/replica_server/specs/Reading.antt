-- What reading a frame makes of a source.
use Rattle.std.specs.Prelude.{◌≡◌, ℕ, ◌+◌, ◌<◌, ◌⊎◌, nat_lt, ◌||◌, Bool, true, false, List, [], ◌++◌, length, Option, Some, None, Result, Ok, Err}
use Rattle.std.specs.Int.{w32, from_be_bytes}
use Rattle.std.specs.Io.KnownBytes.{Consumes, IsAtEnd}
use Rattle.values.specs.declared.limits.TheConstants.{MAX_CONTENT}
use Rattle.replica_server.specs.declared.frame.Unread.{Unread}
use Rattle.replica_server.specs.declared.frame.Unread.TheVariants.{Memory, ReadFault, Cut, Length}

-- whether no content has this length
abbrev pub is_no_length : ℕ → Bool
is_no_length n = nat_lt n 1 || nat_lt MAX_CONTENT n

-- a whole frame whose tag has this size: the length of its content, and then the content and the tag
pub record IsFrame (size n : ℕ) (head rest : List ℕ) : Type 0 where
  pub four : length head ≡ 4
  pub spelled : from_be_bytes w32 head ≡ n
  pub range : is_no_length n ≡ false
  pub long : length rest ≡ n + size

-- a length, and less than what it says
pub record IsBegun (size : ℕ) (bytes : List ℕ) : Type 0 where
  pub head : List ℕ
  pub rest : List ℕ
  pub parts : bytes ≡ head ++ rest
  pub four : length head ≡ 4
  pub range : is_no_length (from_be_bytes w32 head) ≡ false
  pub few : length rest < from_be_bytes w32 head + size

-- first bytes of a frame, which is not whole
abbrev pub IsPart : (size : ℕ) → List ℕ → Type 0
IsPart size bytes = (length bytes < 4) ⊎ IsBegun size bytes

module _ (size : ℕ) (old new : Option (List ℕ)) where
  -- what is left of a source after a frame was read, and what of it was read else
  abbrev pub ReadsFrame : (frame : List ℕ) → Result (Option ℕ) Unread → Type 0
  ReadsFrame frame (Ok None) = Consumes old new [] × IsAtEnd new
  ReadsFrame frame (Ok (Some n)) = (head : List ℕ) × IsFrame size n head frame × Consumes old new (head ++ frame)
  ReadsFrame frame (Err Memory) = (read : List ℕ) × Consumes old new read
  ReadsFrame frame (Err ReadFault) = (read : List ℕ) × IsPart size read × Consumes old new read
  ReadsFrame frame (Err Cut) = (read : List ℕ) × IsPart size read × (0 < length read) × Consumes old new read × IsAtEnd new
  ReadsFrame frame (Err (Length n)) =
      (head : List ℕ) × (length head ≡ 4) × (from_be_bytes w32 head ≡ n) × (is_no_length n ≡ true) × Consumes old new head

-- and after so many bytes of one were read
module _ (size : ℕ) (old new : Option (List ℕ)) where
  abbrev pub ReadsRest : (rest : List ℕ) → Result (Unit {0}) Unread → Type 0
  ReadsRest rest (Ok done) = (length rest ≡ size) × Consumes old new rest
  ReadsRest rest (Err Memory) = Consumes old new []
  ReadsRest rest (Err ReadFault) = (read : List ℕ) × (length read < size) × Consumes old new read
  ReadsRest rest (Err Cut) = (read : List ℕ) × (length read < size) × Consumes old new read × IsAtEnd new
  ReadsRest rest (Err (Length n)) = ⊥

-- Why the group refuses an event.
use Rattle.std.specs.Prelude.{ℕ}
use Rattle.values.specs.declared.message.Part.{Part}

-- the refusals of the group, decided by its own state
pub data GroupRefusal : Type 0 where
  NoMessage : (message : ℕ) → GroupRefusal
  Lost : (message : ℕ) → GroupRefusal
  NotRunning : (replica : ℕ) → GroupRefusal
  AlreadyStarted : (replica : ℕ) → GroupRefusal
  NoSuchState : (state : ℕ) → GroupRefusal
  ClientBusy : GroupRefusal
  WrongSize : (part : Part) (length : ℕ) → GroupRefusal
  NumbersOut : (last : ℕ) → GroupRefusal
  NothingInFlight : GroupRefusal
  NoAnswer : (answer : ℕ) → GroupRefusal
  NotYours : (answer : ℕ) → GroupRefusal

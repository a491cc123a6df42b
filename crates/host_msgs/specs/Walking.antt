-- What the readers of a batch answer.
use Rattle.std.specs.Prelude.{◌≡◌, ℕ, Bool, true, false, List, Option, Some, None, Result, Ok, Err, IsOk, ◌==◌, if◌then◌else◌}
use Rattle.std.specs.Int.{w32}
use Rattle.fixed_fields.specs.Fields.{number_at}
use Rattle.fixed_fields.specs.Formats.{◌>>=◌}
use Rattle.values.specs.declared.memory.Memory.{Memory}
use Rattle.values.specs.declared.batch.Batch.{Batch}
use Rattle.host_msgs.specs.declared.gathered.Gathered.{Gathered}
use Rattle.host_msgs.specs.declared.read.Reading.{Reading}
use Rattle.host_msgs.specs.declared.fault.BatchFault.{BatchFault}
use Rattle.host_msgs.specs.declared.fault.BatchFault.TheVariants as faults

-- both had the same last item, and the same sender
pub record AreAlike (g h : Gathered) : Type 0 where
  pub last : g.last ≡ h.last
  pub sender : g.sender ≡ h.sender

-- What was read stands for what is gathered. Where memory was wanted the batch lacks items, but none of its marks.
pub record Stands (reading : Reading) (g : Gathered) : Type 0 where
  pub marks : AreAlike reading.gathered g
  pub whole : reading.lost ≡ false → reading.gathered ≡ g

-- the sender in an item's content
abbrev pub sender_in : (kind : ℕ) → List ℕ → Option ℕ
sender_in kind content = if kind == 7 then (number_at w32 content >>= λ p. Some p.0) else None

-- an item is passed; false where it may not stand here
abbrev pub Passes : Bool → Gathered → Option Gathered → Type 0
Passes true new there = there ≡ Some new
Passes false new there = there ≡ None

-- an item is taken in as it is placed, and after want of memory its marks are
abbrev pub IsAlike : Gathered → Option Gathered → Type 0
IsAlike new (Some g) = AreAlike new g
IsAlike new None = ⊥

abbrev pub Places : Result Bool Memory → Gathered → Option Gathered → Type 0
Places (Ok holds) new there = Passes holds new there
Places (Err memory) new there = IsAlike new there

-- what was read with one item more stands for what is gathered with it
abbrev pub Follows : Bool → Reading → Option Gathered → Type 0
Follows true new (Some g) = Stands new g
Follows true new None = ⊥
Follows false new there = there ≡ None

-- so it does with the item at the front, and the bytes behind that are handed out
abbrev pub Nexts : {S : Type 0} → (S → List ℕ) → Option S → Reading → Option (Gathered × List ℕ) → Type 0
Nexts view (Some behind) new there = (g : Gathered) × (there ≡ Some (g, view behind)) × Stands new g
Nexts view None new there = there ≡ None

-- What is read is what was gathered, or the offset of the first item that is not in the grammar. Want of memory hides a
-- batch only, and no such item.
abbrev pub ReadsBatch : Result (ℕ × Batch × List (List ℕ)) BatchFault → Result Gathered ℕ → Type 0
ReadsBatch (Ok read) (Ok g) = (g.sender ≡ read.0) × (g.batch ≡ read.1) × (g.frames ≡ read.2)
ReadsBatch (Ok read) (Err at) = ⊥
ReadsBatch (Err faults.Memory) there = IsOk there
ReadsBatch (Err (faults.At offset)) there = there ≡ Err offset

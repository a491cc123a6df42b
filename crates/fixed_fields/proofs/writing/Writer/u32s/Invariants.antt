use Rattle.std.proofs.Common.{◌≡◌, ◌++◌, take}
use Rattle.std.specs.Int.{w32}
use Rattle.std.specs.List.{flat_map}
use Rattle.fixed_fields.specs.Fields.{number_bytes}
use Rattle.fixed_fields.proofs.writing.Writer.u32s.Given as goal

abbrev pub invariant-loop-number : goal.invariant-loop-number
invariant-loop-number l = (l.self.front ≡ l.initial.self.front) × (l.self.tail ≡ l.initial.self.tail ++ flat_map (number_bytes w32) (take l.number-index l.numbers))

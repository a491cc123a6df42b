-- What readers answer that may want memory.
use Rattle.std.specs.Prelude.{◌≡◌, Option, Result, Ok, Err, IsSome}
use Rattle.values.specs.declared.memory.Memory.{Memory}

-- What was read is what stands there. Want of memory hides a value only.
abbrev pub Finds : {X : Type 0} → Result (Option X) Memory → Option X → Type 0
Finds (Ok found) there = there ≡ found
Finds (Err memory) there = IsSome there

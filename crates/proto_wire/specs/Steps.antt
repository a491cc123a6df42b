-- Reading in steps, of which the first fault ends it.
use Rattle.std.specs.Prelude.{Result, Ok, Err}
use Rattle.proto_wire.specs.declared.field.WireFault.{WireFault}

infixl 10 ◌>>=◌
abbrev pub ◌>>=◌ : {A B : Type 0} → Result A WireFault → (A → Result B WireFault) → Result B WireFault
(Ok x) >>= f = f x
(Err e) >>= f = Err e

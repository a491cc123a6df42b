-- What a field of children keeps.
use Rattle.std.specs.Prelude.{ℕ, ◌≡◌, Result, Ok, Err}
use Rattle.byte_streams.specs.Causes.{next}
use Rattle.enclave_host.specs.declared.field.FieldFault.{FieldFault}
use Rattle.enclave_host.specs.declared.field.FieldFault.TheVariants.{Memory, Failed}
use Rattle.replica_server.specs.declared.loop_field.LoopField.{LoopField}

-- how many calls failed
abbrev pub field_faults : {R L S P I O E : Type 0} → LoopField R L S P I O E → ℕ
field_faults f = f.faults

-- a failure counts as one fault, and nothing else does
abbrev pub CountsFailures : ℕ → ℕ → Result (Unit {0}) FieldFault → Type 0
CountsFailures before now (Ok done) = now ≡ before
CountsFailures before now (Err Memory) = now ≡ before
CountsFailures before now (Err Failed) = now ≡ next before

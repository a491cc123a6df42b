-- One text is written at the end of a command.
use Rattle.std.specs.Prelude.{ℕ, ◌≡◌, ◌⊎◌, List, Option}
use Rattle.std.specs.Io.KnownBytes.{Appends}
use Rattle.byte_streams.specs.Streams.{AppendsPrefix}
use Rattle.svr2_run.specs.declared.exit.Status.{Status}
use Rattle.svr2_run.specs.declared.exit.Status.TheVariants as status

-- it was written and this status came, or first bytes of it after a write fault
abbrev pub WroteText : Option (List ℕ) → Option (List ℕ) → List ℕ → Status → Status → Type 0
WroteText old new text s result =
    ((result ≡ s) × Appends old new text) ⊎ ((result ≡ status.WriteFault) × AppendsPrefix old new text)

-- The sizes of valid requests.
use Rattle.std.specs.Prelude.{ℕ, ◌≤◌, List, length, ⊤}
use Rattle.values.specs.declared.message.Request.{Request}
use Rattle.values.specs.declared.message.Request.TheVariants.{Backup, Restore, Delete, Expose}

-- a secret has 16 to 48 bytes
abbrev pub IsSecret : List ℕ → Type 0
IsSecret secret = (16 ≤ length secret) × (length secret ≤ 48)

-- from 1 to 255 tries
abbrev pub AreTries : ℕ → Type 0
AreTries tries = (1 ≤ tries) × (tries ≤ 255)

-- each size of the request is in its range; the type of a pin says its 32 bytes
abbrev pub IsValid : Request → Type 0
IsValid (Backup secret pin tries) = IsSecret secret × AreTries tries
IsValid (Restore pin) = ⊤
IsValid Delete = ⊤
IsValid (Expose secret) = IsSecret secret

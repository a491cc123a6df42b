-- The sizes of a request, and of a response.
use Rattle.std.specs.Prelude.{◌≡◌, ℕ, ◌<◌, ◌^◌, ⊤, ◌&&◌, nat_le, List, length, Option, None, Some, if◌then◌else◌}
use Rattle.std.specs.Option.{option_or}
use Rattle.values.specs.declared.message.Request.{Request}
use Rattle.values.specs.declared.message.Request.TheVariants.{Backup, Restore, Delete, Expose}
use Rattle.values.specs.declared.message.Response.{Response}
use Rattle.values.specs.declared.message.Response.TheVariants as responses
use Rattle.values.specs.declared.message.Part.{Part}
use Rattle.values.specs.declared.message.Part.TheVariants.{Secret, Pin, Tries}
use Rattle.values.specs.declared.entry.Hash.{Hash}

-- the part and its size, where that is out of range
abbrev pub outside : Part → (least most size : ℕ) → Option (Part × ℕ)
outside part least most size = if nat_le least size && nat_le size most then None else Some (part, size)

abbrev pub secret_fault : List ℕ → Option (Part × ℕ)
secret_fault secret = outside Secret 16 48 (length secret)

abbrev pub pin_fault : Hash → Option (Part × ℕ)
pin_fault pin = outside Pin 32 32 (length pin.0)

abbrev pub tries_fault : ℕ → Option (Part × ℕ)
tries_fault tries = outside Tries 1 255 tries

-- the first size out of range
abbrev pub size_fault : Request → Option (Part × ℕ)
size_fault (Backup secret pin tries) = option_or (secret_fault secret) (option_or (pin_fault pin) (tries_fault tries))
size_fault (Restore pin) = pin_fault pin
size_fault Delete = None
size_fault (Expose secret) = secret_fault secret

-- What the types say of each value that a program holds, for laws that range over all lists and numbers: a
-- pin of 32 bytes, numbers of 32 bits, and fewer than 2^63 bytes.
abbrev pub FitsRequest : Request → Type 0
FitsRequest (Backup secret pin tries) = length pin.0 ≡ 32
FitsRequest (Restore pin) = length pin.0 ≡ 32
FitsRequest Delete = ⊤
FitsRequest (Expose secret) = ⊤

abbrev pub FitsResponse : Response → Type 0
FitsResponse (responses.Backup status) = status < 2 ^ 32
FitsResponse (responses.Restore status secret tries) = (status < 2 ^ 32) × (length secret < 2 ^ 63) × (tries < 2 ^ 32)
FitsResponse responses.Delete = ⊤
FitsResponse (responses.Expose status) = status < 2 ^ 32

-- Bytes that are the canonical bytes of a valid request, and no other spelling of it.
use Rattle.std.specs.Prelude.{◌≡◌, ℕ, nat_eq, Bool, false, List, Result, Ok, Err}
use Rattle.std.specs.Cmp.Lexicographic.{pointwise}
use Rattle.values.specs.Sizes.{IsValid}
use Rattle.values.specs.declared.message.Request.{Request}
use Rattle.client_msgs.specs.declared.fault.RequestFault.{RequestFault}
use Rattle.client_msgs.specs.Canonical.{canonical_request}
use Rattle.client_msgs.specs.Reading.{request_of}
use Rattle.client_msgs.specs.Sizes.{FitsRequest}

abbrev pub is_written_as : List ℕ → Result Request RequestFault → Bool
is_written_as bytes (Ok request) = pointwise nat_eq (canonical_request request) bytes
is_written_as bytes (Err fault) = false

-- the bytes stand for a request, and are what it is written as
abbrev pub is_canonical : List ℕ → Bool
is_canonical bytes = is_written_as bytes (request_of bytes)

-- the same as a fact: some valid request, with a pin of 32 bytes, is written so
abbrev pub IsCanonical : List ℕ → Type 0
IsCanonical bytes = (request : Request) × (IsValid request × (FitsRequest request × (bytes ≡ canonical_request request)))

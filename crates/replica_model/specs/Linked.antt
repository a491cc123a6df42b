-- The chain's own link: SHA-256 of stated bytes.
use Rattle.std.specs.Prelude.{ℕ, List, [], ◌∷◌, ◌++◌, length}
use Rattle.std.specs.List.{flat_map}
use Rattle.byteorder.specs.Endian.{big_bytes}
use Rattle.sha2.specs.Sha256.{sha256}
use Rattle.values.specs.declared.entry.Hash.{Hash}
use Rattle.values.specs.declared.entry.Body.{Body}
use Rattle.values.specs.declared.entry.Body.TheVariants.{Noop, Ask, Members}
use Rattle.values.specs.declared.entry.LogEntry.{LogEntry}
use Rattle.hash_chain.specs.Links.{LinkInput, bytes_of}
use Rattle.replica_model.specs.Path.{Link}

-- the number of a kind of entry
abbrev pub kind_of : Body → ℕ
kind_of Noop = 0
kind_of (Ask client number request) = 1
kind_of (Members margin voters) = 2

-- a Noop has none; an Ask the client's 16 bytes, the number in 8 and the request; a Members entry its margin and the
-- number of voters in one byte each, and each voter in 4
abbrev pub body_bytes : Body → List ℕ
body_bytes Noop = []
body_bytes (Ask client number request) = client.0 ++ (big_bytes 8 number ++ request)
body_bytes (Members margin voters) = margin ∷ length voters ∷ flat_map (big_bytes 4) voters

-- what is hashed for an entry at an index, after the hash of those before it
abbrev pub link_input : Hash → ℕ → LogEntry → LinkInput
link_input prev index e =
    record { prev = prev.0; index = index; term = e.term; kind = kind_of e.body; body = body_bytes e.body }

-- the program's link
abbrev pub sha_link : Link
sha_link prev index e = record { 0 = sha256 (bytes_of (link_input prev index e)) }

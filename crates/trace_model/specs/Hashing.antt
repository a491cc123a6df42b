-- What laws ask of the hashes of the chain: their size, and of the program's link that the bytes which a run hashes do not
-- collide.
use Rattle.std.specs.Prelude.{◌≡◌, ℕ, ◌+◌, List, [], ◌∷◌, ◌++◌, length, IsTrue}
use Rattle.sha2.specs.Sha256.{sha256}
use Rattle.values.specs.declared.entry.Hash.{Hash}
use Rattle.values.specs.declared.entry.LogEntry.{LogEntry}
use Rattle.hash_chain.specs.Links.{bytes_of}
use Rattle.replica_model.specs.Path.{Path, Link, chain}
use Rattle.replica_model.specs.Linked.{link_input, sha_link}
use Rattle.group_model.specs.Run.{World}
use Rattle.group_model.specs.Log.{Held}
use Rattle.trace_model.specs.TraceLines.{is_hash}

-- the hashes of a link function have 32 bytes
abbrev pub GivesHashes : Link → Type 0
GivesHashes link = (h : Hash) (index : ℕ) (e : LogEntry) → IsTrue (is_hash (link h index e))

-- these are the bytes that the program's link hashes for the last entry of a path that was held in the run
abbrev pub IsHashedIn : World → List ℕ → Type 0
IsHashedIn w bytes =
    (p : Path) × (e : LogEntry) × Held w (p ++ e ∷ []) × (bytes ≡ bytes_of (link_input (chain sha_link p) (length p + 1) e))

-- no two different byte strings that are hashed in the run have one SHA-256
abbrev pub NoByteCollision : World → Type 0
NoByteCollision w = (a b : List ℕ) → IsHashedIn w a → IsHashedIn w b → sha256 a ≡ sha256 b → a ≡ b

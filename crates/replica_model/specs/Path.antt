-- A replica's log as the whole list of its entries, the chain of hashes over it, and its points.
use Rattle.std.specs.Prelude.{ℕ, zero, suc, ◌+◌, Bool, ◌&&◌, ◌==◌, bytes_eq, Option, None, List, [], ◌∷◌, length, take, replicate, slice_get, option_map, unwrap_or}
use Rattle.values.specs.declared.entry.Hash.{Hash}
use Rattle.values.specs.declared.entry.Point.{Point}
use Rattle.values.specs.declared.entry.LogEntry.{LogEntry}

-- the entries of a log, the first at index 1
abbrev pub Path : Type 0
Path = List LogEntry

-- the hash after an entry: of the hash before it, its index and the entry
abbrev pub Link : Type 0
Link = Hash → ℕ → LogEntry → Hash

-- the hash of the empty path: 32 zero bytes
abbrev pub first_hash : Hash
first_hash = record { 0 = replicate 32 0 }

-- the hash after these entries, which follow k others that have the hash h
abbrev pub chain_from : Link → Hash → ℕ → Path → Hash
chain_from link h k [] = h
chain_from link h k (e ∷ p) = chain_from link (link h (k + 1) e) (k + 1) p

-- the hash of a path
abbrev pub chain : Link → Path → Hash
chain link p = chain_from link first_hash 0 p

-- an index, and the hash of so many entries
abbrev pub point : Link → Path → ℕ → Point
point link p i = record { index = i; hash = chain link (take i p) }

-- the point of the whole path
abbrev pub end_point : Link → Path → Point
end_point link p = record { index = length p; hash = chain link p }

-- the hashes are the same
abbrev pub same_hash : Hash → Hash → Bool
same_hash a b = bytes_eq a.0 b.0

-- the points are the same
abbrev pub same_point : Point → Point → Bool
same_point a b = a.index == b.index && same_hash a.hash b.hash

-- the entry at an index, from 1
abbrev pub entry_at : Path → ℕ → Option LogEntry
entry_at p zero = None
entry_at p (suc k) = slice_get p k

-- the term of the entry at an index, 0 where there is none
abbrev pub term_at : Path → ℕ → ℕ
term_at p i = unwrap_or (option_map (λ e. e.term) (entry_at p i)) 0

-- the term of the last entry, 0 of an empty path
abbrev pub last_term : Path → ℕ
last_term p = term_at p (length p)

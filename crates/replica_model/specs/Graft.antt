-- An append heard: compared with the log, refused, or grafted onto it.
use Rattle.std.specs.Prelude.{ℕ, ◌+◌, ◌-◌, Bool, false, cond, ◌&&◌, ◌||◌, ◌==◌, nat_lt, nat_le, min, max, Option, Some, None, List, [], ◌∷◌, ◌++◌, length, take, drop, map, filter, filter_map}
use Rattle.values.specs.declared.entry.Hash.{Hash}
use Rattle.values.specs.declared.entry.Point.{Point}
use Rattle.values.specs.declared.entry.Body.{Body}
use Rattle.values.specs.declared.entry.Body.TheVariants.{Noop, Ask, Members}
use Rattle.values.specs.declared.entry.LogEntry.{LogEntry}
use Rattle.values.specs.declared.batch.Batch.{Batch}
use Rattle.values.specs.declared.ids.ClientId.{ClientId}
use Rattle.values.specs.declared.message.Answer.{Answer}
use Rattle.values.specs.declared.message.Answer.TheVariants.{Undecided}
use Rattle.values.specs.declared.peer.PeerMsg.TheVariants.{Accepted, Rejected}
use Rattle.replica_model.specs.Path.{Path, Link, chain, point, same_hash}
use Rattle.replica_model.specs.Message.{plain}
use Rattle.replica_model.specs.Replica.{Ticket, Follower, Replica}
use Rattle.replica_model.specs.Call.{Call, empty_batch, still, says, send_to}
use Rattle.replica_model.specs.Raise.{numbered_from, commit_to}

-- the hash that a replica keeps at an index: none below its base and none above its last index
abbrev pub hash_at : Link → Replica → ℕ → Option Hash
hash_at link s i = cond (nat_le s.base i && nat_le i (length s.path)) (Some (chain link (take i s.path))) None

-- there is a hash, and it is this one
abbrev pub is_hash : Option Hash → Hash → Bool
is_hash None h = false
is_hash (Some kept) h = same_hash kept h

-- the replica keeps the point's hash at its index
abbrev pub matches : Link → Replica → Point → Bool
matches link s p = is_hash (hash_at link s p.index) p.hash

-- an append as it is heard
pub record Offer : Type 0 where
  pub from : ℕ
  pub prev : Point
  pub entries : Path
  pub promise : ℕ
  pub commit : ℕ

-- the last index offered
abbrev pub end_of : Offer → ℕ
end_of o = o.prev.index + length o.entries

-- the points that are offered: that of index k with hash h, and one after each entry, linked from it
abbrev pub points_from : Link → ℕ → Hash → Path → List Point
points_from link k h [] = record { index = k; hash = h } ∷ []
points_from link k h (e ∷ entries) = record { index = k; hash = h } ∷ points_from link (k + 1) (link h (k + 1) e) entries

-- the points of an offer
abbrev pub points_of : Link → Offer → List Point
points_of link o = points_from link o.prev.index o.prev.hash o.entries

-- a place where the replica's hash and the offered one differ: its index and the two hashes
abbrev pub Difference : Type 0
Difference = ℕ × Hash × Hash

-- the difference at this point, where the replica has a hash there and it is another one; else a later one
abbrev pub differing : Option Hash → Point → Option Difference → Option Difference
differing None p later = later
differing (Some kept) p later = cond (same_hash kept p.hash) later (Some (p.index, kept, p.hash))

-- the first difference, compared wherever both sides have a hash
abbrev pub first_difference : Link → Replica → List Point → Option Difference
first_difference link s [] = None
first_difference link s (p ∷ points) = differing (hash_at link s p.index) p (first_difference link s points)

-- conflict: the replica halts with the index, its own hash and the offered one
abbrev pub halts : Replica → Difference → Call
halts s d = record (still (record s { halted = Some d })) { batch = record empty_batch { halt = Some d } }

-- how many entries stay: those before the first difference, or all
abbrev pub kept_length : Path → Option Difference → ℕ
kept_length p None = length p
kept_length p (Some d) = d.0 - 1

-- the offered entries that follow the first k of the path
abbrev pub added : ℕ → Offer → Path
added k o = drop (k - o.prev.index) o.entries

-- a Members entry with its index
abbrev pub members_of : ℕ × LogEntry → Option (ℕ × ℕ × List ℕ)
members_of (i, e) = of_body e.body
  where
    of_body : Body → Option (ℕ × ℕ × List ℕ)
    of_body Noop = None
    of_body (Ask client number request) = None
    of_body (Members margin voters) = Some (i, margin, voters)

-- a ticket of a replaced entry is answered with the first index replaced, and the old and the new hash there
abbrev pub undecided_at : Difference → Ticket → ClientId × ℕ × Answer
undecided_at d ticket = (ticket.client, ticket.number, Undecided d.0 d.1 d.2)

-- the answers to the tickets of replaced entries
abbrev pub undecided : Option Difference → List Ticket → List (ClientId × ℕ × Answer)
undecided None tickets = []
undecided (Some d) tickets = map (undecided_at d) (filter (λ ticket. nat_le d.0 ticket.index) tickets)

-- the first k entries stay, the offered ones follow them, and promised is raised to what is offered of the promise
abbrev pub spliced : Replica → ℕ → Offer → Replica
spliced s k o =
    record s {
      path = take k s.path ++ added k o;
      promised = max s.promised (min o.promise (end_of o));
      tickets = filter (λ ticket. nat_le ticket.index k) s.tickets;
    }

-- the batch so far: the Members entries that are added, and the answers to tickets of replaced entries
abbrev pub replaced : Replica → Option Difference → ℕ → Offer → Batch
replaced s d k o =
    record empty_batch { members = filter_map members_of (numbered_from (k + 1) (added k o)); answers = undecided d s.tickets }

-- from the first difference on the path is replaced by the offered entries; without one new entries are added, and a
-- longer path stays. Then committed is raised to what is offered of the commit and promised
abbrev pub grafted : Replica → Option Difference → Offer → Call
grafted s d o =
    let k = kept_length s.path d in
    commit_to (record (still (spliced s k o)) { batch = replaced s d k o }) (min o.commit (min o.promise (end_of o)))

-- the answer: the point at the last index offered, and what is promised up to there
abbrev pub accepts : Link → Call → Offer → Call
accepts link c o =
    send_to c o.from (plain (Accepted c.state.term (point link c.state.path (end_of o)) (min c.state.promised (end_of o))))

-- the first difference is at this index
abbrev pub differs_at : Option Difference → ℕ → Bool
differs_at None i = false
differs_at (Some d) i = d.0 == i

-- what is refused, with its hint: the previous index is above the last one; or the previous point differs, or all that
-- is offered lies below the base
abbrev pub refusal_hint : Replica → Option Difference → Offer → Option ℕ
refusal_hint s d o =
    cond (nat_lt (length s.path) o.prev.index) (Some (length s.path))
    (cond (differs_at d o.prev.index || nat_lt (end_of o) s.base) (Some s.promised) None)

-- what is refused is answered with its hint; else the offer is grafted
abbrev pub answered : Link → Replica → Option Difference → Offer → Option ℕ → Call
answered link s d o (Some hint) = says s o.from (Rejected s.term o.prev.index hint)
answered link s d o None = accepts link (grafted s d o) o

-- without a conflict the replica follows the sender
abbrev pub following : Replica → ℕ → Replica
following s leader = record s { role = Follower; known = leader }

-- graft
abbrev pub graft : Link → Replica → Option Difference → Offer → Call
graft link s d o = answered link (following s o.from) d o (refusal_hint s d o)

-- a conflict is a first difference at or below the promised index
abbrev pub conflict_or_graft : Link → Replica → Option Difference → Offer → Call
conflict_or_graft link s None o = graft link s None o
conflict_or_graft link s (Some d) o = cond (nat_le d.0 s.promised) (halts s d) (graft link s (Some d) o)

-- append heard, of the replica's own term, where it holds a log
abbrev pub append_heard : Link → Replica → Offer → Call
append_heard link s o = conflict_or_graft link s (first_difference link s (points_of link o)) o

-- stale append, or a stale part where a log is held: its index is refused, with the replica's term and promised index
abbrev pub stale_append : Replica → ℕ → ℕ → Call
stale_append s from asked = says s from (Rejected s.term asked s.promised)

-- Elections: a replica stands, is asked for its vote, and hears votes.
use Rattle.std.specs.Prelude.{ℕ, ◌+◌, Bool, true, false, cond, not, ◌&&◌, ◌||◌, ◌==◌, nat_lt, nat_le, Some, List, [], ◌∷◌, length, map, filter}
use Rattle.values.specs.declared.entry.Body.TheVariants.{Noop}
use Rattle.values.specs.declared.peer.PeerMsg.TheVariants.{AskVote, Vote}
use Rattle.group_quorum.specs.Voters.{is_in}
use Rattle.values.specs.declared.limits.TheConstants.{TOP}
use Rattle.replica_model.specs.Path.{Path, last_term}
use Rattle.replica_model.specs.Enough.{met_by_both}
use Rattle.replica_model.specs.Message.{plain}
use Rattle.replica_model.specs.Replica.{Role, Candidate, Leading, Replica}
use Rattle.replica_model.specs.Peers.{others, is_voter, voters_counted, leads_with}
use Rattle.replica_model.specs.Call.{Call, still, says, empty_batch}
use Rattle.replica_model.specs.Raise.{pushed, raise_and_send}

-- the voters are a quorum of the newest configuration and, while that one's index is above the committed one, of the
-- one before
abbrev pub is_elected : Replica → List ℕ → Bool
is_elected s votes = met_by_both s.first s.path s.committed (is_in votes) (is_in votes)

-- a new leader sends every peer what follows its last entry, and knows nothing of it
abbrev pub leading_anew : Replica → Leading
leading_anew s =
    record {
      progress = map (λ v. (v, record { next = length s.path + 1; mark = 0; promised = 0 })) (others s.me (voters_counted s));
      learners = [];
      sendings = [];
    }

-- it knows itself for the leader
abbrev pub led : Replica → Leading → Replica
led s l = leads_with (record s { known = s.me }) l

-- win: it leads, pushes a Noop of its term, raises, and sends to every peer
abbrev pub win : Replica → Call
win s =
    let l = leading_anew s in
    raise_and_send (record (still (pushed (led s l) Noop)) { batch = record empty_batch { lead = Some s.term } }) l

-- the next term, a vote for itself, no known leader
abbrev pub stood : Replica → Replica
stood s = record s { term = s.term + 1; vote = s.me; known = 0; role = Candidate (s.me ∷ []) }

-- a candidate asks the other voters that count, in rising id
abbrev pub asks_votes : Replica → Call
asks_votes s =
    record (still s) { sent = map (λ v. (v, plain (AskVote s.term (length s.path) (last_term s.path)))) (others s.me (voters_counted s)) }

-- where its own vote wins it leads
abbrev pub stands : Replica → Call
stands s = cond (is_elected s (s.me ∷ [])) (win s) (asks_votes s)

-- stand for election: nothing happens where it is no voter of its newest configuration, or where its term or last
-- index is the greatest there is
abbrev pub stand : Replica → Call
stand s = cond (is_voter s && not (s.term == TOP || length s.path == TOP)) (stands (stood s)) (still s)

-- the asker's last term and last index are at least those of the path, the term compared first
abbrev pub as_new : Path → ℕ → ℕ → Bool
as_new p index term = nat_lt (last_term p) term || (term == last_term p && nat_le (length p) index)

-- vote asked, in the replica's own term: it grants where it has no vote in this term or voted for the asker, and the
-- asker's log is as new as its own
abbrev pub vote_asked : Replica → ℕ → ℕ → ℕ → Call
vote_asked s from last_index last_term =
    cond ((s.vote == 0 || s.vote == from) && as_new s.path last_index last_term)
    (says (record s { vote = from }) from (Vote s.term true))
    (says s from (Vote s.term false))

-- a candidate with these votes
abbrev pub counted : Replica → List ℕ → Call
counted s votes = cond (is_elected s votes) (win (record s { role = Candidate votes })) (still (record s { role = Candidate votes }))

-- the votes with that of one more: of the voters that count those that are among them or vote now. So the vote of any
-- other id adds nothing
abbrev pub with_vote : Replica → List ℕ → ℕ → List ℕ
with_vote s votes from = filter (λ v. v == from || is_in votes v) (voters_counted s)

-- vote heard, of the replica's own term: a candidate counts a granted one, every other does nothing
abbrev pub vote_heard : Replica → Role → ℕ → Bool → Call
vote_heard s (Candidate votes) from granted = cond granted (counted s (with_vote s votes from)) (still s)
vote_heard s _ from granted = still s

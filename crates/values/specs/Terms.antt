-- The term of a message.
use Rattle.std.specs.Prelude.{ℕ}
use Rattle.values.specs.declared.peer.PeerMsg.{PeerMsg}
use Rattle.values.specs.declared.peer.PeerMsg.TheVariants.{AskVote, Vote, Append, Accepted, Rejected, Part, PartTaken}

-- the sender's term, which each message carries
abbrev pub term_of : PeerMsg → ℕ
term_of (AskVote term last_index last_term) = term
term_of (Vote term granted) = term
term_of (Append term prev entries promise commit) = term
term_of (Accepted term end promised) = term
term_of (Rejected term asked hint) = term
term_of (Part term part) = term
term_of (PartTaken term point next) = term

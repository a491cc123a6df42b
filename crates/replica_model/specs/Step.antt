-- One call of a replica.
use Rattle.std.specs.Prelude.{ℕ, false, cond, nat_lt, Option, Some, None}
use Rattle.values.specs.declared.entry.Hash.{Hash}
use Rattle.values.specs.declared.batch.Refusal.TheVariants.{NotLeader}
use Rattle.values.specs.declared.peer.PeerMsg.{PeerMsg}
use Rattle.values.specs.declared.peer.PeerMsg.TheVariants.{AskVote, Vote, Append, Accepted, Rejected, Part, PartTaken}
use Rattle.replica_model.specs.Path.{Link}
use Rattle.replica_model.specs.Message.{Message}
use Rattle.replica_model.specs.Replica.{Role, Learner, Replica}
use Rattle.replica_model.specs.Call.{Input, Tick, Peer, Client, Join, Admit, Remove, Margin, Call, still, says, refuses}
use Rattle.values.specs.Terms.{term_of}
use Rattle.replica_model.specs.Term.{higher_term}
use Rattle.replica_model.specs.Votes.{vote_asked, vote_heard}
use Rattle.replica_model.specs.Graft.{append_heard, stale_append}
use Rattle.replica_model.specs.Heard.{accepted_heard, rejected_heard}
use Rattle.replica_model.specs.Tables.{learner_hears, part_heard, part_taken}
use Rattle.replica_model.specs.Clients.{client_request}
use Rattle.replica_model.specs.Changes.{at_leader, join, admit, remove, set_margin}
use Rattle.replica_model.specs.Ticks.{tick}
use Rattle.replica_model.specs.Send.{ended, with_sent}

-- a message of the replica's own term, where it holds a log
abbrev pub hears : Link → Replica → ℕ → PeerMsg → Call
hears link s from (AskVote term last_index last_term) = vote_asked s from last_index last_term
hears link s from (Vote term granted) = vote_heard s s.role from granted
hears link s from (Append term prev entries promise commit) =
    append_heard link s (record { from = from; prev = prev; entries = entries; promise = promise; commit = commit })
hears link s from (Accepted term end promised) = accepted_heard link s s.role from end promised
hears link s from (Rejected term asked hint) = rejected_heard s s.role from hint
hears link s from (Part term part) = part_heard link s from part
hears link s from (PartTaken term point next) = part_taken link s s.role from point next

-- a message of an older term, where it holds a log. What was taken of a table counts in any term
abbrev pub hears_older : Link → Replica → ℕ → PeerMsg → Call
hears_older link s from (AskVote term last_index last_term) = says s from (Vote s.term false)
hears_older link s from (Vote term granted) = still s
hears_older link s from (Append term prev entries promise commit) = stale_append s from prev.index
hears_older link s from (Accepted term end promised) = still s
hears_older link s from (Rejected term asked hint) = still s
hears_older link s from (Part term part) = stale_append s from part.point.index
hears_older link s from (PartTaken term point next) = part_taken link s s.role from point next

-- a message where a log is held: a higher term comes first, then the message's own rule
abbrev pub holder_hears : Link → Replica → ℕ → PeerMsg → Call
holder_hears link s from msg =
    cond (nat_lt (term_of msg) s.term) (hears_older link s from msg) (hears link (higher_term s (term_of msg)) from msg)

-- a message at a replica
abbrev pub peer_hears : Link → Replica → Role → ℕ → Message → Call
peer_hears link s (Learner taking) from m = learner_hears link s taking from m.names m.msg
peer_hears link s _ from m = holder_hears link s from m.msg

-- what a replica that has not halted does with an input
abbrev pub acts_on : Link → Replica → Input → Call
acts_on link s Tick = tick link s s.role
acts_on link s (Peer from m) = peer_hears link s s.role from m
acts_on link s (Client client number request) = client_request s client number request
acts_on link s (Join id linked) = at_leader s s.role (λ l. join link s l id linked)
acts_on link s (Admit id) = at_leader s s.role (λ l. admit s l id)
acts_on link s (Remove id) = at_leader s s.role (λ l. remove s l id)
acts_on link s (Margin margin) = at_leader s s.role (λ l. set_margin s l margin)

-- halted: it answers clients, refuses changes, and does nothing else
abbrev pub acts_halted : Replica → Input → Call
acts_halted s Tick = still s
acts_halted s (Peer from m) = still s
acts_halted s (Client client number request) = client_request s client number request
acts_halted s (Join id linked) = refuses s (NotLeader 0)
acts_halted s (Admit id) = refuses s (NotLeader 0)
acts_halted s (Remove id) = refuses s (NotLeader 0)
acts_halted s (Margin margin) = refuses s (NotLeader 0)

-- what a replica does with an input
abbrev pub acts : Link → Replica → Option (ℕ × Hash × Hash) → Input → Call
acts link s (Some halted) input = acts_halted s input
acts link s None input = acts_on link s input

-- the call with its end
abbrev pub with_end : Link → Call → Call
with_end link c = ended link c c.state.halted

-- one call
abbrev pub step : Link → Replica → Input → Call
step link s input = with_sent (with_end link (acts link s s.halted input))

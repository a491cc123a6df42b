-- The rules of a replica, each a case of a fact that is to stand after every step.
use Rattle.std.specs.Prelude.{◌≡◌, ℕ, ◌<◌, ◌≤◌, Bool, false, List}
use Rattle.values.specs.declared.batch.Refusal.TheVariants.{NotLeader}
use Rattle.values.specs.declared.entry.Point.{Point}
use Rattle.values.specs.declared.ids.ClientId.{ClientId}
use Rattle.values.specs.declared.peer.TablePart.{TablePart}
use Rattle.values.specs.declared.peer.PeerMsg.{PeerMsg}
use Rattle.values.specs.declared.peer.PeerMsg.TheVariants.{AskVote, Vote, Append, Accepted, Rejected, Part, PartTaken}
use Rattle.values.specs.Terms.{term_of}
use Rattle.replica_model.specs.Path.{Path, Link}
use Rattle.replica_model.specs.Message.{Message}
use Rattle.replica_model.specs.Replica.{Named, Taking, Role, Learner, Follower, Candidate, Leader, Leading, Replica}
use Rattle.replica_model.specs.Call.{Input, Tick, Peer, Client, Join, Admit, Remove, Margin, Call, still, says, refuses}
use Rattle.replica_model.specs.Term.{followed, learner_term}
use Rattle.replica_model.specs.Votes.{stand, vote_asked, vote_heard}
use Rattle.replica_model.specs.Graft.{Offer, append_heard, stale_append}
use Rattle.replica_model.specs.Heard.{accepted_heard, rejected_heard}
use Rattle.replica_model.specs.Tables.{take_part, part_heard, part_taken}
use Rattle.replica_model.specs.Clients.{client_request}
use Rattle.replica_model.specs.Changes.{join, admit, remove, set_margin}
use Rattle.replica_model.specs.Ticks.{leader_tick}
use Rattle.replica_model.specs.Send.{ended}

-- who holds a log
abbrev pub IsHolder : Role → Type 0
IsHolder (Learner taking) = ⊥
IsHolder Follower = Unit {0}
IsHolder (Candidate votes) = Unit {0}
IsHolder (Leader l) = Unit {0}

-- who holds a log and does not lead
abbrev pub IsBehind : Role → Type 0
IsBehind (Learner taking) = ⊥
IsBehind Follower = Unit {0}
IsBehind (Candidate votes) = Unit {0}
IsBehind (Leader l) = ⊥

-- what a replica is told is no client's request
abbrev pub IsNoRequest : Input → Type 0
IsNoRequest (Client client number request) = ⊥
IsNoRequest input = Unit {0}

-- the replica in a higher term
abbrev pub risen : Replica → ℕ → Replica
risen s t = record s { term = t; vote = 0; known = 0; role = followed s.role }

-- F stands of a state before its rule, T of what it is told and M of a message. Each rule then gives C, and the whole step D
module _ (link : Link) (F : Replica → Type 0) (T : Replica → Input → Type 0) (M : ℕ → Named → PeerMsg → Type 0) (C : Replica → Call → Type 0) (D : Replica → Input → Call → Type 0) where
  pub record Rules : Type 0 where
    -- nothing happens, and a change is refused where the replica does not lead
    pub idle : (s : Replica) → F s → C s (still s)
    pub not_leader : (s : Replica) (known : ℕ) → known ≤ s.known → F s → C s (refuses s (NotLeader known))
    -- a higher term comes first, and what it leads to is that of the state before
    pub rises : (s : Replica) (from : ℕ) (names : Named) (msg : PeerMsg) → F s → IsHolder s.role → M from names msg → s.term < term_of msg → F (risen s (term_of msg))
    pub back : (s : Replica) (t : ℕ) (c : Call) → C (risen s t) c → C s c
    -- a message that is told
    pub message : (s : Replica) (from : ℕ) (m : Message) → T s (Peer from m) → M from m.names m.msg
    -- elections
    pub stands : (s : Replica) → F s → IsBehind s.role → T s Tick → C s (stand s)
    pub asked_vote : (s : Replica) (from : ℕ) (names : Named) (term last_index last_term : ℕ) → F s → IsHolder s.role → term ≡ s.term → M from names (AskVote term last_index last_term) → C s (vote_asked s from last_index last_term)
    pub heard_vote : (s : Replica) (votes : List ℕ) (from : ℕ) (names : Named) (term : ℕ) (granted : Bool) → F s → s.role ≡ Candidate votes → term ≡ s.term → M from names (Vote term granted) → C s (vote_heard s (Candidate votes) from granted)
    -- an append
    pub heard_append :
        (s : Replica) (names : Named) (term : ℕ) (o : Offer) → F s → IsHolder s.role → term ≡ s.term → M o.from names (Append term o.prev o.entries o.promise o.commit) → C s (append_heard link s o)
    -- messages of an older term
    pub older_vote : (s : Replica) (from : ℕ) (names : Named) (term last_index last_term : ℕ) → F s → IsHolder s.role → M from names (AskVote term last_index last_term) → C s (says s from (Vote s.term false))
    pub older_append :
        (s : Replica) (from : ℕ) (names : Named) (term : ℕ) (prev : Point) (entries : Path) (promise commit : ℕ) → F s → IsHolder s.role → M from names (Append term prev entries promise commit) → C s (stale_append s from prev.index)
    pub older_part : (s : Replica) (from : ℕ) (names : Named) (term : ℕ) (part : TablePart) → F s → IsHolder s.role → M from names (Part term part) → C s (stale_append s from part.point.index)
    -- tables
    pub heard_part : (s : Replica) (from : ℕ) (names : Named) (term : ℕ) (part : TablePart) → F s → IsHolder s.role → M from names (Part term part) → C s (part_heard link s from part)
    pub takes_part :
        (s : Replica) (taking : Taking) (from : ℕ) (names : Named) (term : ℕ) (part : TablePart) → F s → s.role ≡ Learner taking → M from names (Part term part) → C s (take_part link (learner_term s term) taking from part names)
    -- what a leader hears
    pub heard_accepted :
        (s : Replica) (l : Leading) (from : ℕ) (names : Named) (term : ℕ) (end : Point) (promised : ℕ) → F s → s.role ≡ Leader l → term ≡ s.term → M from names (Accepted term end promised) → C s (accepted_heard link s (Leader l) from end promised)
    pub heard_rejected :
        (s : Replica) (l : Leading) (from : ℕ) (names : Named) (term asked hint : ℕ) → F s → s.role ≡ Leader l → term ≡ s.term → M from names (Rejected term asked hint) → C s (rejected_heard s (Leader l) from hint)
    pub heard_taken :
        (s : Replica) (l : Leading) (from : ℕ) (names : Named) (term : ℕ) (point : Point) (next : ℕ) → F s → s.role ≡ Leader l → M from names (PartTaken term point next) → C s (part_taken link s (Leader l) from point next)
    pub leader_ticks : (s : Replica) (l : Leading) → F s → s.role ≡ Leader l → T s Tick → C s (leader_tick link s l)
    -- changes of the members
    pub joins : (s : Replica) (l : Leading) (id : ℕ) (linked : Bool) → F s → s.role ≡ Leader l → T s (Join id linked) → C s (join link s l id linked)
    pub admits : (s : Replica) (l : Leading) (id : ℕ) → F s → s.role ≡ Leader l → T s (Admit id) → C s (admit s l id)
    pub removes : (s : Replica) (l : Leading) (id : ℕ) → F s → s.role ≡ Leader l → T s (Remove id) → C s (remove s l id)
    pub sets_margin : (s : Replica) (l : Leading) (margin : ℕ) → F s → s.role ≡ Leader l → T s (Margin margin) → C s (set_margin s l margin)
    -- a client's request, and all else
    pub asked : (s : Replica) (client : ClientId) (number : ℕ) (request : List ℕ) → F s → T s (Client client number request) → D s (Client client number request) (client_request s client number request)
    pub others : (s : Replica) (input : Input) (c : Call) → IsNoRequest input → C s c → D s input c
    -- the end of a call
    pub ends : (s : Replica) (input : Input) (c : Call) → D s input c → D s input (ended link c c.state.halted)

-- A replica beside a node of the generous machine: its state, its messages, and its calls.
use Rattle.std.proofs.Common.{◌≡◌, ℕ, ◌+◌, ◌<◌, ◌≤◌, Bool, true, false, ◌⊎◌, Option, Some, None, List, [], ◌∷◌, length, take, drop}
use Rattle.std.specs.List.{AllByRecursion}
use Rattle.values.specs.declared.entry.Hash.{Hash}
use Rattle.values.specs.declared.entry.Point.{Point}
use Rattle.values.specs.declared.peer.PeerMsg.{PeerMsg}
use Rattle.values.specs.declared.peer.PeerMsg.TheVariants as peer
use Rattle.group_quorum.specs.Conf.{Conf}
use Rattle.group_quorum.specs.Voters.{is_in}
use Rattle.replica_model.specs.Path.{Path, Link, chain, last_term}
use Rattle.replica_model.specs.Keyed.{value_at}
use Rattle.replica_model.specs.Message.{Message}
use Rattle.replica_model.specs.Replica.{Named, Sending, Role, Learner, Follower, Candidate, Leader, Leading, Replica}
use Rattle.replica_model.specs.Peers.{progress_of}
use Rattle.replica_model.specs.Call.{Call}
use Rattle.group_model.specs.Log.{AnyByRecursion}
use Rattle.group_model.specs.Halts.{EnoughAt}
use Rattle.path_machine.specs.Node as node
use Rattle.path_machine.specs.Node.{Node}
use Rattle.path_machine.specs.Machine.{Choice, Machine, In}
use Rattle.path_machine.specs.Changes.{is_single_change}
use Rattle.path_machine.proofs.Changes.{single_change_overlaps}
use Rattle.path_laws.proofs.Goes.{Later, Reached, Goes}

-- the role of a node, of a replica's role
abbrev pub kind : Role → node.Role
kind (Learner taking) = node.Learner
kind Follower = node.Follower
kind (Candidate votes) = node.Candidate
kind (Leader leading) = node.Leader

-- a node that runs
abbrev pub node_as : node.Role → ℕ → Path → ℕ → ℕ → Option ℕ → (ℕ → Bool) → (ℕ → ℕ) → Node
node_as role term path promised committed voted votes marks =
    record {
      role = role;
      halted = false;
      term = term;
      vote = voted;
      path = path;
      promised = promised;
      committed = committed;
      votes = votes;
      marks = marks;
    }

-- a vote that the node has given is the replica's
abbrev pub VoteFits : ℕ → Option ℕ → Type 0
VoteFits vote voted = (voted ≡ None) ⊎ ((0 < vote) × (voted ≡ Some vote))

-- what a leader knows of its peers: the node's marks are at least its own, and the tables are fronts of what it committed
pub record LeadingFits (path : Path) (committed : ℕ) (l : Leading) (marks : ℕ → ℕ) : Type 0 where
  pub next_fits : (u : ℕ) → (progress_of l u).next ≤ length path + 1
  pub mark_fits : (u : ℕ) → (progress_of l u).mark ≤ length path
  pub marked : (u : ℕ) → (progress_of l u).mark ≤ marks u
  pub sendings : (u : ℕ) (sending : Sending) → value_at l.sendings u ≡ Some sending → (length sending.path ≤ committed) × (take (length sending.path) path ≡ sending.path)

-- who holds a log reads it by the first configuration of the run; votes are at least those of the replica
abbrev pub RoleFits : Conf → Conf → Path → ℕ → Role → (ℕ → Bool) → (ℕ → ℕ) → Type 0
RoleFits first theirs path committed (Learner taking) votes marks = Unit {0}
RoleFits first theirs path committed Follower votes marks = theirs ≡ first
RoleFits first theirs path committed (Candidate heard) votes marks = (theirs ≡ first) × ((u : ℕ) → is_in heard u ≡ true → votes u ≡ true)
RoleFits first theirs path committed (Leader l) votes marks = (theirs ≡ first) × LeadingFits path committed l marks

-- an append offers what follows a point of a path that was held
pub record AppendFits (link : Link) (Held : Path → Type 0) (messages : List node.Message) (term : ℕ) (prev : Point) (entries : Path) (promise commit : ℕ) : Type 0 where
  pub path : Path
  pub stands : In (node.Append term path promise commit) messages
  pub held : Held path
  pub prev_fits : prev.index ≤ length path
  pub hash_is : prev.hash ≡ chain link (take prev.index path)
  pub entries_are : entries ≡ drop prev.index path

-- an acceptance names the end of a path that was held
pub record AcceptedFits (link : Link) (Held : Path → Type 0) (messages : List node.Message) (term from : ℕ) (end : Point) : Type 0 where
  pub path : Path
  pub stands : In (node.Accepted term from path) messages
  pub held : Held path
  pub end_is : length path ≡ end.index
  pub hash_is : chain link path ≡ end.hash

-- a message beside one that a node sent
abbrev pub MsgFits : Link → Conf → (Path → Type 0) → List node.Message → ℕ → ℕ → Named → PeerMsg → Type 0
MsgFits link first Held messages from to names (peer.AskVote term last_index last) =
    (p : Path) × In (node.AskVote term from p) messages × (length p ≡ last_index) × (last_term p ≡ last)
MsgFits link first Held messages from to names (peer.Vote term granted) = granted ≡ true → (p : Path) × In (node.Vote term from to p) messages
MsgFits link first Held messages from to names (peer.Append term prev entries promise commit) = AppendFits link Held messages term prev entries promise commit
MsgFits link first Held messages from to names (peer.Accepted term end promised) = AcceptedFits link Held messages term from end
MsgFits link first Held messages from to names (peer.Rejected term asked hint) = Unit {0}
MsgFits link first Held messages from to names (peer.Part term part) = In (node.Part term names.path) messages × (names.first ≡ first)
MsgFits link first Held messages from to names (peer.PartTaken term point next) = Unit {0}

-- all that a call sends
abbrev pub SentFits : Link → Conf → (Path → Type 0) → List node.Message → ℕ → List (ℕ × Message) → Type 0
SentFits link first Held messages from sent = AllByRecursion (λ m. MsgFits link first Held messages from m.0 m.1.names m.1.msg) sent

-- the history only grows
pub append_more : (link : Link) (Held Larger : Path → Type 0) → ((p : Path) → Held p → Larger p) → (messages more : List node.Message) → ((m : node.Message) → In m messages → In m more) → (term : ℕ) (prev : Point) (entries : Path) (promise commit : ℕ) → AppendFits link Held messages term prev entries promise commit → AppendFits link Larger more term prev entries promise commit
append_more link Held Larger larger messages more grows term prev entries promise commit x = record {
  path = x.path;
  stands = grows (node.Append term x.path promise commit) x.stands;
  held = larger x.path x.held;
  prev_fits = x.prev_fits;
  hash_is = x.hash_is;
  entries_are = x.entries_are;
}

pub accepted_more : (link : Link) (Held Larger : Path → Type 0) → ((p : Path) → Held p → Larger p) → (messages more : List node.Message) → ((m : node.Message) → In m messages → In m more) → (term from : ℕ) (end : Point) → AcceptedFits link Held messages term from end → AcceptedFits link Larger more term from end
accepted_more link Held Larger larger messages more grows term from end x = record {
  path = x.path;
  stands = grows (node.Accepted term from x.path) x.stands;
  held = larger x.path x.held;
  end_is = x.end_is;
  hash_is = x.hash_is;
}

pub msg_more : (link : Link) (first : Conf) (Held Larger : Path → Type 0) → ((p : Path) → Held p → Larger p) → (messages more : List node.Message) → ((m : node.Message) → In m messages → In m more) → (from to : ℕ) (names : Named) (msg : PeerMsg) → MsgFits link first Held messages from to names msg → MsgFits link first Larger more from to names msg
msg_more link first Held Larger larger messages more grows from to names (peer.AskVote term last_index last) x = (x.0, grows (node.AskVote term from x.0) x.1, x.2, x.3)
msg_more link first Held Larger larger messages more grows from to names (peer.Vote term granted) x = λ is. let y = x is in (y.0, grows (node.Vote term from to y.0) y.1)
msg_more link first Held Larger larger messages more grows from to names (peer.Append term prev entries promise commit) x = append_more link Held Larger larger messages more grows term prev entries promise commit x
msg_more link first Held Larger larger messages more grows from to names (peer.Accepted term end promised) x = accepted_more link Held Larger larger messages more grows term from end x
msg_more link first Held Larger larger messages more grows from to names (peer.Rejected term asked hint) x = x
msg_more link first Held Larger larger messages more grows from to names (peer.Part term part) x = (grows (node.Part term names.path) x.0, x.1)
msg_more link first Held Larger larger messages more grows from to names (peer.PartTaken term point next) x = x

pub sent_more : (link : Link) (first : Conf) (Held Larger : Path → Type 0) → ((p : Path) → Held p → Larger p) → (messages more : List node.Message) → ((m : node.Message) → In m messages → In m more) → (from : ℕ) (sent : List (ℕ × Message)) → SentFits link first Held messages from sent → SentFits link first Larger more from sent
sent_more link first Held Larger larger messages more grows from [] x = tt
sent_more link first Held Larger larger messages more grows from (m ∷ sent) x = (msg_more link first Held Larger larger messages more grows from m.0 m.1.names m.1.msg x.0, sent_more link first Held Larger larger messages more grows from sent x.1)

module _ (first : Conf) (holds : ℕ → Bool) where
  -- by some moves of v
  abbrev pub On : Machine → ℕ → Node → List node.Message → List Choice → Type 0
  On w v t sent more = Goes first is_single_change single_change_overlaps holds w v t sent more

  abbrev pub Reach : Machine → Type 0
  Reach w = Reached first is_single_change single_change_overlaps holds w

  -- a replica stands beside the node v of a machine that was reached
  pub record At (w : Machine) (v me : ℕ) (theirs : Conf) (path : Path) (base promised committed term vote : ℕ) (role : Role) (halted : Option (ℕ × Hash × Hash)) : Type 0 where
    pub reached : Reach w
    pub voted : Option ℕ
    pub votes : ℕ → Bool
    pub marks : ℕ → ℕ
    pub here : w.nodes v ≡ Some (node_as (kind role) term path promised committed voted votes marks)
    pub mine : me ≡ v
    pub some : 0 < v
    pub based : base ≤ committed
    pub vote_is : VoteFits vote voted
    pub acts : RoleFits first theirs path committed role votes marks
    pub awake : halted ≡ None

  abbrev pub Is : Machine → ℕ → Replica → Type 0
  Is w v s = At w v s.me s.first s.path s.base s.promised s.committed s.term s.vote s.role s.halted

  -- a call of the replica v, as far as it has come, is some moves of the node v: its state, and what it has sent once its
  -- path is held; at its moments it had enough marks for what was noted on the way, and for nothing else
  pub record WentTo (link : Link) (Held : Path → Type 0) (w : Machine) (v me : ℕ) (theirs : Conf) (path : Path) (base promised committed term vote : ℕ) (role : Role) (halted : Option (ℕ × Hash × Hash)) (sent : List (ℕ × Message)) (moments : List Replica) (lead : Option ℕ) (halt : Option (ℕ × Hash × Hash)) : Type 0 where
    pub now : Machine
    pub at : At now v me theirs path base promised committed term vote role halted
    pub others : (u : ℕ) → (u ≡ v → ⊥) → now.nodes u ≡ w.nodes u
    pub later : Later w now
    pub noted : (c : Choice) → In c now.history.chosen → In c w.history.chosen ⊎ AnyByRecursion (EnoughAt c.term c.path) moments
    pub enough : (c : Choice) → AnyByRecursion (EnoughAt c.term c.path) moments → In c now.history.chosen
    pub told : Held path → SentFits link first Held now.history.messages v sent
    pub led : (t : ℕ) → lead ≡ Some t → (p : Path) × In (record { term = t; leader = v; path = p }) now.leads
    pub untold : halt ≡ None

  abbrev pub Went : Link → (Path → Type 0) → Machine → ℕ → Call → Type 0
  Went link Held w v c =
      WentTo link Held w v c.state.me c.state.first c.state.path c.state.base c.state.promised c.state.committed c.state.term c.state.vote c.state.role c.state.halted c.sent c.moments c.batch.lead c.batch.halt

-- One replica of the generous machine. It sends whole paths, and may do at any time what a replica's step does at some.
use Rattle.std.specs.Prelude.{ℕ, ◌+◌, Bool, true, false, cond, not, ◌&&◌, ◌||◌, ◌==◌, bytes_eq, nat_lt, nat_le, min, max, Option, Some, None, List, [], ◌∷◌, ◌++◌, length, take}
use Rattle.values.specs.declared.entry.Body.{Body}
use Rattle.values.specs.declared.entry.Body.TheVariants as body
use Rattle.values.specs.declared.entry.LogEntry.{LogEntry}
use Rattle.group_quorum.specs.Conf.{Conf}
use Rattle.replica_model.specs.Path.{Path, last_term, term_at}
use Rattle.replica_model.specs.Configs.{is_members, changed_by, conf, conf_index}
use Rattle.replica_model.specs.Enough.{met_by_both, is_enough}
use Rattle.replica_model.specs.Votes.{as_new}

-- a learner here holds nothing yet
pub data Role : Type 0 where
  Learner : Role
  Follower : Role
  Candidate : Role
  Leader : Role

-- a replica with its whole path
pub record Node : Type 0 where
  pub role : Role
  pub halted : Bool
  pub term : ℕ
  -- who has its vote in this term
  pub vote : Option ℕ
  pub path : Path
  pub promised : ℕ
  pub committed : ℕ
  -- the votes that a candidate has heard, its own included
  pub votes : ℕ → Bool
  -- the accepted marks that a leader has heard
  pub marks : ℕ → ℕ

-- a message, with the whole path that it speaks of: a vote names the path that was asked for
pub data Message : Type 0 where
  AskVote : (term asker : ℕ) (path : Path) → Message
  Vote : (term voter asker : ℕ) (path : Path) → Message
  Append : (term : ℕ) (path : Path) (promise commit : ℕ) → Message
  Accepted : (term voter : ℕ) (path : Path) → Message
  Part : (term : ℕ) (path : Path) → Message

-- how a node goes on, and what it sends
pub record Outcome : Type 0 where
  pub node : Node
  pub sent : List Message

-- the function with another value at one number
abbrev pub with_value : {A : Type 0} → (ℕ → A) → ℕ → A → ℕ → A
with_value f k x i = cond (i == k) x (f i)

-- the role is that of a learner
abbrev pub is_learner : Role → Bool
is_learner Learner = true
is_learner Follower = false
is_learner Candidate = false
is_learner Leader = false

-- the role is that of a candidate
abbrev pub is_candidate : Role → Bool
is_candidate Learner = false
is_candidate Follower = false
is_candidate Candidate = true
is_candidate Leader = false

-- the role is that of a leader
abbrev pub is_leader : Role → Bool
is_leader Learner = false
is_leader Follower = false
is_leader Candidate = false
is_leader Leader = true

-- the term of a message
abbrev pub term_of : Message → ℕ
term_of (AskVote t u path) = t
term_of (Vote t u c path) = t
term_of (Append t path promise commit) = t
term_of (Accepted t u path) = t
term_of (Part t path) = t

-- nothing is sent
abbrev pub quiet : Node → Outcome
quiet s = record { node = s; sent = [] }

-- a node that has nothing yet, in a role
abbrev pub empty : Role → Node
empty role =
    record { role = role; halted = false; term = 0; vote = None; path = []; promised = 0; committed = 0; votes = λ u. false; marks = λ u. 0 }

-- two bodies are the same
abbrev pub same_body : Body → Body → Bool
same_body body.Noop body.Noop = true
same_body body.Noop (body.Ask d m q) = false
same_body body.Noop (body.Members k u) = false
same_body (body.Ask c n r) body.Noop = false
same_body (body.Ask c n r) (body.Ask d m q) = bytes_eq c.0 d.0 && (n == m && bytes_eq r q)
same_body (body.Ask c n r) (body.Members k u) = false
same_body (body.Members m v) body.Noop = false
same_body (body.Members m v) (body.Ask d k q) = false
same_body (body.Members m v) (body.Members k u) = m == k && bytes_eq v u

-- two entries are the same
abbrev pub same_entry : LogEntry → LogEntry → Bool
same_entry a b = a.term == b.term && same_body a.body b.body

-- how many entries two paths begin with in common
abbrev pub common : Path → Path → ℕ
common [] q = 0
common (a ∷ p) [] = 0
common (a ∷ p) (b ∷ q) = cond (same_entry a b) (common p q + 1) 0

-- who held a log follows
abbrev pub fallen : Role → Role
fallen Learner = Learner
fallen Follower = Follower
fallen Candidate = Follower
fallen Leader = Follower

-- a higher term, without a vote
abbrev pub risen : Node → ℕ → Node
risen s t = record s { role = fallen s.role; term = t; vote = None; votes = λ u. false; marks = λ u. 0 }

-- who holds a log may follow at any time
abbrev pub followed : Node → Node
followed s = record s { role = fallen s.role; votes = λ u. false; marks = λ u. 0 }

-- the next term, with its own vote
abbrev pub stood : ℕ → Node → Node
stood v s =
    record s { role = Candidate; term = s.term + 1; vote = Some v; votes = with_value (λ u. false) v true; marks = λ u. 0 }

-- a follower or a candidate stands, and asks
abbrev pub stand : ℕ → Node → Outcome
stand v s =
    cond (is_learner s.role || is_leader s.role)
    (quiet s)
    (record { node = stood v s; sent = AskVote (s.term + 1) v s.path ∷ Vote (s.term + 1) v v s.path ∷ [] })

-- the votes heard are a quorum of the newest configuration and, while that is above the committed index, of the one
-- before
abbrev pub elects : Conf → Node → Bool
elects first s = met_by_both first s.path s.committed s.votes s.votes

-- it leads, and knows nothing of the others
abbrev pub led : Node → Node
led s = record s { role = Leader; marks = λ u. 0 }

-- an entry of its term at the end of its path
abbrev pub pushed : Node → Body → Node
pushed s b = record s { path = s.path ++ record { term = s.term; body = b } ∷ [] }

-- a leader pushes what it will; a Members entry only where the newest configuration is committed, and to a
-- configuration that may follow it
abbrev pub may_push : Conf → (Conf → Conf → Bool) → Node → Body → Bool
may_push first near s b =
    is_leader s.role
    && (not (is_members b)
    || (nat_le (conf_index s.path) s.committed && near (conf first s.path) (changed_by (conf first s.path) b)))

-- the accepted mark of a voter; the leader's own is its last index
abbrev pub mark : ℕ → Node → ℕ → ℕ
mark v s u = cond (u == v) (length s.path) (s.marks u)

-- an entry of the leader's own term has enough accepted marks
abbrev pub may_choose : Conf → ℕ → Node → ℕ → Bool
may_choose first v s i =
    is_leader s.role
    && (nat_lt 0 i
    && (nat_le i (length s.path) && (term_at s.path i == s.term && is_enough first s.path i (mark v s) s.committed)))

-- its promised index
abbrev pub promising : Node → ℕ → Node
promising s i = record s { promised = i }

-- what is promised may be committed at any time
abbrev pub commit : Node → ℕ → Outcome
commit s i = cond (nat_le s.committed i && nat_le i s.promised) (quiet (record s { committed = i })) (quiet s)

-- a leader sends a front of its path
abbrev pub send : Node → ℕ → Outcome
send s k =
    cond (is_leader s.role) (record { node = s; sent = Append s.term (take k s.path) s.promised s.committed ∷ [] }) (quiet s)

-- a leader sends the table of a front of what it committed
abbrev pub hand : Node → ℕ → Outcome
hand s i =
    cond (is_leader s.role && nat_le i s.committed)
    (record { node = s; sent = Part s.term (take i s.path) ∷ [] })
    (quiet s)

-- the vote is free, or is the asker's already
abbrev pub is_vote_for : Option ℕ → ℕ → Bool
is_vote_for None u = true
is_vote_for (Some c) u = c == u

-- a vote is asked for a path
abbrev pub asked : ℕ → Node → ℕ → Path → Outcome
asked v s u path =
    cond (is_vote_for s.vote u && as_new s.path (length path) (last_term path))
    (record { node = record s { vote = Some u }; sent = Vote s.term v u path ∷ [] })
    (quiet s)

-- a candidate hears a vote
abbrev pub heard : ℕ → Node → ℕ → ℕ → Outcome
heard v s u c =
    cond (c == v && is_candidate s.role) (quiet (record s { votes = with_value s.votes u true })) (quiet s)

-- the offered path follows what both have, unless it is a front of the path already
abbrev pub grafted : Node → Path → ℕ → ℕ → Node
grafted s path promise commit =
    record s {
      role = Follower;
      path = cond (nat_le (length path) (common s.path path)) s.path path;
      promised = max s.promised (min promise (length path));
      committed = max s.committed (min commit (min promise (length path)));
      votes = λ u. false;
      marks = λ u. 0;
    }

-- it halts where the first difference is at or below what it promised
abbrev pub append : ℕ → Node → Path → ℕ → ℕ → Outcome
append v s path promise commit =
    cond (nat_lt (common s.path path) s.promised && nat_lt (common s.path path) (length path))
    (quiet (record s { halted = true }))
    (record { node = grafted s path promise commit; sent = Accepted s.term v path ∷ [] })

-- a leader hears that a front of its path was accepted
abbrev pub accepted : Node → ℕ → Path → Outcome
accepted s u path =
    cond (is_leader s.role && nat_le (length path) (common s.path path))
    (quiet (record s { marks = with_value s.marks u (max (s.marks u) (length path)) }))
    (quiet s)

-- a whole table is taken where nothing is held
abbrev pub taken : Node → ℕ → Path → Node
taken s t path =
    record s { role = Follower; term = max s.term t; path = path; promised = length path; committed = length path }

-- a learner takes a table, or does nothing
abbrev pub learns : Node → Bool → Message → Outcome
learns s refuses (AskVote t u path) = quiet s
learns s refuses (Vote t u c path) = quiet s
learns s refuses (Append t path promise commit) = quiet s
learns s refuses (Accepted t u path) = quiet s
learns s refuses (Part t path) = cond refuses (quiet s) (quiet (taken s t path))

-- a message of the node's own term. An append may be refused
abbrev pub hears : ℕ → Node → Bool → Message → Outcome
hears v s refuses (AskVote t u path) = asked v s u path
hears v s refuses (Vote t u c path) = heard v s u c
hears v s refuses (Append t path promise commit) = cond refuses (quiet (followed s)) (append v s path promise commit)
hears v s refuses (Accepted t u path) = accepted s u path
hears v s refuses (Part t path) = quiet s

-- a message: one of another term does nothing where a log is held
abbrev pub takes : ℕ → Node → Bool → Message → Outcome
takes v s refuses m =
    cond (is_learner s.role) (learns s refuses m) (cond (term_of m == s.term) (hears v s refuses m) (quiet s))

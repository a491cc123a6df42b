-- The state of a replica, with its whole path.
use Rattle.std.specs.Prelude.{ℕ, Option, None, List, []}
use Rattle.values.specs.declared.entry.Hash.{Hash}
use Rattle.values.specs.declared.ids.ClientId.{ClientId}
use Rattle.values.specs.declared.message.Request.{Request}
use Rattle.group_quorum.specs.Conf.{Conf}
use Rattle.replica_model.specs.declared.Progress.{Progress}
use Rattle.replica_model.specs.Path.{Path}

-- a client's request that a leader has pushed, and its place
pub record Ticket : Type 0 where
  pub index : ℕ
  pub client : ClientId
  pub number : ℕ
  pub request : Request

-- a path, with the limit and the first configuration by which its table and its configurations are read
pub record Named : Type 0 where
  pub path : Path
  pub limit : ℕ
  pub first : Conf

-- a table that is being sent: that of the path, and the number of the part that is outstanding
pub record Sending : Type 0 where
  pub path : Path
  pub part : ℕ

-- the parts of a table that were taken: whose table it is, and the number of the next part
pub record Taking : Type 0 where
  pub names : Named
  pub next : ℕ

-- what a leader keeps: the progress of each peer, its learners, and the tables being sent
pub record Leading : Type 0 where
  pub progress : List (ℕ × Progress)
  pub learners : List ℕ
  pub sendings : List (ℕ × Sending)

-- a learner here holds nothing yet. With its table it becomes a follower
pub data Role : Type 0 where
  Learner : (taking : Taking) → Role
  Follower : Role
  -- the ids whose votes it has, in rising order
  Candidate : (votes : List ℕ) → Role
  Leader : (leading : Leading) → Role

-- a replica
pub record Replica : Type 0 where
  pub me : ℕ
  -- by which its path is read: the greatest number of rows, and the first configuration
  pub limit : ℕ
  pub first : Conf
  pub path : Path
  -- below it no hash is kept
  pub base : ℕ
  pub promised : ℕ
  pub committed : ℕ
  pub term : ℕ
  -- the id that has its vote in this term, or 0
  pub vote : ℕ
  -- the id that it takes for the leader, or 0
  pub known : ℕ
  pub role : Role
  -- in rising index
  pub tickets : List Ticket
  -- the index where it halted, its own hash there and the one offered
  pub halted : Option (ℕ × Hash × Hash)

-- the name of no table
abbrev pub nothing_named : Named
nothing_named = record { path = []; limit = 0; first = record { margin = 0; voters = [] } }

-- no part is taken. The point of its path is index 0 with the first hash
abbrev pub no_part : Taking
no_part = record { names = nothing_named; next = 0 }

-- begin: a voter is a follower with term 0, no vote, no known leader and an empty log
abbrev pub begin : ℕ → Conf → ℕ → Replica
begin me first limit =
    record {
      me = me;
      limit = limit;
      first = first;
      path = [];
      base = 0;
      promised = 0;
      committed = 0;
      term = 0;
      vote = 0;
      known = 0;
      role = Follower;
      tickets = [];
      halted = None;
    }

-- a learner holds nothing
abbrev pub learner : ℕ → Replica
learner me = record (begin me (record { margin = 0; voters = [] }) 0) { role = Learner no_part }

-- A replica stands for a model replica, which keeps its whole path, every path whose table it sends, and no table.
use Rattle.std.specs.Prelude.{◌≡◌, ℕ, List, [], ◌∷◌, map, take}
use Rattle.group_quorum.specs.Conf.{Conf}
use Rattle.replica_model.specs.Replica as model
use Rattle.replica_model.specs.Linked.{sha_link}
use Rattle.replica_model.specs.Folds.{fold_of}
use Rattle.replica_log.specs.Models.{StandsFor as LogStandsFor}
use Rattle.vote_rules.specs.Candidates.{ids_of}
use Rattle.table_transfer.specs.SentTable.{SentTable, SendsTableOf}
use Rattle.table_transfer.specs.Taken.{TakesPartsOf}
use Rattle.replica_core.specs.declared.role.Role.{Role}
use Rattle.replica_core.specs.declared.role.Role.TheVariants as kept
use Rattle.replica_core.specs.declared.role.Leading.{Leading}
use Rattle.replica_core.specs.declared.tickets.Ticket.{Ticket}
use Rattle.replica_core.specs.declared.holder.Holder.{Holder}
use Rattle.replica_core.specs.declared.learner.Learner.{Learner}
use Rattle.replica_core.specs.declared.replica.State.{State}
use Rattle.replica_core.specs.declared.replica.State.TheVariants as state

-- by which limit and which first configuration the model's paths are read
module _ (limit : ℕ) (first : Conf) where
  -- a table that is being sent is that of the path that the model sends, and the same part of it is outstanding
  pub record SendsAs (kept : SentTable) (m : model.Sending) : Type 0 where
    pub of_path : SendsTableOf sha_link kept (record { path = m.path; limit = limit; first = first })
    pub part : kept.part ≡ m.part

  -- so of each table that is being sent, to the same ids
  abbrev pub SendingsAs : List (ℕ × SentTable) → List (ℕ × model.Sending) → Type 0
  SendingsAs [] [] = Unit {0}
  SendingsAs (k ∷ ks) (m ∷ ms) = (k.0 ≡ m.0) × (SendsAs k.1 m.1 × SendingsAs ks ms)
  SendingsAs _ _ = ⊥

  -- a leader knows the same of each peer, has the same learners, and sends the same tables
  pub record LeadsAs (l : Leading) (m : model.Leading) : Type 0 where
    pub progress : l.progress ≡ m.progress
    pub learners : l.learners ≡ m.learners
    pub sendings : SendingsAs l.sendings m.sendings

  -- the roles are the same, and a candidate has the same votes
  abbrev pub RoleAs : Role → model.Role → Type 0
  RoleAs kept.Follower model.Follower = Unit {0}
  RoleAs (kept.Candidate votes) (model.Candidate ids) = ids_of votes ≡ ids
  RoleAs (kept.Leader l) (model.Leader m) = LeadsAs l m
  RoleAs _ _ = ⊥

-- a ticket without its request
abbrev pub kept_ticket : model.Ticket → Ticket
kept_ticket t = record { index = t.index; client = t.client; number = t.number }

-- a replica that holds a log stands for a model replica: its log stands for the model's, its table is that of the
-- committed path, and all else is the same
pub record HoldsFor (h : Holder) (s : model.Replica) : Type 0 where
  pub me : h.me ≡ s.me
  pub term : h.ballot.term ≡ s.term
  pub vote : h.ballot.vote ≡ s.vote
  pub known : h.known ≡ s.known
  pub log : LogStandsFor sha_link h.log s
  pub table : h.table ≡ fold_of s.limit (take s.committed s.path)
  pub role : RoleAs s.limit s.first h.role s.role
  pub tickets : h.tickets ≡ map kept_ticket s.tickets
  pub halted : h.halted ≡ s.halted

-- a learner that holds nothing stands for a model's: it has taken the first parts of the path's table that the model took
pub record LearnsFor (l : Learner) (s : model.Replica) : Type 0 where
  pub taking : model.Taking
  pub parts : TakesPartsOf sha_link l.taking taking
  pub same : s ≡ record (model.learner l.me) { term = l.term; role = model.Learner taking }

-- a replica stands for a model replica. A spent one stands for none
abbrev pub StandsFor : State → model.Replica → Type 0
StandsFor state.Spent s = ⊥
StandsFor (state.Learner l) s = LearnsFor l s
StandsFor (state.Holder h) s = HoldsFor h s

-- an earlier step of the replica, or of the one that it is a copy of, wanted memory
abbrev pub IsSpent : State → Type 0
IsSpent state.Spent = Unit {0}
IsSpent (state.Learner l) = ⊥
IsSpent (state.Holder h) = ⊥

-- it holds a log
abbrev pub HoldsLog : State → Type 0
HoldsLog state.Spent = ⊥
HoldsLog (state.Learner l) = ⊥
HoldsLog (state.Holder h) = Unit {0}

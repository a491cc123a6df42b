-- What a state keeps of the tables that it sends and of the one that it takes, and that each part that a call sends is a
-- true one.
use Rattle.std.proofs.Common.{◌≡◌, ℕ, ◌<◌, Some, List, arith}
use Rattle.std.specs.List.{AllByRecursion}
use Rattle.values.specs.declared.peer.PeerMsg.{PeerMsg}
use Rattle.values.specs.declared.peer.PeerMsg.TheVariants.{Part}
use Rattle.replica_model.specs.Path.{Path, Link}
use Rattle.replica_model.specs.Keyed.{value_at}
use Rattle.replica_model.specs.Folds.{fold_of}
use Rattle.replica_model.specs.Message.{Message}
use Rattle.replica_model.specs.Replica.{Named, Sending, Role, Learner, Follower, Candidate, Leader, Leading, Replica}
use Rattle.replica_model.specs.Tables.{parts_of, IsTruePart}
use Rattle.replica_model.specs.Call.{Input, Peer, Call}

-- the outstanding part is one of the table's
abbrev pub IsNumbered : ℕ → Sending → Type 0
IsNumbered limit sending = sending.part < parts_of (fold_of limit sending.path).rows

abbrev pub SendsNumbered : ℕ → Leading → Type 0
SendsNumbered limit l = (u : ℕ) (sending : Sending) → value_at l.sendings u ≡ Some sending → IsNumbered limit sending

-- and this is known of what the table names that a learner takes
module _ (Takes : Named → Type 0) where
  abbrev pub GoodTables : ℕ → Role → Type 0
  GoodTables limit (Learner taking) = Takes taking.names
  GoodTables limit Follower = Unit {0}
  GoodTables limit (Candidate votes) = Unit {0}
  GoodTables limit (Leader l) = SendsNumbered limit l

  abbrev pub HasGoodTables : Replica → Type 0
  HasGoodTables s = GoodTables s.limit s.role

  -- so it is of what a part names that is handed
  abbrev pub TakesOf : Named → PeerMsg → Type 0
  TakesOf names (Part term part) = Takes names
  TakesOf names other = Unit {0}

  abbrev pub TakesIn : Input → Type 0
  TakesIn (Peer from m) = TakesOf m.names m.msg
  TakesIn input = Unit {0}

module _ {Takes More : Named → Type 0} (more : (names : Named) → Takes names → More names) where
  tables_more : (limit : ℕ) (role : Role) → GoodTables Takes limit role → GoodTables More limit role
  tables_more limit (Learner taking) g = more taking.names g
  tables_more limit Follower g = tt
  tables_more limit (Candidate votes) g = tt
  tables_more limit (Leader l) g = g

  -- tables stay good where what is known of names stays known
  pub good_more : (s : Replica) → HasGoodTables Takes s → HasGoodTables More s
  good_more s g = tables_more s.limit s.role g

module _ (link : Link) where
  abbrev pub IsTrueMsg : Named → PeerMsg → Type 0
  IsTrueMsg names (Part term part) = IsTruePart link part names
  IsTrueMsg names other = Unit {0}

  -- a part is a true part of the path that it names
  abbrev pub IsTrue : Message → Type 0
  IsTrue m = IsTrueMsg m.names m.msg

  abbrev pub AreTrue : List (ℕ × Message) → Type 0
  AreTrue sent = AllByRecursion (λ m. IsTrue m.1) sent

  -- what holds of a call so far
  pub record TrueParts (Takes : Named → Type 0) (limit : ℕ) (role : Role) (sent : List (ℕ × Message)) : Type 0 where
    pub sends : GoodTables Takes limit role
    pub true : AreTrue sent

  abbrev pub TrueCall : (Named → Type 0) → Call → Type 0
  TrueCall Takes c = TrueParts Takes c.state.limit c.state.role c.sent

-- every table has a part 0
pub has_first : (limit : ℕ) (path : Path) → IsNumbered limit (record { path = path; part = 0 })
has_first limit path = omega arith

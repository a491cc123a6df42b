-- How far a leader raises in a call, and what it answers then.
use Rattle.std.specs.Prelude.{◌≡◌, ◌⊎◌, [], ◌∷◌, length, filter, filter_map}
use Rattle.replica_model.specs.Path.{Link}
use Rattle.replica_model.specs.Replica.{Leader, Leading, Replica}
use Rattle.replica_model.specs.Call.{Input, Call}
use Rattle.replica_model.specs.Raise.{may_promise, may_commit, is_due, outcome_of}
use Rattle.replica_model.specs.Step.{step}
use Rattle.replica_model.specs.Laws.{IsGreatest}

-- a leader raises in this call, from the state of its first moment to that of its last
pub record RaisesIn (s : Replica) (c : Call) : Type 0 where
  -- what it knows of its peers
  pub known : Leading
  pub first : Replica
  pub between : Replica
  pub last : Replica
  pub moments : c.moments ≡ first ∷ between ∷ last ∷ []
  -- at first its indices are those from before the call
  pub had_promised : first.promised ≡ s.promised
  pub had_committed : first.committed ≡ s.committed
  -- its promised index is the greatest of an entry of its own term for which the accepted marks are enough, its own mark
  -- being its last index, or what it had promised
  pub promised : IsGreatest (may_promise first known) first.promised (length first.path) between.promised
  pub promise_alone : between ≡ record first { promised = between.promised }
  -- its committed index is the greatest one up to its promised index for which the promises are enough, its own among
  -- them, or what it had
  pub committed : IsGreatest (may_commit between known) between.committed between.promised last.committed
  pub ends_promised : c.state.promised ≡ between.promised
  pub ends_committed : c.state.committed ≡ last.committed
  -- each ticket whose index the committed one passes is answered with its outcome, and nothing else is answered
  pub answers : c.batch.answers ≡ filter_map (outcome_of between) (filter (is_due between last.committed) between.tickets)

-- nothing is raised in this call: who leads after it has promised and committed what it had
pub record StaysIn (s : Replica) (c : Call) : Type 0 where
  pub moments : c.moments ≡ []
  pub promised : (l : Leading) → c.state.role ≡ Leader l → c.state.promised ≡ s.promised
  pub committed : (l : Leading) → c.state.role ≡ Leader l → c.state.committed ≡ s.committed

-- in each call a leader raises to the greatest indices, or keeps those that it had
abbrev pub RaisesOrStays : Replica → Call → Type 0
RaisesOrStays s c = RaisesIn s c ⊎ StaysIn s c

-- so does each step of each replica
abbrev pub StepsRaiseToTheGreatest : Type 0
StepsRaiseToTheGreatest = (link : Link) (s : Replica) (i : Input) → RaisesOrStays s (step link s i)

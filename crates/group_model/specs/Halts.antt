-- The halt laws: what holds of every run without a rollback and without a collision.
use Rattle.std.specs.Prelude.{◌≡◌, ℕ, ◌<◌, ◌⊎◌, List, [], ◌∷◌, ◌++◌, length, Some, None, IsTrue}
use Rattle.std.specs.List.{AllByRecursion}
use Rattle.values.specs.declared.entry.LogEntry.{LogEntry}
use Rattle.values.specs.declared.event.Event.{Event}
use Rattle.replica_model.specs.Path.{Path, Link}
use Rattle.replica_model.specs.Raise.{may_promise}
use Rattle.replica_model.specs.Replica.{Replica, Role, Learner, Follower, Candidate, Leader}
use Rattle.group_model.specs.Run.{Recorded, World, run}
use Rattle.group_model.specs.Log.{AnyByRecursion, IsFrontOf, state_of, promised_path, Held, NoCollision}

abbrev pub Leads : Role → Type 0
Leads (Learner taking) = ⊥
Leads Follower = ⊥
Leads (Candidate votes) = ⊥
Leads (Leader leading) = Unit {0}

-- a replica began to lead in a term in this call, or leads in it after
abbrev pub LedIn : ℕ → Recorded → Type 0
LedIn t r = (r.call.batch.lead ≡ Some t) ⊎ (Leads (state_of r).role × ((state_of r).term ≡ t))

-- an entry of the leader's own term, the last of p, has enough accepted marks
abbrev pub HasEnough : Replica → Role → Path → Type 0
HasEnough s (Leader l) p = IsTrue (may_promise s l (length p))
HasEnough s (Learner taking) p = ⊥
HasEnough s Follower p = ⊥
HasEnough s (Candidate votes) p = ⊥

-- a leader of term t, as it stood, had enough accepted marks for the last entry of p, a front of its path
pub record EnoughAt (t : ℕ) (p : Path) (s : Replica) : Type 0 where
  pub term : s.term ≡ t
  pub some : 0 < length p
  pub front : IsFrontOf p s.path
  pub enough : HasEnough s s.role p

-- the same at any moment inside any call: after marks rose, and before a leader that is no voter any more steps down
abbrev pub WasEnough : World → ℕ → Path → Type 0
WasEnough w t p = AnyByRecursion (λ (r : Recorded). AnyByRecursion (EnoughAt t p) r.call.moments) w.field.history

-- who leads in a later term holds what was enough
abbrev pub HoldsEnough : World → Recorded → Type 0
HoldsEnough w r =
    (t : ℕ) (p : Path) → WasEnough w t p → Leads (state_of r).role → t < (state_of r).term → IsFrontOf p (state_of r).path

-- what a replica has promised is the front of something that was enough
abbrev pub PromiseLies : World → Recorded → Type 0
PromiseLies w r = 0 < (state_of r).promised → (t : ℕ) × (p : Path) × WasEnough w t p × IsFrontOf (promised_path (state_of r)) p

pub record HaltLaws (w : World) : Type 0 where
  -- at most one replica ever leads in a term
  pub one_leader :
      (t u v : ℕ) → AnyByRecursion (λ (r : Recorded). (r.replica ≡ u) × LedIn t r) w.field.history
      → AnyByRecursion (λ (r : Recorded). (r.replica ≡ v) × LedIn t r) w.field.history → u ≡ v
  -- two paths ever held whose entries at one index have one term are equal up to there
  pub log_matching :
      (p q : Path) (a b : LogEntry) → Held w (p ++ a ∷ []) → Held w (q ++ b ∷ []) → length p ≡ length q → a.term ≡ b.term
      → p ++ a ∷ [] ≡ q ++ b ∷ []
  pub leader_completeness : AllByRecursion (HoldsEnough w) w.field.history
  pub promises_lie : AllByRecursion (PromiseLies w) w.field.history
  -- no replica ever halts, and no halt is told
  pub no_halt : AllByRecursion (λ r. (state_of r).halted ≡ None) w.field.history
  pub no_halt_told : AllByRecursion (λ (r : Recorded). r.call.batch.halt ≡ None) w.field.history

-- the promise, across changes of voters and margin, and of learners
abbrev pub NoHalt : Type 0
NoHalt =
    (link : Link) (events : List Event) → (run link events).rolled ≡ [] → NoCollision link (run link events) → HaltLaws (run link events)

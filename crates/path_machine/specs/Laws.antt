-- What holds of every run of the generous machine.
use Rattle.std.specs.Prelude.{◌≡◌, ℕ, ◌<◌, ◌≤◌, Bool, true, false, ◌⊎◌, Some, List, [], ◌∷◌, ◌++◌, length, take}
use Rattle.values.specs.declared.entry.LogEntry.{LogEntry}
use Rattle.group_quorum.specs.Conf.{Conf}
use Rattle.replica_model.specs.Path.{Path}
use Rattle.replica_model.specs.Configs.{conf}
use Rattle.group_model.specs.Log.{IsFrontOf}
use Rattle.path_machine.specs.Node.{Node, is_learner, is_leader}
use Rattle.path_machine.specs.Machine.{Lead, Machine, Move, In, Chosen, start, run}
use Rattle.path_machine.specs.Changes.{Overlaps}

-- a front of a path that was ever held
abbrev pub Held : Machine → Path → Type 0
Held w p = (x : Path) × In x w.held × IsFrontOf p x

-- the laws of a machine that grew by such changes
pub record MachineLaws (first : Conf) (near : Conf → Conf → Bool) (w : Machine) : Type 0 where
  -- at most one replica ever leads in a term
  pub one_leader : (a b : Lead) → In a w.leads → In b w.leads → a.term ≡ b.term → a.leader ≡ b.leader
  -- two paths ever held whose entries at one index have one term are equal up to there
  pub log_matching :
      (p q : Path) (a b : LogEntry) → Held w (p ++ a ∷ []) → Held w (q ++ b ∷ []) → length p ≡ length q → a.term ≡ b.term
      → p ++ a ∷ [] ≡ q ++ b ∷ []
  -- who ever leads in a later term holds what was ever chosen
  pub leader_completeness :
      (l : Lead) (t : ℕ) (p : Path) → In l w.leads → Chosen w.history t p → t < l.term → IsFrontOf p l.path
  -- what a node has promised is the front of something that was chosen
  pub promises_lie :
      (v : ℕ) (s : Node) → w.nodes v ≡ Some s → 0 < s.promised
      → (t : ℕ) × (p : Path) × Chosen w.history t p × IsFrontOf (take s.promised s.path) p
  -- no node ever halts
  pub no_halt : (v : ℕ) (s : Node) → w.nodes v ≡ Some s → s.halted ≡ false
  -- what leads and what is held is recorded
  pub lead_recorded :
      (v : ℕ) (s : Node) → w.nodes v ≡ Some s → is_leader s.role ≡ true
      → In (record { term = s.term; leader = v; path = s.path }) w.leads
  pub path_recorded : (v : ℕ) (s : Node) → w.nodes v ≡ Some s → In s.path w.held
  -- what is committed is promised, and what is promised is held
  pub committed_promised : (v : ℕ) (s : Node) → w.nodes v ≡ Some s → s.committed ≤ s.promised
  pub promised_held : (v : ℕ) (s : Node) → w.nodes v ≡ Some s → s.promised ≤ length s.path
  -- a learner holds nothing
  pub learner_empty : (v : ℕ) (s : Node) → w.nodes v ≡ Some s → is_learner s.role ≡ true → s.path ≡ []
  -- each configuration of a path ever held is the first one, or followed another by such a change
  pub changes : (p : Path) → Held w p → (conf first p ≡ first) ⊎ ((c : Conf) × (near c (conf first p) ≡ true))

-- the laws over every list of moves
abbrev pub LawsOfRuns : (Conf → Conf → Bool) → Type 0
LawsOfRuns near =
    (first : Conf) (begins : ℕ → Bool) (moves : List Move) → MachineLaws first near (run first near (start begins) moves)

-- they hold where each quorum of a configuration meets each of one that may follow it
abbrev pub RunsKeepTheLaws : Type 0
RunsKeepTheLaws = (near : Conf → Conf → Bool) → Overlaps near → LawsOfRuns near

-- The tickets of a replica that stands for a model's, in a call.
use Rattle.std.proofs.Common.{◌≡◌, ℕ, ◌≤◌, zero, suc, List, [], ◌∷◌, length, map, sym, ap, subst, arith}
use Rattle.std.specs.List.{Contains}
use Rattle.values.specs.declared.batch.Batch.{Batch}
use Rattle.replica_model.specs.Linked.{sha_link}
use Rattle.replica_model.specs.Replica as model
use Rattle.replica_model.specs.Call.{Input}
use Rattle.replica_model.specs.Step.{step}
use Rattle.replica_log.specs.Window.{last_index}
use Rattle.replica_core.specs.declared.replica.State.{State}
use Rattle.replica_core.specs.declared.replica.State.TheVariants as state
use Rattle.replica_core.specs.Standing.{StandsFor, kept_ticket}
use Rattle.replica_core.specs.Logs.{LogsAreTheModels}
use Rattle.replica_core.specs.Keeping.{AreWithin, IsSoundState}
use Rattle.replica_core.specs.Due.{DueAreTold}
use Rattle.replica_core.proofs.Holding.{unless-learner, last-model}
use Rattle.replica_core.proofs.Due.{none-among, due-told}

-- a ticket that is within a log
within-at : (last : ℕ) (ts : List model.Ticket) (t : model.Ticket) → AreWithin last (map kept_ticket ts) → Contains ts t → t.index ≤ last
within-at last [] t within at = absurd (none-among t at)
within-at last (u ∷ ts) t (one, rest) (zero, lt, is) = subst (λ (x : model.Ticket). x.index ≤ last) is one
within-at last (u ∷ ts) t (one, rest) (suc k, lt, is) = within-at last ts t rest (k, omega (arith, lt), is)

module _ (logs : LogsAreTheModels) (s : model.Replica) where
  within : (x : State) → IsSoundState x → StandsFor x s → (t : model.Ticket) → Contains s.tickets t → t.index ≤ length s.path
  within state.Spent sound st t at = absurd st
  within (state.Learner l) sound st t at = absurd (none-among t (subst (λ ts. Contains ts t) (ap (λ (r : model.Replica). r.tickets) st.same) at))
  within (state.Holder h) sound st t at =
      within-at (length s.path) s.tickets t
      (subst (λ n. AreWithin n (map kept_ticket s.tickets)) (last-model logs h.log s st.log) (subst (AreWithin (last_index h.log)) st.tickets sound.within)) at

  unlogged : (x : State) → StandsFor x s → (taking : model.Taking) → s.role ≡ model.Learner taking → s.tickets ≡ []
  unlogged state.Spent st taking is = absurd st
  unlogged (state.Learner l) st taking is = ap (λ (r : model.Replica). r.tickets) st.same
  unlogged (state.Holder h) st taking is =
      unless-learner s.limit s.first h.role s.role st.role (λ r. r ≡ model.Learner taking → s.tickets ≡ []) (λ e. cc) (λ ids e. cc) (λ m e. cc) is

  pub due-as : (x : State) → IsSoundState x → StandsFor x s → (i : Input) (batch : Batch) → batch ≡ (step sha_link s i).batch
      → DueAreTold s i (step sha_link s i) batch
  due-as x sound st i batch is =
      subst (DueAreTold s i (step sha_link s i)) (sym is) (due-told sha_link s (within x sound st) (unlogged x st) i)

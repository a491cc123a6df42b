-- A leader raises as the model's does.
use Rattle.std.proofs.Common.{◌≡◌, ℕ, ◌≤◌, max, sym, ap, subst, ◌∙◌, arith}
use Rattle.values.specs.declared.batch.Batch.{Batch}
use Rattle.values.specs.declared.limits.TheConstants.{TOP}
use Rattle.replica_model.specs.Linked.{sha_link}
use Rattle.replica_model.specs.Replica as model
use Rattle.replica_model.specs.Call.{Call, moment}
use Rattle.replica_model.specs.Raise.{promise_index, commit_index, promise_raised, commit_to, raise}
use Rattle.replica_log.specs.Window.{Window, IsOrdered, base_index, last_index, committed_to}
use Rattle.replica_log.specs.Models.{StandsFor as LogStandsFor}
use Rattle.replica_core.specs.Logs.{LogsAreTheModels}
use Rattle.replica_core.specs.declared.role.Role.TheVariants as kept
use Rattle.replica_core.specs.declared.role.Leading.{Leading}
use Rattle.replica_core.specs.declared.holder.Holder.{Holder}
use Rattle.replica_core.specs.Standing.{RoleAs}
use Rattle.replica_core.specs.Keeping.{AreTickets, AreWithin, IsSoundRole, IsSound}
use Rattle.replica_core.specs.Applying.{kept_between, before_applied, applied_from, holder_applied, batch_applied}
use Rattle.replica_core.specs.Calling.{Reaches}
use Rattle.replica_core.proofs.Commits.{Before, commits}
use Rattle.replica_core.proofs.Entries.{length-between, tickets-above, tickets-within}

module _ (logs : LogsAreTheModels) (h : Holder) (l : Leading) (w1 w2 : Window) (n : ℕ) (b : Batch) (is_leader : h.role ≡ kept.Leader l)
    (raised : w2 ≡ committed_to w1 n) (o : IsOrdered w2) (low : base_index w2 ≤ w1.committed) where
  -- the replica with its log raised, before entries are applied
  abbrev logged : Holder
  logged = record h { log = w2 }

  pub raises : (c : Call) (m : model.Leading) (had : ℕ) (h' : Holder) (b' : Batch) → Reaches h b c → c.state.role ≡ model.Leader m
      → LogStandsFor sha_link w1 (record (c.state) { promised = promise_index c.state m })
      → LogStandsFor sha_link w2 (record (c.state) {
        promised = promise_index c.state m;
        committed = commit_index (record (c.state) { promised = promise_index c.state m }) m;
      })
      → AreTickets h.log.committed h.tickets → had ≡ w1.committed
      → h' ≡ holder_applied logged (applied_from logged b had) → b' ≡ batch_applied b (applied_from logged b had)
      → Reaches h' b' (raise c m)
  raises c m had h' b' r leads st1 st2 tickets had-is h-is b-is =
      let s : model.Replica = c.state in
      let s1 : model.Replica = record s { promised = promise_index s m } in
      let i : ℕ = commit_index s1 m in
      let c1 : Call = moment (promise_raised (moment c) m) in
      let committed : w1.committed ≡ s.committed = st1.is_committed in
      let to : w2.committed ≡ max w1.committed n = ap (λ (w : Window). w.committed) raised in
      let to-i : w2.committed ≡ i = st2.is_committed in
      let most : i ≡ max s.committed i = omega (arith, committed, to, to-i) in
      let role : RoleAs s.limit s.first h.role s.role =
      subst (λ q. RoleAs s.limit s.first q s.role) (sym is_leader) (subst (RoleAs s.limit s.first (kept.Leader l)) (sym leads)
      (subst (RoleAs s.limit s.first (kept.Leader l)) leads (subst (λ q. RoleAs s.limit s.first q s.role) is_leader r.stands.role))) in
      let before : Before logged s1 i = record {
        me = r.stands.me;
        term = r.stands.term;
        vote = r.stands.vote;
        known = r.stands.known;
        log = subst (λ k. LogStandsFor sha_link w2 (record s1 { committed = k })) most st2;
        table = r.stands.table;
        role = role;
        tickets = r.stands.tickets;
        halted = r.stands.halted;
      } in
      let old : h.log.committed ≡ s.committed = r.stands.log.is_committed in
      let done = commits logs logged b c1 i before o (subst (λ k. AreTickets k h.tickets) old tickets) (omega (arith, low, committed)) r.batch_is in
      let at : had ≡ s.committed = had-is ∙ committed in
      let end : Reaches (holder_applied logged (applied_from logged b had)) (batch_applied b (applied_from logged b had)) (commit_to c1 i) =
      subst (λ k. Reaches (holder_applied logged (applied_from logged b k)) (batch_applied b (applied_from logged b k)) (commit_to c1 i)) (sym at) done in
      let after = subst (λ g. Reaches g b' (commit_to c1 i)) (sym h-is) (subst (λ d. Reaches (holder_applied logged (applied_from logged b had)) d (commit_to c1 i)) (sym b-is) end) in
      record { stands = after.stands; batch_is = after.batch_is }

-- a replica stays sound where its log is committed further and the entries are applied
pub applied-sound : (h : Holder) (b : Batch) (had : ℕ) → h.ballot.term ≤ TOP → last_index h.log ≤ TOP → IsSoundRole (last_index h.log) h.role
    → AreTickets had h.tickets → AreWithin (last_index h.log) h.tickets → IsOrdered h.log → base_index h.log ≤ had → had ≤ h.log.committed
    → IsSound (holder_applied h (applied_from h b had))
applied-sound h b had term last role tickets within o base le =
    let p = o.promised in
    let e = o.last in
    let n = length-between h.log had h.log.committed base le (omega (arith, p, e)) in
    record {
      term = term;
      last = last;
      role = role;
      tickets = subst (λ k. AreTickets k (applied_from h b had).tickets) (omega (arith, n, le))
          (tickets-above (kept_between h.log had h.log.committed) had (before_applied h b) tickets);
      within = tickets-within (last_index h.log) (kept_between h.log had h.log.committed) had (before_applied h b) within;
    }

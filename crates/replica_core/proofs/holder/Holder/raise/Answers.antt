use Rattle.std.proofs.Common.{◌≡◌, ℕ, max, sym, ap, subst, ◌∙◌, arith}
use Rattle.std.proofs.lemmas.Result.{on_ok_weaker}
use Rattle.values.specs.declared.batch.Batch.{Batch}
use Rattle.values.specs.declared.entry.Point.{Point}
use Rattle.group_quorum.specs.Marks.{mark_of}
use Rattle.replica_model.specs.Replica as model
use Rattle.replica_model.specs.Raise.{promise_index}
use Rattle.replica_log.specs.Window.{Window, base_index, last_index}
use Rattle.promise_rules.specs.Raising.{committed_by}
use Rattle.replica_core.specs.declared.role.Leading.{Leading}
use Rattle.replica_core.specs.declared.holder.Holder.{Holder}
use Rattle.replica_core.specs.Standing.{RoleAs}
use Rattle.replica_core.specs.Keeping.{AreTickets, AreWithin, IsSoundRole, IsSound}
use Rattle.replica_core.proofs.Calls.{both_ok}
use Rattle.replica_core.proofs.Marks.{accepted-marks, promised-marks}
use Rattle.replica_core.proofs.Raises.{raises, applied-sound}
use Rattle.replica_core.proofs.Sends.{leads-with}
use Rattle.replica_core.proofs.Ranged.{log-in}
use Rattle.replica_core.proofs.holder.Holder.raise.Goals as goal

pub returns-clause-sound : goal.returns-clause-sound
returns-clause-sound c =
    let h : Holder = c.args.self.now in
    let b : Batch = c.args.batch.now in
    let w1 : Window = c.raise_promise.new.log in
    let w2 : Window = c.raise_commit.new.log in
    let had : ℕ = c.committed-had.result in
    let to1 = c.raise_promise.ensures.greatest in
    let to2 = c.raise_commit.ensures.greatest in
    let last : last_index w2 ≡ last_index h.log = ap last_index to2 ∙ ap last_index to1 in
    let base : base_index w2 ≡ base_index h.log = ap base_index to2 ∙ ap base_index to1 in
    let committed : w1.committed ≡ h.log.committed = ap (λ (w : Window). w.committed) to1 in
    let more : w2.committed ≡ max w1.committed (committed_by w1 c.as_slice-3.result.now) = ap (λ (w : Window). w.committed) to2 in
    let at = c.committed-had.ensures.committed in
    let o = c.last-last.ensures.ordered in
    let low = o.committed in
    let sound = c.requires in
    let top = sound.last in
    on_ok_weaker c.apply_committed.result (λ is.
    subst IsSound (sym is)
    (applied-sound (record h { log = w2 }) b had sound.term (omega (arith, last, top)) (subst (λ n. IsSoundRole n h.role) (sym last) sound.role)
    (subst (λ n. AreTickets n h.tickets) (sym (at ∙ committed)) sound.tickets) (subst (λ n. AreWithin n h.tickets) (sym last) sound.within)
    c.apply_committed.ensures.ordered (omega (arith, base, low, at, committed)) (omega (arith, at, more))))
    c.apply_committed.ensures.after

pub returns-clause-model : goal.returns-clause-model
returns-clause-model c = λ call m r leads.
    let h : Holder = c.args.self.now in
    let b : Batch = c.args.batch.now in
    let l : Leading = c.in-Leader.leading in
    let s : model.Replica = call.state in
    let s1 : model.Replica = record s { promised = promise_index s m } in
    let w1 : Window = c.raise_promise.new.log in
    let w2 : Window = c.raise_commit.new.log in
    let had : ℕ = c.committed-had.result in
    let like = leads-with s l m leads (subst (λ q. RoleAs s.limit s.first q s.role) c.in-Leader.is r.stands.role) in
    let to1 = c.raise_promise.ensures.greatest in
    let to2 = c.raise_commit.ensures.greatest in
    let base : base_index w2 ≡ base_index h.log = ap base_index to2 ∙ ap base_index to1 in
    let committed : w1.committed ≡ h.log.committed = ap (λ (w : Window). w.committed) to1 in
    let low = c.last-last.ensures.ordered.committed in
    let own = ap (λ (p : Point). p.index) (c.last-last.ensures.model s r.stands.log) in
    let st1 = c.raise_promise.ensures.model s r.stands.log m (sym r.stands.term) (λ i v above within counts.
    ap (λ marks. mark_of marks v) (c.as_slice-2.ensures.value ∙ c.in_ok-put_marks.ensures)
    ∙ accepted-marks s m h.me l.progress r.stands.me like.progress c.last-last.result.index own v) in
    let st2 = c.raise_commit.ensures.model s1 st1 m (λ i v above within counts.
    ap (λ marks. mark_of marks v) (c.as_slice-3.ensures.value ∙ c.in_ok-put_marks-2.ensures)
    ∙ promised-marks s1 m h.me l.progress r.stands.me like.progress c.promised-promised.result (c.promised-promised.ensures.model s1 st1) v) in
    both_ok c.apply_committed.result (λ h-is b-is.
    raises c.logs_are_the_models.ensures h l w1 w2 (committed_by w1 c.as_slice-3.result.now) b c.in-Leader.is to2 c.apply_committed.ensures.ordered (omega (arith, base, low, committed))
    call m had c.apply_committed.new.self c.apply_committed.new.batch r leads st1 st2 c.requires.tickets c.committed-had.ensures.committed h-is b-is)
    c.apply_committed.ensures.after c.apply_committed.ensures.batch

pub returns-clause-in_range : goal.returns-clause-in_range
returns-clause-in_range c = λ ranged.
    let h : Holder = c.args.self.now in
    let w2 : Window = c.raise_commit.new.log in
    let to1 = c.raise_promise.ensures.greatest in
    let to2 = c.raise_commit.ensures.greatest in
    c.apply_committed.ensures.in_range
    (log-in h w2 (ap (λ (w : Window). w.base) to2 ∙ ap (λ (w : Window). w.base) to1) (ap (λ (w : Window). w.entries) to2 ∙ ap (λ (w : Window). w.entries) to1) ranged)

use Rattle.std.proofs.Common.{◌≡◌, ℕ, ◌-◌, nat_lt, Option, Some, None, sym, ap, subst, ◌∙◌, arith}
use Rattle.std.proofs.lemmas.Bool.{cond-true, lt-ltb}
use Rattle.values.specs.declared.batch.Batch.{Batch}
use Rattle.values.specs.declared.peer.PeerMsg.{PeerMsg}
use Rattle.values.specs.declared.peer.PeerMsg.TheVariants.{Append}
use Rattle.replica_log.specs.Grafting.{point_at}
use Rattle.replica_log.specs.Window.{Window, base_index}
use Rattle.replica_model.specs.Linked.{sha_link}
use Rattle.replica_model.specs.declared.Progress.{Progress}
use Rattle.replica_model.specs.Keyed.{put}
use Rattle.append_rules.specs.Sent.{MakesAppend, entries_at, after_append}
use Rattle.replica_core.specs.declared.role.Leading.{Leading}
use Rattle.replica_core.specs.Keeping.{progress_in}
use Rattle.replica_core.specs.Calling.{SendsAppend}
use Rattle.replica_core.specs.Leads.{can_append_at, with_progress_in}
use Rattle.replica_core.proofs.Sends.{sends-none, sends-one, next-above}
use Rattle.group_msgs.specs.Ranges.{IsInRange}
use Rattle.replica_core.specs.Ranges.{IsStepBatch}
use Rattle.replica_core.proofs.Ranged.{sent-in, append-in}
use Rattle.replica_core.proofs.role.Leading.send_append.Goals as goal

pub make_append-requires : goal.make_append-requires
make_append-requires c =
    let above = next-above c.args.self.now c.args.log.now c.args.peer (sym c.can_append.ensures.answer ∙ c.if-not-can_append.false) in
    let p = ap (λ (x : Progress). x.next) c.progress_of-progress.ensures in
    let most = c.requires.next in
    record { next = (omega (arith, above, p), omega (arith, most, p)) }

pub unreachable-requires : goal.unreachable-requires
unreachable-requires c =
    let w : Window = c.args.log.now in
    let p : Progress = c.progress_of-progress.result in
    let above = next-above c.args.self.now w c.args.peer (sym c.can_append.ensures.answer ∙ c.if-not-can_append.false) in
    let same = ap (λ (x : Progress). x.next) c.progress_of-progress.ensures in
    let made : Option PeerMsg = Some (Append c.args.term (point_at sha_link w (p.next - 1)) (entries_at w p.next) w.promised w.committed) in
    let is : None ≡ made =
    sym c.in_default.is ∙ (c.in_ok-append.ensures.append ∙ cond-true (nat_lt (base_index w) p.next) made None (lt-ltb (base_index w) p.next (omega (arith, above, same)))) in
    cc

pub returns-then-not-can_append-clause-model : goal.returns-then-not-can_append-clause-model
returns-then-not-can_append-clause-model c = λ s st m term like.
    sends-none c.logs_are_the_models.ensures s c.args.log.now c.args.self.now m c.args.peer st like c.args.batch.now (sym c.can_append.ensures.answer ∙ c.if-not-can_append.true)

pub returns-clause-model : goal.returns-clause-model
returns-clause-model c = λ s st m term like.
    let l : Leading = c.args.self.now in
    let b : Batch = c.args.batch.now in
    let v : ℕ = c.args.peer in
    let p : Progress = c.make_append.new.progress in
    let made : MakesAppend s (progress_in l.progress v) (Some c.in-Some.append) p =
    subst (λ q. MakesAppend s q (Some c.in-Some.append) p) c.progress_of-progress.ensures
    (subst (λ o. MakesAppend s c.progress_of-progress.result o p) c.in-Some.is (c.in_ok-append.ensures.model s st term)) in
    subst (λ k. SendsAppend s m v k b (record b { sent = c.push.new.self })) (sym (ap (λ ps. record l { progress = ps }) c.in_ok-put.ensures))
    (subst (λ xs. SendsAppend s m v (record l { progress = put l.progress v p }) b (record b { sent = xs })) (sym c.in_ok-push.ensures.ok)
    (sends-one c.logs_are_the_models.ensures s c.args.log.now l m v st like b p c.in-Some.append (sym c.can_append.ensures.answer ∙ c.if-not-can_append.false) made))

pub returns-clause-after : goal.returns-clause-after
returns-clause-after c =
    let l : Leading = c.args.self.now in
    let w : Window = c.args.log.now in
    let v : ℕ = c.args.peer in
    ap (λ ps. record l { progress = ps })
    (c.in_ok-put.ensures ∙ (ap (put l.progress v) c.in_ok-append.ensures.after ∙ ap (λ q. put l.progress v (after_append w q)) c.progress_of-progress.ensures))
    ∙ sym (cond-true (can_append_at l w v) (with_progress_in l v (after_append w (progress_in l.progress v))) l (sym c.can_append.ensures.answer ∙ c.if-not-can_append.false))

-- what was made is in range
pub returns-clause-in_range : goal.returns-clause-in_range
returns-clause-in_range c = λ id term entries in_b.
    let b : Batch = c.args.batch.now in
    let w : Window = c.args.log.now in
    let v : ℕ = c.args.peer in
    let p : Progress = c.progress_of-progress.result in
    let above = next-above c.args.self.now w v (sym c.can_append.ensures.answer ∙ c.if-not-can_append.false) in
    let same = ap (λ (x : Progress). x.next) c.progress_of-progress.ensures in
    let most = c.requires.next in
    let made : PeerMsg = Append c.args.term (point_at sha_link w (p.next - 1)) (entries_at w p.next) w.promised w.committed in
    let is : Some c.in-Some.append ≡ Some made =
    sym c.in-Some.is ∙ (c.in_ok-append.ensures.append ∙ cond-true (nat_lt (base_index w) p.next) (Some made) None (lt-ltb (base_index w) p.next (omega (arith, above, same)))) in
    let append-is : c.in-Some.append ≡ made = cc in
    subst (λ xs. IsStepBatch (record b { sent = xs })) (sym c.in_ok-push.ensures.ok)
    (sent-in b in_b v c.in-Some.append id (subst IsInRange (sym append-is)
    (term, append-in w p.next c.can_append.ensures.ordered entries (omega (arith, above, same)) (omega (arith, most, same)))))

use Rattle.std.proofs.Common.{◌≡◌, ℕ, ◌+◌, ◌<◌, ◌≤◌, ◌++◌, IfSome, sym, ap, subst, ◌∙◌, arith, append-nil, append_assoc}
use Rattle.values.specs.declared.batch.Batch.{Batch}
use Rattle.values.specs.declared.entry.LogEntry.{LogEntry}
use Rattle.replica_log.specs.Window.{Window, base_index, last_index}
use Rattle.replica_core.specs.Replacing.{members_in}
use Rattle.replica_core.proofs.Entries.{Next, next_entry}
use Rattle.replica_core.proofs.Tells.{members_between, members-none, members-next, members-all}
use Rattle.replica_core.proofs.holder.Holder.tell_members.Goals as goal

pub loop-index-init : goal.loop-index-init
loop-index-init c =
    let b : Batch = c.args.batch.now in
    let w : Window = c.args.self.now.log in
    ap (λ xs. record b { members = xs }) (sym (ap (λ xs. b.members ++ xs) (members-none w c.args.above) ∙ append-nil b.members))

pub loop-index-preserved : goal.loop-index-preserved
loop-index-preserved c =
    let b : Batch = c.args.batch.now in
    let w : Window = c.args.self.now.log in
    let low : ℕ = c.args.above in
    let i : ℕ = c.loop-index.index in
    let base : base_index w ≤ low = c.requires.base in
    let above : low ≤ i = c.loop-index.auto.index in
    let last = c.last-index-end.ensures.last in
    let lt = c.loop-index-test.true in
    let within : i < last_index w = omega (arith, last, lt) in
    let next : Next w i = next_entry w i (omega (arith, base, above)) within in
    let told = subst (λ o. IfSome o (λ (e : LogEntry). c.tell_entry.new.batch ≡ record (c.loop-index.batch) { members = c.loop-index.batch.members ++ members_in (i + 1, e) }))
    next.stands c.in_ok-tell_entry.ensures in
    told
    ∙ (ap (λ (d : Batch). record d { members = d.members ++ members_in (i + 1, next.entry) }) c.loop-index.invariant
    ∙ ap (λ xs. record b { members = xs })
    (append_assoc b.members (members_between w low i) (members_in (i + 1, next.entry)) ∙ ap (λ xs. b.members ++ xs) (sym (members-next w low base i above within next))))

pub returns : goal.returns
returns c =
    let b : Batch = c.args.batch.now in
    let w : Window = c.args.self.now.log in
    let last = c.last-index-end.ensures.last in
    let past = c.loop-index-test.false in
    c.loop-index.invariant ∙ ap (λ xs. record b { members = b.members ++ xs }) (members-all w c.args.above c.loop-index.index (omega (arith, last, past)))

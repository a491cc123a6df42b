use Rattle.std.proofs.Common.{◌≡◌, ℕ, ◌∷◌, [], Some, sym, ap, subst, ◌∙◌}
use Rattle.std.specs.Prelude.{IfSome, option_copied}
use Rattle.std.proofs.lemmas.List.Elements.{All-nil, All-cons}
use Rattle.values.specs.declared.batch.Batch.{Batch}
use Rattle.values.specs.declared.entry.LogEntry.{LogEntry}
use Rattle.group_msgs.specs.Ranges.{IsIndex, IsEntryInRange}
use Rattle.replica_log.specs.Window.{entry_at}
use Rattle.replica_core.specs.declared.holder.Holder.{Holder}
use Rattle.replica_core.specs.Ranges.{IsStepBatch}
use Rattle.replica_core.specs.InRange.{IsHolderInRange}
use Rattle.replica_core.proofs.Calls.{both_ok}
use Rattle.replica_core.proofs.Ranged.{entry_at-in, all-commits-in, table-in}
use Rattle.replica_core.proofs.holder.Holder.apply_entry.Goals as goal

pub returns-clause-in_range : goal.returns-clause-in_range
returns-clause-in_range c = λ ranged in_b.
    let h : Holder = c.args.self.now in
    let b : Batch = c.args.batch.now in
    let i : ℕ = c.args.index in
    let e : LogEntry = c.in_ok-copy.field-0 in
    let is : Some e ≡ entry_at h.log i = ap Some c.in_ok-copy.ensures ∙ (ap option_copied (sym c.in-Some.is) ∙ c.entry_at.ensures.entry) in
    let one : IsEntryInRange e = subst (λ o. IfSome o IsEntryInRange) (sym is) (entry_at-in h ranged i) in
    let told : IsStepBatch (record b { commits = c.push.new.self }) =
    subst (λ xs. IsStepBatch (record b { commits = xs })) (sym c.in_ok-push.ensures.ok)
    (all-commits-in b in_b ((i, e) ∷ []) (All-cons (λ (x : ℕ × LogEntry). IsIndex x.0 × IsEntryInRange x.1) (i, e) [] (c.requires.top, one) (All-nil (λ (x : ℕ × LogEntry). IsIndex x.0 × IsEntryInRange x.1)))) in
    both_ok c.answer_due.result (λ after batch. (subst IsHolderInRange (sym after) (table-in h c.apply_body.new.table _ ranged), batch))
    c.answer_due.ensures.after (c.answer_due.ensures.in_range c.requires.top c.in_ok-reply.ensures.in_range told)

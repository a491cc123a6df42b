use Rattle.std.proofs.Common.{◌≡◌, ◌<◌, length, ap, subst, ◌∙◌, arith}
use Rattle.replica_log.specs.Window.{base_index}
use Rattle.append_rules.specs.Sent.{entries_at}
use Rattle.append_rules.proofs.Copied.{copied_within}
use Rattle.append_rules.proofs.make.make_append.Goals as goal

pub overflow_add-progress : goal.overflow_add-progress
overflow_add-progress c =
    let base : base_index c.args.log.now < c.args.progress.now.next =
    subst (λ p. p.index < c.args.progress.now.next) c.base.ensures.base c.if-progress-base.false in
    let within = copied_within c.args.log.now c.args.progress.now.next base c.requires.next.1 in
    let count : c.len.result ≡ length (entries_at c.args.log.now c.args.progress.now.next) = c.len.ensures ∙ ap length c.in_ok-entries.ensures in
    let top = c.base.ensures.ordered.top in
    omega (arith, within, count, top)

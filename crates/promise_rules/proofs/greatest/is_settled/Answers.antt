use Rattle.std.proofs.Common.{◌||◌, ap, sym, ◌∙◌}
use Rattle.std.specs.Prelude.{nat_le}
use Rattle.std.proofs.lemmas.Bool.{lt-leb}
use Rattle.group_quorum.specs.Conf.{met}
use Rattle.group_quorum.specs.Marks.{mark_of}
use Rattle.promise_rules.proofs.greatest.is_settled.Goals as goal

pub returns-else-configs-committed : goal.returns-else-configs-committed
returns-else-configs-committed c =
    let k = c.args.configs.now in
    let marks = c.args.marks.now in
    sym (c.greatest_met.ensures.reached k.newest_index)
    ∙ sym (ap (λ b. b || met k.older (λ v. nat_le k.newest_index (mark_of marks v))) (lt-leb k.newest_index c.args.committed c.if-configs-committed.false))

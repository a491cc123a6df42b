use Rattle.std.proofs.Common.{sym, subst}
use Rattle.std.proofs.lemmas.Result.{on_ok_weaker}
use Rattle.host_msgs.specs.Contents.{part_number, answer_bytes}
use Rattle.host_msgs.specs.Grammar.{IsHash}
use Rattle.host_msgs.specs.Needs.{IsShortPart}
use Rattle.host_msgs.proofs.Ranged.{on_ok, on_ok_both}
use Rattle.host_msgs.proofs.Shorts.{word_part, long_part, halt_part, part_part}
use Rattle.host_msgs.proofs.replies.push_answer.Goals as goal

pub returns-in-NotLeader-clause-short : goal.returns-in-NotLeader-clause-short
returns-in-NotLeader-clause-short c = on_ok c.push_word.result (subst (λ a. IsShortPart (answer_bytes a)) (sym c.in-NotLeader.is) (word_part c.in-NotLeader.id))

pub returns-in-Busy-clause-short : goal.returns-in-Busy-clause-short
returns-in-Busy-clause-short c = on_ok c.push_long.result (subst (λ a. IsShortPart (answer_bytes a)) (sym c.in-Busy.is) (long_part c.in-Busy.count))

pub returns-in-Malformed-clause-short : goal.returns-in-Malformed-clause-short
returns-in-Malformed-clause-short c = on_ok c.push_long-in-Malformed.result (subst (λ a. IsShortPart (answer_bytes a)) (sym c.in-Malformed.is) (long_part c.in-Malformed.offset))

pub returns-in-Halted-clause-short : goal.returns-in-Halted-clause-short
returns-in-Halted-clause-short c = on_ok c.push_long-in-Halted.result (subst (λ a. IsShortPart (answer_bytes a)) (sym c.in-Halted.is) (long_part c.in-Halted.index))

pub returns-in-Invalid-clause-short : goal.returns-in-Invalid-clause-short
returns-in-Invalid-clause-short c = on_ok c.push_invalid.result (subst (λ a. IsShortPart (answer_bytes a)) (sym c.in-Invalid.is) (part_part (part_number c.in-Invalid.part) c.in-Invalid.size))

pub returns-in-Undecided-clause-short : goal.returns-in-Undecided-clause-short
returns-in-Undecided-clause-short c =
    let u = c.in-Undecided in
    on_ok_weaker c.push_undecided.result (λ sizes. subst (λ a. IsShortPart (answer_bytes a)) (sym u.is) (halt_part u.at u.kept.0 u.offered.0 sizes.0 sizes.1))
    (on_ok_both (IsHash u.kept) (IsHash u.offered) c.push_undecided.result c.push_undecided.ensures.kept c.push_undecided.ensures.offered)

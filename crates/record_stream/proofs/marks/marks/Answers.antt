use Rattle.std.proofs.Common.{arith, ap, ◌∙◌}
use Rattle.std.proofs.lemmas.List.{get_or-take}
use Rattle.record_stream.specs.Walk.{bit_of, may_mean}
use Rattle.record_stream.proofs.Strides.{bit_within}
use Rattle.record_stream.proofs.marks.marks.Goals as goal

pub returns-clause-each : goal.returns-clause-each
returns-clause-each c k lt within = c.marks_of.ensures k lt ∙ ap (λ b. bit_of (may_mean b)) (get_or-take 64 c.args.bytes.now k 0 lt)

pub returns-clause-within : goal.returns-clause-within
returns-clause-within c k set =
    let lt = bit_within c.marks_of.result k c.marks_of.type_inv set in
    let more = c.if-bytes-lt-WIDTH.false in
    omega arith

use Rattle.std.proofs.Common.{◌<◌, length, arith}
use Rattle.std.proofs.lemmas.Result.{err_from_is_err_and}
use Rattle.proto_wire.specs.Fields.{field_of}
use Rattle.proto_wire.proofs.WalkLemmas.{sequence_at-end, sequence_at-field, sequence_at-fault}
use Rattle.proto_wire.proofs.read.next_field.Goals as goal

pub returns-then-at-bytes-clause-walks : goal.returns-then-at-bytes-clause-walks
returns-then-at-bytes-clause-walks c = sequence_at-end c.args.at c.args.bytes.now (omega arith)

pub returns-in_err-field-clause-walks : goal.returns-in_err-field-clause-walks
returns-in_err-field-clause-walks c =
    let p = err_from_is_err_and c.from_residual.result c.from_residual.ensures.1 in
    let within : c.args.at < length c.args.bytes.now = omega arith in
    rw (p.1, p.2) (sequence_at-fault c.args.at c.args.bytes.now _ within c.in_err-field.ensures.exact)

pub returns-clause-walks : goal.returns-clause-walks
returns-clause-walks c =
    let within : c.args.at < length c.args.bytes.now = omega arith in
    let forward : c.args.at < c.in_ok-field.field.next = omega (arith, c.in_ok-field.ensures.within.0, c.in_ok-field.ensures.within.1.behind_tag, c.in_ok-field.ensures.within.1.in_order) in
    sequence_at-field c.args.at c.args.bytes.now (field_of c.in_ok-field.field) within forward c.in_ok-field.ensures.exact

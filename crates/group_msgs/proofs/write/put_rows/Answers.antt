use Rattle.std.proofs.Common.{◌≡◌, ◌++◌, rules}
use Rattle.proto_wire.specs.Written.{message_field}
use Rattle.group_msgs.specs.Canonical.{row_fields}
use Rattle.group_msgs.specs.Ranges.{FitsRow}
use Rattle.values.proofs.Loops.{all_more, written_more}
use Rattle.group_msgs.proofs.write.put_rows.Goals as goal

pub loop-row-preserved : goal.loop-row-preserved
loop-row-preserved c =
    let xs = c.args.rows.now in
    let i = c.loop-row.row-index in
    let x = c.row-item.result in
    let new : c.message.new.self ≡ c.loop-row.fields ++ message_field 10 (row_fields x) = search rules in (
      written_more (λ y. message_field 10 (row_fields y)) xs i x c.args.fields.now c.loop-row.fields c.message.new.self c.loop-row-test.true c.row-item.is c.loop-row.invariant.0 new,
      all_more FitsRow xs i x c.loop-row-test.true c.row-item.is c.loop-row.invariant.1 (search rules),
    )

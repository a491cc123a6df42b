use Rattle.std.proofs.Common.{◌≡◌, ◌++◌, rules}
use Rattle.proto_wire.specs.Written.{message_field}
use Rattle.group_msgs.specs.Canonical.{entry_fields}
use Rattle.group_msgs.specs.Ranges.{FitsBody}
use Rattle.values.proofs.Loops.{all_more, written_more}
use Rattle.group_msgs.proofs.write.put_entries.Goals as goal

pub loop-entry-preserved : goal.loop-entry-preserved
loop-entry-preserved c =
    let xs = c.args.entries.now in
    let i = c.loop-entry.entry-index in
    let x = c.entry-item.result in
    let new : c.message.new.self ≡ c.loop-entry.fields ++ message_field 3 (entry_fields x) = search rules in (
      written_more (λ y. message_field 3 (entry_fields y)) xs i x c.args.fields.now c.loop-entry.fields c.message.new.self c.loop-entry-test.true c.entry-item.is c.loop-entry.invariant.0 new,
      all_more (λ e. FitsBody e.body) xs i x c.loop-entry-test.true c.entry-item.is c.loop-entry.invariant.1 (search rules),
    )

use Rattle.std.proofs.Common.{ap, ◌∙◌}
use Rattle.csv.specs.Records.{fields_of}
use Rattle.record_stream.proofs.Lent.{lent_all, lent_more}
use Rattle.record_stream.proofs.lines.lend.Goals as goal

pub loop-field-preserved : goal.loop-field-preserved
loop-field-preserved c =
    let inv = c.loop-field.invariant in
    let (row, value, at) = c.next.ensures.steps in
    record {
      row = ap (λ r. r.now) row ∙ inv.row;
      so_far =
          rw (c.in_ok-push.ensures.items, rw c.in-Some.is at at)
          (lent_more (fields_of c.args.row.now) c.loop-field.field-iterator.at c.next.result c.in-Some.field c.loop-field.fields.items c.in-Some.is (rw inv.row at value) inv.so_far);
    }

pub returns : goal.returns
returns c =
    let inv = c.loop-field.invariant in
    let (row, value, at) = c.next.ensures.steps in
    lent_all (fields_of c.args.row.now) c.loop-field.field-iterator.at c.next.result c.loop-field.fields.items c.in-None.is (rw inv.row at value) inv.so_far

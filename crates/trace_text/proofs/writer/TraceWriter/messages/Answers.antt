use Rattle.std.proofs.Common.{rules, ap, ◌∙◌, ◌≡◌, ◌+◌, ◌++◌, get_or, map}
use Rattle.std.specs.List.{enumerate_from}
use Rattle.schedule_model.specs.Lines.{line_text, lines_text, sent_line}
use Rattle.trace_text.proofs.Lists.{last_numbered, next_numbered}
use Rattle.trace_text.proofs.writer.TraceWriter.messages.Goals as goal

pub loop-place-preserved : goal.loop-place-preserved
loop-place-preserved c =
    let items = c.as_slice-items.result.now in
    let i = c.loop-place.place in
    let item = c.index-items-place.result in
    let this : c.sent.new.self.tail ≡ c.loop-place.self.tail ++ line_text (sent_line c.args.replica (c.args.first + i, get_or items i item)) = search rules in
    record {
      front = c.in_ok-sent.ensures.front ∙ c.loop-place.invariant.front;
      tail = next_numbered (sent_line c.args.replica) items c.args.first i item _ _ _ c.loop-place-test.true this c.loop-place.invariant.tail;
    }

pub returns : goal.returns
returns c = record {
  front = c.loop-place.invariant.front;
  ok = last_numbered (sent_line c.args.replica) c.as_slice-items.result.now c.args.first c.loop-place.place _ _ c.loop-place-test.false c.loop-place.invariant.tail
      ∙ ap (λ l. c.args.self.now.tail ++ lines_text (map (sent_line c.args.replica) (enumerate_from c.args.first l))) c.as_slice-items.ensures;
}

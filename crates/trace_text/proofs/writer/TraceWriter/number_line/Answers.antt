use Rattle.std.proofs.Common.{◌∙◌, decimal, map}
use Rattle.trace_text.proofs.Joining.{in_parts}
use Rattle.trace_text.proofs.writer.TraceWriter.number_line.Goals as goal

pub returns : goal.returns
returns c =
    record {
      front = c.close.ensures.front ∙ c.in_ok-ids.ensures.front ∙ c.in_ok-numbers.ensures.front ∙ c.in_ok-open.ensures.front;
      ok = in_parts c.close.result _ _ _ _ _ c.args.word.now (map decimal c.args.numbers.now) (map decimal c.args.ids.now)
          (c.lines_are_joined.ensures _ _) c.in_ok-open.ensures.ok c.in_ok-numbers.ensures.ok c.in_ok-ids.ensures.ok c.close.ensures.ok;
    }

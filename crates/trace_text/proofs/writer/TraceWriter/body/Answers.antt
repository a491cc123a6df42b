use Rattle.trace_text.proofs.writer.TraceWriter.body.Goals as goal

pub returns-in-Ask : goal.returns-in-Ask
returns-in-Ask c = rw c.in-Ask.is (rw c.as_slice.ensures at c.fields-in-Ask.ensures)

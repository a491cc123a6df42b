use Rattle.trace_text.proofs.writer.TraceWriter.refused.Goals as goal

pub returns-in-AlreadyVoter : goal.returns-in-AlreadyVoter
returns-in-AlreadyVoter c = rw c.in-AlreadyVoter.is (rw c.small-in-AlreadyVoter.ensures at c.line-in-AlreadyVoter.ensures)

pub returns-in-SameMargin : goal.returns-in-SameMargin
returns-in-SameMargin c = rw c.in-SameMargin.is (rw (c.small-in-SameMargin.ensures, c.from.ensures) at c.line-in-SameMargin.ensures)

use Rattle.trace_text.proofs.writer.TraceWriter.refused_by_group.Goals as goal

pub returns-in-NotRunning : goal.returns-in-NotRunning
returns-in-NotRunning c = rw c.in-NotRunning.is (rw c.small.ensures at c.line-in-NotRunning.ensures)

pub returns-in-ClientBusy : goal.returns-in-ClientBusy
returns-in-ClientBusy c = rw c.in-ClientBusy.is c.line-in-ClientBusy.ensures

pub returns-in-NumbersOut : goal.returns-in-NumbersOut
returns-in-NumbersOut c = rw c.in-NumbersOut.is c.line-in-NumbersOut.ensures

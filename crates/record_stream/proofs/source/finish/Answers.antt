use Rattle.record_stream.proofs.Endings.{finish_done, finish_stopped, finish_unwritten}
use Rattle.record_stream.proofs.source.finish.Goals as goal

pub returns-in_default-clause-ends : goal.returns-in_default-clause-ends
returns-in_default-clause-ends g c =
    finish_unwritten _ _ _ _ g.met.P.Player.history _ _ _ _ _ _ c.last_lines-played.result c.last_lines-played.ensures.last (rw c.as_slice.ensures.value at c.in_default.ensures.err)

pub returns-in-Ok-played-clause-ends : goal.returns-in-Ok-played-clause-ends
returns-in-Ok-played-clause-ends g c =
    finish_done _ _ _ _ g.met.P.Player.history _ _ _ _ _ _ c.last_lines-played.result _ c.in-Ok-played.is c.last_lines-played.ensures.last (rw c.as_slice.ensures.value at c.in-Ok.ensures.ok)

pub returns-in-Err-clause-ends : goal.returns-in-Err-clause-ends
returns-in-Err-clause-ends g c =
    finish_stopped _ _ _ _ g.met.P.Player.history _ _ _ _ _ _ c.in-Err.stop c.last_lines-played.result _ c.in-Err.is c.ended_by.ensures c.last_lines-played.ensures.last (rw c.as_slice.ensures.value at c.in-Ok.ensures.ok)

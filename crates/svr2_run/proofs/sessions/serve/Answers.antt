use Rattle.trace_model.specs.Session.{untagged}
use Rattle.svr2_run.proofs.Refusals.{session_refuses}
use Rattle.svr2_run.proofs.Serves.{told_serves}
use Rattle.svr2_run.proofs.sessions.serve.Goals as goal

pub returns-clause-serves : goal.returns-clause-serves
returns-clause-serves g c =
    told_serves untagged (g.S.Source.left c.args.source.now) (g.S.Source.left c.serve_session.new.source)
    (g.K.Sink.taken c.args.sink.now) (g.K.Sink.taken c.serve_session.new.sink) c.serve_session.result c.status_served.result c.status_served.ensures c.serve_session.ensures.ends

pub returns-clause-never_refused : goal.returns-clause-never_refused
returns-clause-never_refused g c = session_refuses c.serve_session.result c.status_served.result c.status_served.ensures

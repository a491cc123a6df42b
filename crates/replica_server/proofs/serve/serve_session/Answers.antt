use Rattle.trace_model.specs.Session.{untagged}
use Rattle.replica_server.proofs.Told.{told}
use Rattle.replica_server.proofs.serve.serve_session.Goals as goal

pub returns-clause-ends : goal.returns-clause-ends
returns-clause-ends g c =
    let (read, consumed, written, gained, ends) = c.serve.ensures.ends in
    told untagged (g.S.Source.left c.args.source.now) (g.S.Source.left c.serve.new.source) (g.K.Sink.taken c.args.sink.now) (g.K.Sink.taken c.serve.new.sink) read written c.serve.result consumed gained ends

use Rattle.trace_model.specs.Session.{tagged_by}
use Rattle.link_tags.specs.Hmac.{hmac_of}
use Rattle.svr2_run.proofs.Refusals.{session_refuses}
use Rattle.svr2_run.proofs.Serves.{told_serves}
use Rattle.svr2_run.proofs.sessions.tagged.Goals as goal

pub returns-clause-serves : goal.returns-clause-serves
returns-clause-serves g c =
    told_serves (tagged_by (hmac_of c.args.key)) (g.S.Source.left c.args.source.now) (g.S.Source.left c.serve_tagged.new.source)
    (g.K.Sink.taken c.args.sink.now) (g.K.Sink.taken c.serve_tagged.new.sink) c.serve_tagged.result c.status_served.result c.status_served.ensures c.serve_tagged.ensures.ends

pub returns-clause-never_refused : goal.returns-clause-never_refused
returns-clause-never_refused g c = session_refuses c.serve_tagged.result c.status_served.result c.status_served.ensures

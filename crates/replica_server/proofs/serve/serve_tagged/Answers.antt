use Rattle.std.proofs.Common.{◌≡◌, ap, subst}
use Rattle.link_tags.specs.Hmac.{hmac_of}
use Rattle.trace_model.specs.Session.{tagged_by}
use Rattle.replica_server.specs.Turning.{EndsSo}
use Rattle.replica_server.proofs.Told.{told}
use Rattle.replica_server.proofs.serve.serve_tagged.Goals as goal

pub returns-clause-ends : goal.returns-clause-ends
returns-clause-ends g c =
    let (read, consumed, written, gained, ends) = c.serve.ensures.ends in
    told (tagged_by (hmac_of c.args.key)) (g.S.Source.left c.args.source.now) (g.S.Source.left c.serve.new.source) (g.K.Sink.taken c.args.sink.now) (g.K.Sink.taken c.serve.new.sink) read written c.serve.result consumed gained
    (subst (λ t. EndsSo t read written (g.S.Source.left c.serve.new.source) c.serve.result) (ap (λ e. tagged_by (hmac_of e.key)) c.new.ensures) ends)

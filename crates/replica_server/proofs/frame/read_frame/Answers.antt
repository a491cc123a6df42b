use Rattle.std.proofs.Common.{◌≡◌, ◌+◌, false, Err, ap, subst, sym, ◌∙◌, arith}
use Rattle.std.specs.Int.{w32, from_be_bytes}
use Rattle.std.specs.Io.KnownBytes.{Consumes}
use Rattle.std.proofs.lemmas.List.{take_all}
use Rattle.replica_server.specs.Reading.{is_no_length, ReadsRest}
use Rattle.replica_server.proofs.FrameRead.{in_range, rest_failed}
use Rattle.replica_server.proofs.frame.read_frame.Goals as goal

pub returns-in-Err-clause-reads : goal.returns-in-Err-clause-reads
returns-in-Err-clause-reads g c =
    let head = c.fill.new.buffer in
    let spelled : c.from_be_bytes-length.result ≡ from_be_bytes w32 head = c.from_be_bytes-length.ensures in
    let reads = subst (ReadsRest (c.from_be_bytes-length.result + c.args.tag) (g.S.Source.left c.fill.new.source) (g.S.Source.left c.read_rest.new.source) c.read_rest.new.rest.items) c.in-Err.is c.read_rest.ensures.reads in
    let few = c.in_ok-count.ensures.few in
    let got = subst (Consumes (g.S.Source.left c.args.source.now) (g.S.Source.left c.fill.new.source)) (take_all c.in_ok-count.count head (omega (arith, c.if-count-lt4.false, c.fill.ensures.size))) c.in_ok-count.ensures.got in
    rest_failed c.args.tag head c.fill.ensures.size
    (subst (λ n. is_no_length n ≡ false) spelled (in_range c.from_be_bytes-length.result c.if-length-lt1.false c.if-length-gt-MAX_CONTENT.false))
    _ _ _ c.read_rest.new.rest.items c.read_rest.new.rest.items c.in-Err.why got
    (subst (λ n. ReadsRest (n + c.args.tag) (g.S.Source.left c.fill.new.source) (g.S.Source.left c.read_rest.new.source) c.read_rest.new.rest.items (Err c.in-Err.why)) spelled reads)

use Rattle.std.proofs.Common.{◌≡◌, [], inl, take, subst, sym, refl, arith}
use Rattle.std.specs.Io.KnownBytes.{Consumes}
use Rattle.std.proofs.KnownBytes.{Consumes-nil, Consumes-kept}
use Rattle.replica_server.proofs.Behind.{last_limit}
use Rattle.replica_server.proofs.Turned.{turn_done, turn_read_fault}
use Rattle.replica_server.proofs.serve.behind_last.Goals as goal

pub returns-in_default-clause-ends : goal.returns-in_default-clause-ends
returns-in_default-clause-ends g c = λ tagging read written s so_far full. (
  [],
  Consumes-kept _ _ _ [] (Consumes-nil (g.S.Source.left c.args.source.now)) c.in_default.ensures.bytes,
  turn_read_fault tagging read written s so_far [] (g.S.Source.left c.read.new.self) (inl (omega arith)) (omega (arith, full)),
)

pub returns-then-count-eq0-clause-ends : goal.returns-then-count-eq0-clause-ends
returns-then-count-eq0-clause-ends g c = λ tagging read written s so_far full.
    let bytes = c.in-Ok.ensures.bytes in
    let end = bytes.1 c.if-count-eq0.true (omega (arith, c.read.auto.buf)) in (
      [],
      subst (λ n. Consumes (g.S.Source.left c.args.source.now) (g.S.Source.left c.read.new.self) (take n c.read.new.buf)) c.if-count-eq0.true bytes.0,
      turn_done tagging read written s so_far (g.S.Source.left c.read.new.self) end (omega (arith, full)),
    )

pub returns-clause-ends : goal.returns-clause-ends
returns-clause-ends g c = λ tagging read written s so_far full.
    let bound = c.in-Ok.ensures.bound in (
      take c.in-Ok.count c.read.new.buf,
      c.in-Ok.ensures.bytes.0,
      last_limit tagging read written s so_far full (take c.in-Ok.count c.read.new.buf) (g.S.Source.left c.read.new.self) (omega (arith, bound, c.if-count-eq0.false)),
    )

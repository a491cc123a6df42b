use Rattle.std.proofs.Common.{◌≡◌, ◌+◌, ◌-◌, length, take, arith, subst, sym, ◌∙◌}
use Rattle.std.proofs.KnownBytes.{Consumes-trans}
use Rattle.std.specs.Io.KnownBytes.{Consumes}
use Rattle.replica_server.proofs.Filling.{filled, same_length}
use Rattle.replica_server.proofs.fill.fill.Goals as goal

pub loop-count-preserved : goal.loop-count-preserved
loop-count-preserved g c =
    let n = c.loop-count.count in
    let k = length c.loop-count.buffer - n in
    let bound = c.in_ok-more.ensures.bound in
    let later = c.in_ok-more.ensures.cause.later in
    let part = c.read.auto.buf in
    let size = same_length n k c.loop-count.buffer c.read.new.buf (omega (arith, c.loop-count.invariant.within)) (omega (arith, part)) in
    record {
      within = omega (arith, bound, size, part);
      size = size ∙ c.loop-count.invariant.size;
      got =
          subst (Consumes (g.S.Source.left c.args.source.now) (g.S.Source.left c.read.new.self))
          (sym (filled n k c.in_ok-more.more c.loop-count.buffer c.read.new.buf c.loop-count.invariant.within (omega (arith, bound))))
          (Consumes-trans _ _ _ _ _ c.loop-count.invariant.got c.in_ok-more.ensures.bytes.0);
      later = omega (arith, later, c.loop-count.invariant.later);
    }

use Rattle.std.proofs.Common.{arith, length-drop}
use Rattle.std.proofs.lemmas.List.{take_rest}
use Rattle.byte_streams.proofs.Prefixes.{Appends-piece}
use Rattle.byte_streams.proofs.streams.write_all.Goals as goal

pub loop-done-preserved : goal.loop-done-preserved
loop-done-preserved g c =
    let bound = c.in_ok-done.ensures.bound in
    let later = c.write.ensures.cause.later in
    record {
      within = omega (arith, bound, length-drop c.loop-done.done c.args.bytes.now);
      taken = Appends-piece _ _ _ _ _ _ c.loop-done.invariant.taken (rw (take_rest c.args.bytes.now c.loop-done.done) at c.in_ok-done.ensures.bytes);
      later = omega (arith, later);
    }

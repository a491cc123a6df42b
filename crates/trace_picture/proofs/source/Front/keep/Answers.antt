use Rattle.std.proofs.Common.{refl, arith, length-append}
use Rattle.trace_picture.proofs.Taking.{start_refused, start_taken}
use Rattle.trace_picture.proofs.source.Front.keep.Goals as goal

pub returns-then-len-start-gt-MAX_LINE-clause-takes : goal.returns-then-len-start-gt-MAX_LINE-clause-takes
returns-then-len-start-gt-MAX_LINE-clause-takes c = λ bytes lacks s.
    let f = c.args.self.now in
    start_refused f f.lines bytes c.args.start.now lacks s refl
    (omega (arith, c.if-len-start-gt-MAX_LINE.true, c.len.ensures, f.pending.ok.0, length-append f.pending.items c.args.start.now))

pub returns-in-Ok-clause-takes : goal.returns-in-Ok-clause-takes
returns-in-Ok-clause-takes c = λ bytes lacks s.
    let f = c.args.self.now in
    start_taken f _ bytes c.args.start.now lacks s refl c.in-Ok.ensures.items
    (omega (arith, c.if-len-start-gt-MAX_LINE.false, c.len.ensures, f.pending.ok.0, length-append f.pending.items c.args.start.now))

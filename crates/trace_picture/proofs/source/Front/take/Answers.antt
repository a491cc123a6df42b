use Rattle.std.proofs.Common.{◌+◌, ◌++◌, Err, Result, [], ◌∷◌, ap, sym, ◌∙◌, subst, take, arith}
use Rattle.std.proofs.lemmas.Result.{err_from_is_err_and}
use Rattle.trace_picture.specs.Taking.{IsFront, TakesBytes}
use Rattle.trace_lines.specs.declared.line.LineError.{LineError}
use Rattle.trace_audit.proofs.Taking.{found, from_there, size_there, to_the_end, up_to}
use Rattle.trace_picture.proofs.Taking.{wrong_within}
use Rattle.trace_picture.proofs.source.Front.take.Goals as goal

pub returns-in_err-end_line-clause-takes : goal.returns-in_err-end_line-clause-takes
returns-in_err-end_line-clause-takes c = λ bytes s.
    let piece = c.args.piece.now in
    let rest = c.loop-end.rest.now in
    let (at, is, size, so_far, lines) = c.loop-end.invariant in
    let f = found rest c.in-Some.end c.in-Some.ensures in
    let g = c.end_line.new.self in
    let e = c.in_err-end_line.field-0.0 in
    let p = err_from_is_err_and c.from_residual.result c.from_residual.ensures.1 in
    let told = subst (λ (r : Result (Unit {0}) LineError). TakesBytes r g ((bytes ++ take at piece) ++ (take c.in-Some.end rest ++ 10 ∷ []))) c.in_err-end_line.was
    (c.end_line.ensures.takes (bytes ++ take at piece) f.within (so_far bytes s)) in
    subst (λ (r : Result (Unit {0}) LineError). TakesBytes r g (bytes ++ piece)) (sym (p.1 ∙ ap Err p.2))
    (wrong_within g e bytes piece (at + (c.in-Some.end + 1)) (subst (TakesBytes (Err e) g) (up_to bytes piece rest at c.in-Some.end is f) told))

pub loop-end-preserved : goal.loop-end-preserved
loop-end-preserved c =
    let piece = c.args.piece.now in
    let rest = c.loop-end.rest.now in
    let (at, is, size, so_far, lines) = c.loop-end.invariant in
    let end = c.in-Some.end in
    let f = found rest end c.in-Some.ensures in
    let g = c.end_line.new.self in (
      at + (end + 1),
      from_there piece rest at end is,
      size_there piece rest at end f.high size,
      (λ bytes s.
          subst (IsFront g) (up_to bytes piece rest at end is f)
          (subst (λ (r : Result (Unit {0}) LineError). TakesBytes r g ((bytes ++ take at piece) ++ (take end rest ++ 10 ∷ []))) c.in_ok-end_line.was
          (c.end_line.ensures.takes (bytes ++ take at piece) f.within (so_far bytes s)))),
      omega (arith, lines, c.end_line.ensures.lines),
    )

pub returns-clause-takes : goal.returns-clause-takes
returns-clause-takes c = λ bytes s.
    let piece = c.args.piece.now in
    let rest = c.loop-end.rest.now in
    let (at, is, size, so_far, lines) = c.loop-end.invariant in
    subst (TakesBytes c.keep.result c.keep.new.self) (to_the_end bytes piece rest at is)
    (c.keep.ensures.takes (bytes ++ take at piece) (λ k lt p. c.in_default.ensures k (omega arith) lt p) (so_far bytes s))

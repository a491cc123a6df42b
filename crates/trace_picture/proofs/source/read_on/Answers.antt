use Rattle.std.proofs.Common.{arith, ap, ◌∙◌, ◌++◌, [], Err, length, take, inl, length-append, append-nil}
use Rattle.std.proofs.lemmas.List.{length-take, length-take-le}
use Rattle.std.proofs.KnownBytes.{Consumes-kept, Consumes-nil, Consumes-trans}
use Rattle.byte_streams.proofs.Rises.{Rose-after}
use Rattle.trace_audit.proofs.Pieces.{over}
use Rattle.trace_audit.proofs.Taking.{no_lines}
use Rattle.trace_picture.proofs.Pieces.{all_taken, at_end, bad_piece, front_piece, no_fault}
use Rattle.trace_picture.proofs.source.read_on.Goals as goal

pub loop-count-init : goal.loop-count-init
loop-count-init g c = record {
  so_far = ([], Consumes-nil _, c.requires.none, omega arith, omega (arith, c.requires.none.lines, ap length no_lines));
  later = omega arith;
}

pub returns-in_default-clause-ends : goal.returns-in_default-clause-ends
returns-in_default-clause-ends g c =
    let (read, consumed, front, room, count) = c.loop-count.invariant.so_far in
    (read, Consumes-kept _ _ _ read consumed c.in_default.ensures.bytes, tt)

pub returns-in_default-clause-later : goal.returns-in_default-clause-later
returns-in_default-clause-later g c = omega (arith, c.loop-count.invariant.later, c.read.ensures.cause.later)

pub returns-in_default-clause-cause : goal.returns-in_default-clause-cause
returns-in_default-clause-cause g c = λ e. Rose-after _ _ _ c.loop-count.invariant.later c.in_default.ensures.cause.failed

pub end-requires : goal.end-requires
end-requires g c =
    let (read, consumed, front, room, count) = c.loop-count.invariant.so_far in
    omega (arith, room, count)

pub returns-then-count-eq0-clause-ends : goal.returns-then-count-eq0-clause-ends
returns-then-count-eq0-clause-ends g c =
    let (read, consumed, front, room, count) = c.loop-count.invariant.so_far in
    let bytes = c.in-Ok.ensures.bytes in
    let end = bytes.1 c.if-count-eq0.true (omega (arith, c.read.auto.buf, c.loop-count.auto.buffer, c.requires.size)) in
    let none = rw c.if-count-eq0.true at bytes.0 in (
      read,
      rw append-nil at (Consumes-trans _ _ _ read [] consumed none),
      at_end c.end.result read _ end (omega (arith, room)) (c.end.ensures read front),
    )

pub returns-then-count-eq0-clause-later : goal.returns-then-count-eq0-clause-later
returns-then-count-eq0-clause-later g c = omega (arith, c.loop-count.invariant.later, c.read.ensures.cause.later)

pub returns-then-count-eq0-clause-cause : goal.returns-then-count-eq0-clause-cause
returns-then-count-eq0-clause-cause g c = λ e.
    let (read, consumed, front, room, count) = c.loop-count.invariant.so_far in
    absurd (no_fault c.end.result read (c.end.ensures read front) e)

pub take-requires-clause-room : goal.take-requires-clause-room
take-requires-clause-room g c =
    let (read, consumed, front, room, count) = c.loop-count.invariant.so_far in
    omega (arith, room, count, length-take c.min.result c.read.new.buf, c.read.auto.buf, c.loop-count.auto.buffer, c.requires.size)

pub returns-in-Err-Memory-clause-ends : goal.returns-in-Err-Memory-clause-ends
returns-in-Err-Memory-clause-ends g c =
    let (read, consumed, front, room, count) = c.loop-count.invariant.so_far in
    let n = c.in-Ok.count in
    let buf = c.read.new.buf in
    (read ++ take n buf, Consumes-trans _ _ _ read (take n buf) consumed c.in-Ok.ensures.bytes.0, tt)

pub returns-in-Err-Memory-clause-later : goal.returns-in-Err-Memory-clause-later
returns-in-Err-Memory-clause-later g c = omega (arith, c.loop-count.invariant.later, c.read.ensures.cause.later)

pub overflow_add-result : goal.overflow_add-result
overflow_add-result g c =
    let (read, consumed, front, room, count) = c.loop-count.invariant.so_far in
    omega (arith, room, count, c.take.ensures.lines, length-take c.min.result c.read.new.buf, c.read.auto.buf, c.loop-count.auto.buffer, c.requires.size)

pub returns-in-Err-Grammar-clause-ends : goal.returns-in-Err-Grammar-clause-ends
returns-in-Err-Grammar-clause-ends g c =
    let (read, consumed, front, room, count) = c.loop-count.invariant.so_far in
    let n = c.in-Ok.count in
    let buf = c.read.new.buf in (
      read ++ take n buf,
      Consumes-trans _ _ _ read (take n buf) consumed c.in-Ok.ensures.bytes.0,
      inl (bad_piece c.take.new.self c.take.result read buf n c.loop-count.room c.min.result (c.in-Err-Grammar.is ∙ ap Err c.in-Err-Grammar.field-0-is)
          c.min.ensures room c.in-Ok.ensures.bound.0 (c.take.ensures.takes read front)),
    )

pub returns-in-Err-Grammar-clause-later : goal.returns-in-Err-Grammar-clause-later
returns-in-Err-Grammar-clause-later g c = omega (arith, c.loop-count.invariant.later, c.read.ensures.cause.later)

pub returns-then-count-room-clause-ends : goal.returns-then-count-room-clause-ends
returns-then-count-room-clause-ends g c =
    let (read, consumed, front, room, count) = c.loop-count.invariant.so_far in
    let n = c.in-Ok.count in
    let buf = c.read.new.buf in (
      read ++ take n buf,
      Consumes-trans _ _ _ read (take n buf) consumed c.in-Ok.ensures.bytes.0,
      (over _ read buf n c.loop-count.room room c.if-count-room.true c.in-Ok.ensures.bound.0).0,
    )

pub returns-then-count-room-clause-later : goal.returns-then-count-room-clause-later
returns-then-count-room-clause-later g c = omega (arith, c.loop-count.invariant.later, c.read.ensures.cause.later)

pub loop-count-smaller : goal.loop-count-smaller
loop-count-smaller g c = omega (arith, c.if-count-eq0.false, c.if-count-room.false)

pub loop-count-preserved : goal.loop-count-preserved
loop-count-preserved g c =
    let (read, consumed, front, room, count) = c.loop-count.invariant.so_far in
    let n = c.in-Ok.count in
    let buf = c.read.new.buf in
    let next = front_piece c.take.new.self c.in-Ok-take.field-0 c.take.result read buf n c.loop-count.room c.min.result c.in-Ok-take.is c.min.ensures (c.take.ensures.takes read front) in
    let size = length-append read (take n buf) in
    let taken = length-take-le n buf c.in-Ok.ensures.bound.0 in
    record {
      so_far = (
        read ++ take n buf,
        Consumes-trans _ _ _ read (take n buf) consumed c.in-Ok.ensures.bytes.0,
        all_taken c.take.new.self read buf n c.loop-count.room c.if-count-room.false next,
        omega (arith, room, size, taken, c.if-count-room.false),
        omega (arith, count, size, taken, c.take.ensures.lines, c.min.ensures, length-take c.min.result buf),
      );
      later = omega (arith, c.loop-count.invariant.later, c.read.ensures.cause.later);
    }

use Rattle.std.proofs.Common.{arith, ap, ◌∙◌, ◌≤◌, ◌++◌, [], Err, length, take, drop, min, length-append, append-nil, append_assoc}
use Rattle.std.proofs.lemmas.List.{length-take, length-take-le}
use Rattle.std.proofs.KnownBytes.{Consumes-kept, Consumes-nil, Consumes-trans}
use Rattle.byte_streams.proofs.Rises.{Rose-after}
use Rattle.record_stream.proofs.Endings.{from_at_end, from_before, from_fault, from_in_piece, from_limit, from_unwritten, so_next, so_none}
use Rattle.record_stream.proofs.Faults.{stop_fails, stop_reads, stop_writes}
use Rattle.record_stream.proofs.Pieces.{piece_all, piece_limit, piece_parts, piece_passes, whole_buffer}
use Rattle.record_stream.proofs.source.play_pieces.Goals as goal

pub returns-in_default-clause-ends : goal.returns-in_default-clause-ends
returns-in_default-clause-ends g c = ([], Consumes-nil _, from_before _ _ _ _ g.met.P.Player.history g.met.P.Player.nothing _ _ _)

pub loop-count-init : goal.loop-count-init
loop-count-init g c = record {
  so_far = ([], Consumes-nil _, so_none _ _ _ _ g.met.P.Player.history _ _ _ c.new-pending.ensures.items, omega arith, omega (arith, c.requires.count, c.new-pending.ensures.len));
  live = c.requires.live;
  size = c.in-Ok.ensures.len;
  own = omega arith;
  reads = omega arith;
  writes = omega arith;
}

pub returns-in_default-read-clause-ends : goal.returns-in_default-read-clause-ends
returns-in_default-read-clause-ends g c =
    let (read, consumed, so_far, room, count) = c.loop-count.invariant.so_far in
    (read, Consumes-kept _ _ _ read consumed c.in_default-read.ensures.bytes, from_fault _ _ _ _ g.met.P.Player.history g.met.P.Player.nothing g.met.P.Player.unstopped g.met.P.Player.spent _ _ read _ _ _ _ so_far)

pub returns-in_default-read-clause-read_cause : goal.returns-in_default-read-clause-read_cause
returns-in_default-read-clause-read_cause g c e = Rose-after _ _ _ c.loop-count.invariant.reads c.in_default-read.ensures.cause.failed

pub finish-requires-clause-count : goal.finish-requires-clause-count
finish-requires-clause-count g c =
    let (read, consumed, so_far, room, count) = c.loop-count.invariant.so_far in
    omega (arith, room, count, ap length c.as_slice.ensures.value)

pub returns-then-count-eq0-clause-ends : goal.returns-then-count-eq0-clause-ends
returns-then-count-eq0-clause-ends g c =
    let (read, consumed, so_far, room, count) = c.loop-count.invariant.so_far in
    let bytes = c.in-Ok-read.ensures.bytes in
    let end = bytes.1 c.if-count-eq0.true (omega (arith, c.loop-count.invariant.size, c.as_mut_slice.ensures.len, c.read.auto.buf)) in
    let none = rw c.if-count-eq0.true at bytes.0 in (
      read,
      rw append-nil at (Consumes-trans _ _ _ read [] consumed none),
      from_at_end _ _ _ _ g.met.P.Player.history g.met.P.Player.nothing _ _ _ read _ _ _ _ _ c.finish.result end (omega (arith, room)) so_far (rw c.as_slice.ensures.value at c.finish.ensures.ends),
    )

pub returns-then-count-eq0-clause-write_cause : goal.returns-then-count-eq0-clause-write_cause
returns-then-count-eq0-clause-write_cause g c e = Rose-after _ _ _ c.loop-count.invariant.writes (c.finish.ensures.cause e)

pub take_piece-played-requires-clause-count : goal.take_piece-played-requires-clause-count
take_piece-played-requires-clause-count g c =
    let (read, consumed, so_far, room, count) = c.loop-count.invariant.so_far in
    let size = length-take (min c.in-Ok-read.count c.loop-count.room) c.deref.result.now in
    rw c.min.ensures (omega (arith, room, count, size))

pub returns-in_default-write_all-clause-ends : goal.returns-in_default-write_all-clause-ends
returns-in_default-write_all-clause-ends g c =
    let (read, consumed, so_far, room, count) = c.loop-count.invariant.so_far in
    let n = c.in-Ok-read.count in
    let buf = c.deref.ensures.value ∙ whole_buffer c.read.new.buf _ _ (omega (arith, c.as_mut_slice.ensures.len, c.read.auto.buf)) in
    let piece = take (min n c.loop-count.room) c.read.new.buf in
    let extra = drop (min n c.loop-count.room) (take n c.read.new.buf) in
    let parts = piece_parts c.read.new.buf n c.loop-count.room in
    let short : length (piece ++ extra) ≤ 65536 =
    rw parts (omega (arith, length-take n c.read.new.buf, c.loop-count.invariant.size, c.as_mut_slice.ensures.len, c.read.auto.buf)) in (
      (read ++ piece) ++ extra,
      rw (append_assoc read piece extra, parts) (Consumes-trans _ _ _ read (take n c.read.new.buf) consumed c.in-Ok-read.ensures.bytes.0),
      from_unwritten _ _ _ _ g.met.P.Player.history g.met.P.Player.nothing _ _ _ read piece extra _ _ _ _ _ _ c.take_piece-played.result short
          (piece_limit read c.read.new.buf n c.loop-count.room room c.in-Ok-read.ensures.bound.0) so_far
          (rw (c.min.ensures, buf, c.clear.ensures.items) at c.take_piece-played.ensures.plays) (rw c.as_slice-in-loop-count.ensures.value at c.in_default-write_all.ensures.err),
    )

pub returns-in-Err-clause-ends : goal.returns-in-Err-clause-ends
returns-in-Err-clause-ends g c =
    let (read, consumed, so_far, room, count) = c.loop-count.invariant.so_far in
    let n = c.in-Ok-read.count in
    let buf = c.deref.ensures.value ∙ whole_buffer c.read.new.buf _ _ (omega (arith, c.as_mut_slice.ensures.len, c.read.auto.buf)) in
    let piece = take (min n c.loop-count.room) c.read.new.buf in
    let extra = drop (min n c.loop-count.room) (take n c.read.new.buf) in
    let parts = piece_parts c.read.new.buf n c.loop-count.room in
    let short : length (piece ++ extra) ≤ 65536 =
    rw parts (omega (arith, length-take n c.read.new.buf, c.loop-count.invariant.size, c.as_mut_slice.ensures.len, c.read.auto.buf)) in (
      (read ++ piece) ++ extra,
      rw (append_assoc read piece extra, parts) (Consumes-trans _ _ _ read (take n c.read.new.buf) consumed c.in-Ok-read.ensures.bytes.0),
      from_in_piece _ _ _ _ g.met.P.Player.history g.met.P.Player.nothing _ _ _ read piece extra _ _ _ _ _ _ c.in-Err.stop c.take_piece-played.result _ short
          (piece_limit read c.read.new.buf n c.loop-count.room room c.in-Ok-read.ensures.bound.0) so_far c.in-Err.is c.ended_by.ensures
          (rw (c.min.ensures, buf, c.clear.ensures.items) at c.take_piece-played.ensures.plays) (rw c.as_slice-in-loop-count.ensures.value at c.in-Ok-write_all.ensures.ok),
    )

pub returns-in-Err-clause-read_cause : goal.returns-in-Err-clause-read_cause
returns-in-Err-clause-read_cause g c e = absurd (stop_reads c.in-Err.stop _ c.ended_by.ensures e)

pub returns-in-Err-clause-write_cause : goal.returns-in-Err-clause-write_cause
returns-in-Err-clause-write_cause g c e = absurd (stop_writes c.in-Err.stop _ c.ended_by.ensures e)

pub returns-then-count-room-clause-ends : goal.returns-then-count-room-clause-ends
returns-then-count-room-clause-ends g c =
    let (read, consumed, so_far, room, count) = c.loop-count.invariant.so_far in
    let n = c.in-Ok-read.count in
    let buf = c.deref.ensures.value ∙ whole_buffer c.read.new.buf _ _ (omega (arith, c.as_mut_slice.ensures.len, c.read.auto.buf)) in
    let piece = take (min n c.loop-count.room) c.read.new.buf in
    let fed = rw (c.min.ensures, buf, c.clear.ensures.items) at c.in_default-played.ensures in
    let (more, goes, lines) = fed.plays in
    let taken = rw (c.as_slice-in-loop-count.ensures.value, lines) at c.in-Ok-write_all.ensures.ok in
    let next = so_next _ _ _ _ g.met.P.Player.history _ _ _ read piece _ _ more _ _ _ so_far goes taken fed.rest in
    let passes = piece_passes read c.read.new.buf n c.loop-count.room room c.if-count-room.true c.in-Ok-read.ensures.bound.0 in (
      read ++ take n c.read.new.buf,
      Consumes-trans _ _ _ read (take n c.read.new.buf) consumed c.in-Ok-read.ensures.bytes.0,
      from_limit _ _ _ _ g.met.P.Player.history g.met.P.Player.nothing g.met.P.Player.unstopped g.met.P.Player.spent _ _ (read ++ piece) _ _ _ _ _ passes.0 passes.1 next,
    )

pub loop-count-preserved : goal.loop-count-preserved
loop-count-preserved g c =
    let (read, consumed, so_far, room, count) = c.loop-count.invariant.so_far in
    let n = c.in-Ok-read.count in
    let buf = c.deref.ensures.value ∙ whole_buffer c.read.new.buf _ _ (omega (arith, c.as_mut_slice.ensures.len, c.read.auto.buf)) in
    let piece = take n c.read.new.buf in
    let fed = rw (c.min.ensures, buf, piece_all c.read.new.buf n c.loop-count.room c.if-count-room.false, c.clear.ensures.items) at c.in_default-played.ensures in
    let (more, goes, lines) = fed.plays in
    let taken = rw (c.as_slice-in-loop-count.ensures.value, lines) at c.in-Ok-write_all.ensures.ok in
    let size = length-append read piece in
    let taken_size = length-take-le n c.read.new.buf c.in-Ok-read.ensures.bound.0 in
    record {
      so_far = (
        read ++ piece,
        Consumes-trans _ _ _ read piece consumed c.in-Ok-read.ensures.bytes.0,
        so_next _ _ _ _ g.met.P.Player.history _ _ _ read piece _ _ more _ _ _ so_far goes taken fed.rest,
        omega (arith, room, size, taken_size, c.if-count-room.false),
        omega (arith, count, size, fed.counted),
      );
      live = fed.live;
      size = c.loop-count.invariant.size;
      own = omega (arith, c.loop-count.invariant.own, c.take_piece-played.ensures.own_cause.later);
      reads = omega (arith, c.loop-count.invariant.reads, c.read.ensures.cause.later);
      writes = omega (arith, c.loop-count.invariant.writes, c.write_all.ensures.cause.later);
    }

pub returns-in-Err-clause-own_cause : goal.returns-in-Err-clause-own_cause
returns-in-Err-clause-own_cause g c e =
    Rose-after _ _ _ c.loop-count.invariant.own (c.take_piece-played.ensures.own_cause.failed (c.in-Err.is ∙ ap Err (stop_fails c.in-Err.stop _ c.ended_by.ensures e)))

pub returns-then-count-eq0-clause-own_cause : goal.returns-then-count-eq0-clause-own_cause
returns-then-count-eq0-clause-own_cause g c e = Rose-after _ _ _ c.loop-count.invariant.own (c.finish.ensures.own_cause e)

pub returns-then-count-eq0-clause-read_cause : goal.returns-then-count-eq0-clause-read_cause
returns-then-count-eq0-clause-read_cause g c e = let ends = c.finish.ensures.ends in absurd (ends.reads.0 e)

pub returns-in_default-write_all-clause-write_cause : goal.returns-in_default-write_all-clause-write_cause
returns-in_default-write_all-clause-write_cause g c e = Rose-after _ _ _ c.loop-count.invariant.writes c.in_default-write_all.ensures.cause.failed

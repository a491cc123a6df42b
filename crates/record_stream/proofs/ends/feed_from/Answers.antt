use Rattle.std.proofs.lemmas.List.{take_rest}
use Rattle.memchr.specs.Find.{is_byte}
use Rattle.record_stream.proofs.Walks.{none_from, some_from}
use Rattle.record_stream.proofs.ends.feed_from.Goals as goal

pub returns-in_err-memchr : goal.returns-in_err-memchr
returns-in_err-memchr c =
    let piece = c.args.piece.now in
    let start = c.args.start in
    rw c.from_residual.ensures (none_from (is_byte 10) piece start c.requires (rw (take_rest piece start) at c.in_err-memchr.ensures))

pub returns : goal.returns
returns c =
    let piece = c.args.piece.now in
    let start = c.args.start in
    some_from (is_byte 10) piece start c.requires c.in_ok-memchr.field-0 (rw (take_rest piece start) at c.in_ok-memchr.ensures)

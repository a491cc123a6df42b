use Rattle.std.proofs.Common.{◌≡◌, ◌+◌, Err, Ok, ap, subst, sym, ◌∙◌, arith, take, drop}
use Rattle.byte_streams.specs.Streams.{AppendsPrefix}
use Rattle.std.specs.Io.KnownBytes.{Appends}
use Rattle.replica_server.specs.Reading.{ReadsFrame}
use Rattle.replica_server.specs.Turning.{Spot, TurnsFrom}
use Rattle.replica_server.proofs.Turning.{turns_none, turns_unread, turns_unanswered, turns_write_fault, turns_on}
use Rattle.replica_server.proofs.server.Server.turn.Goals as goal

pub returns-in-Ok-None-clause-turns : goal.returns-in-Ok-None-clause-turns
returns-in-Ok-None-clause-turns g c = λ read written so_far.
    let s : Spot = record { at = c.args.self.now.at; number = c.args.self.now.number; enclave = c.args.self.now.enclave } in
    turns_none (g.T.Tags.tagging c.args.self.now.tags) read written s so_far c.requires.count (g.S.Source.left c.args.source.now) (g.S.Source.left c.read_frame.new.source) (g.K.Sink.taken c.args.sink.now)
    c.size.result c.size.ensures.size s c.read_frame.new.frame.items
    (subst (λ o. ReadsFrame c.size.result (g.S.Source.left c.args.source.now) (g.S.Source.left c.read_frame.new.source) c.read_frame.new.frame.items (Ok o)) c.in-Ok-None.field-0-is c.in-Ok-None.ensures.reads)

pub returns-in-Err-clause-turns : goal.returns-in-Err-clause-turns
returns-in-Err-clause-turns g c = λ read written so_far.
    let s : Spot = record { at = c.args.self.now.at; number = c.args.self.now.number; enclave = c.args.self.now.enclave } in
    let tagging = g.T.Tags.tagging c.args.self.now.tags in
    let left = g.S.Source.left c.read_frame.new.source in
    let taken = g.K.Sink.taken c.args.sink.now in
    subst (λ r. TurnsFrom tagging read written s (g.S.Source.left c.args.source.now) left taken taken (Err r)) (sym c.unread.ensures)
    (turns_unread tagging read written s so_far c.requires.count (g.S.Source.left c.args.source.now) left taken c.size.result c.size.ensures.size s c.read_frame.new.frame.items c.in-Err.why c.in-Err.ensures.reads)

pub returns-in-Err-answered-clause-turns : goal.returns-in-Err-answered-clause-turns
returns-in-Err-answered-clause-turns g c = λ read written so_far.
    let s : Spot = record { at = c.args.self.now.at; number = c.args.self.now.number; enclave = c.args.self.now.enclave } in
    let tagging = g.T.Tags.tagging c.args.self.now.tags in
    let left = g.S.Source.left c.read_frame.new.source in
    let taken = g.K.Sink.taken c.args.sink.now in
    let n = c.in-Ok-Some.size in
    subst (λ r. TurnsFrom tagging read written s (g.S.Source.left c.args.source.now) left taken taken (Err r)) (sym c.unanswered.ensures)
    (turns_unanswered tagging read written s so_far c.requires.count (g.S.Source.left c.args.source.now) left taken c.size.result c.size.ensures.size n c.read_frame.new.frame.items
    c.split_at.result.0.now c.split_at.result.1.now
    (subst (λ o. ReadsFrame c.size.result (g.S.Source.left c.args.source.now) left c.read_frame.new.frame.items (Ok o)) c.in-Ok-Some.field-0-is c.in-Ok-Some.ensures.reads)
    (c.split_at.ensures.front ∙ ap (take n) c.deref.ensures.value) (c.split_at.ensures.back ∙ ap (drop n) c.deref.ensures.value)
    c.answer-answered.new.enclave c.answer-answered.new.out.items s c.in-Err-answered.why c.in-Err-answered.ensures.answers)

pub returns-in_default-write_all-clause-turns : goal.returns-in_default-write_all-clause-turns
returns-in_default-write_all-clause-turns g c = λ read written so_far.
    let s : Spot = record { at = c.args.self.now.at; number = c.args.self.now.number; enclave = c.args.self.now.enclave } in
    let tagging = g.T.Tags.tagging c.args.self.now.tags in
    let left = g.S.Source.left c.read_frame.new.source in
    let taken = g.K.Sink.taken c.args.sink.now in
    let now = g.K.Sink.taken c.write_all.new.sink in
    let n = c.in-Ok-Some.size in
    turns_write_fault tagging read written s so_far c.requires.count (g.S.Source.left c.args.source.now) left taken c.size.result c.size.ensures.size n c.read_frame.new.frame.items
    c.split_at.result.0.now c.split_at.result.1.now
    (subst (λ o. ReadsFrame c.size.result (g.S.Source.left c.args.source.now) left c.read_frame.new.frame.items (Ok o)) c.in-Ok-Some.field-0-is c.in-Ok-Some.ensures.reads)
    (c.split_at.ensures.front ∙ ap (take n) c.deref.ensures.value) (c.split_at.ensures.back ∙ ap (drop n) c.deref.ensures.value)
    c.answer-answered.new.enclave c.answer-answered.new.out.items s now (subst (AppendsPrefix taken now) c.as_slice.ensures.value c.in_default-write_all.ensures.err) c.in_default.ensures.answers

pub returns-clause-turns : goal.returns-clause-turns
returns-clause-turns g c = λ read written so_far.
    let s : Spot = record { at = c.args.self.now.at; number = c.args.self.now.number; enclave = c.args.self.now.enclave } in
    let tagging = g.T.Tags.tagging c.args.self.now.tags in
    let left = g.S.Source.left c.read_frame.new.source in
    let taken = g.K.Sink.taken c.args.sink.now in
    let now = g.K.Sink.taken c.write_all.new.sink in
    let n = c.in-Ok-Some.size in
    turns_on tagging read written s so_far c.requires.count (g.S.Source.left c.args.source.now) left taken c.size.result c.size.ensures.size n c.read_frame.new.frame.items
    c.split_at.result.0.now c.split_at.result.1.now
    (subst (λ o. ReadsFrame c.size.result (g.S.Source.left c.args.source.now) left c.read_frame.new.frame.items (Ok o)) c.in-Ok-Some.field-0-is c.in-Ok-Some.ensures.reads)
    (c.split_at.ensures.front ∙ ap (take n) c.deref.ensures.value) (c.split_at.ensures.back ∙ ap (drop n) c.deref.ensures.value)
    c.answer-answered.new.enclave c.answer-answered.new.out.items (c.args.self.now.at + (4 + c.len.result)) now (omega (arith, c.len.ensures, c.read_frame.new.frame.ok))
    (subst (Appends taken now) c.as_slice.ensures.value c.in-Ok.ensures.ok) c.in_default.ensures.answers

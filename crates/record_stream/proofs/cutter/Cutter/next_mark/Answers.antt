use Rattle.std.proofs.Common.{arith, ◌+◌, length}
use Rattle.memchr.specs.Find.{Nowhere, Passes}
use Rattle.record_stream.specs.Plain.{is_marked}
use Rattle.std.proofs.lemmas.List.{take_rest}
use Rattle.record_stream.proofs.Strides.{walk_found, walk_from, walk_next, walk_none}
use Rattle.record_stream.proofs.cutter.Cutter.next_mark.Goals as goal

pub returns-then-self-le-WIDTH-clause-place : goal.returns-then-self-le-WIDTH-clause-place
returns-then-self-le-WIDTH-clause-place c =
    let self = c.loop-self.self in
    let none = walk_none self.piece.now self.from self.base self.marks self.walked c.loop-self-test.true in
    let end = c.if-self-le-WIDTH.true in
    let here : Nowhere (Passes is_marked self.piece.now) self.from (length self.piece.now) = λ k low high. none k low (omega arith) high in
    rw (c.loop-self.invariant.piece, c.loop-self.invariant.from) at here

pub invariant_of-self : goal.invariant_of-self
invariant_of-self c =
    let self = c.loop-self.self in
    let none = walk_none self.piece.now self.from self.base self.marks self.walked c.loop-self-test.true in
    let near = self.walked.near in
    let more = c.if-self-le-WIDTH.false in
    let looked = rw (take_rest self.piece.now (self.base + 64)) at c.marks-self.ensures in
    record {
      walked =
          walk_from self.piece.now self.from (self.base + 64) c.marks-self.result near (omega arith) c.marks-self.type_inv (λ k low high p. none k low high (omega arith) p)
          looked.each looked.within;
    }

pub invariant_of-self-2 : goal.invariant_of-self-2
invariant_of-self-2 c =
    let self = c.loop-self.self in
    record { walked = walk_next self.piece.now self.from self.base self.marks self.walked c.loop-self-test.false }

pub returns-clause-place : goal.returns-clause-place
returns-clause-place c =
    let self = c.loop-self.self in
    rw (c.loop-self.invariant.piece, c.loop-self.invariant.from) at (walk_found self.piece.now self.from self.base self.marks self.walked c.loop-self-test.false)

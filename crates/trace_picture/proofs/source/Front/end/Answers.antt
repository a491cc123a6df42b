use Rattle.trace_audit.proofs.Taking.{is_none, is_some}
use Rattle.trace_picture.proofs.Taking.{ends_whole, ends_within}
use Rattle.trace_picture.proofs.source.Front.end.Goals as goal

pub returns-then-is_empty : goal.returns-then-is_empty
returns-then-is_empty c = λ bytes s.
    let p = c.args.self.now.pending in
    ends_whole c.args.self.now bytes s (is_none p.items p.len c.is_empty.result p.ok.0 c.is_empty.ensures c.if-is_empty.true)

pub returns-else-is_empty : goal.returns-else-is_empty
returns-else-is_empty c = λ bytes s.
    let p = c.args.self.now.pending in
    ends_within c.args.self.now bytes s (is_some p.items p.len c.is_empty.result p.ok.0 c.is_empty.ensures c.if-is_empty.false)

use Rattle.std.proofs.Common.{◌+◌, sym, ap, ◌∙◌}
use Rattle.trace_model.specs.Audit.{Accepts, Refuses}
use Rattle.trace_audit.specs.Stands.{verdict_of, why_of}
use Rattle.trace_audit.proofs.Taking.{ends_whole, ends_within, is_none, is_some}
use Rattle.trace_audit.proofs.source.Front.finish.Goals as goal

pub returns-then-not-is_empty : goal.returns-then-not-is_empty
returns-then-not-is_empty c = λ bytes s.
    ends_within c.args.self.now bytes s (is_some c.args.self.now.pending.items c.args.self.now.pending.len c.is_empty.result c.args.self.now.pending.ok.0 c.is_empty.ensures c.if-not-is_empty.true)

pub returns-in-Ok : goal.returns-in-Ok
returns-in-Ok c = λ bytes s.
    let f = c.args.self.now in
    ends_whole f bytes (Accepts f.lines) s (is_none f.pending.items f.pending.len c.is_empty.result f.pending.ok.0 c.is_empty.ensures c.if-not-is_empty.false)
    (sym (c.finish.ensures s.state f.lines s.stands) ∙ ap (verdict_of f.lines) c.in-Ok.is)

pub returns-in-Err : goal.returns-in-Err
returns-in-Err c = λ bytes s.
    let f = c.args.self.now in
    ends_whole f bytes (Refuses (f.lines + 1) (why_of c.in-Err.why)) s (is_none f.pending.items f.pending.len c.is_empty.result f.pending.ok.0 c.is_empty.ensures c.if-not-is_empty.false)
    (sym (c.finish.ensures s.state f.lines s.stands) ∙ ap (verdict_of f.lines) c.in-Err.is)

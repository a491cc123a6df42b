use Rattle.std.proofs.Common.{[], ◌∷◌, ◌++◌, None, Err, refl, subst}
use Rattle.trace_model.specs.TraceLines.{Says, TraceLine}
use Rattle.trace_lines.specs.Meant.{Tells}
use Rattle.trace_lines.specs.declared.line.LineError.{LineError}
use Rattle.trace_model.specs.Audit as model
use Rattle.trace_lines.specs.Meant.{meant}
use Rattle.trace_audit.proofs.Playable.{playable}
use Rattle.trace_audit.proofs.ReadLines.{answered, no_grammar, says_only}
use Rattle.trace_audit.proofs.told.tell.Goals as goal

pub line-requires : goal.line-requires
line-requires c = playable c.args.line.now (meant c.in-Ok.said) c.in-Ok.ensures.found

pub returns-in-Ok : goal.returns-in-Ok
returns-in-Ok c = λ state s.
    let what = meant c.in-Ok.said in
    answered c.line.result state (c.args.line.now ++ 10 ∷ []) what (model.audited state what) c.line.new.self
    (says_only c.args.line.now what c.in-Ok.ensures.found c.in-Ok.ensures.only) refl (c.line.ensures.step state s)

pub returns-in-Err-Grammar : goal.returns-in-Err-Grammar
returns-in-Err-Grammar c = λ state s. (
  None,
  no_grammar c.args.line.now (subst (λ (x : LineError). (what : TraceLine) → Says c.args.line.now what → Tells (Err x) what) c.in-Err-Grammar.field-0-is c.in-Err-Grammar.ensures.only),
  refl,
)

use Rattle.std.proofs.Common.{rules, sym, ◌∙◌, ◌≡◌, codes, decimal, [], ◌∷◌, ◌++◌}
use Rattle.trace_audit.specs.Stands.{why_of}
use Rattle.svr2_run.specs.Audits.{reason_word}
use Rattle.svr2_run.proofs.Auditing.{refuse_parts}
use Rattle.svr2_run.proofs.audit.refuse_line.Goals as goal

pub returns : goal.returns
returns c =
    let built : c.push-2.new.self.items ≡ (((codes "refuse," ++ decimal c.args.number) ++ (44 ∷ [])) ++ reason_word (why_of c.args.why)) ++ (10 ∷ []) = search rules in
    built ∙ sym (refuse_parts (decimal c.args.number) (reason_word (why_of c.args.why)))

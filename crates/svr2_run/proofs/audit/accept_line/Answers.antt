use Rattle.std.proofs.Common.{rules, sym, ◌∙◌, ◌≡◌, codes, decimal, [], ◌∷◌, ◌++◌}
use Rattle.svr2_run.proofs.Auditing.{accept_parts}
use Rattle.svr2_run.proofs.audit.accept_line.Goals as goal

pub returns : goal.returns
returns c =
    let built : c.push.new.self.items ≡ (codes "accept," ++ decimal c.args.lines) ++ (10 ∷ []) = search rules in
    built ∙ sym (accept_parts (decimal c.args.lines))

use Rattle.std.proofs.Common.{rules, sym, ◌∙◌, codes, decimal, ◌≡◌, [], ◌∷◌, ◌++◌}
use Rattle.schedule_model.specs.Lines.{cause_word}
use Rattle.schedule_text.proofs.Joins.{stopped_parts}
use Rattle.schedule_text.proofs.line.record_line.Goals as goal

pub returns : goal.returns
returns c =
    let built : c.push-2.new.self.items
    ≡ ((((codes "stopped,schedule," ++ decimal c.args.number) ++ (44 ∷ cause_word c.args.fault.now.cause)) ++ (44 ∷ [])) ++ decimal c.args.fault.now.field) ++ (10 ∷ []) = search rules in
    built ∙ sym (stopped_parts (decimal c.args.number) (cause_word c.args.fault.now.cause) (decimal c.args.fault.now.field))

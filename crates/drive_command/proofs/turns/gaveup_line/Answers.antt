use Rattle.std.proofs.Common.{rules, sym, ◌∙◌, ◌≡◌, codes, decimal, [], ◌∷◌, ◌++◌}
use Rattle.schedule_model.specs.Lines.{hex}
use Rattle.trace_model.specs.Driver.{max_turns}
use Rattle.drive_command.proofs.Given.{gaveup_parts}
use Rattle.drive_command.proofs.turns.gaveup_line.Goals as goal

pub returns : goal.returns
returns c =
    let built : c.push-2.new.self.items ≡ (((codes "gaveup" ++ (44 ∷ hex c.args.client.now.0)) ++ (44 ∷ [])) ++ decimal max_turns) ++ (10 ∷ []) = search rules in
    built ∙ sym (gaveup_parts c.args.client.now)

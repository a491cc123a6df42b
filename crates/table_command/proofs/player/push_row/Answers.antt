use Rattle.std.proofs.Common.{rules, sym, ap, ◌∙◌, ◌≡◌, decimal, [], ◌∷◌, ◌++◌, append_assoc}
use Rattle.schedule_text.specs.Joined.{after_commas}
use Rattle.schedule_text.proofs.Joins.{line_of_fields}
use Rattle.table_command.specs.Course.{outcome}
use Rattle.table_command.proofs.player.push_row.Goals as goal

pub returns-clause-line : goal.returns-clause-line
returns-clause-line c =
    let line = c.args.line.now.items in
    let said = (outcome c.args.table.now c.args.ask.now).1 in
    let first = decimal c.args.number in
    let built : c.push.new.self.items ≡ ((line ++ first) ++ after_commas said) ++ (10 ∷ []) = search rules in
    built ∙ append_assoc (line ++ first) (after_commas said) (10 ∷ []) ∙ append_assoc line first (after_commas said ++ (10 ∷ []))
    ∙ ap (λ l. line ++ l) (sym (append_assoc first (after_commas said) (10 ∷ [])) ∙ sym (line_of_fields first said))

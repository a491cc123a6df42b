use Rattle.std.proofs.Common.{rules, ap, sym, decimal, ◌∙◌, ◌≡◌, ◌∷◌, [], ◌++◌, ◌+◌, ◌<◌}
use Rattle.std.proofs.lemmas.Fmt.{decimal_digit}
use Rattle.schedule_text.proofs.line.push_number.Goals as goal

pub returns-then-number-lt10-clause-ok : goal.returns-then-number-lt10-clause-ok
returns-then-number-lt10-clause-ok c =
    let small : c.args.number < 10 = search rules in
    let pushed : c.push.new.self.items ≡ c.args.line.now.items ++ (48 + c.args.number) ∷ [] = search rules in
    pushed ∙ ap (λ digits. c.args.line.now.items ++ digits) (sym (decimal_digit c.args.number small))

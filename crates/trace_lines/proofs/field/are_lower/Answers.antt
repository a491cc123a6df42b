use Rattle.std.proofs.Common.{sym, ◌∙◌, rules, tests}
use Rattle.std.proofs.lemmas.Iterator.{YieldsList-from_slice}
use Rattle.std.proofs.lemmas.Iterator.Search.{all_from_yields_List}
use Rattle.std.proofs.lemmas.List.Folds.{list_all-map}
use Rattle.trace_lines.specs.Fields.{is_lower}
use Rattle.trace_lines.proofs.field.are_lower.Goals as goal

pub returns : goal.returns
returns c =
    all_from_yields_List (λ text. is_lower text.now) _ _ c.all.result c.all.ensures.ran (YieldsList-from_slice c.args.fields.now cc) (λ x b q k. search (rules, tests))
    ∙ sym (list_all-map is_lower (λ field. field.now) c.args.fields.now)

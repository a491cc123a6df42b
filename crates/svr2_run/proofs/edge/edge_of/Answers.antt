use Rattle.std.proofs.Common.{rules, ◌∙◌, string_bytes}
use Rattle.svr2_run.proofs.Edging.{no_edge}
use Rattle.svr2_run.proofs.edge.edge_of.Goals as goal

pub returns-in_default-as_str : goal.returns-in_default-as_str
returns-in_default-as_str c =
    no_edge string_bytes c.args.words.now c.in-Some.name.now (search rules)
    (λ e. c.in_default-as_str.not-serve (c.as_str.ensures.value ∙ e))
    (λ e. c.in_default-as_str.not-group (c.as_str.ensures.value ∙ e))

use Rattle.std.proofs.Common.{rules, ◌∙◌, string_bytes}
use Rattle.svr2_run.proofs.Parses.{no_command}
use Rattle.svr2_run.proofs.words.read_words.Goals as goal

pub returns-in_default-as_str-clause-command : goal.returns-in_default-as_str-clause-command
returns-in_default-as_str-clause-command c =
    no_command string_bytes c.args.words.now c.in-Some.name.now (search rules) (
      (λ e. c.in_default-as_str.not-replay (c.as_str.ensures.value ∙ e)),
      (λ e. c.in_default-as_str.not-drive (c.as_str.ensures.value ∙ e)),
      (λ e. c.in_default-as_str.not-table (c.as_str.ensures.value ∙ e)),
      (λ e. c.in_default-as_str.not-serve (c.as_str.ensures.value ∙ e)),
      (λ e. c.in_default-as_str.not-tagged (c.as_str.ensures.value ∙ e)),
      (λ e. c.in_default-as_str.not-audit (c.as_str.ensures.value ∙ e)),
      (λ e. c.in_default-as_str.not-group (c.as_str.ensures.value ∙ e)),
      (λ e. c.in_default-as_str.not-drill (c.as_str.ensures.value ∙ e)),
    )

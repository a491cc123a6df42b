use Rattle.std.proofs.Common.{◌∙◌}
use Rattle.trace_text.proofs.Lists.{then_lines}
use Rattle.trace_text.proofs.writer.TraceWriter.batch.Goals as goal

pub returns : goal.returns
returns c =
    let lead = c.in_ok-lead.ensures in
    let members = c.in_ok-members.ensures in
    let halt = c.in_ok-halt.ensures in
    let taken = c.in_ok-taken.ensures in
    let commits = c.in_ok-commits.ensures in
    let answers = c.in_ok-answers.ensures in
    let messages = c.in_ok-messages.ensures in
    let saved = c.in_ok-saved.ensures in
    let refusal = c.in_ok-refusal.ensures in
    record {
      front = refusal.front ∙ saved.front ∙ messages.front ∙ answers.front ∙ commits.front ∙ taken.front ∙ halt.front ∙ members.front ∙ lead.front;
      ok = then_lines _ _ _ _ _ lead.ok (then_lines _ _ _ _ _ members.ok (then_lines _ _ _ _ _ halt.ok (then_lines _ _ _ _ _ taken.ok
          (then_lines _ _ _ _ _ commits.ok (then_lines _ _ _ _ _ answers.ok (then_lines _ _ _ _ _ messages.ok (then_lines _ _ _ _ _ saved.ok refusal.ok)))))));
    }

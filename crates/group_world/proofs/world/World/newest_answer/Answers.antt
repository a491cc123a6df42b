use Rattle.std.proofs.Common.{ℕ, length, arith, ap, ◌∙◌, ◌+◌, None, Bor, inl, inr, option_map}
use Rattle.std.specs.List.{enumerate_from}
use Rattle.values.specs.declared.message.Answer.{Answer}
use Rattle.group_world.specs.Newest.{last_kept}
use Rattle.group_world.proofs.NewestAnswer.{all_after, kept_after, newest_so, none_after}
use Rattle.group_world.proofs.world.World.newest_answer.Goals as goal

pub returns-in_err-since : goal.returns-in_err-since
returns-in_err-since c = λ m h is.
    ap (option_map (λ (found : ℕ × Bor Answer). (found.0, found.1.now))) c.from_residual.ensures
    ∙ none_after c.args.client.now c.args.number c.args.past _ _ is.answers
    (elim c.in_err-since.ensures.lookup.0 [ inl short ↦ omega (arith, short, ap length c.as_slice.ensures.value) | inr never ↦ absurd (omega (arith, never)) ])

pub returns : goal.returns
returns c = λ m h is.
    c.newest_in.ensures
    ∙ ap (λ kept. last_kept c.args.client.now c.args.number (enumerate_from (c.args.past + 1) kept))
    (c.in_ok-since.ensures.lookup.0.2 ∙ all_after c.args.past c.as_slice.result.now _ c.as_slice.ensures.value)
    ∙ newest_so c.args.client.now c.args.number (c.args.past + 1) _ _ (kept_after c.args.past _ _ is.answers) None

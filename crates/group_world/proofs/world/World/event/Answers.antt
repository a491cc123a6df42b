use Rattle.std.proofs.Common.{refl, sym, ap, subst, ◌∙◌, ℕ, ◌+◌, ◌∷◌, ◌++◌, [], option_map, length}
use Rattle.schedule_model.specs.Lines as lines
use Rattle.trace_text.specs.Refused.{quantity_of}
use Rattle.group_world.specs.Happened.{TellsCame}
use Rattle.group_world.specs.Plays.{came_of, lines_by}
use Rattle.group_world.proofs.EventLines.{counts_one, event_limited, event_passes, event_plays, event_stops}
use Rattle.group_world.proofs.Happening.{gains_none}
use Rattle.group_world.proofs.world.World.event.Goals as goal

pub returns-in-Some-clause-plays : goal.returns-in-Some-clause-plays
returns-in-Some-clause-plays g c =
    ([], gains_none _, (refl, event_limited _ _ _ _ (sym c.would_pass.ensures ∙ ap (option_map quantity_of) c.in-Some.is)))

pub returns-in-Err-clause-plays : goal.returns-in-Err-clause-plays
returns-in-Err-clause-plays g c =
    let (given, gained, does) = c.in-Err.ensures.does in (
      given,
      gained,
      event_stops c.args.self.now _ c.act.new.self _ _ given _ (counts_one c.args.self.now _ _ c.args.what.now refl)
          (sym c.would_pass.ensures ∙ ap (option_map quantity_of) c.in_default.is) c.in-Err.e c.args.out.now.items c.args.out.now.items refl does,
    )

pub returns-in-Some-passed-clause-plays : goal.returns-in-Some-passed-clause-plays
returns-in-Some-passed-clause-plays g c =
    let (given, gained, does) = c.in-Ok.ensures.does in (
      given,
      gained,
      (
        refl,
        event_passes _ _ _ _ _ given _ (counts_one c.args.self.now _ _ c.args.what.now refl)
            (sym c.would_pass.ensures ∙ ap (option_map quantity_of) c.in_default.is) c.in-Ok.came does _ (sym c.passed.ensures ∙ ap (option_map quantity_of) c.in-Some-passed.is),
      ),
    )

pub returns-in-Ok-write_lines-clause-plays : goal.returns-in-Ok-write_lines-clause-plays
returns-in-Ok-write_lines-clause-plays g c =
    let (given, gained, does) = c.in-Ok.ensures.does in
    let told : TellsCame (came_of c.in-Ok.came) (length c.args.self.now.answers.items + 1) c.new.result = subst (λ (n : ℕ). TellsCame (came_of c.in-Ok.came) (n + 1) c.new.result) c.answers-first_answer.ensures.count c.new.ensures in (
      given,
      gained,
      event_plays _ _ _ _ _ given _ (counts_one c.args.self.now _ _ c.args.what.now refl)
          (sym c.would_pass.ensures ∙ ap (option_map quantity_of) c.in_default.is) c.in-Ok.came does _ _ _ (sym c.passed.ensures ∙ ap (option_map quantity_of) c.in_default-passed.is)
          (c.in-Ok-write_lines.ensures.ok
          ∙ λ i. c.args.out.now.items ++ lines.lines_text (
          lines.event_line (c.args.self.now.events + 1) c.args.what.now ∷ lines_by (c.messages-first_message.ensures.count i + 1) (c.answers-first_answer.ensures.count i + 1) (came_of c.in-Ok.came)
          ))
          told,
    )

pub returns-in-Ok-write_lines-clause-within : goal.returns-in-Ok-write_lines-clause-within
returns-in-Ok-write_lines-clause-within g c = sym c.passed.ensures ∙ ap (option_map quantity_of) c.in_default-passed.is

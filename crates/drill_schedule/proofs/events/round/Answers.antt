use Rattle.std.proofs.Common.{refl, sym, ap, ◌∙◌, ◌≡◌, ◌==◌, ◌%◌, ◌++◌, ◌∷◌, [], List}
use Rattle.std.specs.Prelude.{if◌then◌else◌}
use Rattle.values.specs.declared.event.Event.{Event}
use Rattle.values.specs.declared.event.Event.TheVariants as event
use Rattle.drill_schedule.proofs.Pushed.{two}
use Rattle.drill_schedule.proofs.events.round.Goals as goal

pub returns : goal.returns
returns c =
    let said : (if c.args.word % 4 == 3 then event.Tick 1 ∷ event.Settle 8 ∷ [] else []) ≡ event.Tick 1 ∷ event.Settle 8 ∷ [] = rw c.if-word-ne3.false refl in
    two _ _ _ _ _ c.in_ok-push.ensures.items c.in_ok-push-2.ensures.items ∙ ap (λ (l : List Event). c.args.events.now.items ++ l) (sym said)

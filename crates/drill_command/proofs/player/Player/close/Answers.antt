use Rattle.std.proofs.Common.{ap, subst, ◌∙◌, ◌++◌, ℕ, List}
use Rattle.sha2.specs.Hashers.{Holds256}
use Rattle.group_world.specs.Closing.{closing_of}
use Rattle.group_world.specs.Meanings.{OfEnclaves}
use Rattle.drill_command.proofs.Whole.{tells_it}
use Rattle.drill_command.proofs.player.Player.close.Goals as goal

pub returns : goal.returns
returns c whole st =
    let d = c.args.self in
    let lines = c.close.new.out.items in
    let g = st.at.group in
    let seen = st.sees.0.world in
    tells_it d _ lines whole st c.events.ensures (c.messages.ensures.model OfEnclaves g seen) (c.answers.ensures.model OfEnclaves g seen) c.log.ensures (c.is_within.ensures.model OfEnclaves g seen) st.counted
    (c.in_ok-close.ensures.ok ∙ ap (λ (l : List ℕ). l ++ closing_of d.world) c.clear.ensures.items)
    (c.finalize.ensures (st.text ++ lines) (subst (λ (l : List ℕ). Holds256 c.update.new.self (st.text ++ l)) c.as_slice.ensures.value (c.update.ensures st.text st.hashed)))

use Rattle.std.proofs.Common.{◌≡◌, ◌∷◌, None, sym, subst, ◌∙◌, rules}
use Rattle.std.specs.Prelude.{All}
use Rattle.group_quorum.specs.Voters.{IsId, first_bad}
use Rattle.host_inputs.proofs.Sounds.{own_is, linked_are}
use Rattle.host_inputs.proofs.lists.learn.Goals as goal

pub returns-clause-sound : goal.returns-clause-sound
returns-clause-sound c =
    let listed = c.as_slice.result.now in
    let none : first_bad (c.in-Some.id ∷ listed) ≡ None = search rules in
    (own_is c.in-Some.id listed none, (subst (All IsId) (search rules) (linked_are c.in-Some.id listed none), search rules))

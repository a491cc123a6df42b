use Rattle.std.proofs.Common.{◌≡◌, false}
use Rattle.group_model.specs.Group.{numbered}
use Rattle.group_world.specs.Posted.{is_lost}
use Rattle.group_world.proofs.Delivering.{and_some, lose_passes, lose_refused, there_from}
use Rattle.group_world.proofs.world.World.lose.Goals as goal

pub returns-in-Err-clause-does : goal.returns-in-Err-clause-does
returns-in-Err-clause-does c = λ map. lose_refused c.args.self.now map c.args.number c.in-Err.refusal c.in-Err.ensures.missing

pub mark-requires-clause-place : goal.mark-requires-clause-place
mark-requires-clause-place c =
    let post = c.args.self.now.post in
    (there_from post c.args.number (and_some (numbered post c.args.number) (λ l. is_lost l.fate ≡ false) c.in_default.field-0.now c.in_default.ensures.found c.in_default.ensures.there)).1

pub returns-clause-does : goal.returns-clause-does
returns-clause-does c = λ map.
    let post = c.args.self.now.post in
    lose_passes c.args.self.now c.mark.new.self _ map c.args.number (and_some (numbered post c.args.number) (λ l. is_lost l.fate ≡ false) c.in_default.field-0.now c.in_default.ensures.found c.in_default.ensures.there)
    c.mark.ensures

use Rattle.std.proofs.Common.{◌≡◌, [], ◌∷◌, refl}
use Rattle.halt_laws.specs.OldVotes.{revoted, halted}
use Rattle.halt_laws.proofs.Halted.{laws_broken}
use Rattle.halt_laws.proofs.old_votes_halt_two.Goals as goal

two_halt : halted revoted ≡ 3 ∷ 1 ∷ []
two_halt = refl

pub returns-clause-apart : goal.returns-clause-apart
returns-clause-apart c = c.nothing_collides.ensures revoted

pub returns-clause-rolled : goal.returns-clause-rolled
returns-clause-rolled c = refl

pub returns-clause-two : goal.returns-clause-two
returns-clause-two c = two_halt

pub returns-clause-broken : goal.returns-clause-broken
returns-clause-broken c laws = laws_broken revoted 3 (1 ∷ []) two_halt laws

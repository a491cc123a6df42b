use Rattle.std.proofs.Common.{◌≡◌, true, false, Option, Some, None, IsSomeAnd, IsTrue, refl, sym, ◌∙◌}
use Rattle.path_machine.specs.Node.{Node}
use Rattle.path_machine.specs.Jump.{after_jump}
use Rattle.path_machine.proofs.a_jump_halts.Goals as goal

stopped : (o : Option Node) → IsSomeAnd o (λ s. IsTrue s.halted) → (s : Node) × (o ≡ Some s) × (s.halted ≡ true)
stopped None never = absurd never
stopped (Some s) halted = (s, refl, halted)

pub returns-clause-broken : goal.returns-clause-broken
returns-clause-broken c laws =
    let x = stopped (after_jump.nodes 1) refl in
    let never : true ≡ false = sym x.2 ∙ laws.no_halt 1 x.0 x.1 in
    cc

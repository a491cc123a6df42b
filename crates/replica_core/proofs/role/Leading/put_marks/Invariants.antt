use Rattle.std.proofs.Common.{◌≡◌, ℕ, ◌∷◌, map, take}
use Rattle.replica_model.specs.declared.Progress.{Progress}
use Rattle.replica_core.specs.Keeping.{mark_in}
use Rattle.replica_core.proofs.role.Leading.put_marks.Given as goal

abbrev pub invariant-loop-id : goal.invariant-loop-id
invariant-loop-id l = l.marks.items ≡ (l.me, l.own) ∷ map (λ (p : ℕ × Progress). (p.0, mark_in l.mark p.1)) (take l.id-index l.peers)

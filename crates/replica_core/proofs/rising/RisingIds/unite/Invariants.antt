use Rattle.std.proofs.Common.{◌≡◌, fold, map}
use Rattle.replica_model.specs.Peers.{with_id}
use Rattle.replica_core.proofs.rising.RisingIds.unite.Given as goal

abbrev pub invariant-loop-id : goal.invariant-loop-id
invariant-loop-id l = l.self ≡ fold (λ vs v. with_id v vs) l.fn.self (map (λ y. y.now) l.yielded)

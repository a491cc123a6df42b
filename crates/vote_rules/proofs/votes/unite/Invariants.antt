use Rattle.std.proofs.Common.{◌≡◌, ◌+◌, ◌≤◌, length, fold, map}
use Rattle.arrayvec.specs.ArrayVec.{array_vec_len}
use Rattle.replica_model.specs.Peers.{with_id}
use Rattle.vote_rules.proofs.votes.unite.Given as goal

-- the ids so far are at their places, and each of them added one at most
abbrev pub invariant-loop-id : goal.invariant-loop-id
invariant-loop-id l =
    record {
      so_far : l.ids.items ≡ fold (λ vs v. with_id v vs) l.fn.ids.items (map (λ y. y.now) l.yielded);
      room : array_vec_len l.ids ≤ array_vec_len l.fn.ids + length l.yielded;
    }

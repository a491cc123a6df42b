use Rattle.std.proofs.Common.{◌≡◌, ◌+◌, None, drop}
use Rattle.replica_model.specs.Linked.{sha_link}
use Rattle.replica_model.specs.Graft.{differing, points_from}
use Rattle.replica_log.specs.Window.{hash_at}
use Rattle.replica_log.specs.Grafting.{first_differing}
use Rattle.replica_log.proofs.log.Log.find_difference.Given as goal

abbrev pub invariant-loop-entry : goal.invariant-loop-entry
invariant-loop-entry l =
    record {
      place : l.offered.index ≡ l.fn.prev.index + l.entry-index;
      found : l.found ≡ differing (hash_at sha_link l.self l.offered.index) l.offered None;
      rest : first_differing (hash_at sha_link l.self) (points_from sha_link l.fn.prev.index l.fn.prev.hash l.entries)
          ≡ first_differing (hash_at sha_link l.self) (points_from sha_link l.offered.index l.offered.hash (drop l.entry-index l.entries));
    }

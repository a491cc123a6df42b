use Rattle.std.proofs.Common.{◌≡◌, ◌-◌, ◌≤◌}
use Rattle.replica_model.specs.Linked.{sha_link}
use Rattle.replica_log.specs.Window.{base_index, last_index, dropped_below}
use Rattle.replica_log.proofs.log.Log.drop_below.Given as goal

abbrev pub invariant-loop-self : goal.invariant-loop-self
invariant-loop-self l =
    record {
      committed : l.index ≤ l.self.committed;
      moved : dropped_below sha_link l.self l.index ≡ dropped_below sha_link l.initial.self l.index;
      last : last_index l.self ≡ last_index l.initial.self;
    }

abbrev pub decreases-loop-self : goal.decreases-loop-self
decreases-loop-self l = l.index - base_index l.self

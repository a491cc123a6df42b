use Rattle.std.proofs.Common.{◌≡◌, ◌+◌, ◌++◌, drop}
use Rattle.replica_model.specs.Linked.{sha_link}
use Rattle.replica_log.specs.Chain.{chained_from}
use Rattle.replica_log.proofs.chained.chain_after.Given as goal

abbrev pub invariant-loop-entry : goal.invariant-loop-entry
invariant-loop-entry l =
    record {
      place : l.index ≡ l.count + l.entry-index;
      rest : chained_from sha_link l.fn.before l.count l.fn.conf_index l.entries ≡ l.kept.items ++ chained_from sha_link l.hash l.index l.conf_index (drop l.entry-index l.entries);
    }

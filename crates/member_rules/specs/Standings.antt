-- What a change of the members looks at.
use Rattle.std.specs.Prelude.{length}
use Rattle.replica_model.specs.Configs.{conf_index}
use Rattle.replica_model.specs.Replica.{Replica}
use Rattle.replica_model.specs.Peers.{newest}
use Rattle.replica_log.specs.Window.{Window, last_index, conf_at, conf_index_at}
use Rattle.member_rules.specs.declared.standing.Standing.{Standing}

-- in a log
abbrev pub standing_of : Window → Standing
standing_of w =
    record {
      last = last_index w;
      committed = w.committed;
      newest = conf_at w (last_index w);
      newest_index = conf_index_at w (last_index w);
    }

-- in a model replica
abbrev pub standing_in : Replica → Standing
standing_in s =
    record { last = length s.path; committed = s.committed; newest = newest s; newest_index = conf_index s.path }

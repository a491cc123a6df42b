-- How a log is stored.
use Rattle.std.specs.Prelude.{◌≡◌, map}
use Rattle.std.specs.List.{AllByRecursion}
use Rattle.replica_model.specs.Path.{Path}
use Rattle.replica_model.specs.Linked.{sha_link}
use Rattle.replica_log.specs.declared.log.Log.TheInside.{Inside}
use Rattle.replica_log.specs.Chain.{chained_from}
use Rattle.replica_log.specs.Window.{Window, IsOrdered, Fits}

-- the kept entries
abbrev pub entries_in : Inside → Path
entries_in a = map (λ c. c.entry) a.kept.items

-- what is seen of a log
abbrev pub window_in : Inside → Window
window_in a =
    record {
      base = record { point = a.base; term = a.base_term; conf = a.config; conf_index = a.conf_index };
      entries = entries_in a;
      promised = a.promised;
      committed = a.committed;
    }

-- what holds of every log: hashes and indices are those of its entries, which all fit; its indices are in order; and no
-- entry stands at index 0, so its term is 0
pub record IsStored (a : Inside) : Type 0 where
  pub chained : a.kept.items ≡ chained_from sha_link a.base.hash a.base.index a.conf_index (entries_in a)
  pub fit : AllByRecursion Fits (entries_in a)
  pub ordered : IsOrdered (window_in a)
  pub no_term : a.base.index ≡ 0 → a.base_term ≡ 0

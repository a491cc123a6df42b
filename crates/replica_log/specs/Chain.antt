-- Entries as they are kept: each with its hash and the index of the newest configuration.
use Rattle.std.specs.Prelude.{ℕ, ◌+◌, ◌-◌, cond, nat_lt, Option, None, List, [], ◌∷◌, slice_get}
use Rattle.values.specs.declared.entry.Hash.{Hash}
use Rattle.values.specs.declared.entry.LogEntry.{LogEntry}
use Rattle.replica_model.specs.Path.{Path, Link}
use Rattle.replica_model.specs.Configs.{is_members}
use Rattle.replica_log.specs.declared.chained.Chained.{Chained}
use Rattle.replica_log.specs.Window.{Window, base_index}

-- the index of the newest configuration after an entry at an index
abbrev pub conf_index_after : ℕ → ℕ → LogEntry → ℕ
conf_index_after index before e = cond (is_members e.body) index before

-- an entry at an index, after a path with this hash and this index of its configuration
abbrev pub chained : Link → Hash → ℕ → ℕ → LogEntry → Chained
chained link before index conf_index e =
    record { entry = e; hash = link before index e; conf_index = conf_index_after index conf_index e }

-- the entries that follow k others
abbrev pub chained_from : Link → Hash → ℕ → ℕ → Path → List Chained
chained_from link before k conf_index [] = []
chained_from link before k conf_index (e ∷ p) =
    chained link before (k + 1) conf_index e
    ∷ chained_from link (link before (k + 1) e) (k + 1) (conf_index_after (k + 1) conf_index e) p

-- what is kept of the entry at an index
abbrev pub chained_at : Link → Window → ℕ → Option Chained
chained_at link w i =
    cond (nat_lt (base_index w) i)
    (slice_get (chained_from link w.base.point.hash (base_index w) w.base.conf_index w.entries) (i - base_index w - 1)) None

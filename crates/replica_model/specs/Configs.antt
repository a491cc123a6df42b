-- The configurations of a path: the newest one, its index, and the one before it.
use Rattle.std.specs.Prelude.{ℕ, ◌+◌, ◌-◌, Bool, true, false, cond, [], ◌∷◌, take}
use Rattle.values.specs.declared.entry.Body.{Body}
use Rattle.values.specs.declared.entry.Body.TheVariants.{Noop, Ask, Members}
use Rattle.group_quorum.specs.Conf.{Conf}
use Rattle.replica_model.specs.Path.{Path}

-- the entry is a Members entry
abbrev pub is_members : Body → Bool
is_members Noop = false
is_members (Ask client number request) = false
is_members (Members margin voters) = true

-- the configuration after an entry
abbrev pub changed_by : Conf → Body → Conf
changed_by c Noop = c
changed_by c (Ask client number request) = c
changed_by c (Members margin voters) = record { margin = margin; voters = voters }

-- the configuration of a path: that of its last Members entry, or the first one
abbrev pub conf : Conf → Path → Conf
conf first [] = first
conf first (e ∷ p) = conf (changed_by first e.body) p

-- the index of the last Members entry among entries after the k-th, or i
abbrev pub conf_index_from : ℕ → ℕ → Path → ℕ
conf_index_from i k [] = i
conf_index_from i k (e ∷ p) = conf_index_from (cond (is_members e.body) (k + 1) i) (k + 1) p

-- the index of the path's last Members entry, or 0
abbrev pub conf_index : Path → ℕ
conf_index p = conf_index_from 0 0 p

-- the configuration before the path's last Members entry
abbrev pub older_conf : Conf → Path → Conf
older_conf first p = conf first (take (conf_index p - 1) p)

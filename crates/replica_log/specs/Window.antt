-- What is kept of a log: the entries above its base, and of the path up to the base what sums it up.
use Rattle.std.specs.Prelude.{◌≡◌, ℕ, ◌+◌, ◌-◌, ◌≤◌, ◌==◌, Bool, ◌&&◌, cond, nat_lt, nat_le, max, Option, Some, None, [], ◌∷◌, ◌++◌, length, take, drop, slice_get}
use Rattle.values.specs.declared.entry.Body.{Body}
use Rattle.values.specs.declared.entry.Body.TheVariants.{Noop, Ask, Members}
use Rattle.values.specs.declared.entry.Hash.{Hash}
use Rattle.values.specs.declared.entry.LogEntry.{LogEntry}
use Rattle.values.specs.declared.entry.Point.{Point}
use Rattle.values.specs.declared.limits.TheConstants.{TOP}
use Rattle.group_quorum.specs.Conf.{Conf}
use Rattle.group_quorum.specs.Voters.{fault_of}
use Rattle.replica_model.specs.Path.{Path, Link, first_hash, chain_from, end_point, last_term}
use Rattle.replica_model.specs.Configs.{conf, conf_index, conf_index_from}
use Rattle.replica_model.specs.Graft.{is_hash}
use Rattle.replica_log.specs.declared.configs.Configs.{Configs}

-- what sums up a path: its end point, the term of its last entry, its configuration and the index of that
pub record Summary : Type 0 where
  pub point : Point
  pub term : ℕ
  pub conf : Conf
  pub conf_index : ℕ

-- the summary of the first configuration and a path
abbrev pub summary_of : Link → Conf → Path → Summary
summary_of link first p = record { point = end_point link p; term = last_term p; conf = conf first p; conf_index = conf_index p }

-- the term of the last of these entries, or t
abbrev pub term_from : ℕ → Path → ℕ
term_from t [] = t
term_from t (e ∷ p) = term_from e.term p

-- the term at a point: that of its entry, and 0 at index 0, where there is none
abbrev pub term_of_point : Point → ℕ → ℕ
term_of_point point term = cond (point.index == 0) 0 term

-- the summary after more entries
abbrev pub summed : Link → Summary → Path → Summary
summed link s p =
    record {
      point = record { index = s.point.index + length p; hash = chain_from link s.point.hash s.point.index p };
      term = term_from s.term p;
      conf = conf s.conf p;
      conf_index = conf_index_from s.conf_index s.point.index p;
    }

-- a window of a log: the summary up to its base, the entries after it, and how far it is promised and committed
pub record Window : Type 0 where
  pub base : Summary
  pub entries : Path
  pub promised : ℕ
  pub committed : ℕ

-- the index of the base
abbrev pub base_index : Window → ℕ
base_index w = w.base.point.index

-- the index of the last entry
abbrev pub last_index : Window → ℕ
last_index w = w.base.point.index + length w.entries

-- base, committed, promised and last index, none above the next and none above the greatest index there is
pub record IsOrdered (w : Window) : Type 0 where
  pub committed : base_index w ≤ w.committed
  pub promised : w.committed ≤ w.promised
  pub last : w.promised ≤ last_index w
  pub top : last_index w ≤ TOP
  pub conf_index : w.base.conf_index ≤ base_index w

-- the kept entries up to an index
abbrev pub upto : Window → ℕ → Path
upto w i = take (i - base_index w) w.entries

-- the index is neither below the base nor above the last one
abbrev pub is_kept : Window → ℕ → Bool
is_kept w i = nat_le (base_index w) i && nat_le i (last_index w)

-- what stands at an index that is kept
abbrev pub kept_at : {A : Type 0} → Window → ℕ → A → Option A
kept_at w i x = cond (is_kept w i) (Some x) None

-- the summary up to an index
abbrev pub summary_at : Link → Window → ℕ → Summary
summary_at link w i = summed link w.base (upto w i)

-- the point of the last entry
abbrev pub last_point : Link → Window → Point
last_point link w = (summed link w.base w.entries).point

-- the term of the last entry
abbrev pub last_term_of : Window → ℕ
last_term_of w = term_from w.base.term w.entries

-- the hash at an index
abbrev pub hash_at : Link → Window → ℕ → Option Hash
hash_at link w i = kept_at w i (chain_from link w.base.point.hash (base_index w) (upto w i))

-- the term of the entry at an index
abbrev pub term_at : Window → ℕ → Option ℕ
term_at w i = kept_at w i (term_from w.base.term (upto w i))

-- the entry at an index
abbrev pub entry_at : Window → ℕ → Option LogEntry
entry_at w i = cond (nat_lt (base_index w) i) (slice_get w.entries (i - base_index w - 1)) None

-- the hash at the point's index is the point's
abbrev pub matches : Link → Window → Point → Bool
matches link w p = is_hash (hash_at link w p.index) p.hash

-- the configuration up to an index
abbrev pub conf_at : Window → ℕ → Conf
conf_at w i = conf w.base.conf (upto w i)

-- and its index
abbrev pub conf_index_at : Window → ℕ → ℕ
conf_index_at w i = conf_index_from w.base.conf_index (base_index w) (upto w i)

-- the one before it, known where its entry is kept; else the same one
abbrev pub older_conf_at : Window → ℕ → Conf
older_conf_at w i = cond (nat_lt (base_index w) (conf_index_at w i)) (conf_at w (conf_index_at w i - 1)) (conf_at w i)

-- these together
abbrev pub configs_at : Window → ℕ → Configs
configs_at w i = record { newest = conf_at w i; newest_index = conf_index_at w i; older = older_conf_at w i }

-- a body fits a log unless it names voters that make no configuration with its margin
abbrev pub FitsBody : Body → Type 0
FitsBody Noop = Unit {0}
FitsBody (Ask client number request) = Unit {0}
FitsBody (Members margin voters) = fault_of margin voters ≡ None

-- an entry fits where its body does
abbrev pub Fits : LogEntry → Type 0
Fits e = FitsBody e.body

-- the window of an empty log
abbrev pub first_window : Conf → Window
first_window c =
    record {
      base = record { point = record { index = 0; hash = first_hash }; term = 0; conf = c; conf_index = 0 };
      entries = [];
      promised = 0;
      committed = 0;
    }

-- the window of a log of which nothing is kept but its summary, all promised and committed
abbrev pub window_at : Summary → Window
window_at s = record { base = s; entries = []; promised = s.point.index; committed = s.point.index }

-- one more entry
abbrev pub pushed : Window → LogEntry → Window
pushed w e = record w { entries = w.entries ++ e ∷ [] }

-- promised is raised
abbrev pub promised_to : Window → ℕ → Window
promised_to w i = record w { promised = max w.promised i }

-- committed is raised
abbrev pub committed_to : Window → ℕ → Window
committed_to w i = record w { committed = max w.committed i }

-- the base moves to an index where that is higher
abbrev pub dropped_below : Link → Window → ℕ → Window
dropped_below link w i = record w { base = summary_at link w i; entries = drop (i - base_index w) w.entries }

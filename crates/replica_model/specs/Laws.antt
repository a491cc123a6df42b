-- What the definitions over paths come to, entry by entry.
use Rattle.std.specs.Prelude.{◌≡◌, ◌≢◌, ℕ, ◌+◌, ◌<◌, ◌≤◌, ◌^◌, Bool, false, cond, ◌&&◌, ◌||◌, [], ◌∷◌, ◌++◌, length, IsTrue, All}
use Rattle.values.specs.declared.entry.Body.{Body}
use Rattle.values.specs.declared.entry.Body.TheVariants.{Noop, Ask, Members}
use Rattle.values.specs.declared.entry.LogEntry.{LogEntry}
use Rattle.group_quorum.specs.Conf.{Conf}
use Rattle.group_quorum.specs.Voters.{is_in}
use Rattle.record_rules.specs.Places.{apply_place}
use Rattle.replica_model.specs.Path.{Path, Link, chain}
use Rattle.replica_model.specs.Linked.{kind_of, body_bytes}
use Rattle.replica_model.specs.Configs.{is_members, changed_by, conf, conf_index, older_conf}
use Rattle.replica_model.specs.Enough.{greatest_upto}
use Rattle.replica_model.specs.Folds.{place_of, fold_of}
use Rattle.replica_model.specs.Replica.{Replica}
use Rattle.replica_model.specs.Peers.{newest, is_pending, voters_counted}

-- the hash of a path and one more entry is the link of that entry to the path's hash
abbrev pub ChainFollows : Type 0
ChainFollows = (link : Link) (p : Path) (e : LogEntry) → chain link (p ++ e ∷ []) ≡ link (chain link p) (length p + 1) e

-- one more entry leaves the configuration and its index as they were, unless it is a Members entry
pub record ConfFollowsAt (first : Conf) (p : Path) (e : LogEntry) : Type 0 where
  pub conf : conf first (p ++ e ∷ []) ≡ changed_by (conf first p) e.body
  pub index : conf_index (p ++ e ∷ []) ≡ cond (is_members e.body) (length p + 1) (conf_index p)

-- the same of each path and entry
abbrev pub ConfFollows : Type 0
ConfFollows = (first : Conf) (p : Path) (e : LogEntry) → ConfFollowsAt first p e

-- n is the greatest number above `had` and up to `top` that passes, or `had` where none does
pub record IsGreatest (passes : ℕ → Bool) (had top n : ℕ) : Type 0 where
  pub at_least : had ≤ n
  pub passing : n ≢ had → IsTrue (passes n)
  pub within : n ≢ had → n ≤ top
  pub greatest : (k : ℕ) → n < k → k ≤ top → passes k ≡ false

-- the greatest number that the definition finds is the greatest
abbrev pub GreatestIsGreatest : Type 0
GreatestIsGreatest = (passes : ℕ → Bool) (had top : ℕ) → IsGreatest passes had top (greatest_upto passes had top)

-- one more entry is applied to the table
abbrev pub FoldFollows : Type 0
FoldFollows = (limit : ℕ) (p : Path) (e : LogEntry) → fold_of limit (p ++ e ∷ []) ≡ apply_place (fold_of limit p) (place_of e.body)

-- the body has the ranges of a log's entries
abbrev pub IsInRange : Body → Type 0
IsInRange Noop = Unit {0}
IsInRange (Ask client number request) = (length client.0 ≡ 16) × (number < 2 ^ 64)
IsInRange (Members margin voters) = All (λ v. v < 2 ^ 32) voters

-- different bodies have different kinds or different bytes
abbrev pub BytesTellBodies : Type 0
BytesTellBodies = (a b : Body) → IsInRange a → IsInRange b → kind_of a ≡ kind_of b → body_bytes a ≡ body_bytes b → a ≡ b

-- an id counts where it is a voter of the newest configuration or, while that one is above the committed index, of the
-- one before it
abbrev pub VotersCounted : Type 0
VotersCounted = (s : Replica) (v : ℕ) → is_in (voters_counted s) v ≡ (is_in (newest s).voters v || (is_pending s && is_in (older_conf s.first s.path).voters v))

-- A window stands for the log of a model replica, whose whole path it does not keep.
use Rattle.std.specs.Prelude.{◌≡◌, ℕ, ◌≤◌, ◌<◌, cond, ◌&&◌, nat_le, Option, Some, None, ◌++◌, length, take, drop}
use Rattle.values.specs.declared.entry.Point.{Point}
use Rattle.group_quorum.specs.Conf.{Conf}
use Rattle.replica_model.specs.Path.{Path, Link, point, term_at as model_term_at}
use Rattle.replica_model.specs.Configs.{conf, conf_index, older_conf}
use Rattle.replica_model.specs.Replica.{Replica}
use Rattle.replica_model.specs.Graft.{hash_at as model_hash_at, Offer, Difference, first_difference, points_of, end_of, kept_length, added, refusal_hint}
use Rattle.replica_log.specs.declared.configs.Configs.{Configs}
use Rattle.replica_log.specs.declared.graft.Graft.{Graft}
use Rattle.replica_log.specs.declared.graft.Graft.TheVariants.{Grafted, Apart, Conflict}
use Rattle.replica_log.specs.Window.{Window, Summary, summary_of, IsOrdered, base_index, last_index, hash_at, term_at, conf_at, conf_index_at, configs_at}

-- the window keeps of this path what follows the base, and the summary up to it
pub record KeepsPath (link : Link) (w : Window) (first : Conf) (p : Path) (base promised committed : ℕ) : Type 0 where
  pub within : base ≤ length p
  pub summary : w.base ≡ summary_of link first (take base p)
  pub entries : w.entries ≡ drop base p
  pub is_promised : w.promised ≡ promised
  pub is_committed : w.committed ≡ committed

-- the window stands for the replica's log. Only its path, first configuration, base, promised and committed count
abbrev pub StandsFor : Link → Window → Replica → Type 0
StandsFor link w s = KeepsPath link w s.first s.path s.base s.promised s.committed

-- the indices of a window that stands for a replica's log are the replica's
pub record SameIndices (w : Window) (s : Replica) : Type 0 where
  pub base : base_index w ≡ s.base
  pub last : last_index w ≡ length s.path
  pub promised : w.promised ≡ s.promised
  pub committed : w.committed ≡ s.committed

-- the fact holds of each model replica for whose log the window stands
abbrev pub OfEach : Link → Window → (Replica → Type 0) → Type 0
OfEach link w P = (s : Replica) → StandsFor link w s → P s

-- what stands at an index from the base to the last one
abbrev pub kept_by : {A : Type 0} → Replica → ℕ → A → Option A
kept_by s i x = cond (nat_le s.base i && nat_le i (length s.path)) (Some x) None

-- the replica's whole path is promised and committed, with this summary, and nothing of it is kept
pub record IsSummedUp (link : Link) (s : Replica) (sum : Summary) : Type 0 where
  pub base : s.base ≡ length s.path
  pub promised : s.promised ≡ length s.path
  pub committed : s.committed ≡ length s.path
  pub summary : summary_of link s.first s.path ≡ sum

-- the configurations of the first i entries. The older one is told where it counts: while the newest is above committed
pub record AreConfigs (s : Replica) (i : ℕ) (c : Configs) : Type 0 where
  pub newest : c.newest ≡ conf s.first (take i s.path)
  pub newest_index : c.newest_index ≡ conf_index (take i s.path)
  pub older : s.committed < c.newest_index → c.older ≡ older_conf s.first (take i s.path)

-- of each window the indices are those of each replica for whose log it stands
abbrev pub IndicesAreTheModels : Type 0
IndicesAreTheModels = (link : Link) (w : Window) → OfEach link w (SameIndices w)

-- so is the hash at each index
abbrev pub HashesAreTheModels : Type 0
HashesAreTheModels = (link : Link) (w : Window) → OfEach link w (λ s. (i : ℕ) → hash_at link w i ≡ model_hash_at link s i)

-- the newest configuration of the first i entries, and its index, are the replica's
pub record SameNewest (w : Window) (s : Replica) (i : ℕ) : Type 0 where
  pub conf : conf_at w i ≡ conf s.first (take i s.path)
  pub index : conf_index_at w i ≡ conf_index (take i s.path)

-- they are at each index from the base on
abbrev pub NewestAreTheModels : Type 0
NewestAreTheModels = (link : Link) (w : Window) → OfEach link w (λ s. (i : ℕ) → s.base ≤ i → SameNewest w s i)

-- so is the term at each index
abbrev pub TermsAreTheModels : Type 0
TermsAreTheModels = (link : Link) (w : Window) → OfEach link w (λ s. (i : ℕ) → term_at w i ≡ kept_by s i (model_term_at s.path i))

-- and so are the configurations at each index from the base on, the older where it counts
abbrev pub ConfigsAreTheModels : Type 0
ConfigsAreTheModels = (link : Link) (w : Window) → IsOrdered w → OfEach link w (λ s. (i : ℕ) → s.base ≤ i → AreConfigs s i (configs_at w i))

-- the replica's path after an offer that is grafted onto it
abbrev pub with_graft : Replica → Option Difference → Offer → Replica
with_graft s d o = record s { path = take (kept_length s.path d) s.path ++ added (kept_length s.path d) o }

-- a first difference d is no conflict
abbrev pub IsNoConflict : Replica → Option Difference → Type 0
IsNoConflict s None = Unit {0}
IsNoConflict s (Some d) = s.promised < d.0

-- a first difference at or below the promised index is a conflict
pub record IsConflict (link : Link) (s : Replica) (o : Offer) (d : Difference) : Type 0 where
  pub first : first_difference link s (points_of link o) ≡ Some d
  pub promised : d.0 ≤ s.promised

-- an offer is refused with a hint
pub record IsRefused (link : Link) (s : Replica) (o : Offer) (hint : ℕ) : Type 0 where
  pub no_conflict : IsNoConflict s (first_difference link s (points_of link o))
  pub refused : refusal_hint s (first_difference link s (points_of link o)) o ≡ Some hint

-- an offer is grafted: the first difference is the cut, the end is the path's point at the last index offered, and the
-- window then stands for the replica with that path
pub record IsGrafted (link : Link) (s : Replica) (o : Offer) (w : Window) (end : Point) (cut : Option Difference) : Type 0 where
  pub found : first_difference link s (points_of link o) ≡ cut
  pub no_conflict : IsNoConflict s cut
  pub taken : refusal_hint s cut o ≡ None
  pub ends : end ≡ point link (with_graft s cut o).path (end_of o)
  pub within : end.index ≤ length (with_graft s cut o).path
  pub after : StandsFor link w (with_graft s cut o)

-- the answer to an offer is the model's, and w is the window after it
abbrev pub AnswersOffer : Link → Replica → Offer → Window → Graft → Type 0
AnswersOffer link s o w (Grafted end cut) = IsGrafted link s o w end cut
AnswersOffer link s o w (Apart hint) = IsRefused link s o hint
AnswersOffer link s o w (Conflict index kept offered) = IsConflict link s o (index, kept, offered)

-- the answer to entries offered after a point is the model's, whoever offers them and whatever else is offered
abbrev pub Answers : Link → Window → Point → Path → Window → Graft → Type 0
Answers link before prev entries w g =
    OfEach link before (λ s. (o : Offer) → o.prev ≡ prev → o.entries ≡ entries → AnswersOffer link s o w g)

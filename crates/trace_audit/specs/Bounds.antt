-- What an auditor keeps of configurations and rolls.
use Rattle.std.specs.Prelude.{◌≡◌, ℕ, ◌*◌, ◌||◌, nat_le, Bool, count_by, true, false, List, [], ◌∷◌, map, Option, Some, None}
use Rattle.std.specs.List.{list_all}
use Rattle.std.specs.Ordering.{nat_cmp}
use Rattle.std.specs.BTreeSet.{BTreeSet, contains}
use Rattle.group_quorum.specs.Conf.{Conf}
use Rattle.group_quorum.specs.Voters.{is_in}
use Rattle.group_model.specs.Group.{bears}
use Rattle.trace_audit.specs.declared.bound.Members.{Members}

-- configurations, the ids that were rolled back, and the one whose roll the last line told, where no roll before named it
pub record KeptBound : Type 0 where
  pub confs : List Conf
  pub rolled : BTreeSet ℕ
  pub rolling : Option ℕ

abbrev pub conf_told : Members → Conf
conf_told members = record { margin = members.margin; voters = members.voters.items }

abbrev pub confs_told : List Members → List Conf
confs_told told = map conf_told told

-- the roll that the last line told is this one, and named an id that was not rolled back before; or none such
abbrev pub IsRolling : Option ℕ → List ℕ → List ℕ → Type 0
IsRolling None rolled rolling = (v : ℕ) → is_in rolling v ≡ true → is_in rolled v ≡ true
IsRolling (Some r) rolled rolling = (rolling ≡ r ∷ []) × (is_in rolled r ≡ false)

-- what is kept stands for these configurations, for these ids that were rolled back, and for these whose roll the last line told
pub record StandsBound (b : KeptBound) (confs : List Conf) (rolled rolling : List ℕ) : Type 0 where
  -- so many rolls are borne by the ones as by the others
  pub borne : (ids : List ℕ) → list_all (bears ids) b.confs ≡ list_all (bears ids) confs
  pub named : (v : ℕ) → contains nat_cmp b.rolled v ≡ (is_in rolling v || is_in rolled v)
  pub last : IsRolling b.rolling rolled rolling

-- at most twice the margin of the voters were rolled back
abbrev pub bears_set : BTreeSet ℕ → Conf → Bool
bears_set rolled c = nat_le (count_by (contains nat_cmp rolled) c.voters) (2 * c.margin)

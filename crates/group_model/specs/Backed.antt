-- When a path is backed by a group's promises. No clause and no law uses these definitions: they are here to be read.
use Rattle.std.specs.Prelude.{◌≡◌, ℕ, zero, suc, ◌+◌, ◌<◌, ◌⊎◌, List, [], ◌∷◌, ◌++◌, length, take}
use Rattle.values.specs.declared.entry.Body.TheVariants.{Members}
use Rattle.replica_model.specs.Path.{Path}
use Rattle.replica_model.specs.Configs.{conf, conf_index, older_conf}
use Rattle.group_model.specs.Run.{World}
use Rattle.group_model.specs.Log.{IsFrontOf, EverPromised, MetBy, setup_of}

-- the path up to its last Members entry
abbrev pub to_last_members : Path → Path
to_last_members p = take (conf_index p) p

-- a path is backed as a whole, over paths that were backed earlier
pub record Backs (w : World) (Earlier : Path → Type 0) (p : Path) : Type 0 where
  pub whole : MetBy (conf (setup_of w).first p) (λ v. EverPromised w v p)
  pub newest :
      0 < conf_index p
      → MetBy (older_conf (setup_of w).first p) (λ v. EverPromised w v (to_last_members p)) ⊎ Earlier (to_last_members p)
  pub older :
      (u z : Path) (term margin : ℕ) (voters : List ℕ) → u ++ record { term = term; body = Members margin voters } ∷ z ≡ p
      → length u + 1 < conf_index p → Earlier (u ++ record { term = term; body = Members margin voters } ∷ [])

-- the paths that are backed in so many rounds
abbrev pub BackedIn : World → ℕ → Path → Type 0
BackedIn w zero p = p ≡ []
BackedIn w (suc n) p = BackedIn w n p ⊎ ((q : Path) × IsFrontOf p q × Backs w (BackedIn w n) q)

abbrev pub Backed : World → Path → Type 0
Backed w p = (n : ℕ) × BackedIn w n p

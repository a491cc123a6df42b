-- Offered entries against a window: where they first differ, what that means, and the window after them.
use Rattle.std.specs.Prelude.{◌≡◌, ℕ, ◌≤◌, ◌+◌, ◌-◌, cond, ◌||◌, nat_lt, nat_le, Option, Some, None, List, [], ◌∷◌, ◌++◌, length, drop}
use Rattle.values.specs.declared.entry.Hash.{Hash}
use Rattle.values.specs.declared.entry.Point.{Point}
use Rattle.replica_model.specs.Path.{Path, Link, chain_from}
use Rattle.replica_model.specs.Graft.{Difference, differing, differs_at, points_from}
use Rattle.replica_log.specs.declared.graft.Graft.{Graft}
use Rattle.replica_log.specs.declared.graft.Graft.TheVariants.{Grafted, Apart, Conflict}
use Rattle.replica_log.specs.Window.{Window, base_index, last_index, upto, hash_at}

-- the first of these points whose hash is not the one kept at its index
abbrev pub first_differing : (ℕ → Option Hash) → List Point → Option Difference
first_differing kept [] = None
first_differing kept (p ∷ points) = differing (kept p.index) p (first_differing kept points)

-- where entries offered after a point first differ from the window
abbrev pub difference : Link → Window → Point → Path → Option Difference
difference link w prev entries = first_differing (hash_at link w) (points_from link prev.index prev.hash entries)

-- the last index that stays: the one before the first difference, or the last one
abbrev pub kept_index : Window → Option Difference → ℕ
kept_index w None = last_index w
kept_index w (Some d) = d.0 - 1

-- the offered entries replace those from the first difference on, or else follow the last one
abbrev pub grafted : Window → Point → Path → Option Difference → Window
grafted w prev entries d =
    record w { entries = upto w (kept_index w d) ++ drop (kept_index w d - prev.index) entries }

-- the point at an index
abbrev pub point_at : Link → Window → ℕ → Point
point_at link w i = record { index = i; hash = chain_from link w.base.point.hash (base_index w) (upto w i) }

-- the last index offered
abbrev pub offered_end : Point → Path → ℕ
offered_end prev entries = prev.index + length entries

-- without a conflict: the entries stand apart where the previous index is above the last one, where the previous point
-- differs, and where all of them lie below the base; else they are grafted
abbrev pub placed : Link → Window → Point → Path → Option Difference → Graft
placed link w prev entries d =
    cond (nat_lt (last_index w) prev.index) (Apart (last_index w))
    (cond (differs_at d prev.index || nat_lt (offered_end prev entries) (base_index w)) (Apart w.promised)
    (Grafted (point_at link (grafted w prev entries d) (offered_end prev entries)) d))

-- a first difference at or below the promised index is a conflict
abbrev pub judged : Link → Window → Point → Path → Option Difference → Graft
judged link w prev entries None = placed link w prev entries None
judged link w prev entries (Some d) = cond (nat_le d.0 w.promised) (Conflict d.0 d.1 d.2) (placed link w prev entries (Some d))

-- what comes of entries offered after a point
abbrev pub graft_of : Link → Window → Point → Path → Graft
graft_of link w prev entries = judged link w prev entries (difference link w prev entries)

-- the window after that: only what is grafted changes it
abbrev pub after_graft : Window → Point → Path → Graft → Window
after_graft w prev entries (Grafted end cut) = grafted w prev entries cut
after_graft w prev entries (Apart hint) = w
after_graft w prev entries (Conflict index kept offered) = w

-- the window reaches to the end of what was grafted
abbrev pub Reaches : Window → Graft → Type 0
Reaches w (Grafted end cut) = end.index ≤ last_index w
Reaches w (Apart hint) = Unit {0}
Reaches w (Conflict index kept offered) = Unit {0}

-- what is promised stands as it did
pub record KeepsPromised (before after : Window) : Type 0 where
  pub base : after.base ≡ before.base
  pub promised : after.promised ≡ before.promised
  pub committed : after.committed ≡ before.committed
  pub entries : upto after before.promised ≡ upto before before.promised

-- offered entries join the window after its last index that stays, which is not below the promised one nor the one
-- before them; and they reach to the base
pub record Joins (link : Link) (w : Window) (prev : Point) (entries : Path) (cut : Option Difference) : Type 0 where
  pub answer : graft_of link w prev entries ≡ Grafted (point_at link (grafted w prev entries cut) (offered_end prev entries)) cut
  pub promised : w.promised ≤ kept_index w cut
  pub follows : prev.index ≤ kept_index w cut
  pub last : kept_index w cut ≤ last_index w
  pub base : base_index w ≤ offered_end prev entries

-- offered entries come to this, which changes nothing
pub record IsRefusal (link : Link) (w : Window) (prev : Point) (entries : Path) (g : Graft) : Type 0 where
  pub answer : graft_of link w prev entries ≡ g
  pub same : after_graft w prev entries g ≡ w
  pub reaches : Reaches w g

-- Which configuration may follow another: one voter more or less, or the same voters, with any margin.
use Rattle.std.specs.Prelude.{◌≡◌, ℕ, Bool, true, false, ◌&&◌, ◌||◌, ◌==◌, bytes_eq, nat_lt, List, [], ◌∷◌}
use Rattle.group_quorum.specs.Conf.{Conf, Met}

-- ids above v in strictly rising order
abbrev pub rises_from : ℕ → List ℕ → Bool
rises_from v [] = true
rises_from v (w ∷ ws) = nat_lt v w && rises_from w ws

-- ids in strictly rising order
abbrev pub is_rising : List ℕ → Bool
is_rising [] = true
is_rising (v ∷ vs) = rises_from v vs

-- ys is xs with one more put in
abbrev pub is_one_more : List ℕ → List ℕ → Bool
is_one_more xs [] = false
is_one_more [] (y ∷ ys) = bytes_eq [] ys
is_one_more (x ∷ xs) (y ∷ ys) = (x == y && is_one_more xs ys) || bytes_eq (x ∷ xs) ys

-- a change of one voter, or of the margin alone
abbrev pub is_single_change : Conf → Conf → Bool
is_single_change c d =
    is_rising d.voters
    && (bytes_eq c.voters d.voters || (is_one_more c.voters d.voters || is_one_more d.voters c.voters))

-- each quorum of the one and each quorum of the other share a voter
abbrev pub Overlap : Conf → Conf → Type 0
Overlap c d = (f g : ℕ → Bool) → Met c f → Met d g → (v : ℕ) × (f v ≡ true) × (g v ≡ true)

-- where one configuration may follow another, their quorums overlap
abbrev pub Overlaps : (Conf → Conf → Bool) → Type 0
Overlaps near = (c d : Conf) → near c d ≡ true → Overlap c d

-- no change of the configuration
abbrev pub no_change : Conf → Conf → Bool
no_change c d = false

-- any change at all
abbrev pub any_change : Conf → Conf → Bool
any_change c d = true

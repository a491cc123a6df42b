-- The messages of a group as the world keeps them, and those of them that wait.
use Rattle.std.specs.Prelude.{ℕ, ◌+◌, Bool, true, false, cond, List, [], ◌∷◌, Option, find, option_map, unwrap_or}
use Rattle.group_quorum.specs.Voters.{is_in}
use Rattle.group_model.specs.Group.{numbered}
use Rattle.group_world.specs.declared.post.Fate.{Fate}
use Rattle.group_world.specs.declared.post.Fate.TheVariants as fate
use Rattle.group_world.specs.declared.post.Letter.{Letter}

abbrev pub is_waiting : Fate → Bool
is_waiting fate.Waiting = true
is_waiting fate.Delivered = false
is_waiting fate.Lost = false

abbrev pub is_lost : Fate → Bool
is_lost fate.Waiting = false
is_lost fate.Delivered = false
is_lost fate.Lost = true

-- the numbers, from this one on, of the letters that wait
abbrev pub waiting_from : ℕ → List Letter → List ℕ
waiting_from n [] = []
waiting_from n (l ∷ ls) = cond (is_waiting l.fate) (n ∷ waiting_from (n + 1) ls) (waiting_from (n + 1) ls)

abbrev pub waiting_in : List Letter → List ℕ
waiting_in letters = waiting_from 1 letters

-- whether the letter of this number is lost
abbrev pub is_lost_in : List Letter → ℕ → Bool
is_lost_in letters k = unwrap_or (option_map (λ l. is_lost l.fate) (numbered letters k)) false

-- whether the letter of this number is for one of these
abbrev pub is_for : List ℕ → List Letter → ℕ → Bool
is_for running letters k = unwrap_or (option_map (λ l. is_in running l.to) (numbered letters k)) false

-- the least number of a letter that waits and is for one of these
abbrev pub next_in : List ℕ → List Letter → Option ℕ
next_in running letters = find (is_for running letters) (waiting_in letters)

-- the letters, where the one at this place has another fate
abbrev pub fated : List Letter → ℕ → Fate → List Letter
fated [] i f = []
fated (l ∷ ls) ℕ.zero f = record l { fate = f } ∷ ls
fated (l ∷ ls) (ℕ.suc i) f = l ∷ fated ls i f

-- Which messages can be delivered or lost.
use Rattle.std.specs.Prelude.{ℕ, ◌≡◌, true, false, List, None, IsSomeAnd}
use Rattle.trace_text.specs.declared.refused.GroupRefusal.{GroupRefusal}
use Rattle.trace_text.specs.declared.refused.GroupRefusal.TheVariants as refusal
use Rattle.group_model.specs.Group.{numbered}
use Rattle.group_world.specs.declared.post.Letter.{Letter}
use Rattle.group_world.specs.Posted.{is_lost}

-- there is a letter of this number, and it is not lost
abbrev pub IsThere : List Letter → ℕ → Type 0
IsThere letters k = IsSomeAnd (numbered letters k) (λ l. is_lost l.fate ≡ false)

-- or there is none, or it is lost
abbrev pub IsMissing : List Letter → ℕ → GroupRefusal → Type 0
IsMissing letters k (refusal.NoMessage message) = (message ≡ k) × (numbered letters k ≡ None)
IsMissing letters k (refusal.Lost message) = (message ≡ k) × IsSomeAnd (numbered letters k) (λ l. is_lost l.fate ≡ true)
IsMissing letters k other = ⊥

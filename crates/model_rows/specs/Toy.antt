-- A link function that does not collide on the rows, and computes.
use Rattle.std.specs.Prelude.{ℕ, ◌+◌, ◌*◌, ◌%◌, ◌^◌, List, [], ◌∷◌, ◌++◌, fold, replicate}
use Rattle.std.specs.Int.{w64, to_be_bytes}
use Rattle.values.specs.declared.entry.Body.{Body}
use Rattle.values.specs.declared.entry.Body.TheVariants.{Noop, Ask, Members}
use Rattle.replica_model.specs.Path.{Link}

-- a number of a list of numbers
abbrev pub mixed : ℕ → List ℕ → ℕ
mixed n xs = fold (λ h x. (h * 1000003 + x) % 2 ^ 64) n xs

abbrev pub body_numbers : Body → List ℕ
body_numbers Noop = 0 ∷ []
body_numbers (Ask client number request) = 1 ∷ number ∷ (client.0 ++ request)
body_numbers (Members margin voters) = 2 ∷ margin ∷ voters

-- eight bytes that depend on all of it, and zero bytes
abbrev pub toy_link : Link
toy_link h index entry = record { 0 = to_be_bytes w64 (mixed (mixed 1 h.0) (index ∷ entry.term ∷ body_numbers entry.body)) ++ replicate 24 0 }

-- A link that keeps all that it is given, so that nothing collides.
use Rattle.std.specs.Prelude.{ℕ, List, [], ◌∷◌, ◌++◌, length}
use Rattle.values.specs.declared.entry.Body.{Body}
use Rattle.values.specs.declared.entry.Body.TheVariants.{Noop, Ask, Members}
use Rattle.replica_model.specs.Path.{Link}
use Rattle.group_model.specs.Run.{World}
use Rattle.group_model.specs.Log.{NoCollision}

-- a body as numbers
abbrev pub spelled : Body → List ℕ
spelled Noop = 0 ∷ []
spelled (Ask client number request) = 1 ∷ number ∷ length client.0 ∷ (client.0 ++ request)
spelled (Members margin voters) = 2 ∷ margin ∷ voters

-- the index, the term and the body, before the hash of what went before
abbrev pub whole_link : Link
whole_link h index e = record { 0 = index ∷ e.term ∷ length (spelled e.body) ∷ (spelled e.body ++ h.0) }

-- under it no run has a collision
abbrev pub NothingCollides : Type 0
NothingCollides = (w : World) → NoCollision whole_link w

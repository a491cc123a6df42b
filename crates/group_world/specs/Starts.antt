-- The asks by which replicas start, on every understanding of what the field answers.
use Rattle.std.specs.Prelude.{ℕ, ◌≡◌, true, List, [], ◌∷◌, ◌++◌, map, Option, Result, Ok, Err}
use Rattle.group_quorum.specs.Conf.{Conf}
use Rattle.group_quorum.specs.Voters.{insert_rising}
use Rattle.group_model.specs.Happens.{Happening, Broken, Unanswered, connected, starts_all}
use Rattle.enclave_host.specs.Fields.{Map, SameBut, Starting, WhereTold}
use Rattle.group_world.specs.declared.came.Unplayed.{Unplayed}
use Rattle.group_world.specs.declared.came.Unplayed.TheVariants as unplayed
use Rattle.group_world.specs.declared.world.World.{World}
use Rattle.group_world.specs.Given.{Given}
use Rattle.group_world.specs.Meanings.{Meaning, Until, MessageOf, StateOf, model_of, Fits}
use Rattle.group_world.specs.Standing.{conf_in}

-- the field was asked once to start an enclave, and did
abbrev pub IsStarted : Option Map → Option Map → ℕ → List ℕ → Type 0
IsStarted map map' id hello = WhereTold map map' (λ was now. Starting now id hello × SameBut was now id)

-- it did, or did not
abbrev pub Starts : Option Map → Option Map → ℕ → List ℕ → Result (Unit {0}) Unplayed → Type 0
Starts map map' id hello (Ok done) = IsStarted map map' id hello
Starts map map' id hello (Err unplayed.FieldFault) = Unit {0}
Starts map map' id hello (Err unplayed.Memory) = Unit {0}
Starts map map' id hello (Err (unplayed.Frame at)) = ⊥
Starts map map' id hello (Err (unplayed.Limit which)) = ⊥

-- these voters of a configuration were started one after another, or one of them was not
abbrev pub StartsAll : Option Map → Option Map → List Given → Conf → ℕ → List ℕ → Result (Unit {0}) Unplayed → Type 0
StartsAll map map' given c limit ids (Ok done) =
    (m : Meaning) (later : List Given) (f : StateOf m) → Fits m map (given ++ later) f → Fits m map' later (starts_all (model_of m) f c limit ids)
StartsAll map map' given c limit ids (Err unplayed.FieldFault) =
    (m : Meaning) (f : StateOf (Until m)) → Fits (Until m) map given f → (model_of (Until m)).has_failed (starts_all (model_of (Until m)) f c limit ids) ≡ true
StartsAll map map' given c limit ids (Err unplayed.Memory) = Unit {0}
StartsAll map map' given c limit ids (Err (unplayed.Frame at)) = ⊥
StartsAll map map' given c limit ids (Err (unplayed.Limit which)) = ⊥

-- whatever is done next, the replicas are linked with this one, and the field stands there
pub record AreLinked (m : Meaning) (x : ℕ) (ids : List ℕ) (f : StateOf m) (map' : Option Map) (later : List Given) : Type 0 where
  pub after : StateOf m
  pub links : (next : StateOf m → Happening (MessageOf m) (StateOf m)) → connected (model_of m) x ids f next ≡ next after
  pub fits : Fits m map' later after

-- or one of them answered what is no batch
pub record AreBroken (m : Meaning) (x : ℕ) (ids : List ℕ) (f : StateOf m) (map' : Option Map) (at : ℕ) : Type 0 where
  pub after : StateOf m
  pub links : (next : StateOf m → Happening (MessageOf m) (StateOf m)) → connected (model_of m) x ids f next ≡ Broken at after
  pub fits : Fits m map' [] after

-- these replicas were linked with this one, one after another, or one of them was not
abbrev pub LinksAll : Option Map → Option Map → List Given → ℕ → List ℕ → Result (Unit {0}) Unplayed → Type 0
LinksAll map map' given x ids (Ok done) =
    (m : Meaning) (later : List Given) (f : StateOf m) → Fits m map (given ++ later) f → AreLinked m x ids f map' later
LinksAll map map' given x ids (Err (unplayed.Frame at)) =
    (m : Meaning) (f : StateOf m) → Fits m map given f → AreBroken m x ids f map' at
LinksAll map map' given x ids (Err unplayed.FieldFault) =
    (m : Meaning) (f : StateOf (Until m)) (next : StateOf (Until m) → Happening (MessageOf (Until m)) (StateOf (Until m))) → Fits (Until m) map given f
    → connected (model_of (Until m)) x ids f next ≡ Unanswered
LinksAll map map' given x ids (Err unplayed.Memory) = Unit {0}
LinksAll map map' given x ids (Err (unplayed.Limit which)) = ⊥

-- ---- who runs, and who was started

-- nothing else has changed but the configurations
pub record KeepsRest (w w' : World) : Type 0 where
  pub post : w'.post ≡ w.post
  pub answers : w'.answers.items ≡ w.answers.items
  pub clients : w'.clients ≡ w.clients
  pub saves : w'.saves.items ≡ w.saves.items
  pub rolled : w'.rolled.items ≡ w.rolled.items
  pub committed : w'.committed ≡ w.committed
  pub events : w'.events ≡ w.events

-- the voters of the first configuration run, and nobody else ever did
pub record TakesUp (w w' : World) (c : Conf) : Type 0 where
  pub rest : KeepsRest w w'
  pub begun : w'.begun ≡ true
  pub running : w'.running.items ≡ c.voters
  pub started : w'.started.items ≡ c.voters
  pub confs : map conf_in w'.confs.items ≡ map conf_in w.confs.items ++ c ∷ []

-- this id was started, and runs
pub record Enlists (w w' : World) (id : ℕ) : Type 0 where
  pub rest : KeepsRest w w'
  pub begun : w'.begun ≡ w.begun
  pub running : w'.running.items ≡ insert_rising id w.running.items
  pub started : w'.started.items ≡ w.started.items ++ id ∷ []
  pub confs : w'.confs.items ≡ w.confs.items

-- The world in code stands for a group of the model, part by part. It keeps what later events can ask for, and no history.
use Rattle.std.specs.Prelude.{ℕ, ◌≡◌, List, [], ◌∷◌, length, map, is_some, Option, IfSome}
use Rattle.std.specs.List.{list_all}
use Rattle.group_quorum.specs.Conf.{Conf}
use Rattle.group_quorum.specs.Voters.{is_in}
use Rattle.values.specs.declared.ids.ClientId.{ClientId}
use Rattle.group_model.specs.Group.{Group, Sent, Answered, bears, core_of, nothing_started, saves_of}
use Rattle.enclave_host.specs.Fields.{Map}
use Rattle.group_world.specs.declared.answered.Answered.{Answered as Kept}
use Rattle.group_world.specs.declared.post.Letter.{Letter}
use Rattle.group_world.specs.declared.told.Told.{Told}
use Rattle.group_world.specs.declared.world.World.{World}
use Rattle.group_world.specs.Given.{Given}
use Rattle.group_world.specs.Meanings.{Meaning, MessageOf, StateOf, Fits, SaysMessage}
use Rattle.group_world.specs.Posted.{is_lost_in, waiting_in}

-- a letter is a message that was sent, and its frame says it
pub record IsLetter {M : Type 0} (says : (from to : ℕ) → List ℕ → M → Type 0) (letter : Letter) (sent : Sent M) : Type 0 where
  pub from : letter.from ≡ sent.from
  pub to : letter.to ≡ sent.to
  pub says_it : says sent.from sent.to letter.frame sent.message

abbrev pub AreLetters : {M : Type 0} → ((from to : ℕ) → List ℕ → M → Type 0) → List Letter → List (Sent M) → Type 0
AreLetters says [] [] = Unit {0}
AreLetters says [] (s ∷ ss) = ⊥
AreLetters says (l ∷ ls) [] = ⊥
AreLetters says (l ∷ ls) (s ∷ ss) = IsLetter says l s × AreLetters says ls ss

-- an answer as it was given, without who gave it
pub record IsKept (kept : Kept) (given : Answered) : Type 0 where
  pub client : kept.client ≡ given.client
  pub number : kept.number ≡ given.number
  pub answer : kept.answer ≡ given.answer

abbrev pub AreKept : List Kept → List Answered → Type 0
AreKept [] [] = Unit {0}
AreKept [] (g ∷ gs) = ⊥
AreKept (k ∷ ks) [] = ⊥
AreKept (k ∷ ks) (g ∷ gs) = IsKept k g × AreKept ks gs

-- a configuration that a batch told
abbrev pub conf_in : Told → Conf
conf_in told = record { margin = told.margin; voters = told.voters }

pub record IsWorld {M F : Type 0} (says : (from to : ℕ) → List ℕ → M → Type 0) (w : World) (g : Group M F) : Type 0 where
  pub begun : w.begun ≡ is_some g.setup
  pub running : w.running.items ≡ g.running
  -- the same ids were used, and as many
  pub started : (v : ℕ) → is_in w.started.items v ≡ is_in g.started v
  pub started_count : length w.started.items ≡ length g.started
  pub letters : AreLetters says w.post g.messages
  pub lost : (k : ℕ) → is_lost_in w.post k ≡ is_in g.lost k
  pub waiting : waiting_in w.post ≡ g.waiting
  pub answers : AreKept w.answers.items g.answers
  pub cores : (c : ClientId) → core_of w.clients c ≡ core_of g.cores c
  pub core_count : length w.clients ≡ length g.cores
  pub saves : (v : ℕ) → saves_of w.saves.items v ≡ saves_of g.saves v
  pub save_count : length w.saves.items ≡ length g.saves
  pub rolled : (v : ℕ) → is_in w.rolled.items v ≡ is_in g.rolled v
  -- whoever is rolled back, the same configurations bear it
  pub confs : (rolled : List ℕ) → list_all (bears rolled) (map conf_in w.confs.items) ≡ list_all (bears rolled) g.confs
  pub committed : w.committed ≡ g.committed
  pub events : w.events ≡ length g.past

-- the world and its field are seen as this group
pub record Sees (m : Meaning) (w : World) (map : Option Map) (given : List Given) (g : Group (MessageOf m) (StateOf m)) : Type 0 where
  pub world : IsWorld (SaysMessage m) w g
  pub field : Fits m map given g.field

-- these ids run and no others, where the map is told
abbrev pub Runs : Option Map → List ℕ → Type 0
Runs map ids = IfSome map (λ was. (id : ℕ) → is_some (was id) ≡ is_in ids id)

-- the world stands for a group of which nothing has started
abbrev pub IsNew : World → Type 0
IsNew w = (m : Meaning) (f : StateOf m) → IsWorld (SaysMessage m) w (nothing_started f)

-- The queues of the post: for each addressee the numbers of its letters. What waits no more may stay inside of a queue.
use Rattle.std.specs.Prelude.{ℕ, ◌≡◌, ◌≤◌, min, Bool, false, List, [], ◌∷◌, length, filter, slice_get, Option, Some, None, option_map, unwrap_or}
use Rattle.std.specs.BTreeMap as tree
use Rattle.std.specs.BTreeMap.{BTreeMap}
use Rattle.std.specs.declared.collections.VecDeque.{VecDeque}
use Rattle.std.specs.Global.{Global}
use Rattle.std.specs.List.{AllByRecursion}
use Rattle.std.specs.Ordering.{nat_cmp}
use Rattle.group_model.specs.Group.{numbered}
use Rattle.group_world.specs.declared.post.Letter.{Letter}
use Rattle.group_world.specs.Posted.{is_for, is_waiting, waiting_in}

-- whether the letter of this number waits
abbrev pub waits_in : List Letter → ℕ → Bool
waits_in letters k = unwrap_or (option_map (λ l. is_waiting l.fate) (numbered letters k)) false

-- the numbers of the letters for an addressee that wait
abbrev pub due : List Letter → ℕ → List ℕ
due letters id = filter (is_for (id ∷ []) letters) (waiting_in letters)

abbrev pub first : List ℕ → Option ℕ
first queue = slice_get queue 0

-- a queue holds what is due to an addressee, and begins with it
pub record IsQueue (letters : List Letter) (id : ℕ) (queue : List ℕ) : Type 0 where
  pub holds : filter (waits_in letters) queue ≡ due letters id
  pub begins : first queue ≡ first (due letters id)
  pub sent : AllByRecursion (λ k. k ≤ length letters) queue

abbrev pub Queues : Type 0
Queues = BTreeMap ℕ (VecDeque ℕ Global)

abbrev pub queue_of : Queues → ℕ → List ℕ
queue_of queues id = unwrap_or (option_map (λ q. q.items) (tree.get nat_cmp queues id)) []

abbrev pub AreQueues : List Letter → Queues → Type 0
AreQueues letters queues = (id : ℕ) → IsQueue letters id (queue_of queues id)

-- the lesser number, where there are both
abbrev pub earlier : Option ℕ → Option ℕ → Option ℕ
earlier None b = b
earlier (Some a) None = Some a
earlier (Some a) (Some b) = Some (min a b)

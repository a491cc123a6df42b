-- The cores of clients, in whatever order: what a want and an answer make of them, and what of them is said and heard.
use Rattle.std.specs.Prelude.{ℕ, ◌≡◌, if◌then◌else◌, List, length, MatchOption, Option, Some, None, option_and_then, option_map, Result, Ok, Err, unwrap_or}
use Rattle.values.specs.declared.ids.ClientId.{ClientId}
use Rattle.values.specs.declared.memory.Memory.{Memory}
use Rattle.values.specs.declared.message.Answer.{Answer}
use Rattle.values.specs.declared.want.Report.{Report}
use Rattle.values.specs.declared.want.Want.{Want}
use Rattle.values.specs.declared.want.WantFault.{WantFault}
use Rattle.schedule_model.specs.Client.{Core, heard, new_core, wanted}
use Rattle.schedule_model.specs.Refusals as refusals
use Rattle.trace_text.specs.Refused.{meant}
use Rattle.trace_text.specs.declared.refused.GroupRefusal.{GroupRefusal}
use Rattle.group_model.specs.Group.{core_of, is_client, numbered, put_core}
use Rattle.group_world.specs.declared.answered.Answered.{Answered}

abbrev pub Cores : Type 0
Cores = List (ClientId × Core)

-- the client has this core, and the others have what they had
pub record PutsCore (before : Cores) (client : ClientId) (core : Core) (after : Cores) : Type 0 where
  pub cores : (c : ClientId) → core_of after c ≡ core_of (put_core before client core) c
  pub count : length after ≡ length (put_core before client core)

-- a want is taken up, by a new core where the client has none; or it is refused, or memory runs out, and nothing changes
abbrev pub TakesWant : {T : Type 0} → Cores → ClientId → Want → Cores → Result (Result T WantFault) Memory → Type 0
TakesWant before client want after (Ok (Ok done)) =
    (core : Core) × (wanted (unwrap_or (core_of before client) new_core) want ≡ Ok core) × PutsCore before client core after
TakesWant before client want after (Ok (Err fault)) = (wanted (unwrap_or (core_of before client) new_core) want ≡ Err fault) × (after ≡ before)
TakesWant before client want after (Err memory) = after ≡ before

-- an answer is heard, where the client has a core
abbrev pub HearsAnswer : Cores → ClientId → ℕ → Answer → Cores → Option Report → Type 0
HearsAnswer before client number answer after report =
    MatchOption (core_of before client) ((report ≡ None) × (after ≡ before))
    (λ core. (report ≡ (heard core number answer).1) × PutsCore before client (heard core number answer).0 after)

-- the number that a client has in flight
abbrev pub flight_of : Cores → ClientId → Option ℕ
flight_of cores client = option_and_then (λ core. option_map (λ f. f.number) core.flight) (core_of cores client)

-- the answer that a client hears, with the number of the request that it answers; or why it does not hear it
abbrev pub heard_by : ℕ → ClientId → Option Answered → Result (ℕ × Answer) refusals.GroupRefusal
heard_by k client None = Err (refusals.NoAnswer k)
heard_by k client (Some a) = if is_client a.client client then Ok (a.number, a.answer) else Err (refusals.NotYours k)

abbrev pub FindsAnswer : List Answered → ClientId → ℕ → Result (ℕ × Answer) GroupRefusal → Type 0
FindsAnswer answers client k (Ok found) = heard_by k client (numbered answers k) ≡ Ok found
FindsAnswer answers client k (Err refusal) = heard_by k client (numbered answers k) ≡ Err (meant refusal)

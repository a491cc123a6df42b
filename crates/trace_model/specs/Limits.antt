-- Which limit of a run an event would pass first.
use Rattle.std.specs.Prelude.{zero, suc, ◌&&◌, nat_le, nat_lt, not, Bool, false, if◌then◌else◌, List, [], ◌∷◌, length, Option, Some, None}
use Rattle.group_quorum.specs.Voters.{is_in}
use Rattle.values.specs.declared.limits.TheConstants.{MAX_ANSWERS, MAX_CLIENTS, MAX_EVENTS, MAX_MESSAGES, MAX_REPLICAS, MAX_STATES}
use Rattle.values.specs.declared.event.Event.{Event}
use Rattle.values.specs.declared.event.Event.TheVariants as event
use Rattle.schedule_model.specs.Quantities.{Quantity, Events, Messages, Answers, Replicas, States, Clients}
use Rattle.group_model.specs.Group.{Group}

-- the first of these tests that holds names the quantity
abbrev pub first_passed : List (Bool × Quantity) → Option Quantity
first_passed [] = None
first_passed (test ∷ tests) = if test.0 then Some test.1 else first_passed tests

-- whether an event starts a replica
abbrev pub starts_one : {M F : Type 0} → Group M F → Event → Bool
starts_one g (event.Start zero) = false
starts_one g (event.Start (suc k)) = not (is_in g.started (suc k))
starts_one g e = false

-- what an event would pass, tried before it
abbrev pub passed_before : {M F : Type 0} → Group M F → Event → Option Quantity
passed_before g e =
    first_passed (
    (nat_le MAX_EVENTS (length g.past), Events)
    ∷ (starts_one g e && nat_le MAX_REPLICAS (length g.started), Replicas)
    ∷ []
    )

-- what it has passed, where this is the group after it
abbrev pub passed_after : {M F : Type 0} → Group M F → Option Quantity
passed_after g =
    first_passed (
    (nat_lt MAX_MESSAGES (length g.messages), Messages)
    ∷ (nat_lt MAX_ANSWERS (length g.answers), Answers)
    ∷ (nat_lt MAX_STATES (length g.saves), States)
    ∷ (nat_lt MAX_CLIENTS (length g.cores), Clients)
    ∷ []
    )

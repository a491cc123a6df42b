-- The events of a schedule as records say them, and those by which a replica is only told something.
use Rattle.std.specs.Prelude.{ℕ, ◌≡◌, ◌≤◌, ◌<◌, ◌==◌, Bool, true, false, not, ◌&&◌, nat_le, [], ◌∷◌, length, Option}
use Rattle.values.specs.declared.event.Event.{Event}
use Rattle.values.specs.declared.event.Event.TheVariants as event
use Rattle.values.specs.declared.limits.TheConstants.{MAX_EVENTS, MAX_REPLICAS}
use Rattle.group_quorum.specs.Voters.{IsId, is_in}
use Rattle.group_quorum.specs.declared.TheConstants.{MAX_MARGIN}
use Rattle.host_inputs.specs.Inputs.{Input}
use Rattle.host_inputs.specs.Inputs as read
use Rattle.schedule_model.specs.Quantities as quantity
use Rattle.schedule_model.specs.Quantities.{Quantity}
use Rattle.group_model.specs.Enclave.{HostInput, Tick, Client, Join, Admit, Remove, Save, Roll, Connect, Margin}
use Rattle.group_model.specs.Happens.{tells}
use Rattle.trace_model.specs.Limits.{first_passed}
use Rattle.group_world.specs.Meanings.{model_of}
use Rattle.group_world.specs.Plays.{What}
use Rattle.group_world.specs.Roster.{IsSetup}
use Rattle.group_world.specs.declared.world.World.{World}

-- An event as a record without a fault says it where the group has begun, or has not. What is settled or driven is played as
-- other events.
abbrev pub IsPlayable : Bool → Event → Type 0
IsPlayable begun (event.Begin margin limit voters) = (begun ≡ false) × IsSetup margin limit voters
IsPlayable begun (event.Start r) = IsId r
IsPlayable begun (event.Settle most) = ⊥
IsPlayable begun (event.Join r id) = IsId id
IsPlayable begun (event.Admit r id) = IsId id
IsPlayable begun (event.Remove r id) = IsId id
IsPlayable begun (event.Margin r margin) = margin ≤ MAX_MARGIN
IsPlayable begun (event.Again client) = ⊥
IsPlayable begun e = Unit {0}

-- ---- what a replica is told

-- an input is no start, and no message from a peer
abbrev pub IsTold : Input → Type 0
IsTold (read.Begin id margin limit voters) = ⊥
IsTold (read.Learn id linked) = ⊥
IsTold (read.Peer frame) = ⊥
IsTold input = Unit {0}

-- the input as the model's enclaves are handed it
abbrev pub input_as : {M : Type 0} → Input → HostInput M
input_as (read.Client client number request) = Client client number request
input_as (read.Join id) = Join id
input_as (read.Admit id) = Admit id
input_as (read.Remove id) = Remove id
input_as read.Save = Save
input_as (read.Roll k) = Roll k
input_as (read.Link id) = Connect id
input_as (read.Margin margin) = Margin margin
input_as input = Tick

-- by this event a replica is only told something
abbrev pub IsTelling : Event → Type 0
IsTelling (event.Tick r) = Unit {0}
IsTelling (event.Save r) = Unit {0}
IsTelling (event.Join r id) = Unit {0}
IsTelling (event.Admit r id) = Unit {0}
IsTelling (event.Remove r id) = Unit {0}
IsTelling (event.Ask r client number request) = Unit {0}
IsTelling (event.Margin r margin) = Unit {0}
IsTelling e = ⊥

-- a replica is told this
abbrev pub IsToldBy : ℕ → Input → What
IsToldBy r input m g x = x ≡ tells (model_of m) r (input_as input) g

-- ---- the limits that are tried before an event

-- whether it starts a replica
abbrev pub starts_in : World → Event → Bool
starts_in w (event.Start r) = not (r == 0) && not (is_in w.started.items r)
starts_in w e = false

-- so few replicas were started that it may start one
abbrev pub HasRoom : World → Event → Type 0
HasRoom w e = starts_in w e ≡ true → length w.started.items < MAX_REPLICAS

-- the limit that it would pass
abbrev pub passed_first : World → Event → Option Quantity
passed_first w e =
    first_passed (
    (nat_le MAX_EVENTS w.events, quantity.Events)
    ∷ (starts_in w e && nat_le MAX_REPLICAS (length w.started.items), quantity.Replicas)
    ∷ []
    )

-- What was named in a drill as it is without a collision was so named before: a history only grows. And in a drill all is.
use Rattle.std.proofs.Common.{refl, ◌≡◌, ℕ, List, [], ◌∷◌, Option, Some}
use Rattle.std.specs.List.{AllByRecursion}
use Rattle.values.specs.declared.event.Event.{Event}
use Rattle.values.specs.declared.peer.PeerMsg.{PeerMsg}
use Rattle.schedule_model.specs.Written.{Written, all_written, follow}
use Rattle.replica_core.specs.Inputs.{IsNamed}
use Rattle.replica_model.specs.Message.{Message}
use Rattle.replica_model.specs.Replica.{Named, Role, Learner, Follower, Candidate, Leader}
use Rattle.group_model.specs.Enclave.{HostInput, Peer}
use Rattle.group_model.specs.Run.{Enclaves, Recorded}
use Rattle.trace_model.specs.Trace.{expanded, settled}
use Rattle.drill_laws.specs.Laws.{HoldsALog}
use Rattle.group_world.specs.Meanings.{OfEnclaves, AreNamed, IsNamedTo, model_of}
use Rattle.group_world.proofs.Named.{GoesOnSo, StandsAsGroup, expand-before, expand-so, follow-so, follow-till, settle-before, settle-so}
use Rattle.drill_command.specs.Drilled.{KeepsNames, Model, to_play}

-- the field stands where the group has it, while playing goes on
pub events_so : (events : List Event) (p : Model) → StandsAsGroup OfEnclaves p → GoesOnSo OfEnclaves (to_play events p)
unfolding all_written
events_so [] p stands = stands
events_so (e ∷ events) p stands =
    follow-so OfEnclaves (expanded (model_of OfEnclaves) p e) (to_play events) (expand-so OfEnclaves p e stands) (λ q so. events_so events q so)

-- ---- names

pub events_keep : (events : List Event) → KeepsNames (to_play events)
unfolding all_written
events_keep [] q stands named = named
events_keep (e ∷ events) q stands named =
    expand-before OfEnclaves q e stands
    (follow-till OfEnclaves (expanded (model_of OfEnclaves) q e) (to_play events) (expand-so OfEnclaves q e stands) (λ r so till. events_keep events r so till) named)

pub settle_keeps : (n : ℕ) (next : Model → Written Model) → KeepsNames next → KeepsNames (λ p. follow (settled (model_of OfEnclaves) n p) next)
settle_keeps n next keeps q stands named =
    settle-before OfEnclaves n q stands (follow-till OfEnclaves (settled (model_of OfEnclaves) n q) next (settle-so OfEnclaves n q stands) keeps named)

-- ---- where no learner is called, nothing is named

is_named : (role : Role) (msg : PeerMsg) (names : Named) → HoldsALog role → IsNamed role msg names
is_named (Learner taking) msg names holds = absurd holds
is_named Follower msg names holds = tt
is_named (Candidate votes) msg names holds = tt
is_named (Leader l) msg names holds = tt

is_named_to : (role : Role) (input : Option (HostInput Message)) → HoldsALog role → IsNamedTo role input
is_named_to role (Some (Peer from to m)) holds = is_named role m.msg m.names holds
is_named_to role input holds = tt

all_named : (history : List Recorded) → AllByRecursion (λ (r : Recorded). HoldsALog r.before.role) history → AllByRecursion (λ (r : Recorded). IsNamedTo r.before.role r.input) history
all_named [] hold = tt
all_named (r ∷ history) hold = (is_named_to r.before.role r.input hold.0, all_named history hold.1)

pub holders_named : (f : Enclaves) → AllByRecursion (λ (r : Recorded). HoldsALog r.before.role) f.history → AreNamed OfEnclaves f
unfolding AreNamed
holders_named f hold = all_named f.history hold

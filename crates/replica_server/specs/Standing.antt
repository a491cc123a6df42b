-- The enclave of a session, if one was started, stands for the model's, and holds by the session's map what it takes of tables.
use Rattle.std.specs.Prelude.{◌≡◌, ℕ, ◌⊎◌, Option, Some, None}
use Rattle.std.specs.List.{AllByRecursion}
use Rattle.values.specs.declared.entry.Point.{Point}
use Rattle.replica_model.specs.Linked.{sha_link}
use Rattle.replica_model.specs.Replica.{Named, Role, Learner, Replica, nothing_named}
use Rattle.replica_model.specs.Tables.{point_taken}
use Rattle.group_model.specs.Enclave.{Enclave}
use Rattle.enclave_host.specs.declared.running.Running.{Running}
use Rattle.enclave_host.specs.Standing as host

-- both or neither was started
abbrev pub Stands : Option (Option Running) → Option Enclave → Type 0
Stands None None = Unit {0}
Stands (Some r) (Some e) = host.StandsFor r e
Stands _ _ = ⊥

module _ (names : Point → Named) where
  -- a learner that holds nothing has taken no part, or parts of the table whose path the map has at their point
  abbrev pub IsByMap : Role → Type 0
  IsByMap (Learner t) = ((t.next ≡ 0) × (t.names ≡ nothing_named)) ⊎ (t.names ≡ names (point_taken sha_link t))
  IsByMap role = Unit {0}

  abbrev pub IsByMapAt : Replica → Type 0
  IsByMapAt s = IsByMap s.role

  -- so of the replica, and of each saved state
  abbrev pub AreByMap : Enclave → Type 0
  AreByMap e = IsByMapAt e.replica × AllByRecursion IsByMapAt e.saved

  abbrev pub IfByMap : Option Enclave → Type 0
  IfByMap None = Unit {0}
  IfByMap (Some e) = AreByMap e

-- A message between replicas, and the parts of a table.
use Rattle.values.specs.declared.peer.PeerMsg.{PeerMsg}
use Rattle.replica_model.specs.Replica.{Named, nothing_named}

-- a message as it is sent. A table part also names the path whose table it is a part of
pub record Message : Type 0 where
  pub msg : PeerMsg
  pub names : Named

-- a message that is no part
abbrev pub plain : PeerMsg → Message
plain msg = record { msg = msg; names = nothing_named }

-- Where the replicas of a group run: enclaves that are started, called and stopped, by whatever answers for them.
use Rattle.std.specs.Prelude.{ℕ, Bool, List}
use Rattle.values.specs.declared.batch.Batch.{Batch}
use Rattle.group_model.specs.Enclave.{Hello, HostInput}

-- what a call is answered: a batch, with its messages in full; something that is no batch, from the offset on where it fails;
-- or nothing
pub data Reply (M F : Type 0) : Type 0 where
  Answers : (batch : Batch) (sent : List (ℕ × M)) (field : F) → Reply M F
  Unreadable : (at : ℕ) (field : F) → Reply M F
  Nothing : Reply M F

-- a field in a state of F, whose messages are of type M
pub record Field (M F : Type 0) : Type 0 where
  pub start : F → Hello → F
  pub call : F → ℕ → HostInput M → Reply M F
  pub stop : F → ℕ → F
  -- whether a start or a stop was not answered
  pub has_failed : F → Bool

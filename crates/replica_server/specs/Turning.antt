-- How far the serving of a session is, and how it ends there.
use Rattle.std.specs.Prelude.{◌≡◌, ℕ, ◌+◌, List, [], ◌++◌, length, Option, Some, Result, Ok, Err}
use Rattle.std.specs.Io.KnownBytes.{Appends, Consumes}
use Rattle.values.specs.declared.entry.Point.{Point}
use Rattle.host_inputs.specs.declared.input.HostFault.{HostFault}
use Rattle.replica_model.specs.Linked.{sha_link}
use Rattle.replica_model.specs.Replica.{Named}
use Rattle.trace_model.specs.Session.{Tagging, Handed, IsMapFor}
use Rattle.enclave_host.specs.Words.{wording}
use Rattle.enclave_host.specs.declared.running.Running.{Running}
use Rattle.replica_server.specs.declared.served.Served.{Served}
use Rattle.replica_server.specs.Reached.{Place, Reaches}
use Rattle.replica_server.specs.Serving.{answers_to, AreShort, ServedOver}
use Rattle.replica_server.specs.Standing.{Stands, IfByMap}

-- where the serving is: the offset of the next frame, its number, and the enclave that it finds
pub record Spot : Type 0 where
  pub at : ℕ
  pub number : ℕ
  pub enclave : Option (Option Running)

module _ (tagging : Tagging) where
  -- The bytes read are whole frames, which were answered by what was written, and the enclave is as they leave it.
  pub record IsServed (names : Point → Named) (read written : List ℕ) (s : Spot) : Type 0 where
    pub handed : List Handed
    pub place : Place
    pub reached : Reaches wording tagging sha_link names read handed place
    pub offset : place.offset ≡ s.at
    pub number : place.number ≡ s.number
    pub count : length handed ≡ s.number
    pub answered : written ≡ answers_to tagging names handed
    pub short : AreShort tagging names handed
    pub stands : Stands s.enclave place.before
    pub by_map : IfByMap names place.before

  -- so by every map that is one for these bytes and some that follow
  abbrev pub SoFar : (read written : List ℕ) → Spot → Type 0
  SoFar read written s =
      (names : Point → Named) (future : List ℕ) → IsMapFor wording tagging sha_link names (read ++ future) → IsServed names read written s

  -- it ended, where the source still holds these bytes
  abbrev pub EndsSo : (read written : List ℕ) → (left : Option (List ℕ)) → Served → Type 0
  EndsSo read written left result =
      (names : Point → Named) (future : List ℕ) → left ≡ Some future → IsMapFor wording tagging sha_link names (read ++ future)
      → ServedOver tagging names (read ++ future) left (Some []) (Some written) result

  -- after one more frame
  abbrev pub Turns : (read written : List ℕ) → (next : Spot) → (left : Option (List ℕ)) → Result (Unit {0}) Served → Type 0
  Turns read written next left (Ok done) = SoFar read written next
  Turns read written next left (Err result) = EndsSo read written left result

  -- one more frame is read, and its answer written
  abbrev pub TurnsFrom : (read written : List ℕ) → (next : Spot) → (left_old left_new taken_old taken_new : Option (List ℕ)) → Result (Unit {0}) Served → Type 0
  TurnsFrom read written next left_old left_new taken_old taken_new result =
      (more : List ℕ) × Consumes left_old left_new more × (gained : List ℕ) × Appends taken_old taken_new gained
      × Turns (read ++ more) (written ++ gained) next left_new result

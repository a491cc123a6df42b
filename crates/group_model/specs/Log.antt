-- What a run's history tells: the log, the outcomes, what was held and promised, who was rolled back.
use Rattle.std.specs.Prelude.{◌≡◌, ℕ, ◌+◌, ◌*◌, ◌≤◌, ◌==◌, ◌⊎◌, nat_lt, Bool, true, if◌then◌else◌, List, [], ◌∷◌, ◌++◌, map, length, take, find, filter_map, count_by, Option, Some, None, option_map, unwrap_or, IfSome, Result, Ok, Err}
use Rattle.group_quorum.specs.Conf.{Conf, Met}
use Rattle.group_quorum.specs.Voters.{is_in}
use Rattle.values.specs.declared.entry.Body.TheVariants.{Members}
use Rattle.values.specs.declared.entry.LogEntry.{LogEntry}
use Rattle.values.specs.declared.ids.ClientId.{ClientId}
use Rattle.values.specs.declared.message.Answer.{Answer}
use Rattle.values.specs.declared.message.Answer.TheVariants as answer
use Rattle.values.specs.declared.message.Reply.{Reply}
use Rattle.values.specs.declared.message.Request.{Request}
use Rattle.client_msgs.specs.Reading.{request_of}
use Rattle.client_msgs.specs.declared.fault.RequestFault.{RequestFault}
use Rattle.replica_model.specs.Path.{Path, Link, chain}
use Rattle.replica_model.specs.Replica.{Replica, Ticket}
use Rattle.replica_model.specs.Message.{Message}
use Rattle.group_model.specs.Enclave.{HostInput, Client}
use Rattle.group_model.specs.Group.{Setup}
use Rattle.group_model.specs.Run.{Recorded, World}

-- some element of a list is such; of a history, some call that ever was
abbrev pub AnyByRecursion : {A : Type 0} → (A → Type 0) → List A → Type 0
AnyByRecursion P [] = ⊥
AnyByRecursion P (x ∷ xs) = P x ⊎ AnyByRecursion P xs

-- a path is the front of another
abbrev pub IsFrontOf : Path → Path → Type 0
IsFrontOf p w = (rest : Path) × (p ++ rest ≡ w)

-- the state after a call, and its path up to what is committed and to what is promised
abbrev pub state_of : Recorded → Replica
state_of r = r.call.state

abbrev pub committed_path : Replica → Path
committed_path s = take s.committed s.path

abbrev pub promised_path : Replica → Path
promised_path s = take s.promised s.path

-- the limit and the first configuration of a run
abbrev pub setup_of : World → Setup
setup_of w = unwrap_or w.setup (record { limit = 0; first = record { margin = 0; voters = [] } })

-- the committed fronts of all replicas after each call, the newest first
abbrev pub fronts_of : World → List Path
fronts_of w = map (λ r. committed_path (state_of r)) w.field.history

abbrev pub longer : Path → Path → Path
longer p q = if nat_lt (length q) (length p) then p else q

-- the longest of these paths; of those as long, the one that stands last
abbrev pub longest : List Path → Path
longest [] = []
longest (p ∷ ps) = longer p (longest ps)

-- the log of a run: the longest committed front, and of those as long the earliest
abbrev pub log_of : World → Path
log_of w = longest (fronts_of w)

-- a front of a path that some replica ever held
abbrev pub Held : World → Path → Type 0
Held w p = AnyByRecursion (λ r. IsFrontOf p (state_of r).path) w.field.history

-- a replica ever promised a path that begins with p up to there
abbrev pub EverPromised : World → ℕ → Path → Type 0
EverPromised w v p =
    AnyByRecursion (λ (r : Recorded). (r.replica ≡ v) × IsFrontOf p (promised_path (state_of r))) w.field.history

-- at most twice its margin of a configuration's voters were ever rolled back
abbrev pub Bears : World → Conf → Type 0
Bears w c = count_by (is_in w.rolled) c.voters ≤ 2 * c.margin

-- within the rollback bound: the first configuration bears what was rolled back, and each that a path ever gained
pub record WithinBound (w : World) : Type 0 where
  pub first : IfSome w.setup (λ setup. Bears w setup.first)
  pub gained :
      (p : Path) (term margin : ℕ) (voters : List ℕ) → Held w (p ++ record { term = term; body = Members margin voters } ∷ [])
      → Bears w (record { margin = margin; voters = voters })

-- no two different inputs of the link function, over the paths that were ever held, give one hash
abbrev pub NoCollision : Link → World → Type 0
NoCollision link w =
    (p q : Path) (a b : LogEntry) → Held w (p ++ a ∷ []) → Held w (q ++ b ∷ [])
    → link (chain link p) (length p + 1) a ≡ link (chain link q) (length q + 1) b
    → (chain link p ≡ chain link q) × (length p ≡ length q) × (a ≡ b)

-- an outcome that was answered: by which call, the first of these, to whose request, at which index, and the reply. The
-- request is the ticket's
pub record Outcome : Type 0 where
  pub calls : List Recorded
  pub replica : ℕ
  pub client : ClientId
  pub number : ℕ
  pub request : Option Request
  pub index : ℕ
  pub reply : Reply

-- the ticket that a request handed to a replica may get
abbrev pub new_ticket : Replica → ClientId → ℕ → Result Request RequestFault → List Ticket
new_ticket s client number (Ok request) =
    record { index = length s.path + 1; client = client; number = number; request = request } ∷ []
new_ticket s client number (Err fault) = []

abbrev pub asked_in : Replica → Option (HostInput Message) → List Ticket
asked_in s (Some (Client client number bytes)) = new_ticket s client number (request_of bytes)
asked_in s input = []

-- the request of the ticket of an index, among those that the call found and the one that it may have made
abbrev pub ticket_request : Recorded → ℕ → Option Request
ticket_request r index =
    option_map (λ (t : Ticket). t.request) (find (λ t. t.index == index) (r.before.tickets ++ asked_in r.before r.input))

abbrev pub outcome_in : Recorded → List Recorded → ClientId × ℕ × Answer → Option Outcome
outcome_in r calls (client, number, answer.Outcome index reply) =
    Some
    (record {
      calls = calls;
      replica = r.replica;
      client = client;
      number = number;
      request = ticket_request r index;
      index = index;
      reply = reply;
    })
outcome_in r calls (client, number, other) = None

-- all outcomes of a history, the newest call's first
abbrev pub outcomes_in : List Recorded → List Outcome
outcomes_in [] = []
outcomes_in (r ∷ rs) = filter_map (outcome_in r (r ∷ rs)) r.call.batch.answers ++ outcomes_in rs

abbrev pub outcomes_of : World → List Outcome
outcomes_of w = outcomes_in w.field.history

-- at least a quorum of a configuration's voters are such
pub record MetBy (c : Conf) (R : ℕ → Type 0) : Type 0 where
  pub who : ℕ → Bool
  pub each : (v : ℕ) → who v ≡ true → R v
  pub enough : Met c who

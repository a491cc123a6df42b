-- The ways in which an event changes a world, each a case of a fact that is to stand in every run.
use Rattle.std.specs.Prelude.{ℕ, suc, ◌≡◌, true, false, List, [], ◌∷◌, slice_get, Some, None, unwrap_or, Ok}
use Rattle.group_quorum.specs.Conf.{Conf}
use Rattle.group_quorum.specs.Voters.{conf_of, insert_rising, is_in}
use Rattle.values.specs.declared.event.Event.{Event}
use Rattle.values.specs.declared.event.Event.TheVariants as event
use Rattle.values.specs.declared.ids.ClientId.{ClientId}
use Rattle.values.specs.declared.want.Want.{Want}
use Rattle.schedule_model.specs.Client.{Core, new_core, wanted, said, heard}
use Rattle.replica_model.specs.Path.{Link}
use Rattle.replica_model.specs.Keyed.{value_at}
use Rattle.replica_model.specs.Replica.{Replica}
use Rattle.replica_model.specs.Message.{Message}
use Rattle.group_model.specs.Enclave.{Learn, HostInput, Tick, Peer, Client, Join, Admit, Remove, Save, Roll, Connect, Margin, Enclave, Called, called, rolls_to}
use Rattle.group_model.specs.Group.{Setup, Sent, Answered, numbered, but, is_client, core_of, put_core, keeps}
use Rattle.group_model.specs.Happens as happening
use Rattle.group_model.specs.Happens.{hearing}
use Rattle.group_model.specs.Run.{World, moves, no_enclaves, start_enclave, enclaves}

-- from where a replica gets what it is handed in an event: it is told so, a message is delivered, a client asks, or a
-- client's core says what it has in flight; it is linked with a learner, or is to put back a state that it has not saved
pub data Handing (w : World) (v : ℕ) : Type 0 where
  Ticked : Handing w v
  Saved : Handing w v
  Joins : (id : ℕ) → Handing w v
  Admits : (id : ℕ) → Handing w v
  Removes : (id : ℕ) → Handing w v
  Margins : (margin : ℕ) → Handing w v
  Delivered : (k : ℕ) (m : Sent Message) → numbered w.messages k ≡ Some m → v ≡ m.to → Handing w v
  Asked : (client : ClientId) (number : ℕ) (request : List ℕ) (before : List Event) → w.past ≡ event.Ask v client number request ∷ before → Handing w v
  Said : (client : ClientId) (core : Core) (number : ℕ) (request : List ℕ) → core_of w.cores client ≡ Some core → said core ≡ Some (number, request) → Handing w v
  Linked : (id : ℕ) → Handing w v
  NoState : (k : ℕ) → ((e : Enclave) → value_at w.field.running v ≡ Some e → slice_get e.saved k ≡ None) → Handing w v

abbrev pub handed : {w : World} {v : ℕ} → Handing w v → HostInput Message
handed Ticked = Tick
handed Saved = Save
handed (Joins id) = Join id
handed (Admits id) = Admit id
handed (Removes id) = Remove id
handed (Margins margin) = Margin margin
handed (Delivered k m is to) = Peer m.from m.to m.message
handed (Asked client number request before is) = Client client number request
handed (Said client core number request has says) = Client client number request
handed (Linked id) = Connect id
handed (NoState k none) = Roll k

-- the world after a call of a replica that runs
abbrev pub after_call : World → ℕ → Enclave → HostInput Message → Called → World
after_call w v e input c = keeps w v c.call.batch c.call.sent (moves w.field v e.replica (Some input) c)

-- before the group has begun it has nothing
abbrev pub HasBegun : World → Type 0
HasBegun w = w.setup ≡ None → (w.field ≡ no_enclaves) × (w.messages ≡ [])

-- the fact K stands after each of them, where E is known of each world
module _ (link : Link) (E K : World → Type 0) where
  pub record Survives : Type 0 where
    -- an event is counted, whatever comes of it
    pub counted : (w : World) (e : Event) → K w → K (record w { past = e ∷ w.past })
    -- the begin event
    pub begun : (w : World) (limit margin : ℕ) (voters : List ℕ) (c : Conf) → E w → w.setup ≡ None → conf_of margin voters ≡ Ok c → K w
        → K (record w {
          setup = Some (record { limit = limit; first = c });
          running = c.voters;
          started = c.voters;
          confs = c ∷ w.confs;
          field = happening.starts_all (enclaves link) w.field c limit c.voters;
        })
    -- a learner starts, in a group that has begun
    pub started : (w : World) (setup : Setup) (x : ℕ) → w.setup ≡ Some setup → is_in w.started (suc x) ≡ false → K w
        → K (record w { running = insert_rising (suc x) w.running; started = suc x ∷ w.started; field = start_enclave w.field (Learn (suc x) w.running) })
    -- a replica is called
    pub called : (w : World) (v : ℕ) (h : Handing w v) (e : Enclave) → value_at w.field.running v ≡ Some e → K w
        → K (after_call w v e (handed h) (called link e (handed h)))
    -- a roll puts a saved state back
    pub rolled : (w : World) (v j : ℕ) (e : Enclave) (s : Replica) → value_at w.field.running v ≡ Some e → slice_get e.saved j ≡ Some s → K w
        → K (let after : World = after_call w v e (Roll j) (rolls_to e j (Some s)) in record after { rolled = v ∷ after.rolled })
    -- a replica ends
    pub stopped : (w : World) (v : ℕ) → K w → K (record w { running = but v w.running; field = (enclaves link).stop w.field v })
    -- messages are lost, or wait no more
    pub sorted : (w : World) (lost waiting : List ℕ) → K w → K (record w { lost = lost; waiting = waiting })
    -- a client wants something, and hears an answer
    pub wanted : (w : World) (client : ClientId) (want : Want) (core : Core) → wanted (unwrap_or (core_of w.cores client) new_core) want ≡ Ok core → K w
        → K (record w { cores = put_core w.cores client core })
    pub heard : (w : World) (client : ClientId) (k : ℕ) (a : Answered) (core : Core) → numbered w.answers k ≡ Some a → is_client a.client client ≡ true → core_of w.cores client ≡ Some core → K w
        → K (record w {
          cores = put_core w.cores client (heard core a.number a.answer).0;
          hearings = hearing (enclaves link) client core a (heard core a.number a.answer).1 ∷ w.hearings;
        })

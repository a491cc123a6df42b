-- What every state keeps of its tickets and of the limit by which it reads its path, and what a call tells of outcomes.
use Rattle.log_laws.proofs.History.{any_left, any_right}
use Rattle.std.proofs.Common.{◌≡◌, ℕ, ◌<◌, ◌≤◌, ◌⊎◌, inl, inr, Bool, true, Some, Ok, List, [], ◌∷◌, ◌++◌}
use Rattle.std.specs.Prelude.{filter}
use Rattle.std.specs.List.{AllByRecursion}
use Rattle.std.proofs.lemmas.Bool.{cond_both}
use Rattle.values.specs.declared.entry.Body.TheVariants.{Ask}
use Rattle.values.specs.declared.ids.ClientId.{ClientId}
use Rattle.values.specs.declared.message.Answer.{Answer}
use Rattle.values.specs.declared.message.Answer.TheVariants.{Outcome}
use Rattle.values.specs.declared.message.Reply.{Reply}
use Rattle.values.specs.declared.peer.PeerMsg.{PeerMsg}
use Rattle.values.specs.declared.peer.PeerMsg.TheVariants.{Part}
use Rattle.client_msgs.specs.Canonical.{canonical_request}
use Rattle.client_msgs.specs.Reading.{request_of}
use Rattle.replica_model.specs.Path.{Path, entry_at}
use Rattle.replica_model.specs.Folds.{reply_of}
use Rattle.replica_model.specs.Message.{Message}
use Rattle.replica_model.specs.Replica.{Ticket, Named, Role, Learner, Replica}
use Rattle.replica_model.specs.Call.{Call}
use Rattle.group_model.specs.Log.{AnyByRecursion, IsFrontOf}
use Rattle.group_model.specs.Due.{IsToldOutcome, IsToldReplaced}
use Rattle.outcome_laws.proofs.Places.{entry_of_front}

-- at a ticket's index the path has the Ask of its client and number with its request's canonical bytes
abbrev pub IsAsked : Path → Ticket → Type 0
IsAsked path t = (term : ℕ) × (entry_at path t.index ≡ Some (record { term = term; body = Ask t.client t.number (canonical_request t.request) }))

abbrev pub IsAmong : List Ticket → Ticket → Type 0
IsAmong all t = AnyByRecursion (λ u. u ≡ t) all

-- a ticket is one of these, and the path has the Ask of each of them that has its index; its request is read again from
-- its canonical bytes
pub record Stands (all : List Ticket) (path : Path) (t : Ticket) : Type 0 where
  pub among : IsAmong all t
  pub readable : request_of (canonical_request t.request) ≡ Ok t.request
  pub each : (u : Ticket) → IsAmong all u → u.index ≡ t.index → IsAsked path u

-- a learner has no ticket, and once it took a part it knows the run's limit; who holds a log reads it by that limit
abbrev pub Reads : ℕ → ℕ → List Ticket → Role → Type 0
Reads run limit tickets (Learner taking) = (tickets ≡ []) × (0 < taking.next → taking.names.limit ≡ run)
Reads run limit tickets other = limit ≡ run

-- a part names the run's limit
abbrev pub NamesLimit : ℕ → Named → PeerMsg → Type 0
NamesLimit run names (Part term part) = names.limit ≡ run
NamesLimit run names other = Unit {0}

abbrev pub LimitTold : ℕ → Message → Type 0
LimitTold run m = NamesLimit run m.names m.msg

abbrev pub LimitsTold : ℕ → List (ℕ × Message) → Type 0
LimitsTold run sent = AllByRecursion (λ m. LimitTold run m.1) sent

-- an outcome is the reply of the path at the index of a ticket, which is committed
pub record Replied (all : List Ticket) (run committed : ℕ) (path : Path) (client : ClientId) (number index : ℕ) (reply : Reply) : Type 0 where
  pub ticket : Ticket
  pub stands : Stands all path ticket
  pub index_is : ticket.index ≡ index
  pub client_is : ticket.client ≡ client
  pub number_is : ticket.number ≡ number
  pub below : index ≤ committed
  pub reply_is : reply_of run path index ≡ Some reply

abbrev pub IsFair : List Ticket → ℕ → ℕ → Path → ClientId × ℕ × Answer → Type 0
IsFair all run committed path (client, number, Outcome index reply) = Replied all run committed path client number index reply
IsFair all run committed path (client, number, other) = Unit {0}

-- a ticket waits: it is held, and its index is not committed
abbrev pub Waits : ℕ → List Ticket → Ticket → Type 0
Waits committed tickets t = (committed < t.index) × IsAmong tickets t

-- a ticket whose index was not committed when the call began waits, was told its outcome, or was told that its entry is
-- replaced
abbrev pub IsOwed : ℕ → ℕ → ℕ → Path → List Ticket → List (ClientId × ℕ × Answer) → Ticket → Type 0
IsOwed since limit committed path tickets answers t =
    since < t.index → Waits committed tickets t ⊎ (IsToldOutcome limit path answers t ⊎ IsToldReplaced answers t)

-- or nothing was committed
abbrev pub IsOwedOrIdle : ℕ → ℕ → ℕ → Path → List Ticket → List (ClientId × ℕ × Answer) → Ticket → Type 0
IsOwedOrIdle since limit committed path tickets answers t =
    IsOwed since limit committed path tickets answers t ⊎ (committed ≤ since)

-- these tickets are held, but for those whose index was committed when the call began
abbrev pub Wait : List Ticket → ℕ → ℕ → List Ticket → Type 0
Wait olds since committed tickets = AllByRecursion (λ t. since < t.index → Waits committed tickets t) olds

-- What holds of a call so far, of which these tickets are all that it found and may have made. Those in `olds` are owed an
-- answer, where their indices were not committed up to `since`
pub record FairParts (all olds : List Ticket) (since run limit committed : ℕ) (path : Path) (role : Role) (tickets : List Ticket) (answers : List (ClientId × ℕ × Answer)) (sent : List (ℕ × Message)) : Type 0 where
  pub reads : Reads run limit tickets role
  pub stand : AllByRecursion (Stands all path) tickets
  pub answered : AllByRecursion (IsFair all run committed path) answers
  pub told : LimitsTold run sent
  pub owed : AllByRecursion (IsOwedOrIdle since limit committed path tickets answers) olds

abbrev pub FairCall : List Ticket → List Ticket → ℕ → ℕ → Call → Type 0
FairCall all olds since run c = FairParts all olds since run c.state.limit c.state.committed c.state.path c.state.role c.state.tickets c.batch.answers c.sent

-- a state in a call that has told nothing yet
abbrev pub FairState : List Ticket → List Ticket → ℕ → ℕ → Replica → Type 0
FairState all olds since run s = FairParts all olds since run s.limit s.committed s.path s.role s.tickets [] []

pub reads_fewer : (run limit : ℕ) (tickets fewer : List Ticket) (role : Role) → (tickets ≡ [] → fewer ≡ []) → Reads run limit tickets role → Reads run limit fewer role
reads_fewer run limit tickets fewer (Learner taking) none reads = (none reads.0, reads.1)
reads_fewer run limit tickets fewer other none reads = reads

pub stands_longer : (all : List Ticket) (p w : Path) → IsFrontOf p w → (t : Ticket) → Stands all p t → Stands all w t
stands_longer all p w pre t g = record {
  among = g.among;
  readable = g.readable;
  each = λ u among same. let old = g.each u among same in (old.0, entry_of_front p w u.index _ pre old.1);
}

pub all_filter : {A : Type 0} (P Q : A → Type 0) (test : A → Bool) (xs : List A) → ((x : A) → test x ≡ true → P x → Q x) → AllByRecursion P xs → AllByRecursion Q (filter test xs)
all_filter P Q test [] more h = tt
all_filter P Q test (x ∷ xs) more h = cond_both (test x) (x ∷ filter test xs) (filter test xs) (AllByRecursion Q)
    (λ b. (more x b h.0, all_filter P Q test xs more h.1))
    (λ b. all_filter P Q test xs more h.1)

-- ---- what is owed
module _ (since limit : ℕ) where
  -- before anything is answered it is what waits that is owed
  pub owed_from : (committed : ℕ) (path : Path) (tickets olds : List Ticket) (answers : List (ClientId × ℕ × Answer)) → Wait olds since committed tickets → AllByRecursion (IsOwed since limit committed path tickets answers) olds
  owed_from committed path tickets [] answers h = tt
  owed_from committed path tickets (t ∷ olds) answers h = (λ after. inl (h.0 after), owed_from committed path tickets olds answers h.1)

  pub or_idle : (committed : ℕ) (path : Path) (tickets olds : List Ticket) (answers : List (ClientId × ℕ × Answer)) → AllByRecursion (IsOwed since limit committed path tickets answers) olds → AllByRecursion (IsOwedOrIdle since limit committed path tickets answers) olds
  or_idle committed path tickets [] answers h = tt
  or_idle committed path tickets (t ∷ olds) answers h = (inl h.0, or_idle committed path tickets olds answers h.1)

  -- where nothing was answered yet, another limit, another path and any answers may come
  pub owed_moved : (next committed : ℕ) (path other : Path) (tickets olds : List Ticket) (answers : List (ClientId × ℕ × Answer)) → AllByRecursion (IsOwedOrIdle since limit committed path tickets []) olds → AllByRecursion (IsOwedOrIdle since next committed other tickets answers) olds
  owed_moved next committed path other tickets [] answers h = tt
  owed_moved next committed path other tickets (t ∷ olds) answers h = (moved h.0, owed_moved next committed path other tickets olds answers h.1)
    where
      moved : IsOwedOrIdle since limit committed path tickets [] t → IsOwedOrIdle since next committed other tickets answers t
      moved (inr idle) = inr idle
      moved (inl owed) = inl (λ after. elim (owed after) [ inl waits ↦ inl waits | inr (inl told) ↦ absurd told.2 | inr (inr told) ↦ absurd told.2 ])

-- ---- elements of lists
module _ {A : Type 0} where
  pub left_among : (xs ys : List A) (x : A) → AnyByRecursion (λ u. u ≡ x) xs → AnyByRecursion (λ u. u ≡ x) (xs ++ ys)
  left_among xs ys x m = any_left (λ u. u ≡ x) xs ys m

  pub right_among : (xs ys : List A) (x : A) → AnyByRecursion (λ u. u ≡ x) ys → AnyByRecursion (λ u. u ≡ x) (xs ++ ys)
  right_among xs ys x m = any_right (λ u. u ≡ x) xs ys m

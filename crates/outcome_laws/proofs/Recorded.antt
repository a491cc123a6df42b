-- A recorded call: its outcomes are its path's replies to requests that were handed to this replica.
use Rattle.std.proofs.Common.{◌≡◌, ℕ, suc, ◌+◌, ◌<◌, ◌≤◌, ◌==◌, ◌⊎◌, inl, inr, Option, Some, Result, Ok, Err, List, [], ◌∷◌, ◌++◌, length, refl, sym, ap, subst, ◌∙◌, slice_get, arith}
use Rattle.std.specs.Prelude.{find, option_map}
use Rattle.std.specs.List.{AllByRecursion}
use Rattle.std.proofs.lemmas.Bool.{cases_Bool, cond-true, cond-false, eqb-true, eqb-false}
use Rattle.std.proofs.lemmas.Option.{same_Some}
use Rattle.values.specs.declared.entry.Body.{Body}
use Rattle.values.specs.declared.entry.Body.TheVariants.{Noop, Ask, Members}
use Rattle.values.specs.declared.entry.LogEntry.{LogEntry}
use Rattle.values.specs.declared.ids.ClientId.{ClientId}
use Rattle.values.specs.declared.message.Answer.{Answer}
use Rattle.values.specs.declared.message.Answer.TheVariants.{Outcome}
use Rattle.values.specs.declared.message.Reply.{Reply}
use Rattle.values.specs.declared.message.Request.{Request}
use Rattle.client_msgs.specs.Canonical.{canonical_request}
use Rattle.client_msgs.specs.Reading.{request_of}
use Rattle.client_msgs.specs.declared.fault.RequestFault.{RequestFault}
use Rattle.replica_model.specs.Path.{Path, entry_at}
use Rattle.replica_model.specs.Folds.{reply_of}
use Rattle.replica_model.specs.Message.{Message}
use Rattle.replica_model.specs.Replica.{Ticket, Replica}
use Rattle.replica_model.specs.Call.{Call, still}
use Rattle.group_model.specs.Enclave.{HostInput, Client}
use Rattle.group_model.specs.Run.{Recorded}
use Rattle.group_model.specs.Log.{AnyByRecursion, state_of, committed_path, new_ticket, asked_in, ticket_request}
use Rattle.group_model.specs.Due.{IsAnswered}
use Rattle.group_model.specs.Laws.{Handed}
use Rattle.log_laws.proofs.History.{all_more, with_call}
use Rattle.outcome_laws.proofs.Places.{entry_in_front, entry_fits, reply_taken, read_again}
use Rattle.outcome_laws.proofs.Tickets.{left_among, right_among, IsAsked, IsAmong, Stands, Waits, Wait, IsOwedOrIdle, Reads, Replied, IsFair, FairCall, FairState, owed_from, or_idle}
use Rattle.outcome_laws.proofs.Rules.{IsNew}

-- ---- elements of lists
module _ {A : Type 0} where
  pub all_from : (P : A → Type 0) (xs : List A) → ((x : A) → AnyByRecursion (λ u. u ≡ x) xs → P x) → AllByRecursion P xs
  all_from P [] f = tt
  all_from P (y ∷ ys) f = (f y (inl refl), all_from P ys (λ x m. f x (inr m)))

  pub all_at : (P : A → Type 0) (xs : List A) (x : A) → AnyByRecursion (λ u. u ≡ x) xs → AllByRecursion P xs → P x
  all_at P [] x m h = absurd m
  all_at P (y ∷ ys) x (inl same) h = subst P same h.0
  all_at P (y ∷ ys) x (inr m) h = all_at P ys x m h.1

  among_cases : (xs ys : List A) (x : A) → AnyByRecursion (λ u. u ≡ x) (xs ++ ys) → AnyByRecursion (λ u. u ≡ x) xs ⊎ AnyByRecursion (λ u. u ≡ x) ys
  among_cases [] ys x m = inr m
  among_cases (y ∷ xs) ys x (inl same) = inl (inl same)
  among_cases (y ∷ xs) ys x (inr m) = elim (among_cases xs ys x m) [ inl here ↦ inl (inr here) | inr there ↦ inr there ]

-- all tickets that a call found and may have made
abbrev pub found : Replica → Option (HostInput Message) → List Ticket
found s input = s.tickets ++ asked_in s input

-- a ticket is asked in the path, and its request was handed to the replica
abbrev pub TicketKept : List Recorded → ℕ → Path → Ticket → Type 0
TicketKept history v path t = IsAsked path t × AnyByRecursion (Handed v t.client t.number t.request) history

pub record FairReplica (run : ℕ) (history : List Recorded) (v : ℕ) (s : Replica) : Type 0 where
  pub reads : Reads run s.limit s.tickets s.role
  pub kept : AllByRecursion (TicketKept history v s.path) s.tickets

-- an outcome that a recorded call told
pub record OutcomeKept (run : ℕ) (r : Recorded) (calls : List Recorded) (client : ClientId) (number index : ℕ) (reply : Reply) : Type 0 where
  pub request : Request
  pub request_is : ticket_request r index ≡ Some request
  pub term : ℕ
  pub asked : entry_at (committed_path (state_of r)) index ≡ Some (record { term = term; body = Ask client number (canonical_request request) })
  pub replied : reply_of run (committed_path (state_of r)) index ≡ Some reply
  pub handed : AnyByRecursion (Handed r.replica client number request) calls

abbrev pub AnswerKept : ℕ → Recorded → List Recorded → ClientId × ℕ × Answer → Type 0
AnswerKept run r calls (client, number, Outcome index reply) = OutcomeKept run r calls client number index reply
AnswerKept run r calls (client, number, other) = Unit {0}

-- ---- the ticket that a call may have made

-- a ticket has the next index, and its request is what was handed
abbrev IsAskedNow : Replica → Option (HostInput Message) → Ticket → Type 0
IsAskedNow s input t = (t.index ≡ length s.path + 1) × ((bytes : List ℕ) × (input ≡ Some (Client t.client t.number bytes)) × (request_of bytes ≡ Ok t.request))

asked_new : (s : Replica) (input : Option (HostInput Message)) (u : Ticket) → IsAmong (asked_in s input) u → IsAskedNow s input u
asked_new s (Some (Client client number bytes)) u h = of_result (request_of bytes) refl h
  where
    of_result : (r : Result Request RequestFault) → request_of bytes ≡ r → IsAmong (new_ticket s client number r) u → IsAskedNow s (Some (Client client number bytes)) u
    of_result (Ok request) is (inl same) = subst (IsAskedNow s (Some (Client client number bytes))) same (refl, (bytes, refl, is))
    of_result (Ok request) is (inr never) = absurd never
    of_result (Err fault) is never = absurd never
asked_new s other u h = absurd h

last_entry : (p : Path) (e : LogEntry) → entry_at (p ++ e ∷ []) (length p + 1) ≡ Some e
last_entry p e = subst (λ i. entry_at (p ++ e ∷ []) i ≡ Some e) (the_index (length p)) (pushed_at p)
  where
    the_index : (n : ℕ) → suc n ≡ n + 1
    the_index n = omega arith

    pushed_at : (p : Path) → slice_get (p ++ e ∷ []) (length p) ≡ Some e
    pushed_at [] = refl
    pushed_at (x ∷ p) = pushed_at p

module _ (run : ℕ) (history : List Recorded) (v : ℕ) (s : Replica) (g : FairReplica run history v s) where
  old_kept : (u : Ticket) → IsAmong s.tickets u → TicketKept history v s.path u
  old_kept u m = all_at (TicketKept history v s.path) s.tickets u m g.kept

  old_fits : (u : Ticket) → IsAmong s.tickets u → u.index ≤ length s.path
  old_fits u m = let kept = (old_kept u m).0 in entry_fits s.path u.index _ kept.1

  -- a request that was handed is read again
  handed_read : (client : ClientId) (number : ℕ) (request : Request) (calls : List Recorded) → AnyByRecursion (Handed v client number request) calls → request_of (canonical_request request) ≡ Ok request
  handed_read client number request [] h = absurd h
  handed_read client number request (r ∷ calls) (inl h) = read_again h.1.0 request h.1.2
  handed_read client number request (r ∷ calls) (inr h) = handed_read client number request calls h

  old_read : (t : Ticket) → IsAmong s.tickets t → request_of (canonical_request t.request) ≡ Ok t.request
  old_read t m = handed_read t.client t.number t.request history (old_kept t m).1

  -- what a call finds is fair
  pub found_waits : Wait s.tickets s.committed s.committed s.tickets
  found_waits = all_from (λ t. s.committed < t.index → Waits s.committed s.tickets t) s.tickets (λ t m after. (after, m))

  pub found_fair : (input : Option (HostInput Message)) → FairState (found s input) s.tickets s.committed run s
  found_fair input = record {
    reads = g.reads;
    stand = all_from (Stands (found s input) s.path) s.tickets (λ t m. record {
      among = left_among s.tickets (asked_in s input) t m;
      readable = old_read t m;
      each = λ u among same. elim (among_cases s.tickets (asked_in s input) u among) [
        | inl here ↦ (old_kept u here).0
        | inr new ↦ absurd (omega (arith, old_fits t m, (asked_new s input u new).0, same))
      ];
    });
    answered = tt;
    told = tt;
    owed = or_idle s.committed s.limit s.committed s.path s.tickets s.tickets [] (owed_from s.committed s.limit s.committed s.path s.tickets s.tickets [] found_waits);
  }

  -- a call that leaves the state as it is
  pub still_fair : (input : Option (HostInput Message)) → FairCall (found s input) (found s input) s.committed run (still s)
  still_fair input =
      let g = found_fair input in
      record { reads = g.reads; stand = g.stand; answered = tt; told = tt; owed = all_from (IsOwedOrIdle s.committed s.limit s.committed s.path s.tickets []) (found s input) (λ t m. inr (omega arith)) }

  -- the ticket of a request that is handed
  pub new_fair : (client : ClientId) (number : ℕ) (bytes : List ℕ) (request : Request) → request_of bytes ≡ Ok request → IsNew (found s (Some (Client client number bytes))) s client number request
  new_fair client number bytes request is =
      let t : Ticket = record { index = length s.path + 1; client = client; number = number; request = request } in
      let e : LogEntry = record { term = s.term; body = Ask client number (canonical_request request) } in
      record {
        among = right_among s.tickets (new_ticket s client number (request_of bytes)) t (subst (λ r. IsAmong (new_ticket s client number r) t) (sym is) (inl refl));
        readable = read_again bytes request is;
        each = λ u among same. elim (among_cases s.tickets (new_ticket s client number (request_of bytes)) u among) [
          | inl here ↦ absurd (omega (arith, old_fits u here, same))
          | inr new ↦ elim (subst (λ r. IsAmong (new_ticket s client number r) u) is new) [
            | inl it ↦ subst (IsAsked (s.path ++ e ∷ [])) it (s.term, last_entry s.path e)
            | inr never ↦ absurd never
          ]
        ];
      }

  module _ (input : Option (HostInput Message)) (call : Call) (fair : FairCall (found s input) (found s input) s.committed run call) where
    abbrev now : Recorded
    now = record { replica = v; before = s; input = input; call = call }

    handed : (u : Ticket) → IsAmong (found s input) u → AnyByRecursion (Handed v u.client u.number u.request) (with_call history v s input call)
    handed u among = elim (among_cases s.tickets (asked_in s input) u among) [
      | inl here ↦ inr (old_kept u here).1
      | inr new ↦ inl (refl, (asked_new s input u new).1)
    ]

    -- the state after a call is fair again
    pub after_fair : FairReplica run (with_call history v s input call) v call.state
    after_fair = record {
      reads = fair.reads;
      kept = all_more (Stands (found s input) call.state.path) (TicketKept (with_call history v s input call) v call.state.path) (λ t st. (st.each t st.among refl, handed t st.among)) call.state.tickets fair.stand;
    }

    find_among : (all : List Ticket) (i : ℕ) (t : Ticket) → IsAmong all t → t.index ≡ i → (u : Ticket) × (find (λ x. x.index == i) all ≡ Some u) × (IsAmong all u) × (u.index ≡ i)
    find_among [] i t m at = absurd m
    find_among (x ∷ xs) i t m at = elim (cases_Bool (x.index == i)) [
      | inl here ↦ (x, cond-true (x.index == i) (Some x) _ here, inl refl, eqb-true x.index i here)
      | inr past ↦ elim m [
        | inl same ↦ absurd (eqb-false x.index i past (ap (λ (y : Ticket). y.index) same ∙ at))
        | inr more ↦ let rest = find_among xs i t more at in (rest.0, cond-false (x.index == i) (Some x) _ past ∙ rest.1, inr rest.2, rest.3)
      ]
    ]

    abbrev asker : ClientId → Body → ClientId
    asker c Noop = c
    asker c (Ask client number request) = client
    asker c (Members margin voters) = c

    abbrev asks : Body → ℕ
    asks Noop = 0
    asks (Ask client number request) = number
    asks (Members margin voters) = 0

    outcome_kept : (client : ClientId) (number index : ℕ) (reply : Reply) → Replied (found s input) run call.state.committed call.state.path client number index reply → OutcomeKept run now (now ∷ history) client number index reply
    outcome_kept client number index reply g =
        let t : Ticket = g.ticket in
        let f = find_among (found s input) index t g.stands.among g.index_is in
        let u : Ticket = f.0 in
        let mine = g.stands.each u f.2 (f.3 ∙ sym g.index_is) in
        let its = g.stands.each t g.stands.among refl in
        let at_mine : entry_at call.state.path index ≡ Some (record { term = mine.0; body = Ask u.client u.number (canonical_request u.request) }) = subst (λ i. entry_at call.state.path i ≡ Some (record { term = mine.0; body = Ask u.client u.number (canonical_request u.request) })) f.3 mine.1 in
        let at_its : entry_at call.state.path index ≡ Some (record { term = its.0; body = Ask t.client t.number (canonical_request t.request) }) = subst (λ i. entry_at call.state.path i ≡ Some (record { term = its.0; body = Ask t.client t.number (canonical_request t.request) })) g.index_is its.1 in
        let one = same_Some _ _ (sym at_mine ∙ at_its) in
        let client_is : u.client ≡ client = ap (λ (e : LogEntry). asker u.client e.body) one ∙ g.client_is in
        let number_is : u.number ≡ number = ap (λ (e : LogEntry). asks e.body) one ∙ g.number_is in
        record {
          request = u.request;
          request_is = ap (option_map (λ (x : Ticket). x.request)) f.1;
          term = mine.0;
          asked = entry_in_front call.state.committed call.state.path index _ g.below
              (subst (λ n. entry_at call.state.path index ≡ Some (record { term = mine.0; body = Ask client n (canonical_request u.request) })) number_is
              (subst (λ c. entry_at call.state.path index ≡ Some (record { term = mine.0; body = Ask c u.number (canonical_request u.request) })) client_is at_mine));
          replied = reply_taken run call.state.committed call.state.path index g.below ∙ g.reply_is;
          handed = subst (λ n. AnyByRecursion (Handed v client n u.request) (now ∷ history)) number_is
              (subst (λ c. AnyByRecursion (Handed v c u.number u.request) (now ∷ history)) client_is (handed u f.2));
        }

    answer_kept : (a : ClientId × ℕ × Answer) → IsFair (found s input) run call.state.committed call.state.path a → AnswerKept run now (now ∷ history) a
    answer_kept (client, number, Outcome index reply) g = outcome_kept client number index reply g
    answer_kept (client, number, other) g = g

    -- each outcome of the call
    pub answers_kept : AllByRecursion (AnswerKept run now (now ∷ history)) call.batch.answers
    answers_kept = all_more (IsFair (found s input) run call.state.committed call.state.path) (AnswerKept run now (now ∷ history)) answer_kept call.batch.answers fair.answered

    -- each ticket that the call passed is answered
    is_answered : (t : Ticket) → IsOwedOrIdle s.committed call.state.limit call.state.committed call.state.path call.state.tickets call.batch.answers t → IsAnswered now t
    is_answered t (inr idle) after passed = absurd (omega (arith, idle, after, passed))
    is_answered t (inl owed) after passed = elim (owed after) [
      | inl waits ↦ absurd (let w : call.state.committed < t.index = waits.0 in omega (arith, w, passed))
      | inr told ↦ told
    ]

    pub tickets_answered : AllByRecursion (IsAnswered now) (found s input)
    tickets_answered = all_more (IsOwedOrIdle s.committed call.state.limit call.state.committed call.state.path call.state.tickets call.batch.answers) (IsAnswered now) is_answered (found s input) fair.owed

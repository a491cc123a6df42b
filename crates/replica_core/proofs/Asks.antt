-- A client asks, as of the model.
use Rattle.std.proofs.Common.{◌≡◌, ℕ, ◌+◌, ◌-◌, ◌<◌, ◌≤◌, Bool, true, false, cond, ◌||◌, ◌==◌, nat_le, Option, Some, None, Result, Ok, Err, List, [], ◌∷◌, ◌++◌, length, refl, sym, ap, subst, ◌∙◌, arith}
use Rattle.std.proofs.lemmas.Bool.{cond-true, cond-false, or_parts, eqb-false}
use Rattle.std.proofs.lemmas.List.{map-append}
use Rattle.values.specs.declared.batch.Batch.{Batch}
use Rattle.values.specs.declared.entry.Body.TheVariants.{Ask}
use Rattle.values.specs.declared.entry.Hash.{Hash}
use Rattle.values.specs.declared.entry.LogEntry.{LogEntry}
use Rattle.values.specs.declared.ids.ClientId.{ClientId}
use Rattle.values.specs.declared.limits.TheConstants.{TOP}
use Rattle.values.specs.declared.message.Answer.{Answer}
use Rattle.values.specs.declared.message.Answer.TheVariants.{NotLeader, Busy, Malformed, Invalid, Halted}
use Rattle.values.specs.declared.message.Part.TheVariants.{Nothing}
use Rattle.values.specs.declared.message.Request.{Request}
use Rattle.client_msgs.specs.declared.fault.RequestFault.{RequestFault}
use Rattle.client_msgs.specs.declared.fault.RequestFault.TheVariants as faults
use Rattle.client_msgs.specs.Canonical.{canonical_request}
use Rattle.replica_model.specs.declared.TheConstants.{MAX_OPEN}
use Rattle.replica_model.specs.Linked.{sha_link}
use Rattle.replica_model.specs.Replica as model
use Rattle.replica_model.specs.Call.{empty_batch, still, answers}
use Rattle.replica_model.specs.Raise.{pushed, raise, raise_and_send}
use Rattle.replica_model.specs.Clients.{open_entries, is_busy, asked, request_heard, valid_request, offset_of, bad_request, on_request}
use Rattle.replica_log.specs.Window.{Window, IsOrdered, last_index, pushed as window_pushed}
use Rattle.replica_log.specs.Models.{StandsFor as LogStandsFor}
use Rattle.replica_core.specs.Logs.{LogsAreTheModels}
use Rattle.replica_core.specs.declared.tickets.Ticket.{Ticket}
use Rattle.replica_core.specs.declared.role.Role.TheVariants as kept
use Rattle.replica_core.specs.declared.role.Leading.{Leading}
use Rattle.replica_core.specs.declared.holder.Holder.{Holder}
use Rattle.replica_core.specs.declared.send.Appends.TheVariants.{Nobody, Everyone}
use Rattle.replica_core.specs.Asking.{fault_answered, read_as, written, open_in, refusal_by, refusal_at, refusal_of}
use Rattle.replica_core.specs.Calling.{Reaches, Does}
use Rattle.replica_core.specs.Keeping.{leads_now, IsSound}
use Rattle.replica_core.specs.Standing.{kept_ticket, HoldsFor}
use Rattle.replica_core.proofs.Calls.{still-does, answers-does}
use Rattle.replica_core.proofs.Changes.{leading-model}
use Rattle.replica_core.proofs.Holding.{unless-leader, last-model}
use Rattle.replica_core.proofs.Sends.{leads-is}
use Rattle.replica_core.proofs.Sounds.{pushed-last, pushed-sound, within-push, tickets-push, within-more}
use Rattle.replica_core.proofs.Wins.{pushed-stands, everyone-does}

-- ---- how the bytes are read

-- there is none
pub no-bytes : (b b' : Batch) (client : ClientId) (number : ℕ) (r : Result Request RequestFault)
    → None ≡ written (read_as b client number r).0 → b' ≡ (read_as b client number r).1 → (None, b') ≡ read_as b client number r
no-bytes b b' client number (Ok request) none batch = absurd cc
no-bytes b b' client number (Err fault) none batch = ap (λ (x : Batch). let o : Option Request = None in (o, x)) batch

-- they are those of the request that was found
pub written-request : (b b' : Batch) (client : ClientId) (number : ℕ) (r : Result Request RequestFault) (bytes : List ℕ)
    → Some bytes ≡ written (read_as b client number r).0 → b' ≡ (read_as b client number r).1
    → (request : Request) × ((r ≡ Ok request) × ((b' ≡ b) × (bytes ≡ canonical_request request)))
written-request b b' client number (Ok request) bytes is batch = (request, (refl, (batch, let e : bytes ≡ canonical_request request = cc in e)))
written-request b b' client number (Err fault) bytes is batch = absurd cc

module _ (logs : LogsAreTheModels) (h : Holder) (b : Batch) (s : model.Replica) (st : HoldsFor h s) (empty : b ≡ empty_batch) (client : ClientId) (number : ℕ) where
  -- bytes that are no request are answered as the model's
  answered-fault : (fault : RequestFault) → Does h (fault_answered b client number fault) Nobody (bad_request s client number fault)
  answered-fault faults.Memory = still-does h b s st empty
  answered-fault (faults.Wire fault) = answers-does h b s st empty client number (Malformed (offset_of fault)) (b.answers ++ (client, number, Malformed (offset_of fault)) ∷ []) refl
  answered-fault faults.Nothing = answers-does h b s st empty client number (Invalid Nothing 0) (b.answers ++ (client, number, Invalid Nothing 0) ∷ []) refl
  answered-fault (faults.Size part size) = answers-does h b s st empty client number (Invalid part size) (b.answers ++ (client, number, Invalid part size) ∷ []) refl

  pub no-request : (b' : Batch) (r : Result Request RequestFault) → (None, b') ≡ read_as b client number r → Does h b' Nobody (on_request s client number r)
  no-request b' (Ok request) is = absurd (let same : None ≡ Some request = ap (λ (x : Option Request × Batch). x.0) is in cc)
  no-request b' (Err fault) is = subst (λ d. Does h d Nobody (bad_request s client number fault)) (sym (ap (λ (x : Option Request × Batch). x.1) is)) (answered-fault fault)

  -- ---- why it is not taken

  open-same : open_in h.log ≡ open_entries s
  open-same = ap (λ n. n - h.log.committed) (last-model logs h.log s st.log) ∙ ap (λ n. length s.path - n) st.log.is_committed

  busy-same : (nat_le MAX_OPEN (open_in h.log) || last_index h.log == TOP) ≡ is_busy s
  busy-same = ap (λ n. nat_le MAX_OPEN n || last_index h.log == TOP) open-same ∙ ap (λ n. nat_le MAX_OPEN (open_entries s) || n == TOP) (last-model logs h.log s st.log)

  one-answer : (answer other : Answer) → Some answer ≡ Some other → (xs : List (ClientId × ℕ × Answer)) → xs ≡ b.answers ++ (client, number, answer) ∷ []
      → Does h (record b { answers = xs }) Nobody (answers s client number other)
  one-answer answer other is xs xs-is =
      let same : answer ≡ other = cc in
      subst (λ a. Does h (record b { answers = xs }) Nobody (answers s client number a)) same (answers-does h b s st empty client number answer xs xs-is)

  module _ (request : Request) (answer : Answer) (xs : List (ClientId × ℕ × Answer)) (xs-is : xs ≡ b.answers ++ (client, number, answer) ∷ []) where
    by-role : (leads : Bool) → leads_now h.role ≡ leads → Some answer ≡ refusal_by h leads → Does h (record b { answers = xs }) Nobody (request_heard s s.role client number request)
    by-role false not_so is =
        subst (Does h (record b { answers = xs }) Nobody)
        (sym (unless-leader s.limit s.first h.role s.role st.role not_so (λ r. request_heard s r client number request ≡ answers s client number (NotLeader s.known)) refl (λ ids. refl)))
        (one-answer answer (NotLeader s.known) (is ∙ ap (λ n. Some (NotLeader n)) st.known) xs xs-is)
    by-role true so is = by_busy (is_busy s) refl
      where
        by_busy : (busy : Bool) → is_busy s ≡ busy → Does h (record b { answers = xs }) Nobody (request_heard s s.role client number request)
        by_busy true is_so =
            let l = leads-is h.role so in
            let m = leading-model h s st l.0 l.1 in
            let told : Some answer ≡ Some (Busy (open_entries s)) =
            is
            ∙ (cond-true (nat_le MAX_OPEN (open_in h.log) || last_index h.log == TOP) (Some (Busy (open_in h.log))) None (busy-same ∙ is_so)
            ∙ ap (λ n. Some (Busy n)) open-same) in
            subst (λ r. Does h (record b { answers = xs }) Nobody (request_heard s r client number request)) (sym m.1.0)
            (subst (Does h (record b { answers = xs }) Nobody)
            (sym (cond-true (is_busy s) (answers s client number (Busy (open_entries s))) (raise_and_send (still (asked s client number request)) m.0) is_so))
            (one-answer answer (Busy (open_entries s)) told xs xs-is))
        by_busy false not_so =
            absurd (let none : Some answer ≡ None =
            is ∙ cond-false (nat_le MAX_OPEN (open_in h.log) || last_index h.log == TOP) (Some (Busy (open_in h.log))) None (busy-same ∙ not_so) in cc)

    by-halted : (halted : Option (ℕ × Hash × Hash)) → h.halted ≡ halted → Some answer ≡ refusal_at h halted
        → Does h (record b { answers = xs }) Nobody (valid_request s s.halted client number request)
    by-halted (Some d) halted is =
        subst (λ o. Does h (record b { answers = xs }) Nobody (valid_request s o client number request)) (sym halted ∙ st.halted)
        (one-answer answer (Halted d.0) is xs xs-is)
    by-halted None halted is =
        subst (λ o. Does h (record b { answers = xs }) Nobody (valid_request s o client number request)) (sym halted ∙ st.halted)
        (by-role (leads_now h.role) refl is)

    pub refused : (r : Result Request RequestFault) → r ≡ Ok request → Some answer ≡ refusal_of h → Does h (record b { answers = xs }) Nobody (on_request s client number r)
    refused r read is =
        subst (λ x. Does h (record b { answers = xs }) Nobody (on_request s client number x)) (sym read) (by-halted h.halted refl is)

-- ---- it is taken

-- the replica has not halted, leads, and is not busy
pub record MayAsk (h : Holder) : Type 0 where
  pub halted : h.halted ≡ None
  pub leads : leads_now h.role ≡ true
  pub free : (nat_le MAX_OPEN (open_in h.log) || last_index h.log == TOP) ≡ false
  pub leading : Leading
  pub role : h.role ≡ kept.Leader leading
  pub room : last_index h.log ≤ TOP → last_index h.log < TOP

pub may-ask : (h : Holder) → refusal_of h ≡ None → MayAsk h
may-ask h is = by_halted h.halted refl is
  where
    by_busy : (busy : Bool) → (nat_le MAX_OPEN (open_in h.log) || last_index h.log == TOP) ≡ busy → h.halted ≡ None → leads_now h.role ≡ true
        → cond busy (Some (Busy (open_in h.log))) None ≡ None → MayAsk h
    by_busy true is_so halted leads is = absurd (let e : Some (Busy (open_in h.log)) ≡ None = is in cc)
    by_busy false not_so halted leads is =
        let l = leads-is h.role leads in
        let ne : last_index h.log ≡ TOP → ⊥ = eqb-false (last_index h.log) TOP (or_parts (nat_le MAX_OPEN (open_in h.log)) (last_index h.log == TOP) not_so).1 in
        record { halted = halted; leads = leads; free = not_so; leading = l.0; role = l.1; room = λ top. omega (arith, top, ne) }

    by_role : (leads : Bool) → leads_now h.role ≡ leads → h.halted ≡ None → refusal_by h leads ≡ None → MayAsk h
    by_role false leads halted is = absurd (let e : Some (NotLeader h.known) ≡ None = is in cc)
    by_role true leads halted is = by_busy (nat_le MAX_OPEN (open_in h.log) || last_index h.log == TOP) refl halted leads is

    by_halted : (halted : Option (ℕ × Hash × Hash)) → h.halted ≡ halted → refusal_at h halted ≡ None → MayAsk h
    by_halted (Some d) halted is = absurd (let e : Some (Halted d.0) ≡ None = is in cc)
    by_halted None halted is = by_role (leads_now h.role) refl halted is

-- with its entry and its ticket
module _ (h : Holder) (sound : IsSound h) (o : IsOrdered h.log) (may : MayAsk h) (e : LogEntry) (t : Ticket) (is : t.index ≡ last_index h.log + 1) where
  pub asked-sound : IsSound (record h { log = window_pushed h.log e; tickets = h.tickets ++ t ∷ [] })
  asked-sound =
      let w : Window = window_pushed h.log e in
      let n = pushed-last h.log e in
      let more : last_index h.log ≤ last_index w = omega (arith, n) in
      let grown = pushed-sound h e may.leading may.role sound (may.room sound.last) in
      let a = o.promised in
      let d = o.last in
      record {
        term = sound.term;
        last = grown.last;
        role = grown.role;
        tickets = tickets-push h.log.committed (last_index h.log) h.tickets t sound.tickets sound.within (omega (arith, is)) (omega (arith, is, a, d));
        within = within-push (last_index w) h.tickets t (within-more (last_index h.log) (last_index w) h.tickets more sound.within) (omega (arith, is, n));
      }

module _ (logs : LogsAreTheModels) (h : Holder) (b : Batch) (s : model.Replica) (st : HoldsFor h s) (o : IsOrdered h.log) (empty : b ≡ empty_batch) (client : ClientId) (number : ℕ) (request : Request) where
  pub asked-reaches : (w : Window) (bytes : List ℕ) → bytes ≡ canonical_request request
      → LogStandsFor sha_link w (record s { path = s.path ++ record { term = h.ballot.term; body = Ask client number bytes } ∷ [] })
      → (t : Ticket) → t ≡ record { index = last_index h.log + 1; client = client; number = number }
      → Reaches (record h { log = w; tickets = h.tickets ++ t ∷ [] }) b (still (asked s client number request))
  asked-reaches w bytes bytes-is log t t-is =
      let u : model.Ticket = record { index = length s.path + 1; client = client; number = number; request = request } in
      let log-is = subst (λ bs. LogStandsFor sha_link w (record s { path = s.path ++ record { term = h.ballot.term; body = Ask client number bs } ∷ [] })) bytes-is log in
      let on : HoldsFor (record h { log = w }) (pushed s (Ask client number (canonical_request request))) =
      pushed-stands logs h s w (Ask client number (canonical_request request)) st o log-is st.role in
      record {
        stands = record {
          me = on.me;
          term = on.term;
          vote = on.vote;
          known = on.known;
          log = on.log;
          table = on.table;
          role = on.role;
          tickets =
              ap (λ x. h.tickets ++ x ∷ []) (t-is ∙ ap (λ n. record { index = n + 1; client = client; number = number }) (last-model logs h.log s st.log))
              ∙ (ap (λ ts. ts ++ kept_ticket u ∷ []) st.tickets ∙ sym (map-append kept_ticket s.tickets (u ∷ [])));
          halted = on.halted;
        };
        batch_is = empty;
      }

  pub asked-does : (may : MayAsk h) (m : model.Leading) → s.role ≡ model.Leader m → (r : Result Request RequestFault) → r ≡ Ok request → (h' : Holder) (b' : Batch)
      → Reaches h' b' (raise (still (asked s client number request)) m) → Does h' b' Everyone (on_request s client number r)
  asked-does may m is r read h' b' reaches =
      let free : is_busy s ≡ false = sym (busy-same logs h b s st empty client number) ∙ may.free in
      let halted : s.halted ≡ None = sym st.halted ∙ may.halted in
      subst (λ x. Does h' b' Everyone (on_request s client number x)) (sym read)
      (subst (λ d. Does h' b' Everyone (valid_request s d client number request)) (sym halted)
      (subst (λ q. Does h' b' Everyone (request_heard s q client number request)) (sym is)
      (subst (Does h' b' Everyone)
      (sym (cond-false (is_busy s) (answers s client number (Busy (open_entries s))) (raise_and_send (still (asked s client number request)) m) free))
      (everyone-does h' b' (still (asked s client number request)) m is reaches))))

-- What a replica makes of clients, tables, answers to its appends, and changes stays in range.
use Rattle.log_laws.proofs.History.{all_take}
use Rattle.replica_model.specs.Call.{answers, Call, empty_batch, still}
use Rattle.step_walk.proofs.Outcomes as may
use Rattle.step_walk.proofs.Outcomes.{again_by}
use Rattle.std.proofs.Common.{◌≡◌, ℕ, ◌+◌, ◌-◌, ◌*◌, ◌≤◌, Bool, true, false, cond, not, ◌&&◌, ◌||◌, ◌==◌, nat_lt, nat_le, min, max, inl, inr, Option, Some, None, Result, Ok, Err, List, [], ◌∷◌, ◌++◌, length, take, drop, refl, sym, subst, ◌∙◌, arith}
use Rattle.std.specs.Prelude.{IsTrue, IfSome, filter_map, option_map}
use Rattle.std.specs.List.{AllByRecursion, list_all, cons_option}
use Rattle.std.proofs.lemmas.Bool.{cond_both, ltb-true, and_parts, and_from}
use Rattle.std.proofs.lemmas.List.{length-take}
use Rattle.std.proofs.lemmas.Option.{none-some, same_Some}
use Rattle.values.specs.declared.limits.TheConstants.{MAX_EVENTS}
use Rattle.values.specs.declared.batch.Refusal.{Refusal}
use Rattle.values.specs.declared.batch.Refusal.TheVariants.{AlreadyVoter, NotVoter, TooFew, TooMany, NotCaughtUp, NoLink, SameMargin}
use Rattle.values.specs.declared.message.Answer.TheVariants.{Busy, Malformed, Invalid, Halted}
use Rattle.values.specs.declared.message.Part.TheVariants.{Nothing}
use Rattle.replica_model.specs.declared.TheConstants.{MAX_LEARNERS}
use Rattle.group_quorum.specs.declared.TheConstants.{MAX_VOTERS}
use Rattle.replica_model.specs.Configs.{conf_index}
use Rattle.agreement.proofs.Places.{conf_index_le}
use Rattle.values.specs.declared.entry.Body.{Body}
use Rattle.values.specs.declared.entry.Body.TheVariants.{Ask, Members}
use Rattle.values.specs.declared.entry.Point.{Point}
use Rattle.values.specs.declared.ids.ClientId.{ClientId}
use Rattle.values.specs.declared.message.Request.{Request}
use Rattle.values.specs.declared.peer.TablePart.{TablePart}
use Rattle.values.specs.declared.peer.PeerMsg.TheVariants.{Rejected, PartTaken}
use Rattle.client_msgs.specs.Canonical.{canonical_request}
use Rattle.client_msgs.specs.declared.fault.RequestFault.{RequestFault}
use Rattle.client_msgs.specs.declared.fault.RequestFault.TheVariants as faults
use Rattle.group_quorum.specs.Conf.{Conf}
use Rattle.group_quorum.specs.Voters.{is_in}
use Rattle.replica_model.specs.declared.Progress.{Progress}
use Rattle.replica_model.specs.Path.{Path, Link, point}
use Rattle.replica_model.specs.Keyed.{value_at, put, without}
use Rattle.replica_model.specs.Message.{Message}
use Rattle.replica_model.specs.Replica.{Named, Sending, Taking, Learner, Leader, Leading, Replica}
use Rattle.replica_model.specs.Peers.{others, progress_of, with_progress, leads_with, newest, peers}
use Rattle.replica_model.specs.Raise.{pushed, raise, raise_and_send}
use Rattle.replica_model.specs.Clients.{offset_of, asked, open_entries, on_request}
use Rattle.replica_model.specs.Heard.{to_peer, accepted_upto, accepted_heard, rejected_heard}
use Rattle.replica_model.specs.Tables.{parts_of, rows_of, named_by, part_message, taken_with, expects, takes_whole, take_part, part_heard, part_taken, point_taken}
use Rattle.replica_model.specs.Ticks.{sent_again, all_again, parts_again, leader_tick}
use Rattle.replica_model.specs.Changes.{first_refusal, log_full, change_pending, voter_count, votes, learner_mark, are_few, join_refusal, admit_refusal, remove_refusal, margin_refusal, refused_or, joined, join, push_members, with_voter, without_voter, admit, remove, set_margin}
use Rattle.trace_model.specs.TraceLines.{is_u64, is_client_id, refusal_numbers}
use Rattle.trace_model.specs.Hashing.{GivesHashes}
pub use Rattle.trace_model.proofs.Numbers.{one_number}
use Rattle.schedule_model.specs.Reading.{max_u32}
use Rattle.log_laws.proofs.Ending.{all-append}
use Rattle.log_laws.proofs.Lookups.{put_cases, without_stood}
use Rattle.range_laws.proofs.Bounds.{conf_few, with_role, with_term, with_path, nothing_told}
use Rattle.range_laws.proofs.Raising.{all_filter, chain_hash, conf_in, with_id_in, peers_in, progress_in, put_progress, raise_in}
use Rattle.range_laws.proofs.Confs.{admitted_conf, removed_conf, margin_conf}
use Rattle.range_laws.proofs.Rules.{id_low, parts_few, u64_of, still_so, saying, refusing, answering, push_in, raised}
use Rattle.range_laws.specs.Ranges.{IsId, AreIds, ConfIn, BodyIn, EntryIn, PathIn, ProgressIn, SendingIn, LeadingIn, NamedIn, TakingIn, RoleIn, FirstIn, TicketIn, ApartIn, StateIn, MessageIn, SentIn, CallIn}

-- bytes that are a request make an entry in range; a fault tells a number in range
abbrev pub RequestIn : ClientId → ℕ → Result Request RequestFault → Type 0
RequestIn client number (Ok request) = BodyIn (Ask client number (canonical_request request))
RequestIn client number (Err faults.Memory) = Unit {0}
RequestIn client number (Err (faults.Wire fault)) = IsTrue (is_u64 (offset_of fault))
RequestIn client number (Err faults.Nothing) = Unit {0}
RequestIn client number (Err (faults.Size part size)) = IsTrue (is_u64 size)

-- refusals
abbrev Numbers : Bool × Refusal → Type 0
Numbers x = IsTrue (list_all is_u64 (refusal_numbers x.1))

refusal_in : (xs : List (Bool × Refusal)) → AllByRecursion Numbers xs → IfSome (first_refusal xs) (λ r. IsTrue (list_all is_u64 (refusal_numbers r)))
refusal_in [] h = tt
refusal_in (x ∷ xs) h = cond_both x.0 (Some x.1) (first_refusal xs) (λ o. IfSome o (λ r. IsTrue (list_all is_u64 (refusal_numbers r)))) (λ b. h.0) (λ b. refusal_in xs h.1)

all_fail : (xs : List (Bool × Refusal)) → first_refusal xs ≡ None → AllByRecursion (λ (x : Bool × Refusal). x.0 ≡ false) xs
all_fail [] is = tt
all_fail (x ∷ xs) is = by_test x.0 is (λ is. all_fail xs is)
  where
    by_test : (t : Bool) → cond t (Some x.1) (first_refusal xs) ≡ None → (first_refusal xs ≡ None → AllByRecursion (λ (x : Bool × Refusal). x.0 ≡ false) xs) → (t ≡ false) × AllByRecursion (λ (x : Bool × Refusal). x.0 ≡ false) xs
    by_test true is rest = absurd (none-some x.1 (sym is))
    by_test false is rest = (refl, rest is)

abbrev admit_tests : Replica → Leading → ℕ → List (Bool × Refusal)
admit_tests s l id = log_full s ∷ change_pending s ∷ (votes s id, AlreadyVoter id) ∷ (nat_le MAX_VOTERS (voter_count s), TooMany (voter_count s + 1)) ∷ (learner_mark l id == 0 || nat_lt (learner_mark l id) s.committed, NotCaughtUp (learner_mark l id) s.committed) ∷ []

abbrev remove_tests : Replica → ℕ → List (Bool × Refusal)
remove_tests s id = log_full s ∷ change_pending s ∷ (not (votes s id), NotVoter id) ∷ (are_few (voter_count s - 1) (newest s).margin, TooFew (voter_count s - 1)) ∷ []

abbrev margin_tests : Replica → ℕ → List (Bool × Refusal)
margin_tests s margin = log_full s ∷ change_pending s ∷ ((newest s).margin == margin, SameMargin margin) ∷ (are_few (voter_count s) margin, TooFew (voter_count s)) ∷ []

two_numbers : (a b : ℕ) → IsTrue (is_u64 a) → IsTrue (is_u64 b) → IsTrue (list_all is_u64 (a ∷ b ∷ []))
two_numbers a b x y = and_from (is_u64 a) (list_all is_u64 (b ∷ [])) x (one_number b y)

conf_index_fits : (p : Path) → conf_index p ≤ length p
conf_index_fits p = conf_index_le p

module _ (m : ℕ) (small : m ≤ MAX_EVENTS) (link : Link) (hashes : GivesHashes link) where
  low : (n : ℕ) → n ≤ m → IsTrue (is_u64 n)
  low n le = u64_of n (omega (arith, le, small))

  -- ---- a client's request
  module _ (s : Replica) (h : StateIn m s) (f : FirstIn s.role s.first) (room : length s.path + 1 ≤ m) (client : ClientId) (number : ℕ) (who : IsTrue (is_client_id client && is_u64 number)) where
    asked_in : (l : Leading) (request : Request) → LeadingIn m l → ConfIn s.first → BodyIn (Ask client number (canonical_request request)) → CallIn m (raise_and_send (still (asked s client number request)) l)
    asked_in l request mine first x =
        raised m small link hashes (still (asked s client number request)) l
        (record {
          state = with_path m s h (s.path ++ record { term = s.term; body = Ask client number (canonical_request request) } ∷ []) s.promised (s.tickets ++ record { index = length s.path + 1; client = client; number = number; request = request } ∷ [])
              (push_in m small link hashes s h (Ask client number (canonical_request request)) room x) h.promised (all-append TicketIn s.tickets _ h.tickets (who, tt));
          first = f;
          sent = tt;
          batch = nothing_told m;
          appends = tt;
        })
        first mine.learners

    untaken_in : (r : Result Request RequestFault) → RequestIn client number r → (why : may.Untaken s r) → CallIn m (answers s client number (may.answer_of why))
    untaken_in r x (may.Halts d is) = answering m small link hashes s h f client number (Halted d.0) who (subst (λ o. IfSome o (ApartIn m)) is h.halted).index
    untaken_in r x may.LeadsNot = answering m small link hashes s h f client number _ who h.known
    untaken_in r x may.Waits = answering m small link hashes s h f client number (Busy (open_entries s)) who (omega (arith, h.path.long))
    untaken_in r x (may.Malforms fault is) = answering m small link hashes s h f client number (Malformed (offset_of fault)) who (subst (RequestIn client number) is x)
    untaken_in r x may.NoMember = answering m small link hashes s h f client number (Invalid Nothing 0) who refl
    untaken_in r x (may.OutOfRange part size is) = answering m small link hashes s h f client number (Invalid part size) who (subst (RequestIn client number) is x)

    pub on_request_in : (r : Result Request RequestFault) → RequestIn client number r → CallIn m (on_request s client number r)
    on_request_in r x = may.on_request_by (CallIn m) s client number r (still_so m small link hashes s h f) (untaken_in r x)
        (λ l request read is. asked_in l request (subst (RoleIn m) is h.role) (subst (λ r. FirstIn r s.first) is f) (subst (RequestIn client number) read x))

  -- ---- tables
  part_in : (s : Replica) (x : Sending) → StateIn m s → ConfIn s.first → SendingIn m x → MessageIn m (part_message link s x)
  part_in s x h f y = (
    h.term,
    y.path.long,
    y.part,
    parts_few m (named_by s x.path) y.path small,
    omega (arith, length-take 32 (drop (32 * x.part) (rows_of (named_by s x.path)))),
    record { path = y.path; limit = h.limit; first = f },
  )

  module _ (s : Replica) (h : StateIn m s) (f : FirstIn s.role s.first) (from : ℕ) (id : IsId from) where
    pub part_heard_in : (part : TablePart) → part.point.index ≤ m → part.parts ≤ MAX_EVENTS → CallIn m (part_heard link s from part)
    part_heard_in part at parts = may.part_heard_by (CallIn m) link s from part
        (saying m small link hashes s h f from (PartTaken s.term part.point part.parts) id (h.term, at, u64_of part.parts (omega (arith, parts))))
        (λ hint is. saying m small link hashes s h f from (Rejected s.term part.point.index hint) id
        (h.term, at, subst (λ n. n ≤ m) (sym is) (cond_both (nat_lt (length s.path) part.point.index) (length s.path) s.promised (λ n. n ≤ m) (λ b. h.path.long) (λ b. h.promised))))

  -- what a learner hears
  module _ (s : Replica) (h : StateIn m s) (t : Taking) (is : s.role ≡ Learner t) (from : ℕ) (id : IsId from) (names : Named) where
    taking_in : TakingIn m t
    taking_in = subst (RoleIn m) is h.role

    in_term : (term : ℕ) → term ≤ m → StateIn m (record s { term = term })
    in_term term le = with_term m s h term s.vote s.known s.role le h.known h.role

    taken_in : (part : TablePart) → part.part ≤ MAX_EVENTS → NamedIn m names → TakingIn m (taken_with t part names)
    taken_in part le x =
        cond_both (part.part == 0) names t.names (λ n. TakingIn m (record { names = n; next = part.part + 1 }))
        (λ b. record { path = x.path; limit = x.limit; next = omega (arith, le) })
        (λ b. record { path = taking_in.path; limit = taking_in.limit; next = omega (arith, le) })

    expects_in : (s' : Replica) → StateIn m s' → FirstIn s'.role s'.first → (t' : Taking) → TakingIn m t' → CallIn m (expects link s' from t')
    expects_in s' h' f' t' x = saying m small link hashes s' h' f' from (PartTaken s'.term (point_taken link t') t'.next) id (h'.term, x.path.long, u64_of t'.next (omega (arith, x.next)))

    whole_in : (term : ℕ) → term ≤ m → (part : TablePart) → part.parts ≤ MAX_EVENTS → NamedIn m names → (limit : ℕ) → limit ≤ max_u32 → CallIn m (takes_whole link (record s { term = term }) from part names limit)
    whole_in term le part parts x limit lim = record {
      state = record {
        me = h.me;
        limit = lim;
        path = x.path;
        base = x.path.long;
        promised = x.path.long;
        committed = x.path.long;
        term = le;
        known = id_low from id;
        role = tt;
        tickets = h.tickets;
        halted = h.halted;
      };
      first = x.first;
      sent = ((id, (le, x.path.long, u64_of part.parts (omega (arith, parts)))), tt);
      batch = record { lead = tt; members = tt; halt = tt; taken = (x.path.long, chain_hash link hashes names.path); commits = tt; answers = tt; saved = tt; refused = tt };
      appends = tt;
    }

    pub take_part_in : (term : ℕ) → term ≤ m → (part : TablePart) → part.part ≤ MAX_EVENTS → part.parts ≤ MAX_EVENTS → NamedIn m names → CallIn m (take_part link (record s { term = term }) t from part names)
    take_part_in term le part small_part parts x =
        let t' : Taking = taken_with t part names in
        let y : TakingIn m t' = taken_in part small_part x in
        may.take_part_by (CallIn m) link (record s { term = term }) t from part names
        (λ b. (whole_in term le part parts x t'.names.limit y.limit, expects_in (record s { term = term; role = Learner t' }) (with_term m s h term s.vote s.known (Learner t') le h.known y) tt t' y))
        (expects_in (record s { term = term }) (in_term term le) (subst (λ r. FirstIn r s.first) (sym is) tt) t taking_in)

  -- ---- what a leader hears
  module _ (s : Replica) (h : StateIn m s) (f : ConfIn s.first) (l : Leading) (mine : LeadingIn m l) where
    lead_in : (l' : Leading) → LeadingIn m l' → StateIn m (leads_with s l')
    lead_in l' x = with_role m s h (Leader l') x

    leading : (l' : Leading) → LeadingIn m l' → (ids : List ℕ) → AreIds ids → (sent : List (ℕ × Message)) → AllByRecursion (SentIn m) sent → CallIn m (record (still (leads_with s l')) { sent = sent; appends = ids })
    leading l' x ids fine sent all = record { state = lead_in l' x; first = f; sent = all; batch = nothing_told m; appends = fine }

    ended_sending : (u : ℕ) → LeadingIn m (record l { sendings = without l.sendings u })
    ended_sending u = record { progress = mine.progress; learners = mine.learners; sendings = λ v x is. mine.sendings v x (without_stood l.sendings u v x is) }

    put_sending : (u : ℕ) (y : Sending) → SendingIn m y → LeadingIn m (record l { sendings = put l.sendings u y })
    put_sending u y fine = record {
      progress = mine.progress;
      learners = mine.learners;
      sendings = λ v x is. elim (put_cases l.sendings u y v) [
        | inl new ↦ subst (SendingIn m) (same_Some y x (sym new.1 ∙ is)) fine
        | inr old ↦ mine.sendings v x (sym old.1 ∙ is)
      ];
    }

    to_one : (u : ℕ) → IsId u → (c : Call) → CallIn m c → CallIn m (to_peer c u)
    to_one u id c fine = record { state = fine.state; first = fine.first; sent = fine.sent; batch = fine.batch; appends = (id, tt) }

    module _ (from : ℕ) (id : IsId from) (same : CallIn m (still s)) where
      pub accepted_in : (end : Point) (promised : ℕ) → end.index ≤ m → CallIn m (accepted_heard link s (Leader l) from end promised)
      accepted_in end promised le =
          let p = progress_in m l from mine in
          let l' : Leading = with_progress l from (accepted_upto (progress_of l from) end.index promised) in
          let x : LeadingIn m l' = put_progress m l from (accepted_upto (progress_of l from) end.index promised) mine (record { next = omega (arith, p.next, le); mark = omega (arith, p.mark, le) }) in
          may.accepted_heard_by (CallIn m) link s same l from (to_one from id) end promised
          (λ fine. record { state = fine.state; first = fine.first; sent = fine.sent; batch = fine.batch; appends = peers_in m (raise (still (leads_with s l')) l').state l' f fine.state x.learners })
          (λ b. raise_in m (still (leads_with s l')) l' (leading l' x [] tt [] tt))

      pub rejected_in : (hint : ℕ) → CallIn m (rejected_heard s (Leader l) from hint)
      rejected_in hint =
          let l' : Leading = record l { sendings = without l.sendings from } in
          let next : ℕ = min hint (length s.path) + 1 in
          let p = progress_in m l' from (ended_sending from) in
          may.rejected_heard_by (CallIn m) link s same l from (to_one from id) hint
          (leading l' (ended_sending from) [] tt [] tt)
          (leading (with_progress l' from (record (progress_of l' from) { next = next })) (put_progress m l' from (record (progress_of l' from) { next = next }) (ended_sending from) (record { next = omega (arith, h.path.long); mark = p.mark })) [] tt [] tt)

      pub taken_heard_in : (point : Point) (next : ℕ) → CallIn m (part_taken link s (Leader l) from point next)
      taken_heard_in point next = may.part_taken_by (CallIn m) link s same l from (to_one from id) point next
          (λ sending is.
          let l' : Leading = record l { sendings = without l.sendings from } in
          let y = mine.sendings from sending is in
          let parts : ℕ = parts_of (rows_of (named_by s sending.path)) in
          let few : parts ≤ MAX_EVENTS = parts_few m (named_by s sending.path) y.path small in
          let p = progress_in m l from mine in
          let on : Sending = record sending { part = next } in (
            leading _ (put_progress m l' from (record (progress_of l' from) { next = length sending.path + 1 }) (ended_sending from) (record { next = omega (arith, y.path.long); mark = p.mark })) [] tt [] tt,
            λ later.
                let below = ltb-true next parts (and_parts (nat_lt sending.part next) (nat_lt next parts) later).1 in
                let fine : SendingIn m on = record { path = y.path; part = omega (arith, below, few) } in
                leading (record l { sendings = put l.sendings from on }) (put_sending from on fine) [] tt ((from, part_message link s on) ∷ []) ((id, part_in s on h f fine), tt),
          ))

    -- a leader's tick
    one_part : (u : ℕ) → IsId u → (o : Option Sending) (sent : List (ℕ × Message)) → value_at l.sendings u ≡ o → AllByRecursion (SentIn m) sent → AllByRecursion (SentIn m) (cons_option (option_map (λ sending. (u, part_message link s sending)) o) sent)
    one_part u id None sent is fine = fine
    one_part u id (Some sending) sent is fine = ((id, part_in s sending h f (mine.sendings u sending is)), fine)

    parts_sent : (us : List ℕ) → AreIds us → AllByRecursion (SentIn m) (filter_map (λ u. option_map (λ sending. (u, part_message link s sending)) (value_at l.sendings u)) us)
    parts_sent [] ids = tt
    parts_sent (u ∷ us) ids = one_part u ids.0 (value_at l.sendings u) _ refl (parts_sent us ids.1)

    sent_again_in : (p : Progress) → ProgressIn m p → ProgressIn m (sent_again s p)
    sent_again_in p x = cond_both (p.mark == 0) p (record p { next = max p.mark s.base + 1 }) (ProgressIn m) (λ b. x) (λ b. record { next = omega (arith, x.mark, h.base); mark = x.mark })

    pub leader_tick_in : CallIn m (leader_tick link s l)
    leader_tick_in =
        let l' : Leading = all_again s l (peers s l) in
        let ids : AreIds (peers s l) = peers_in m s l f h mine.learners in
        let x : LeadingIn m l' = again_by (LeadingIn m) s (λ l' u x. put_progress m l' u (sent_again s (progress_of l' u)) x (sent_again_in (progress_of l' u) (progress_in m l' u x))) (peers s l) l mine in
        leading l' x (peers (leads_with s l') l) (peers_in m (leads_with s l') l f (lead_in l' x) mine.learners) (parts_again link s l) (parts_sent (peers s l) ids)

    -- ---- changes
    module _ (same : FirstIn s.role s.first) (room : length s.path + 1 ≤ m) where
      unless_in : (o : Option Refusal) → IfSome o (λ r. IsTrue (list_all is_u64 (refusal_numbers r))) → (c : Call) → (o ≡ None → CallIn m c) → CallIn m (refused_or s o c)
      unless_in (Some r) x c fine = refusing m small link hashes s h same r x
      unless_in None x c fine = fine refl

      push_members_in : (l' : Leading) → LeadingIn m l' → (c : Conf) → ConfIn c → CallIn m (push_members s l' c)
      push_members_in l' x c fine =
          let t : Replica = leads_with s l' in
          let e : Body = Members c.margin c.voters in
          raised m small link hashes (record (still (pushed t e)) { batch = record empty_batch { members = (length s.path + 1, c.margin, c.voters) ∷ [] } }) l'
          (record {
            state = with_path m t (lead_in l' x) (s.path ++ record { term = s.term; body = e } ∷ []) s.promised s.tickets (push_in m small link hashes s h e room fine) h.promised h.tickets;
            first = f;
            sent = tt;
            batch = record { lead = tt; members = ((room, fine), tt); halt = tt; taken = tt; commits = tt; answers = tt; saved = tt; refused = tt };
            appends = tt;
          })
          f x.learners

      newest_in : ConfIn (newest s)
      newest_in = conf_in m s.path s.first f h.path.entries

      full_in : Numbers (log_full s)
      full_in = one_number (length s.path) (low (length s.path) h.path.long)

      pending_in : Numbers (change_pending s)
      pending_in = two_numbers (conf_index s.path) s.committed (low (conf_index s.path) (omega (arith, conf_index_fits s.path, h.path.long))) (low s.committed h.committed)

      id_number : (v : ℕ) → IsId v → IsTrue (list_all is_u64 (v ∷ []))
      id_number v id = one_number v (u64_of v (omega (arith, id_low v id)))

      voters_few : length (newest s).voters ≤ 1000
      voters_few = (conf_few (newest s) newest_in).1

      pub join_in : (id : ℕ) (linked : Bool) → IsId id → CallIn m (join link s l id linked)
      join_in id linked who =
          let path : PathIn m (take s.committed s.path) = record { entries = all_take (EntryIn m) s.committed s.path h.path.entries; long = omega (arith, length-take s.committed s.path, h.path.long) } in
          let y : Sending = record { path = take s.committed s.path; part = 0 } in
          let fine : SendingIn m y = record { path = path; part = omega arith } in
          let put_in = put_sending id y fine in
          let l' : LeadingIn m (joined s l id) = record {
            progress = (put_progress m l id (record { next = s.committed + 1; mark = 0; promised = 0 }) mine (record { next = omega (arith, h.committed); mark = omega arith })).progress;
            learners = with_id_in id l.learners who mine.learners;
            sendings = put_in.sendings;
          } in
          unless_in (join_refusal s l id linked) (refusal_in ((votes s id, AlreadyVoter id) ∷ (not linked, NoLink id) ∷ (nat_le MAX_LEARNERS (length l.learners), TooMany (MAX_LEARNERS + 1)) ∷ []) (id_number id who, (id_number id who, (refl, tt)))) _
          (λ none. leading (joined s l id) l' [] tt ((id, part_message link s y) ∷ []) ((who, part_in s y h f fine), tt))

      mark_in : (id : ℕ) → learner_mark l id ≤ m
      mark_in id = cond_both (is_in l.learners id) (progress_of l id).mark 0 (λ n. n ≤ m) (λ b. (progress_in m l id mine).mark) (λ b. omega arith)

      pub admit_in : (id : ℕ) → IsId id → CallIn m (admit s l id)
      admit_in id who =
          let mark : ℕ = learner_mark l id in
          unless_in (admit_refusal s l id)
          (refusal_in (admit_tests s l id)
          (full_in, (pending_in, (id_number id who, (one_number (voter_count s + 1) (u64_of (voter_count s + 1) (omega (arith, voters_few))), (two_numbers mark s.committed (low mark (mark_in id)) (low s.committed h.committed), tt)))))) _
          (λ none.
          let fails = all_fail (admit_tests s l id) none in
          push_members_in (record l { learners = others id l.learners }) (record { progress = mine.progress; learners = all_filter IsId (λ v. not (v == id)) l.learners mine.learners; sendings = mine.sendings }) (with_voter (newest s) id) (admitted_conf (newest s) id newest_in who fails.1.1.0 fails.1.1.1.0))

      pub remove_in : (id : ℕ) → IsId id → CallIn m (remove s l id)
      remove_in id who =
          unless_in (remove_refusal s id)
          (refusal_in (remove_tests s id)
          (full_in, (pending_in, (id_number id who, (one_number (voter_count s - 1) (u64_of (voter_count s - 1) (omega (arith, voters_few))), tt))))) _
          (λ none.
          let fails = all_fail (remove_tests s id) none in
          push_members_in l mine (without_voter (newest s) id) (removed_conf (newest s) id newest_in fails.1.1.0 fails.1.1.1.0))

      pub margin_in : (margin : ℕ) → margin ≤ 15 → CallIn m (set_margin s l margin)
      margin_in margin le =
          unless_in (margin_refusal s margin)
          (refusal_in (margin_tests s margin)
          (full_in, (pending_in, (one_number margin (u64_of margin (omega (arith, le))), (one_number (voter_count s) (u64_of (voter_count s) (omega (arith, voters_few))), tt))))) _
          (λ none.
          let fails = all_fail (margin_tests s margin) none in
          push_members_in l mine (record (newest s) { margin = margin }) (margin_conf (newest s) margin newest_in le fails.1.1.1.0))

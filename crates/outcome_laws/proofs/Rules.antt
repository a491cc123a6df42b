-- Each rule of a replica keeps its tickets, its limit and what it tells of outcomes.
use Rattle.std.proofs.Common.{◌≡◌, ℕ, ◌+◌, ◌<◌, ◌≤◌, ◌-◌, true, false, ◌==◌, nat_le, min, inl, inr, Option, Some, None, Ok, List, [], ◌∷◌, ◌++◌, length, take, map, refl, sym, ap, subst, ◌∙◌, arith}
use Rattle.std.specs.Prelude.{filter}
use Rattle.std.specs.List.{AllByRecursion}
use Rattle.std.proofs.lemmas.Bool.{cond_both, cases_Bool, cond-true, cond-false, leb-true, leb-false, le-leb, eqb-true, eqb-false}
use Rattle.values.specs.declared.entry.Body.TheVariants.{Noop, Ask, Members}
use Rattle.values.specs.declared.entry.LogEntry.{LogEntry}
use Rattle.values.specs.declared.ids.ClientId.{ClientId}
use Rattle.values.specs.declared.message.Answer.{Answer}
use Rattle.values.specs.declared.message.Request.{Request}
use Rattle.values.specs.declared.peer.TablePart.{TablePart}
use Rattle.client_msgs.specs.Canonical.{canonical_request}
use Rattle.group_quorum.specs.Conf.{Conf}
use Rattle.replica_model.specs.Path.{Path, Link, same_point}
use Rattle.replica_model.specs.Message.{Message}
use Rattle.replica_model.specs.Replica.{Ticket, Named, Taking, Role, Leader, Leading, Replica}
use Rattle.replica_model.specs.Peers.{leads_with}
use Rattle.replica_model.specs.Call.{Call, empty_batch, still, answers}
use Rattle.replica_model.specs.Raise.{pushed, raise_and_send}
use Rattle.replica_model.specs.Votes.{leading_anew, led, win}
use Rattle.replica_model.specs.Clients.{asked}
use Rattle.replica_model.specs.Graft.{Offer, end_of, Difference, kept_length, added, undecided, undecided_at, following, spliced, replaced, grafted, accepts}
use Rattle.replica_model.specs.Tables.{is_taken, taken_with, point_taken}
use Rattle.replica_model.specs.Changes.{push_members}
use Rattle.outcome_laws.proofs.Places.{entry_of_front, entry_in_front, entry_fits}
use Rattle.outcome_laws.proofs.Tickets.{IsAsked, IsAmong, Stands, Waits, Wait, IsOwed, IsOwedOrIdle, Reads, LimitsTold, IsFair, FairParts, FairCall, FairState, stands_longer, all_filter, owed_from, or_idle, owed_moved, left_among, right_among}
use Rattle.outcome_laws.proofs.Raised.{stand_of, filtered_among, map_among, commit_fair, raise_fair}
use Rattle.group_model.specs.Log.{AnyByRecursion}
use Rattle.group_model.specs.Due.{IsToldReplaced}
use Rattle.client_msgs.specs.Reading.{request_of}
use Rattle.values.specs.declared.message.Answer.TheVariants.{Undecided}
use Rattle.log_laws.proofs.Ending.{all-append}
use Rattle.log_laws.proofs.History.{all_more}

-- the ticket of a request that is pushed is among those that a call found and may have made, and the new entry is its Ask
pub record IsNew (all : List Ticket) (s : Replica) (client : ClientId) (number : ℕ) (request : Request) : Type 0 where
  pub among : IsAmong all (record { index = length s.path + 1; client = client; number = number; request = request })
  pub readable : request_of (canonical_request request) ≡ Ok request
  pub each : (u : Ticket) → IsAmong all u → u.index ≡ length s.path + 1 → IsAsked (s.path ++ record { term = s.term; body = Ask client number (canonical_request request) } ∷ []) u

module _ (all olds : List Ticket) (since run : ℕ) (link : Link) where
  module _ (s : Replica) (g : FairState all olds since run s) where
    -- nothing moves but the role, and some messages are sent
    pub in_role : (role : Role) → Reads run s.limit s.tickets role → (sent : List (ℕ × Message)) → LimitsTold run sent → FairParts all olds since run s.limit s.committed s.path role s.tickets [] sent
    in_role role reads sent fine = record { reads = reads; stand = g.stand; answered = tt; told = fine; owed = g.owed }

    -- an answer that is no outcome
    pub answering : (client : ClientId) (number : ℕ) (a : Answer) → IsFair all run s.committed s.path (client, number, a) → FairParts all olds since run s.limit s.committed s.path s.role s.tickets ((client, number, a) ∷ []) []
    answering client number a fair = record { reads = g.reads; stand = g.stand; answered = (fair, tt); told = tt; owed = owed_moved since s.limit s.limit s.committed s.path s.path s.tickets olds ((client, number, a) ∷ []) g.owed }

    module _ (theirs : s.limit ≡ run) (waits : Wait olds since s.committed s.tickets) where
      -- one entry is pushed
      push_fair : (e : LogEntry) (role : Role) → Reads run s.limit s.tickets role → FairParts all olds since run s.limit s.committed (s.path ++ e ∷ []) role s.tickets [] []
      push_fair e role reads = record {
        reads = reads;
        stand = all_more (Stands all s.path) (Stands all (s.path ++ e ∷ [])) (stands_longer all s.path (s.path ++ e ∷ []) (e ∷ [], refl)) s.tickets g.stand;
        answered = tt;
        told = tt;
        owed = owed_moved since s.limit s.limit s.committed s.path (s.path ++ e ∷ []) s.tickets olds [] g.owed;
      }

      pub win_fair : FairCall all olds since run (win s)
      win_fair =
          let l : Leading = leading_anew s in
          raise_fair all olds since run (still (pushed (led s l) Noop)) l theirs (owed_from since s.limit s.committed _ s.tickets olds [] waits) (push_fair (record { term = s.term; body = Noop }) (Leader l) theirs)

  module _ (s : Replica) (g : FairState all olds since run s) (theirs : s.limit ≡ run) (waits : Wait olds since s.committed s.tickets) where
    -- what waits is owed
    pub owed_now : (path : Path) → AllByRecursion (IsOwed since s.limit s.committed path s.tickets []) olds
    owed_now path = owed_from since s.limit s.committed path s.tickets olds [] waits

    -- ---- an append heard
    undecided_fair : (committed : ℕ) (path : Path) (d : Option Difference) (ts : List Ticket) → AllByRecursion (IsFair all run committed path) (undecided d ts)
    undecided_fair committed path None ts = tt
    undecided_fair committed path (Some d) ts = each (filter (λ ticket. nat_le d.0 ticket.index) ts)
      where
        each : (ts : List Ticket) → AllByRecursion (IsFair all run committed path) (map (undecided_at d) ts)
        each [] = tt
        each (t ∷ ts) = (tt, each ts)

    -- a ticket at or below the entries that stay
    stands_spliced : (k : ℕ) (more : Path) (t : Ticket) → nat_le t.index k ≡ true → Stands all s.path t → Stands all (take k s.path ++ more) t
    stands_spliced k more t b h = record {
      among = h.among;
      readable = h.readable;
      each = λ u among same.
          let old = h.each u among same in
          let le : u.index ≤ k = subst (λ i. i ≤ k) (sym same) (leb-true t.index k b) in
          (old.0, entry_of_front (take k s.path) (take k s.path ++ more) u.index _ (more, refl) (entry_in_front k s.path u.index _ le old.1));
    }

    -- a ticket that waits is held on, or its entry is replaced and it is told so
    module _ (d : Option Difference) (o : Offer) where
      abbrev kept_to : ℕ
      kept_to = kept_length s.path d

      told_replaced : (t : Ticket) → IsAmong s.tickets t → nat_le t.index kept_to ≡ false → (e : Option Difference) → d ≡ e → IsToldReplaced (undecided d s.tickets) t
      told_replaced t among above None is =
          let st = stand_of (Stands all s.path) t s.tickets g.stand among in
          let asked = st.each t st.among refl in
          let past : kept_to < t.index = leb-false t.index kept_to above in
          let all_stay : kept_to ≡ length s.path = ap (kept_length s.path) is in
          absurd (omega (arith, entry_fits s.path t.index _ asked.1, past, all_stay))
      told_replaced t among above (Some x) is =
          let past : kept_to < t.index = leb-false t.index kept_to above in
          let to : kept_to ≡ x.0 - 1 = ap (kept_length s.path) is in
          let le : x.0 ≤ t.index = omega (arith, past, to) in (
            x,
            le,
            subst (λ d. AnyByRecursion (λ a. a ≡ (t.client, t.number, Undecided x.0 x.1 x.2)) (undecided d s.tickets)) (sym is)
                (map_among (undecided_at x) (filter (λ ticket. nat_le x.0 ticket.index) s.tickets) t (filtered_among (λ ticket. nat_le x.0 ticket.index) s.tickets t (le-leb x.0 t.index le) among)),
          )

      spliced_owed : (t : Ticket) → (since < t.index → Waits s.committed s.tickets t) → IsOwed since s.limit s.committed (take kept_to s.path ++ added kept_to o) (filter (λ ticket. nat_le ticket.index kept_to) s.tickets) (undecided d s.tickets) t
      spliced_owed t waits after = elim (cases_Bool (nat_le t.index kept_to)) [
        | inl below ↦ inl ((waits after).0, filtered_among (λ ticket. nat_le ticket.index kept_to) s.tickets t below (waits after).1)
        | inr above ↦ inr (inr (told_replaced t (waits after).1 above d refl))
      ]

      all_owed : AllByRecursion (IsOwed since s.limit s.committed (take kept_to s.path ++ added kept_to o) (filter (λ ticket. nat_le ticket.index kept_to) s.tickets) (undecided d s.tickets)) olds
      all_owed = all_more (λ t. since < t.index → Waits s.committed s.tickets t) _ spliced_owed olds waits

    spliced_fair : (d : Option Difference) (o : Offer) → FairCall all olds since run (record (still (spliced (following s o.from) (kept_length s.path d) o)) { batch = replaced (following s o.from) d (kept_length s.path d) o })
    spliced_fair d o =
        let k : ℕ = kept_length s.path d in
        record {
          reads = theirs;
          stand = all_filter (Stands all s.path) (Stands all (take k s.path ++ added k o)) (λ ticket. nat_le ticket.index k) s.tickets (stands_spliced k (added k o)) g.stand;
          answered = undecided_fair s.committed (take k s.path ++ added k o) d s.tickets;
          told = tt;
          owed = or_idle since s.limit s.committed _ _ olds _ (all_owed d o);
        }

    pub accepts_fair : (d : Option Difference) (o : Offer) → FairCall all olds since run (accepts link (grafted (following s o.from) d o) o)
    accepts_fair d o =
        let done = commit_fair all olds since run (record (still (spliced (following s o.from) (kept_length s.path d) o)) { batch = replaced (following s o.from) d (kept_length s.path d) o }) (min o.commit (min o.promise (end_of o))) theirs (all_owed d o) (spliced_fair d o) in
        record { reads = theirs; stand = done.stand; answered = done.answered; told = (tt, tt); owed = done.owed }

    pub push_members_fair : (l : Leading) (c : Conf) → FairCall all olds since run (push_members s l c)
    push_members_fair l c =
        raise_fair all olds since run (record (still (pushed (leads_with s l) (Members c.margin c.voters))) { batch = record empty_batch { members = (length s.path + 1, c.margin, c.voters) ∷ [] } }) l theirs
        (owed_now (s.path ++ record { term = s.term; body = Members c.margin c.voters } ∷ [])) (push_fair s g theirs waits (record { term = s.term; body = Members c.margin c.voters }) (Leader l) theirs)

  -- ---- a client's request
  module _ (s : Replica) (g : FairState all olds since run s) (waits : Wait olds since s.committed s.tickets) (now : s.committed ≡ since) where
    -- nothing is committed: what a new ticket is owed is open
    pub with_new : (new : List Ticket) (c : Call) → c.state.committed ≡ since → FairCall all olds since run c → FairCall all (olds ++ new) since run c
    with_new new c idle fine = record {
      reads = fine.reads;
      stand = fine.stand;
      answered = fine.answered;
      told = fine.told;
      owed = all-append (IsOwedOrIdle since c.state.limit c.state.committed c.state.path c.state.tickets c.batch.answers) olds new fine.owed (idle_all new);
    }
      where
        idle_all : (new : List Ticket) → AllByRecursion (IsOwedOrIdle since c.state.limit c.state.committed c.state.path c.state.tickets c.batch.answers) new
        idle_all [] = tt
        idle_all (t ∷ new) = (inr (omega (arith, idle)), idle_all new)

    abbrev pub ticket_of : ClientId → ℕ → Request → Ticket
    ticket_of client number request = record { index = length s.path + 1; client = client; number = number; request = request }

    pub answering_new : (new : List Ticket) (client : ClientId) (number : ℕ) (a : Answer) → IsFair all run s.committed s.path (client, number, a) → FairCall all (olds ++ new) since run (answers s client number a)
    answering_new new client number a fair = with_new new (answers s client number a) now (answering s g client number a fair)

    pub pushed_request : (l : Leading) → s.role ≡ Leader l → (client : ClientId) (number : ℕ) (request : Request) → IsNew all s client number request → FairCall all (olds ++ ticket_of client number request ∷ []) since run (raise_and_send (still (asked s client number request)) l)
    pushed_request l is client number request new =
        let e : LogEntry = record { term = s.term; body = Ask client number (canonical_request request) } in
        let t : Ticket = ticket_of client number request in
        let path : Path = s.path ++ e ∷ [] in
        let tickets : List Ticket = s.tickets ++ t ∷ [] in
        let theirs : s.limit ≡ run = subst (Reads run s.limit s.tickets) is g.reads in
        let pushed_to = push_fair s g theirs waits e (Leader l) theirs in
        let held : Wait olds since s.committed tickets =
        all_more (λ u. since < u.index → Waits s.committed s.tickets u) _ (λ u w after. ((w after).0, left_among s.tickets (t ∷ []) u (w after).1)) olds waits in
        let owed : AllByRecursion (IsOwed since s.limit s.committed path tickets []) (olds ++ t ∷ []) =
        all-append (IsOwed since s.limit s.committed path tickets []) olds (t ∷ []) (owed_from since s.limit s.committed path tickets olds [] held)
        (λ after. inl (omega (arith, after, now), right_among s.tickets (t ∷ []) t (inl refl)), tt) in
        raise_fair all (olds ++ t ∷ []) since run (still (asked s client number request)) l theirs owed
        (record {
          reads = subst (Reads run s.limit tickets) (sym is) theirs;
          stand = all-append (Stands all path) s.tickets (t ∷ []) pushed_to.stand (record { among = new.among; readable = new.readable; each = new.each }, tt);
          answered = tt;
          told = tt;
          owed = or_idle since s.limit s.committed path tickets (olds ++ t ∷ []) [] owed;
        })

  -- ---- a learner takes parts alone
  module _ (s : Replica) (g : FairState all olds since run s) (waits : Wait olds since s.committed s.tickets) where
    -- what a learner that took a part knows is the run's limit
    pub limit_known : (t : Taking) (part : TablePart) (names : Named) → is_taken link t part ≡ true → (0 < t.next → t.names.limit ≡ run) → names.limit ≡ run → (taken_with t part names).names.limit ≡ run
    limit_known t part names taken known told = cond_both (part.part == 0) names t.names (λ (n : Named). n.limit ≡ run)
        (λ first. told)
        (λ later. known (elim (cases_Bool (same_point part.point (point_taken link t))) [
          | inl same ↦
              let at : part.part ≡ t.next = eqb-true part.part t.next (sym (cond-true (same_point part.point (point_taken link t)) (part.part == t.next) (part.part == 0) same) ∙ taken) in
              omega (arith, at, eqb-false part.part 0 later)
          | inr other ↦
              absurd (eqb-false part.part 0 later (eqb-true part.part 0 (sym (cond-false (same_point part.point (point_taken link t)) (part.part == t.next) (part.part == 0) other) ∙ taken)))
        ]))

    -- it holds no ticket, so it owes none
    pub none_owed : s.tickets ≡ [] → (limit committed : ℕ) (path : Path) (answers : List (ClientId × ℕ × Answer)) → AllByRecursion (IsOwedOrIdle since limit committed path s.tickets answers) olds
    none_owed none limit committed path answers =
        all_more (λ t. since < t.index → Waits s.committed s.tickets t) _ (λ t w. inl (λ after. absurd (subst (λ ts. IsAmong ts t) none (w after).1))) olds waits

-- Each rule of a replica stays in range.
use Rattle.log_laws.proofs.History.{all_take}
use Rattle.replica_model.specs.Graft.{accepts, Offer, points_from, points_of, end_of, Difference, hash_at, differing, first_difference, kept_length, added, members_of, differs_at, refusal_hint, following, spliced, replaced, undecided, undecided_at, grafted, halts, append_heard}
use Rattle.step_walk.proofs.Outcomes as may
use Rattle.std.proofs.Common.{◌≡◌, ℕ, ◌+◌, ◌-◌, ◌≤◌, zero, suc, Bool, true, false, not, ◌&&◌, ◌||◌, ◌==◌, nat_lt, nat_le, min, max, inl, inr, Option, Some, None, List, [], ◌∷◌, ◌++◌, length, take, map, sym, subst, ◌∙◌, arith}
use Rattle.std.specs.Prelude.{IsTrue, IfSome, filter, filter_map, option_map, unwrap_or, slice_get, fold}
use Rattle.std.specs.List.{AllByRecursion, list_all, cons_option}
use Rattle.std.proofs.lemmas.Bool.{cond_both, leb-true, le-leb, and_parts}
use Rattle.std.proofs.lemmas.List.{length-take, length-drop, length-append}
use Rattle.std.proofs.lemmas.Option.{none-some, same_Some}
use Rattle.values.specs.declared.limits.TheConstants.{MAX_EVENTS}
use Rattle.values.specs.declared.batch.Refusal.{Refusal}
use Rattle.values.specs.declared.entry.Body.{Body}
use Rattle.values.specs.declared.entry.Body.TheVariants.{Noop, Ask, Members}
use Rattle.values.specs.declared.entry.Hash.{Hash}
use Rattle.values.specs.declared.entry.LogEntry.{LogEntry}
use Rattle.values.specs.declared.entry.Point.{Point}
use Rattle.values.specs.declared.ids.ClientId.{ClientId}
use Rattle.values.specs.declared.message.Answer.{Answer}
use Rattle.values.specs.declared.message.Request.{Request}
use Rattle.values.specs.declared.message.Request.TheVariants.{Backup}
use Rattle.values.specs.declared.message.Response.{Response}
use Rattle.values.specs.declared.message.Reply.{Reply}
use Rattle.values.specs.declared.message.Reply.TheVariants.{Stale, TableFull}
use Rattle.values.specs.declared.row.Row.{Row}
use Rattle.values.specs.declared.row.Kept.{Kept}
use Rattle.std.specs.declared.cmp.Ordering.TheVariants as order
use Rattle.record_rules.specs.Table.{RecordTable, empty_table, row_of}
use Rattle.record_rules.specs.Places.{ClientAsk, apply_place}
use Rattle.record_rules.specs.Rules.{act, after_acting, ask_known, ask_unknown, apply_by}
use Rattle.record_rules.proofs.Sound.{length_put}
use Rattle.replica_model.specs.Folds.{place_of, places_of}
use Rattle.values.specs.declared.peer.PeerMsg.{PeerMsg}
use Rattle.values.specs.declared.peer.PeerMsg.TheVariants.{AskVote, Vote, Accepted, Rejected}
use Rattle.replica_model.specs.declared.Progress.{Progress}
use Rattle.replica_model.specs.Path.{Path, Link, chain, same_hash, last_term, term_at, point}
use Rattle.replica_model.specs.Message.{plain}
use Rattle.replica_model.specs.Replica.{Named, Ticket, Follower, Candidate, Leader, Leading, Replica}
use Rattle.replica_model.specs.Peers.{others, voters_counted}
use Rattle.replica_model.specs.Call.{Call, empty_batch, still, says, answers, refuses}
use Rattle.replica_model.specs.Raise.{numbered_from, pushed, raise, raise_and_send}
use Rattle.replica_model.specs.Votes.{leading_anew, led, win, stood, asks_votes, stands, stand, vote_asked, vote_heard, with_vote}
use Rattle.replica_model.specs.Tables.{parts_of, rows_of}
use Rattle.trace_model.specs.TraceLines.{is_hash, is_u64, is_client_id, refusal_numbers}
use Rattle.trace_model.specs.Hashing.{GivesHashes}
use Rattle.schedule_model.specs.Reading.{max_u32, max_u64}
use Rattle.log_laws.proofs.Ending.{all-append}
use Rattle.log_laws.proofs.Offered.{found_within}
use Rattle.log_laws.proofs.Lookups.{map_stands}
use Rattle.range_laws.proofs.Bounds.{first_any, with_role, with_role_known, with_term, with_path, with_halted, nothing_told, still_in, send_in}
use Rattle.range_laws.proofs.Raising.{all_filter, all_drop, chain_hash, voters_in, peers_in, commit_in, raise_in, raise_send_in}
use Rattle.range_laws.specs.Ranges.{IsId, AreIds, ConfIn, BodyIn, EntryIn, EntriesIn, PathIn, ProgressIn, LeadingIn, FirstIn, TicketIn, ApartIn, StateIn, AppendIn, MessageIn, SentIn, AnswerIn, AnsweredIn, BatchIn, CallIn}

pub id_low : (v : ℕ) → IsId v → v ≤ 65535
id_low v h = leb-true v 65535 (and_parts (nat_le 1 v) (nat_le v 65535) h).1

pub term_in : (n : ℕ) (p : Path) (i : ℕ) → EntriesIn n p → term_at p i ≤ n
term_in n p zero h = omega arith
term_in n p (suc k) h = found p k h
  where
    found : (p : Path) (k : ℕ) → EntriesIn n p → unwrap_or (option_map (λ (e : LogEntry). e.term) (slice_get p k)) 0 ≤ n
    found [] k h = omega arith
    found (e ∷ p) zero h = h.0.0
    found (e ∷ p) (suc k) h = found p k h.1

-- the parts of a table
acting_few : (t : RecordTable) (c : ClientId) (n : ℕ) (x : Option Kept × Response) → length (after_acting t c n x).0.rows ≤ length t.rows + 1
acting_few t c n (k, r) = length_put t.rows (record { client = c; last = n; kept = k })

known_few : (t : RecordTable) (c : ClientId) (n : ℕ) (q : Request) (row : Row) → length (ask_known t c n q row).0.rows ≤ length t.rows + 1
known_few t c n q row = cond_both (nat_le n row.last) (t, Stale row.last) (after_acting t c n (act q row.kept)) (λ (x : RecordTable × Reply). length x.0.rows ≤ length t.rows + 1) (λ b. omega arith) (λ b. acting_few t c n (act q row.kept))

unknown_few : (t : RecordTable) (c : ClientId) (n : ℕ) (q : Request) → length (ask_unknown t c n q).0.rows ≤ length t.rows + 1
unknown_few t c n (Backup secret pin tries) = cond_both (length t.rows == t.limit) (t, TableFull t.limit) (after_acting t c n (act (Backup secret pin tries) None)) (λ (x : RecordTable × Reply). length x.0.rows ≤ length t.rows + 1) (λ b. omega arith) (λ b. acting_few t c n (act (Backup secret pin tries) None))
unknown_few t c n other = omega arith

apply_few : (o : Option Row) (t : RecordTable) (c : ClientId) (n : ℕ) (q : Request) → length (apply_by o t c n q).0.rows ≤ length t.rows + 1
apply_few (Some row) t c n q = known_few t c n q row
apply_few None t c n q = unknown_few t c n q

place_few : (t : RecordTable) (o : Option ClientAsk) → length (apply_place t o).rows ≤ length t.rows + 1
place_few t None = omega arith
place_few t (Some ask) = apply_few (row_of t.rows ask.client) t ask.client ask.number ask.request

fold_few : (t : RecordTable) (p : Path) → length (fold apply_place t (places_of p)).rows ≤ length t.rows + length p
fold_few t [] = omega arith
fold_few t (e ∷ p) = omega (arith, place_few t (place_of e.body), fold_few (apply_place t (place_of e.body)) p)

pub rows_few : (x : Named) → length (rows_of x) ≤ length x.path
rows_few x = omega (arith, fold_few (empty_table x.limit) x.path)

pub parts_few : (n : ℕ) (x : Named) → PathIn n x.path → n ≤ MAX_EVENTS → parts_of (rows_of x) ≤ MAX_EVENTS
parts_few n x h le = omega (arith, rows_few x, h.long, le)

pub u64_of : (n : ℕ) → n ≤ max_u32 → IsTrue (is_u64 n)
u64_of n le = le-leb n max_u64 (omega arith)

pub refused_in : (r : Refusal) → IsTrue (list_all is_u64 (refusal_numbers r)) → (n : ℕ) → BatchIn n (record empty_batch { refused = Some r })
refused_in r h n = record { lead = tt; members = tt; halt = tt; taken = tt; commits = tt; answers = tt; saved = tt; refused = h }

module _ (m : ℕ) (small : m ≤ MAX_EVENTS) (link : Link) (hashes : GivesHashes link) where
  module _ (s : Replica) (h : StateIn m s) (f : FirstIn s.role s.first) where
    pub still_so : CallIn m (still s)
    still_so = still_in m s h f

    pub saying : (to : ℕ) (msg : PeerMsg) → IsId to → MessageIn m (plain msg) → CallIn m (says s to msg)
    saying to msg id x = send_in m (still s) to (plain msg) still_so id x

    pub refusing : (r : Refusal) → IsTrue (list_all is_u64 (refusal_numbers r)) → CallIn m (refuses s r)
    refusing r x = record { state = h; first = f; sent = tt; batch = refused_in r x m; appends = tt }

    pub answering : (client : ClientId) (number : ℕ) (a : Answer) → IsTrue (is_client_id client && is_u64 number) → AnswerIn m a → CallIn m (answers s client number a)
    answering client number a c x = record {
      state = h;
      first = f;
      sent = tt;
      batch = record { lead = tt; members = tt; halt = tt; taken = tt; commits = tt; answers = ((c, x), tt); saved = tt; refused = tt };
      appends = tt;
    }

  module _ (s : Replica) (h : StateIn m s) where
    -- one entry is pushed
    pub push_in : (b : Body) → length s.path + 1 ≤ m → BodyIn b → PathIn m (s.path ++ record { term = s.term; body = b } ∷ [])
    push_in b room x = record {
      entries = all-append (EntryIn m) s.path (record { term = s.term; body = b } ∷ []) h.path.entries ((h.term, x), tt);
      long = omega (arith, room, length-append s.path (record { term = s.term; body = b } ∷ []));
    }

  pub raised : (c : Call) (l : Leading) → CallIn m c → ConfIn c.state.first → AreIds l.learners → CallIn m (raise_and_send c l)
  raised c l x f ids = raise_send_in m c l (peers_in m (raise c l).state l f (raise_in m c l x).state ids) x

  -- ---- elections
  module _ (s : Replica) (h : StateIn m s) (f : ConfIn s.first) (room : length s.path + 1 ≤ m) where
    anew_in : LeadingIn m (leading_anew s)
    anew_in = record {
      progress = λ v p is.
          let a : Progress = record { next = length s.path + 1; mark = 0; promised = 0 } in
          elim (map_stands (others s.me (voters_counted s)) a v) [
            | inl stands ↦ subst (ProgressIn m) (same_Some a p (sym stands ∙ is)) (record { next = omega (arith, h.path.long); mark = omega arith })
            | inr none ↦ absurd (none-some p (sym none ∙ is))
          ];
      learners = tt;
      sendings = λ v x is. absurd (none-some x is);
    }

    win_in : CallIn m (win s)
    win_in =
        let l : Leading = leading_anew s in
        let t : Replica = led s l in
        let lead : StateIn m t = with_role_known m s h (Leader l) s.me anew_in (id_low s.me h.me) in
        raised (record (still (pushed t Noop)) { batch = record empty_batch { lead = Some s.term } }) l
        (record {
          state = with_path m t lead (s.path ++ record { term = s.term; body = Noop } ∷ []) s.promised s.tickets (push_in s h Noop room tt) h.promised h.tickets;
          first = f;
          sent = tt;
          batch = record { lead = h.term; members = tt; halt = tt; taken = tt; commits = tt; answers = tt; saved = tt; refused = tt };
          appends = tt;
        })
        f tt

    asks_in : (ids : List ℕ) → AreIds ids → AllByRecursion (SentIn m) (map (λ v. (v, plain (AskVote s.term (length s.path) (last_term s.path)))) ids)
    asks_in [] x = tt
    asks_in (v ∷ ids) x = ((x.0, (h.term, h.path.long, term_in m s.path (length s.path) h.path.entries)), asks_in ids x.1)

    asks_all_in : CallIn m (asks_votes s)
    asks_all_in = record {
      state = h;
      first = first_any s.role s.first f;
      sent = asks_in (others s.me (voters_counted s)) (all_filter IsId (λ v. not (v == s.me)) (voters_counted s) (voters_in m s f h));
      batch = nothing_told m;
      appends = tt;
    }

  module _ (s : Replica) (h : StateIn m s) (f : ConfIn s.first) (room : length s.path + 1 ≤ m) where
    pub vote_heard_in : (votes : List ℕ) (from : ℕ) (granted : Bool) → CallIn m (vote_heard s (Candidate votes) from granted)
    vote_heard_in votes from granted =
        let s' : Replica = record s { role = Candidate (with_vote s votes from) } in
        let h' : StateIn m s' = with_role m s h (Candidate (with_vote s votes from)) tt in
        may.vote_heard_by (CallIn m) s (still_so s h (first_any s.role s.first f)) votes from granted (λ b. (λ b. win_in s' h' f room, still_in m s' h' f))

    pub stand_in : s.term + 1 ≤ m → CallIn m (stand s)
    stand_in more =
        let h' : StateIn m (stood s) = with_term m s h (s.term + 1) s.me 0 (Candidate (s.me ∷ [])) more (omega arith) tt in
        may.stand_by (CallIn m) s (still_so s h (first_any s.role s.first f)) (λ b. (λ b. win_in (stood s) h' f room, asks_all_in (stood s) h' f room))

    pub vote_asked_in : (from last_index term : ℕ) → IsId from → CallIn m (vote_asked s from last_index term)
    vote_asked_in from last_index term id = may.vote_asked_by (CallIn m) s from last_index term
        (λ b. saying (record s { vote = from }) (with_term m s h s.term from s.known s.role h.term h.known h.role) (first_any s.role s.first f) from (Vote s.term true) id h.term)
        (saying s h (first_any s.role s.first f) from (Vote s.term false) id h.term)

  -- ---- an append heard
  module _ (s : Replica) (h : StateIn m s) (f : ConfIn s.first) where
    abbrev HashesIn : Option Difference → Type 0
    HashesIn o = IfSome o (λ d. IsTrue (is_hash d.1) × IsTrue (is_hash d.2))

    differ_in : (o : Option Hash) (p : Point) (later : Option Difference) → IfSome o (λ x. IsTrue (is_hash x)) → IsTrue (is_hash p.hash) → HashesIn later → HashesIn (differing o p later)
    differ_in None p later mine theirs rest = rest
    differ_in (Some kept) p later mine theirs rest = cond_both (same_hash kept p.hash) later (Some (p.index, kept, p.hash)) HashesIn (λ b. rest) (λ b. (mine, theirs))

    kept_in : (i : ℕ) → IfSome (hash_at link s i) (λ x. IsTrue (is_hash x))
    kept_in i = cond_both (nat_le s.base i && nat_le i (length s.path)) (Some (chain link (take i s.path))) None (λ o. IfSome o (λ x. IsTrue (is_hash x))) (λ b. chain_hash link hashes (take i s.path)) (λ b. tt)

    points_in : (i : ℕ) (x : Hash) (es : Path) → IsTrue (is_hash x) → HashesIn (first_difference link s (points_from link i x es))
    points_in i x [] fine = differ_in (hash_at link s i) (record { index = i; hash = x }) None (kept_in i) fine tt
    points_in i x (e ∷ es) fine = differ_in (hash_at link s i) (record { index = i; hash = x }) (first_difference link s (points_from link (i + 1) (link x (i + 1) e) es)) (kept_in i) fine (points_in (i + 1) (link x (i + 1) e) es (hashes x (i + 1) e))

    difference_in : (o : Offer) → AppendIn m o.prev o.entries o.promise o.commit → (d : Difference) → first_difference link s (points_of link o) ≡ Some d → ApartIn m d
    difference_in o x d is =
        let both = subst HashesIn is (points_in o.prev.index o.prev.hash o.entries x.hash) in
        let at = found_within link s o.prev.index o.prev.hash o.entries d is in
        record { index = omega (arith, at.1, h.path.long); kept = both.0; offered = both.1 }

    undecided_in : (d : Option Difference) → IfSome d (ApartIn m) → AllByRecursion (AnsweredIn m) (undecided d s.tickets)
    undecided_in None x = tt
    undecided_in (Some d) x = each (filter (λ ticket. nat_le d.0 ticket.index) s.tickets) (all_filter TicketIn (λ ticket. nat_le d.0 ticket.index) s.tickets h.tickets)
      where
        each : (ts : List Ticket) → AllByRecursion TicketIn ts → AllByRecursion (AnsweredIn m) (map (undecided_at d) ts)
        each [] all = tt
        each (t ∷ ts) all = ((all.0, record { index = x.index; kept = x.kept; offered = x.offered }), each ts all.1)

    kept_fits : (d : Option Difference) → IfSome d (ApartIn m) → kept_length s.path d ≤ m
    kept_fits None x = h.path.long
    kept_fits (Some d) x = omega (arith, x.index)

    members_told : (k : ℕ) (es : Path) → k + length es ≤ m + 1 → EntriesIn m es → AllByRecursion (λ (c : ℕ × ℕ × List ℕ). (c.0 ≤ m) × ConfIn (record { margin = c.1; voters = c.2 })) (filter_map members_of (numbered_from k es))
    members_told k [] fits x = tt
    members_told k (e ∷ es) fits x = by_body e.body x.0.1 (members_told (k + 1) es (omega (arith, fits)) x.1)
      where
        by_body : (b : Body) → BodyIn b → AllByRecursion (λ (c : ℕ × ℕ × List ℕ). (c.0 ≤ m) × ConfIn (record { margin = c.1; voters = c.2 })) (filter_map members_of (numbered_from (k + 1) es))
            → AllByRecursion (λ (c : ℕ × ℕ × List ℕ). (c.0 ≤ m) × ConfIn (record { margin = c.1; voters = c.2 })) (cons_option (members_of (k, record { term = e.term; body = b })) (filter_map members_of (numbered_from (k + 1) es)))
        by_body Noop y rest = rest
        by_body (Ask client number request) y rest = rest
        by_body (Members margin voters) y rest = ((omega (arith, fits), y), rest)

    module _ (o : Offer) (from : IsId o.from) (x : AppendIn m o.prev o.entries o.promise o.commit) where
      abbrev t : Replica
      t = following s o.from

      following_in : StateIn m t
      following_in = with_role_known m s h Follower o.from tt (id_low o.from from)

      spliced_in : (d : Option Difference) → IfSome d (ApartIn m) → CallIn m (record (still (spliced t (kept_length s.path d) o)) { batch = replaced t d (kept_length s.path d) o })
      spliced_in d y =
          let k : ℕ = kept_length s.path d in
          let new : EntriesIn m (added k o) = all_drop (EntryIn m) (k - o.prev.index) o.entries x.entries_in in
          let long : length (added k o) ≡ length o.entries - (k - o.prev.index) = length-drop (k - o.prev.index) o.entries in
          let le : k ≤ m = kept_fits d y in
          record {
            state = with_path m t following_in (take k s.path ++ added k o) (max s.promised (min o.promise (end_of o))) (filter (λ ticket. nat_le ticket.index k) s.tickets)
                (record {
                  entries = all-append (EntryIn m) (take k s.path) (added k o) (all_take (EntryIn m) k s.path h.path.entries) new;
                  long = omega (arith, length-append (take k s.path) (added k o), length-take k s.path, long, h.path.long, x.ends, le);
                })
                (omega (arith, h.promised, x.promised))
                (all_filter TicketIn (λ ticket. nat_le ticket.index k) s.tickets h.tickets);
            first = f;
            sent = tt;
            batch = record { lead = tt; members = members_told (k + 1) (added k o) (omega (arith, long, le, x.ends)) new; halt = tt; taken = tt; commits = tt; answers = undecided_in d y; saved = tt; refused = tt };
            appends = tt;
          }

      hint_in : (d : Option Difference) → IfSome (refusal_hint t d o) (λ n. n ≤ m)
      hint_in d = cond_both (nat_lt (length s.path) o.prev.index) (Some (length s.path)) _ (λ z. IfSome z (λ n. n ≤ m)) (λ b. h.path.long)
          (λ b. cond_both (differs_at d o.prev.index || nat_lt (end_of o) s.base) (Some s.promised) None (λ z. IfSome z (λ n. n ≤ m)) (λ c. h.promised) (λ c. tt))

      accepts_in : (d : Option Difference) → IfSome d (ApartIn m) → CallIn m (accepts link (grafted t d o) o)
      accepts_in d y =
          let c = commit_in m (record (still (spliced t (kept_length s.path d) o)) { batch = replaced t d (kept_length s.path d) o }) (min o.commit (min o.promise (end_of o))) (omega (arith, x.committed)) (spliced_in d y) in
          send_in m (grafted t d o) o.from (plain (Accepted (grafted t d o).state.term (point link (grafted t d o).state.path (end_of o)) (min (grafted t d o).state.promised (end_of o)))) c from (c.state.term, x.ends, omega (arith, c.state.promised))

      apart_in : (d : Option Difference) → first_difference link s (points_of link o) ≡ d → IfSome d (ApartIn m)
      apart_in None is = tt
      apart_in (Some d) is = difference_in o x d is

      halts_in : (d : Difference) → ApartIn m d → CallIn m (halts s d)
      halts_in d y = record {
        state = with_halted m s h d y;
        first = first_any s.role s.first f;
        sent = tt;
        batch = record { lead = tt; members = tt; halt = y; taken = tt; commits = tt; answers = tt; saved = tt; refused = tt };
        appends = tt;
      }

      pub append_heard_in : CallIn m (append_heard link s o)
      append_heard_in = may.append_heard_by (CallIn m) link s o
          (λ d is b. halts_in d (difference_in o x d is))
          (λ d hint is at. saying t following_in f o.from (Rejected t.term o.prev.index hint) from (h.term, omega (arith, x.ends), subst (λ z. IfSome z (λ n. n ≤ m)) at (hint_in d)))
          (λ d is calm at. accepts_in d (apart_in d is))

-- What comes of an append is what the model's call does.
use Rattle.std.proofs.Common.{◌≡◌, ℕ, ◌+◌, ◌-◌, ◌<◌, ◌≤◌, Bool, true, false, cond, nat_lt, nat_le, min, inl, inr, Option, Some, None, List, [], ◌∷◌, ◌++◌, length, take, drop, map, filter, filter_map, refl, sym, ap, subst, ◌∙◌, arith, length-drop}
use Rattle.std.proofs.lemmas.Bool.{cases_lt, both_ways, cond_both, ltb-true, cond-true, lt-ltb, le-ltb, le-leb, lt-leb, leb-false}
use Rattle.std.proofs.lemmas.List.{drop-drop, take-take, take-append-le, length-take-le, nil_from_length}
use Rattle.std.proofs.Math.Seq.{drop-append_seam}
use Rattle.std.specs.Prelude.{is_some}
use Rattle.values.specs.declared.batch.Batch.{Batch}
use Rattle.values.specs.declared.ids.ClientId.{ClientId}
use Rattle.values.specs.declared.message.Answer.{Answer}
use Rattle.values.specs.declared.message.Answer.TheVariants.{Undecided}
use Rattle.values.specs.declared.peer.PeerMsg.{PeerMsg}
use Rattle.values.specs.declared.peer.PeerMsg.TheVariants.{Rejected}
use Rattle.replica_model.specs.Path.{Path}
use Rattle.replica_model.specs.Linked.{sha_link}
use Rattle.replica_model.specs.Folds.{fold_of}
use Rattle.replica_model.specs.Replica as model
use Rattle.replica_model.specs.Message.{Message, plain}
use Rattle.replica_model.specs.Call.{Call, empty_batch, still, says}
use Rattle.replica_model.specs.Raise.{numbered_from, commit_to}
use Rattle.replica_model.specs.Send.{with_sent}
use Rattle.replica_model.specs.Graft.{Offer, Difference, end_of, first_difference, points_of, refusal_hint, halts, following, kept_length, added, members_of, undecided_at, undecided, spliced, replaced, grafted, accepts, answered, graft, conflict_or_graft, append_heard}
use Rattle.replica_log.specs.Window.{Window, IsOrdered, base_index, last_index}
use Rattle.replica_log.specs.Models.{StandsFor as LogStandsFor, IsNoConflict}
use Rattle.append_rules.specs.declared.take.Taken.TheVariants.{Replied, Conflict}
use Rattle.append_rules.specs.Taken.{TakesOffer, sent_to, unless_refused, cut_at}
use Rattle.replica_core.specs.Logs.{LogsAreTheModels}
use Rattle.replica_core.specs.declared.role.Role.TheVariants as kept
use Rattle.replica_core.specs.declared.tickets.Ticket.{Ticket}
use Rattle.replica_core.specs.declared.holder.Holder.{Holder}
use Rattle.replica_core.specs.declared.send.Appends.TheVariants.{Nobody}
use Rattle.replica_core.specs.Standing.{kept_ticket, HoldsFor}
use Rattle.replica_core.specs.Keeping.{AreTickets, AreWithin}
use Rattle.replica_core.specs.Applying.{kept_between, applied_all, before_applied, applied_from, holder_applied, batch_applied}
use Rattle.replica_core.specs.Replacing.{kept_upto, members_above, tickets_left, given_up}
use Rattle.replica_core.specs.Calling.{Reaches, Does}
use Rattle.replica_core.proofs.Bounds.{difference-within}
use Rattle.replica_core.proofs.Commits.{Before, commits}
use Rattle.replica_core.proofs.Entries.{none_between}
use Rattle.replica_core.proofs.Holding.{base-model, last-model, base-below}
use Rattle.replica_core.proofs.Leads.{cond_pair}

-- ---- the model's call in each case

module _ (s : model.Replica) (o : Offer) (P : Call → Option Difference → Type 0)
    (halted : (x : Difference) → P (halts s x) None)
    (refused : (hint : ℕ) → P (says (following s o.from) o.from (Rejected s.term o.prev.index hint)) None)
    (taken : (cut : Option Difference) → first_difference sha_link s (points_of sha_link o) ≡ cut → IsNoConflict s cut
    → P (accepts sha_link (grafted (following s o.from) cut o) o) cut) where
  by_hint : (d : Option Difference) → first_difference sha_link s (points_of sha_link o) ≡ d → IsNoConflict s d → (cut : Option Difference)
      → (hint : Option ℕ) → (hint ≡ None → cut ≡ d) → ((n : ℕ) → hint ≡ Some n → cut ≡ None)
      → P (answered sha_link (following s o.from) d o hint) cut
  by_hint d found free cut None none some = subst (P (answered sha_link (following s o.from) d o None)) (sym (none refl)) (taken d found free)
  by_hint d found free cut (Some n) none some = subst (P (answered sha_link (following s o.from) d o (Some n))) (sym (some n refl)) (refused n)

  by_difference : (d : Option Difference) → first_difference sha_link s (points_of sha_link o) ≡ d → P (conflict_or_graft sha_link s d o) (cut_at s d o)
  by_difference None found = by_hint None found tt None (refusal_hint s None o) (λ e. refl) (λ n e. refl)
  by_difference (Some x) found =
      cond_pair (nat_le x.0 s.promised) (nat_le x.0 s.promised) (halts s x) (graft sha_link s (Some x) o) None (unless_refused (refusal_hint s (Some x) o) x) P refl
      (λ so. halted x)
      (λ not_so. by_hint (Some x) found (leb-false x.0 s.promised not_so) (unless_refused (refusal_hint s (Some x) o) x) (refusal_hint s (Some x) o)
      (λ e. ap (λ r. unless_refused r x) e) (λ n e. ap (λ r. unless_refused r x) e))

  pub append-cases : P (append_heard sha_link s o) (cut_at s (first_difference sha_link s (points_of sha_link o)) o)
  append-cases = by_difference (first_difference sha_link s (points_of sha_link o)) refl

-- ---- tickets

lower : (a x : ℕ) → 1 ≤ x → nat_lt a x ≡ nat_le a (x - 1)
lower a x one = elim (cases_lt a x) [
  | inl lt ↦ lt-ltb a x lt ∙ sym (le-leb a (x - 1) (omega (arith, lt, one)))
  | inr le ↦ le-ltb a x le ∙ sym (lt-leb a (x - 1) (omega (arith, le, one)))
]

left-some : (x : ℕ) (ts : List model.Ticket) → 1 ≤ x
    → filter (λ (t : Ticket). nat_lt t.index x) (map kept_ticket ts) ≡ map kept_ticket (filter (λ t. nat_le t.index (x - 1)) ts)
left-some x [] one = refl
left-some x (t ∷ ts) one =
    ap (λ b. cond b (kept_ticket t ∷ filter (λ (u : Ticket). nat_lt u.index x) (map kept_ticket ts)) (filter (λ (u : Ticket). nat_lt u.index x) (map kept_ticket ts))) (lower t.index x one)
    ∙ (ap (λ us. cond (nat_le t.index (x - 1)) (kept_ticket t ∷ us) us) (left-some x ts one)
    ∙ choose (nat_le t.index (x - 1)) t (filter (λ u. nat_le u.index (x - 1)) ts))
  where
    choose : (b : Bool) (t : model.Ticket) (us : List model.Ticket) → cond b (kept_ticket t ∷ map kept_ticket us) (map kept_ticket us) ≡ map kept_ticket (cond b (t ∷ us) us)
    choose true t us = refl
    choose false t us = refl

left-none : (last : ℕ) (ts : List model.Ticket) → AreWithin last (map kept_ticket ts) → filter (λ t. nat_le t.index last) ts ≡ ts
left-none last [] h = refl
left-none last (t ∷ ts) (one, rest) =
    cond-true (nat_le t.index last) (t ∷ filter (λ u. nat_le u.index last) ts) (filter (λ u. nat_le u.index last) ts) (le-leb t.index last one)
    ∙ ap (λ us. t ∷ us) (left-none last ts rest)

-- the tickets that stay
tickets-stay : (s : model.Replica) (cut : Option Difference) (ts : List model.Ticket) → IsNoConflict s cut → AreWithin (length s.path) (map kept_ticket ts)
    → tickets_left cut (map kept_ticket ts) ≡ map kept_ticket (filter (λ t. nat_le t.index (kept_length s.path cut)) ts)
tickets-stay s None ts free within = ap (map kept_ticket) (sym (left-none (length s.path) ts within))
tickets-stay s (Some x) ts free within = left-some x.0 ts (omega (arith, free))

given-some : (d : Difference) (ts : List model.Ticket)
    → map (λ (t : Ticket). (t.client, t.number, Undecided d.0 d.1 d.2)) (filter (λ (t : Ticket). nat_le d.0 t.index) (map kept_ticket ts))
    ≡ map (undecided_at d) (filter (λ t. nat_le d.0 t.index) ts)
given-some d [] = refl
given-some d (t ∷ ts) =
    let told_as : Ticket → ClientId × ℕ × Answer = λ u. (u.client, u.number, Undecided d.0 d.1 d.2) in
    choose (nat_le d.0 t.index) t (filter (λ (u : Ticket). nat_le d.0 u.index) (map kept_ticket ts)) (filter (λ u. nat_le d.0 u.index) ts) (given-some d ts)
  where
    choose : (b : Bool) (t : model.Ticket) (xs : List Ticket) (ys : List model.Ticket)
        → map (λ (u : Ticket). (u.client, u.number, Undecided d.0 d.1 d.2)) xs ≡ map (undecided_at d) ys
        → map (λ (u : Ticket). (u.client, u.number, Undecided d.0 d.1 d.2)) (cond b (kept_ticket t ∷ xs) xs) ≡ map (undecided_at d) (cond b (t ∷ ys) ys)
    choose true t xs ys e = ap (λ zs. (t.client, t.number, Undecided d.0 d.1 d.2) ∷ zs) e
    choose false t xs ys e = e

-- the answers to those that do not
given-same : (cut : Option Difference) (ts : List model.Ticket) → given_up cut (map kept_ticket ts) ≡ undecided cut ts
given-same None ts = refl
given-same (Some d) ts = given-some d ts

filter-rising : (x c : ℕ) (ts : List Ticket) → AreTickets c ts → AreTickets c (filter (λ t. nat_lt t.index x) ts)
filter-rising x c [] h = tt
filter-rising x c (t ∷ ts) (above, rest) =
    cond_both (nat_lt t.index x) (t ∷ filter (λ u. nat_lt u.index x) ts) (filter (λ u. nat_lt u.index x) ts) (AreTickets c)
    (λ so. (above, filter-rising x t.index ts rest))
    (λ not_so. from-below c t.index (filter (λ u. nat_lt u.index x) ts) above (filter-rising x t.index ts rest))
  where
    from-below : (c d : ℕ) (ts : List Ticket) → c < d → AreTickets d ts → AreTickets c ts
    from-below c d [] lt h = tt
    from-below c d (t ∷ ts) lt (above, rest) = (omega (arith, lt, above), rest)

-- tickets that stay rise as they did
pub left-rising : (cut : Option Difference) (c : ℕ) (ts : List Ticket) → AreTickets c ts → AreTickets c (tickets_left cut ts)
left-rising None c ts h = h
left-rising (Some x) c ts h = filter-rising x.0 c ts h

-- and are within what stays
pub left-within : (cut : Option Difference) (last last' : ℕ) (ts : List Ticket) → kept_upto last cut ≤ last' → AreWithin last ts → AreWithin last' (tickets_left cut ts)
left-within None last last' ts le h = wider ts h
  where
    wider : (ts : List Ticket) → AreWithin last ts → AreWithin last' ts
    wider [] h = tt
    wider (t ∷ ts) (one, rest) = (omega (arith, one, le), wider ts rest)
left-within (Some x) last last' ts le h = below ts
  where
    below : (ts : List Ticket) → AreWithin last' (filter (λ t. nat_lt t.index x.0) ts)
    below [] = tt
    below (t ∷ ts) =
        cond_both (nat_lt t.index x.0) (t ∷ filter (λ u. nat_lt u.index x.0) ts) (filter (λ u. nat_lt u.index x.0) ts) (AreWithin last')
        (λ so. (let lt = ltb-true t.index x.0 so in omega (arith, lt, le), below ts))
        (λ not_so. below ts)

-- nothing is applied where nothing more is committed
nothing-applied : (h : Holder) (b : Batch) (had : ℕ) → had ≡ h.log.committed → applied_from h b had ≡ before_applied h b
nothing-applied h b had is =
    ap (λ n. applied_all (before_applied h b) (numbered_from (had + 1) (kept_between h.log had n))) (sym is)
    ∙ ap (λ (p : Path). applied_all (before_applied h b) (numbered_from (had + 1) p)) (none_between h.log had)

-- ---- an append that is taken

module _ (logs : LogsAreTheModels) (h : Holder) (s : model.Replica) (st : HoldsFor h s) (b : Batch) (empty : b ≡ empty_batch) (o : Offer) (w : Window) where
  -- it conflicts, and the replica halts
  pub halts-does : (d : Difference) → TakesOffer s o w (Conflict d.0 d.1 d.2)
      → Does (record h { log = w; halted = Some d }) (record b { halt = Some d }) Nobody (append_heard sha_link s o)
  halts-does d tk =
      append-cases s o
      (λ call cut. call.batch.halt ≡ Some d → LogStandsFor sha_link w call.state → Does (record h { log = w; halted = Some d }) (record b { halt = Some d }) Nobody call)
      (λ x is log. record {
        reaches = record {
          stands = record { me = st.me; term = st.term; vote = st.vote; known = st.known; log = log; table = st.table; role = st.role; tickets = st.tickets; halted = sym is };
          batch_is = ap (λ (c : Batch). record c { halt = Some d }) empty ∙ ap (λ x. record empty_batch { halt = x }) (sym is);
        };
        sends = refl;
      })
      (λ hint is log. absurd (both_ways true (ap is_some (sym is)) refl))
      (λ cut found free is log. absurd (both_ways true (ap is_some (sym is)) refl))
      tk.halts tk.stands

module _ (logs : LogsAreTheModels) (h : Holder) (s : model.Replica) (st : HoldsFor h s) (ordered : IsOrdered h.log) (rising : AreTickets h.log.committed h.tickets)
    (within : AreWithin (last_index h.log) h.tickets) (b : Batch) (empty : b ≡ empty_batch) (o : Offer) (w : Window) (ow : IsOrdered w) (reply : PeerMsg)
    (cut_told : Option Difference) (tk : TakesOffer s o w (Replied reply cut_told)) where
  -- the replica that follows, before entries are applied
  abbrev taken : Holder
  taken = record h { log = w; role = kept.Follower; known = o.from; tickets = tickets_left cut_told h.tickets }

  abbrev told_so_far : Batch
  told_so_far = record b { members = b.members ++ members_above w (kept_upto (last_index h.log) cut_told); answers = b.answers ++ given_up cut_told h.tickets }

  abbrev replied : ℕ → Batch
  replied had =
      let d : Batch = batch_applied told_so_far (applied_from taken told_so_far had) in
      record d { sent = d.sent ++ (o.from, reply) ∷ [] }

  same-tickets : cut_told ≡ None → tickets_left cut_told h.tickets ≡ h.tickets
  same-tickets is = ap (λ c. tickets_left c h.tickets) is

  last-is : last_index h.log ≡ length s.path
  last-is = last-model logs h.log s st.log

  -- the messages of what is sent
  abbrev msgs : List (ℕ × Message) → List (ℕ × PeerMsg)
  msgs sent = map (λ (x : ℕ × Message). (x.0, x.1.msg)) sent

  -- what is told where nothing is taken
  told-nothing : cut_told ≡ None → last_index w ≡ length s.path → told_so_far ≡ empty_batch
  told-nothing cut-is at =
      let members : members_above w (kept_upto (last_index h.log) cut_told) ≡ [] =
      ap (λ c. members_above w (kept_upto (last_index h.log) c)) cut-is
      ∙ ap (λ (p : Path). filter_map members_of (numbered_from (last_index h.log + 1) p))
      (nil_from_length (drop (last_index h.log - base_index w) w.entries)
      (let d = length-drop (last_index h.log - base_index w) w.entries in let l = last-is in omega (arith, d, l, at))) in
      let answers : given_up cut_told h.tickets ≡ [] = ap (λ c. given_up c h.tickets) cut-is in
      ap (λ xs. record b { members = b.members ++ xs; answers = b.answers ++ given_up cut_told h.tickets }) members
      ∙ (ap (λ xs. record b { members = b.members ++ []; answers = b.answers ++ xs }) answers
      ∙ ap (λ (d : Batch). record d { members = d.members ++ []; answers = d.answers ++ [] }) empty)

  module _ (had : ℕ) (had-is : had ≡ h.log.committed) where
    refused-does : (hint : ℕ) → cut_told ≡ None → LogStandsFor sha_link w s
        → (o.from, plain (Rejected s.term o.prev.index hint)) ∷ [] ≡ sent_to o.from (Some reply)
        → Does (holder_applied taken (applied_from taken told_so_far had)) (replied had) Nobody (says (following s o.from) o.from (Rejected s.term o.prev.index hint))
    refused-does hint cut-is log sent =
        let msg : PeerMsg = Rejected s.term o.prev.index hint in
        let at : had ≡ w.committed = had-is ∙ (st.log.is_committed ∙ sym log.is_committed) in
        let none : applied_from taken told_so_far had ≡ before_applied taken told_so_far = nothing-applied taken told_so_far had at in
        let told-is : batch_applied told_so_far (applied_from taken told_so_far had) ≡ empty_batch =
        ap (batch_applied told_so_far) none ∙ told-nothing cut-is (last-model logs w s log) in
        record {
          reaches = record {
            stands = subst (λ a. HoldsFor (holder_applied taken a) (following s o.from)) (sym none) (record {
              me = st.me;
              term = st.term;
              vote = st.vote;
              known = refl;
              log = log;
              table = st.table;
              role = tt;
              tickets = same-tickets cut-is ∙ st.tickets;
              halted = st.halted;
            });
            batch_is =
                ap (λ (d : Batch). record d { sent = d.sent ++ (o.from, reply) ∷ [] }) told-is
                ∙ ap (λ xs. record empty_batch { sent = xs }) (sym (ap msgs sent));
          };
          sends = refl;
        }

    module _ (cut : Option Difference) (found : first_difference sha_link s (points_of sha_link o) ≡ cut) (free : IsNoConflict s cut) (cut-is : cut_told ≡ cut) where
      -- how many entries stay
      abbrev stay : ℕ
      stay = kept_length s.path cut

      abbrev upto : ℕ
      upto = min o.commit (min o.promise (end_of o))

      -- the model's call before entries are committed
      abbrev spliced_call : Call
      spliced_call = record (still (spliced (following s o.from) stay o)) { batch = replaced (following s o.from) cut stay o }

      stays : (s.committed ≤ stay) × (stay ≤ length s.path)
      stays = kept-within cut found free
        where
          kept-within : (c : Option Difference) → first_difference sha_link s (points_of sha_link o) ≡ c → IsNoConflict s c
              → (s.committed ≤ kept_length s.path c) × (kept_length s.path c ≤ length s.path)
          kept-within None found free =
              let a = ordered.promised in let e = ordered.last in let f = st.log.is_committed in let g = last-is in
              (omega (arith, a, e, f, g), omega arith)
          kept-within (Some x) found free =
              let a = ordered.promised in let f = st.log.is_committed in let g = st.log.is_promised in
              let most = difference-within s (points_of sha_link o) x found in
              (omega (arith, a, f, g, free), omega (arith, most))

      kept-same : kept_upto (last_index h.log) cut_told ≡ stay
      kept-same = ap (kept_upto (last_index h.log)) cut-is ∙ of_cut cut
        where
          of_cut : (c : Option Difference) → kept_upto (last_index h.log) c ≡ kept_length s.path c
          of_cut None = last-is
          of_cut (Some x) = refl

      left-same : tickets_left cut_told h.tickets ≡ map kept_ticket (filter (λ t. nat_le t.index stay) s.tickets)
      left-same =
          ap (λ c. tickets_left c h.tickets) cut-is
          ∙ (ap (tickets_left cut) st.tickets
          ∙ tickets-stay s cut s.tickets free (subst (λ ts. AreWithin (length s.path) ts) st.tickets (subst (λ n. AreWithin n h.tickets) last-is within)))

      front : length (take stay s.path) ≡ stay
      front = length-take-le stay s.path stays.1

      base-is : LogStandsFor sha_link w (commit_to spliced_call upto).state → base_index w ≡ s.base
      base-is log = base-model logs w (commit_to spliced_call upto).state log

      members-same : LogStandsFor sha_link w (commit_to spliced_call upto).state
          → members_above w (kept_upto (last_index h.log) cut_told) ≡ filter_map members_of (numbered_from (stay + 1) (added stay o))
      members-same log =
          let low = base-below logs h.log s st.log ordered in
          let up = stays.0 in
          let es : Path = take stay s.path ++ added stay o in
          ap (members_above w) kept-same
          ∙ ap (λ (p : Path). filter_map members_of (numbered_from (stay + 1) p))
          (ap (λ n. drop (stay - n) w.entries) (base-is log)
          ∙ (ap (drop (stay - s.base)) log.entries
          ∙ (drop-drop (stay - s.base) s.base es
          ∙ (ap (λ n. drop n es) (let k : s.base + (stay - s.base) ≡ length (take stay s.path) = (let f = front in omega (arith, low, up, f)) in k)
          ∙ drop-append_seam (take stay s.path) (added stay o)))))

      told-same : LogStandsFor sha_link w (commit_to spliced_call upto).state → told_so_far ≡ (with_sent spliced_call).batch
      told-same log =
          ap (λ xs. record b { members = b.members ++ xs; answers = b.answers ++ given_up cut_told h.tickets }) (members-same log)
          ∙ (ap (λ xs. record b { members = b.members ++ filter_map members_of (numbered_from (stay + 1) (added stay o)); answers = b.answers ++ xs })
          (ap (λ c. given_up c h.tickets) cut-is ∙ (ap (given_up cut) st.tickets ∙ given-same cut s.tickets))
          ∙ ap (λ (d : Batch). record d { members = d.members ++ filter_map members_of (numbered_from (stay + 1) (added stay o)); answers = d.answers ++ undecided cut s.tickets }) empty)

      before-commit : LogStandsFor sha_link w (commit_to spliced_call upto).state → Before taken (spliced (following s o.from) stay o) upto
      before-commit log =
          record {
            me = st.me;
            term = st.term;
            vote = st.vote;
            known = refl;
            log = log;
            table =
                st.table
                ∙ ap (fold_of s.limit) (sym (take-append-le s.committed (take stay s.path) (added stay o) (let f = front in let u = stays.0 in omega (arith, f, u))
                ∙ take-take s.committed stay s.path stays.0));
            role = tt;
            tickets = left-same;
            halted = st.halted;
          }

      grafted-does : LogStandsFor sha_link w (accepts sha_link (grafted (following s o.from) cut o) o).state
          → (accepts sha_link (grafted (following s o.from) cut o) o).sent ≡ sent_to o.from (Some reply)
          → Does (holder_applied taken (applied_from taken told_so_far had)) (replied had) Nobody (accepts sha_link (grafted (following s o.from) cut o) o)
      grafted-does log sent =
          let low = base-below logs h.log s st.log ordered in
          let base = base-is log in
          let rising-left : AreTickets s.committed (tickets_left cut_told h.tickets) =
          left-rising cut_told s.committed h.tickets (subst (λ n. AreTickets n h.tickets) st.log.is_committed rising) in
          let done = commits logs taken told_so_far spliced_call upto (before-commit log) ow rising-left (omega (arith, base, low)) (told-same log) in
          let at : had ≡ s.committed = had-is ∙ st.log.is_committed in
          let end = subst (λ n. Reaches (holder_applied taken (applied_from taken told_so_far n)) (batch_applied told_so_far (applied_from taken told_so_far n)) (commit_to spliced_call upto))
          (sym at) done in
          record {
            reaches = record {
              stands = end.stands;
              batch_is =
                  ap (λ (d : Batch). record d { sent = d.sent ++ (o.from, reply) ∷ [] }) end.batch_is
                  ∙ ap (λ xs. record ((with_sent (commit_to spliced_call upto)).batch) { sent = xs }) (sym (ap msgs sent));
            };
            sends = refl;
          }

    -- it takes what is offered, or refuses it
    pub taken-does : Does (holder_applied taken (applied_from taken told_so_far had)) (replied had) Nobody (append_heard sha_link s o)
    taken-does =
        append-cases s o
        (λ call cut. cut_told ≡ cut → call.batch.halt ≡ None → LogStandsFor sha_link w call.state → call.sent ≡ sent_to o.from (Some reply)
        → Does (holder_applied taken (applied_from taken told_so_far had)) (replied had) Nobody call)
        (λ x cut-is is log sent. absurd (both_ways false refl (ap is_some (sym is))))
        (λ hint cut-is is log sent. refused-does hint cut-is log sent)
        (λ cut found free cut-is is log sent. grafted-does cut found free cut-is log sent)
        tk.cuts tk.halts tk.stands tk.replies

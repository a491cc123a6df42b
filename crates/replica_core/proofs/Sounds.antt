-- What holds of every replica holds after its log grows, and of what it keeps as a leader.
use Rattle.std.proofs.Common.{◌≡◌, ℕ, ◌+◌, ◌-◌, ◌<◌, ◌≤◌, not, Some, None, nat_lt, drop, length-drop, ◌==◌, max, inl, inr, List, [], ◌∷◌, ◌++◌, length, map, All, sym, ap, subst, ◌∙◌, arith, length-append}
use Rattle.std.specs.Prelude.{unwrap_or}
use Rattle.std.proofs.lemmas.Bool.{cases_eq, cond_both, ltb-true}
use Rattle.std.proofs.lemmas.List.{length-take}
use Rattle.std.proofs.lemmas.List.Elements.{All-nil, All-cons, All-head, All-tail, All-filter}
use Rattle.values.specs.declared.entry.LogEntry.{LogEntry}
use Rattle.values.specs.declared.limits.TheConstants.{TOP, MAX_ENTRIES}
use Rattle.replica_model.specs.declared.Progress.{Progress}
use Rattle.replica_model.specs.Keyed.{value_at, has, put, without}
use Rattle.replica_log.specs.Window.{Window, base_index, last_index, pushed}
use Rattle.append_rules.specs.Sent.{entries_at, after_append}
use Rattle.replica_core.specs.Leads.{with_progress_in, can_append_at, after_sent}
use Rattle.table_transfer.specs.SentTable.{SentTable}
use Rattle.replica_core.specs.declared.tickets.Ticket.{Ticket}
use Rattle.replica_core.specs.declared.role.Role.TheVariants as kept
use Rattle.replica_core.specs.declared.role.Leading.{Leading}
use Rattle.replica_core.specs.declared.holder.Holder.{Holder}
use Rattle.replica_core.specs.Sending.{fallen_back, all_fallen_back}
use Rattle.replica_core.proofs.Listed.{find-here, find-later, all-put, rising-put, rising-without}
use Rattle.replica_core.specs.Keeping.{unknown, progress_in, IsWithin, AreTickets, AreWithin, AreSendings, IsSoundLeading, IsSoundRole, IsSound}

-- tickets within a log are within a longer one
pub within-more : (a b : ℕ) (ts : List Ticket) → a ≤ b → AreWithin a ts → AreWithin b ts
within-more a b [] le h = tt
within-more a b (t ∷ ts) le (one, rest) = (omega (arith, le, one), within-more a b ts le rest)

-- one ticket more, behind the others
pub within-push : (last : ℕ) (ts : List Ticket) (t : Ticket) → AreWithin last ts → t.index ≤ last → AreWithin last (ts ++ t ∷ [])
within-push last [] t h le = (le, tt)
within-push last (u ∷ ts) t (one, rest) le = (one, within-push last ts t rest le)

pub tickets-push : (above last : ℕ) (ts : List Ticket) (t : Ticket) → AreTickets above ts → AreWithin last ts → last < t.index → above < t.index
    → AreTickets above (ts ++ t ∷ [])
tickets-push above last [] t h within lt up = (up, tt)
tickets-push above last (u ∷ ts) t (one, rest) (in_log, more) lt up = (one, tickets-push u.index last ts t rest more lt (omega (arith, in_log, lt)))

all-more : (a b : ℕ) (ps : List (ℕ × Progress)) → a ≤ b → All (λ (p : ℕ × Progress). IsWithin a p.1) ps → All (λ (p : ℕ × Progress). IsWithin b p.1) ps
all-more a b [] le h = All-nil (λ (p : ℕ × Progress). IsWithin b p.1)
all-more a b (p ∷ ps) le h =
    let one : IsWithin a p.1 = All-head (λ (q : ℕ × Progress). IsWithin a q.1) p ps h in
    let next = one.next in
    let mark = one.mark in
    All-cons (λ (q : ℕ × Progress). IsWithin b q.1) p ps (record { next = omega (arith, le, next); mark = omega (arith, le, mark) })
    (all-more a b ps le (All-tail (λ (q : ℕ × Progress). IsWithin a q.1) p ps h))

-- the tables that are being sent

tables-more : (a b : ℕ) (ks : List (ℕ × SentTable)) → a ≤ b → All (λ (k : ℕ × SentTable). k.1.point.index ≤ a) ks → All (λ (k : ℕ × SentTable). k.1.point.index ≤ b) ks
tables-more a b [] le h = All-nil (λ (k : ℕ × SentTable). k.1.point.index ≤ b)
tables-more a b (k ∷ ks) le h =
    let one : k.1.point.index ≤ a = All-head (λ (j : ℕ × SentTable). j.1.point.index ≤ a) k ks h in
    All-cons (λ (j : ℕ × SentTable). j.1.point.index ≤ b) k ks (omega (arith, le, one))
    (tables-more a b ks le (All-tail (λ (j : ℕ × SentTable). j.1.point.index ≤ a) k ks h))

pub no-sendings : (last : ℕ) → AreSendings last []
no-sendings last = record { rising = tt; within = All-nil (λ (k : ℕ × SentTable). k.1.point.index ≤ last) }

pub sendings-put : (last : ℕ) (ks : List (ℕ × SentTable)) (v : ℕ) (k : SentTable) → AreSendings last ks → k.point.index ≤ last → AreSendings last (put ks v k)
sendings-put last ks v k h le =
    record { rising = rising-put ks v k h.rising; within = all-put (λ (j : SentTable). j.point.index ≤ last) ks v k h.within le }

pub sendings-without : (last : ℕ) (ks : List (ℕ × SentTable)) (v : ℕ) → AreSendings last ks → AreSendings last (without ks v)
sendings-without last ks v h =
    record { rising = rising-without ks v h.rising; within = All-filter (λ j. not (j.0 == v)) (λ (j : ℕ × SentTable). j.1.point.index ≤ last) ks h.within }

-- the table that is sent to an id stands after an entry of the log
pub sending-within : (last : ℕ) (ks : List (ℕ × SentTable)) (v : ℕ) (k : SentTable) → AreSendings last ks → value_at ks v ≡ Some k → k.point.index ≤ last
sending-within last ks v k h is = found ks h.within is
  where
    found : (xs : List (ℕ × SentTable)) → All (λ (j : ℕ × SentTable). j.1.point.index ≤ last) xs → value_at xs v ≡ Some k → k.point.index ≤ last
    found [] all none = absurd (let e : None ≡ Some k = none in cc)
    found (x ∷ xs) all some = elim (cases_eq x.0 v) [
      | inl here ↦
          let e : Some x.1 ≡ Some k = sym (find-here x xs v here) ∙ some in
          let same : x.1 ≡ k = cc in
          subst (λ (j : SentTable). j.point.index ≤ last) same (All-head (λ (j : ℕ × SentTable). j.1.point.index ≤ last) x xs all)
      | inr ne ↦ found xs (All-tail (λ (j : ℕ × SentTable). j.1.point.index ≤ last) x xs all) (sym (find-later x xs v ne) ∙ some)
    ]

-- a leader's knowledge is within a longer log
pub leading-more : (a b : ℕ) (l : Leading) → a ≤ b → IsSoundLeading a l → IsSoundLeading b l
leading-more a b l le h =
    record {
      progress = all-more a b l.progress le h.progress;
      learners = h.learners;
      sendings = record { rising = h.sendings.rising; within = tables-more a b l.sendings le h.sendings.within };
    }

pub pushed-last : (w : Window) (e : LogEntry) → last_index (pushed w e) ≡ last_index w + 1
pushed-last w e = let l = length-append w.entries (e ∷ []) in omega (arith, l)

-- a leader puts an entry at the end of its log
pub pushed-sound : (h : Holder) (e : LogEntry) (l : Leading) → h.role ≡ kept.Leader l → IsSound h → last_index h.log < TOP → IsSound (record h { log = pushed h.log e })
pushed-sound h e l is sound room =
    let n = pushed-last h.log e in
    let more : last_index h.log ≤ last_index (pushed h.log e) = omega (arith, n) in
    record {
      term = sound.term;
      last = omega (arith, n, room);
      role = subst (IsSoundRole (last_index (pushed h.log e))) (sym is)
          (leading-more (last_index h.log) (last_index (pushed h.log e)) l more (subst (IsSoundRole (last_index h.log)) is sound.role));
      tickets = sound.tickets;
      within = within-more (last_index h.log) (last_index (pushed h.log e)) h.tickets more sound.within;
    }

expected-within : (last next : ℕ) (vs : List ℕ) → next ≤ last + 1
    → All (λ (p : ℕ × Progress). IsWithin last p.1) (map (λ v. (v, record { next = next; mark = 0; promised = 0 })) vs)
expected-within last next [] le = All-nil (λ (p : ℕ × Progress). IsWithin last p.1)
expected-within last next (v ∷ vs) le =
    All-cons (λ (p : ℕ × Progress). IsWithin last p.1) (v, record { next = next; mark = 0; promised = 0 })
    (map (λ v. (v, record { next = next; mark = 0; promised = 0 })) vs) (record { next = le; mark = omega arith }) (expected-within last next vs le)

-- a new leader
pub anew-sound : (last next : ℕ) (l : Leading) (vs : List ℕ) → next ≤ last + 1
    → l.progress ≡ map (λ v. (v, record { next = next; mark = 0; promised = 0 })) vs → l.learners ≡ [] → l.sendings ≡ [] → IsSoundLeading last l
anew-sound last next l vs le progress learners sendings =
    record {
      progress = subst (All (λ (p : ℕ × Progress). IsWithin last p.1)) (sym progress) (expected-within last next vs le);
      learners = let n : length l.learners ≡ 0 = ap length learners in omega (arith, n);
      sendings = subst (AreSendings last) (sym sendings) (no-sendings last);
    }

-- the same replica with what it keeps as a leader changed
pub led-sound : (h : Holder) (l : Leading) → IsSound h → IsSoundLeading (last_index h.log) l → IsSound (record h { role = kept.Leader l })
led-sound h l sound leads = record { term = sound.term; last = sound.last; role = leads; tickets = sound.tickets; within = sound.within }

-- what is known of a peer is within the log
pub within-in : (last : ℕ) (ps : List (ℕ × Progress)) (v : ℕ) → All (λ (p : ℕ × Progress). IsWithin last p.1) ps → IsWithin last (progress_in ps v)
within-in last [] v h = record { next = omega arith; mark = omega arith }
within-in last (p ∷ ps) v h = elim (cases_eq p.0 v) [
  | inl here ↦
      subst (λ o. IsWithin last (unwrap_or o unknown)) (sym (find-here p ps v here)) (All-head (λ (q : ℕ × Progress). IsWithin last q.1) p ps h)
  | inr ne ↦
      subst (λ o. IsWithin last (unwrap_or o unknown)) (sym (find-later p ps v ne))
      (within-in last ps v (All-tail (λ (q : ℕ × Progress). IsWithin last q.1) p ps h))
]

-- so it is where the next entry falls back
pub fallen-within : (last base : ℕ) (ks : List (ℕ × SentTable)) (ps : List (ℕ × Progress)) (vs : List ℕ) → base ≤ last
    → All (λ (p : ℕ × Progress). IsWithin last p.1) ps → All (λ (p : ℕ × Progress). IsWithin last p.1) (all_fallen_back base ks ps vs)
fallen-within last base ks ps [] le h = h
fallen-within last base ks ps (v ∷ vs) le h =
    let p : Progress = progress_in ps v in
    let known : IsWithin last p = within-in last ps v h in
    let mark = known.mark in
    let fallen : IsWithin last (fallen_back base p) =
    cond_both (p.mark == 0) p (record p { next = max p.mark base + 1 }) (IsWithin last) (λ t. known) (λ f. record { next = omega (arith, mark, le); mark = mark }) in
    cond_both (has ks v) ps (put ps v (fallen_back base p)) (λ qs. All (λ (q : ℕ × Progress). IsWithin last q.1) (all_fallen_back base ks qs vs))
    (λ t. fallen-within last base ks ps vs le h)
    (λ f. fallen-within last base ks (put ps v (fallen_back base p)) vs le (all-put (IsWithin last) ps v (fallen_back base p) h fallen))

-- so it is where a peer is sent its append
pub sent-sound : (l : Leading) (w : Window) (v : ℕ) → IsSoundLeading (last_index w) l → IsSoundLeading (last_index w) (after_sent l w v)
sent-sound l w v h =
    let p : Progress = progress_in l.progress v in
    let known : IsWithin (last_index w) p = within-in (last_index w) l.progress v h.progress in
    let next = known.next in
    let on : Progress = record p { next = p.next + length (entries_at w p.next) } in
    let after : IsWithin (last_index w) (after_append w p) =
    cond_both (nat_lt (base_index w) p.next) on p (IsWithin (last_index w))
    (λ t.
    let above : base_index w < p.next = ltb-true (base_index w) p.next t in
    let a = length-take MAX_ENTRIES (drop (p.next - 1 - base_index w) w.entries) in
    let b = length-drop (p.next - 1 - base_index w) w.entries in
    record { next = omega (arith, next, above, a, b); mark = known.mark })
    (λ f. known) in
    cond_both (can_append_at l w v) (with_progress_in l v (after_append w p)) l (IsSoundLeading (last_index w))
    (λ t. record { progress = all-put (IsWithin (last_index w)) l.progress v (after_append w p) h.progress after; learners = h.learners; sendings = h.sendings })
    (λ f. h)

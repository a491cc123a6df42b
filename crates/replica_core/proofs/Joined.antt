-- What an append brings, and the answer to it, is in range.
use Rattle.std.proofs.Common.{◌≡◌, ℕ, ◌+◌, ◌-◌, ◌≤◌, cond, ◌||◌, nat_lt, nat_le, Option, Some, None, List, [], ◌∷◌, ◌++◌, length, drop, map, filter, filter_map, All, refl, sym, subst, arith, length-drop}
use Rattle.std.specs.Prelude.{IfSome}
use Rattle.std.specs.List.{cons_option}
use Rattle.std.proofs.lemmas.Bool.{cond_both}
use Rattle.std.proofs.lemmas.List.Elements.{All-nil, All-cons, All-head, All-tail, All-append, All-take, All-drop}
use Rattle.values.specs.declared.batch.Batch.{Batch}
use Rattle.values.specs.declared.entry.Body.{Body}
use Rattle.values.specs.declared.entry.Body.TheVariants.{Noop, Ask, Members}
use Rattle.values.specs.declared.entry.Hash.{Hash}
use Rattle.values.specs.declared.entry.LogEntry.{LogEntry}
use Rattle.values.specs.declared.entry.Point.{Point}
use Rattle.values.specs.declared.ids.ClientId.{ClientId}
use Rattle.values.specs.declared.limits.TheConstants.{TOP}
use Rattle.values.specs.declared.message.Answer.{Answer}
use Rattle.values.specs.declared.message.Answer.TheVariants.{Undecided}
use Rattle.values.specs.declared.peer.PeerMsg.{PeerMsg}
use Rattle.group_quorum.specs.Voters.{IsId, IsSound as IsSoundConf}
use Rattle.group_msgs.specs.Ranges.{IsIndex, IsBodyInRange, IsEntryInRange, IsInRange}
use Rattle.replica_model.specs.Linked.{sha_link}
use Rattle.replica_model.specs.Path.{Path}
use Rattle.replica_model.specs.Raise.{numbered_from}
use Rattle.replica_model.specs.Graft.{Difference, differs_at, members_of, points_from}
use Rattle.replica_log.specs.declared.graft.Graft.{Graft}
use Rattle.replica_log.specs.declared.graft.Graft.TheVariants.{Grafted, Apart, Conflict}
use Rattle.replica_log.specs.Window.{Window, IsOrdered, base_index, last_index, upto, hash_at}
use Rattle.replica_log.specs.Grafting.{difference, kept_index, grafted, point_at, offered_end, placed, judged}
use Rattle.append_rules.specs.declared.take.Taken.{Taken}
use Rattle.append_rules.specs.declared.take.Taken.TheVariants as taken
use Rattle.append_rules.specs.Taken.{after_by, after_offer, taken_by, taken_of, reply_of, cut_of, halt_of}
use Rattle.replica_core.specs.declared.role.Role.TheVariants as kept
use Rattle.replica_core.specs.declared.tickets.Ticket.{Ticket}
use Rattle.replica_core.specs.declared.holder.Holder.{Holder}
use Rattle.replica_core.specs.InRange.{IsHolderInRange}
use Rattle.group_msgs.specs.Batches.{IsAnswerInRange}
use Rattle.replica_core.specs.Ranges.{IsStepBatch}
use Rattle.replica_core.specs.Replacing.{kept_upto, members_above, tickets_left, given_up}
use Rattle.replica_core.proofs.Bounds.{differs-within, hash-within}
use Rattle.replica_core.proofs.Ranged.{all-answered-in, all-members-in, sent-in}

-- an index in a difference
abbrev pub AtIndex : Option Difference → Type 0
AtIndex d = IfSome d (λ (x : Difference). IsIndex x.0)

-- a log after an append, and the answer
pub record Brings (w w' : Window) (t : Taken) : Type 0 where
  pub base : w'.base ≡ w.base
  pub entries : All IsEntryInRange w'.entries
  pub cut : AtIndex (cut_of t)
  pub halt : AtIndex (halt_of t)
  pub reply : IfSome (reply_of t) IsInRange

module _ (w : Window) (o : IsOrdered w) (prev : Point) (entries : Path) (term promise commit : ℕ) (kept_are : All IsEntryInRange w.entries) (are : All IsEntryInRange entries)
    (end_in : prev.index + length entries ≤ TOP) (term_in : term ≤ TOP) where
  abbrev BringsBy : Graft → Type 0
  BringsBy g = Brings w (after_by w prev entries promise commit g) (taken_by w term prev promise g)

  apart : (hint : ℕ) → hint ≤ TOP → BringsBy (Apart hint)
  apart hint le = record { base = refl; entries = kept_are; cut = tt; halt = tt; reply = (term_in, (omega (arith, end_in), le)) }

  conflict : (i : ℕ) (kept offered : Hash) → i ≤ TOP → BringsBy (Conflict i kept offered)
  conflict i kept offered le = record { base = refl; entries = kept_are; cut = tt; halt = le; reply = tt }

  joined : (cut : Option Difference) → AtIndex cut → BringsBy (Grafted (point_at sha_link (grafted w prev entries cut) (offered_end prev entries)) cut)
  joined cut at =
      let k : ℕ = kept_index w cut in
      record {
        base = refl;
        entries = All-append IsEntryInRange (upto w k) (drop (k - prev.index) entries)
            (All-take IsEntryInRange (k - base_index w) w.entries kept_are) (All-drop IsEntryInRange (k - prev.index) entries are);
        cut = at;
        halt = tt;
        reply = (term_in, (end_in, omega (arith, end_in)));
      }

  placed-in : (cut : Option Difference) → AtIndex cut → BringsBy (placed sha_link w prev entries cut)
  placed-in cut at =
      let a = o.last in
      let b = o.top in
      let end : Point = point_at sha_link (grafted w prev entries cut) (offered_end prev entries) in
      cond_both (nat_lt (last_index w) prev.index) (Apart (last_index w))
      (cond (differs_at cut prev.index || nat_lt (offered_end prev entries) (base_index w)) (Apart w.promised) (Grafted end cut)) BringsBy
      (λ above. apart (last_index w) b)
      (λ within. cond_both (differs_at cut prev.index || nat_lt (offered_end prev entries) (base_index w)) (Apart w.promised) (Grafted end cut) BringsBy
      (λ stands. apart w.promised (omega (arith, a, b)))
      (λ joins. joined cut at))

  judged-in : (d : Option Difference) → ((x : Difference) → d ≡ Some x → x.0 ≤ last_index w) → BringsBy (judged sha_link w prev entries d)
  judged-in None within = placed-in None tt
  judged-in (Some x) within =
      let most = within x refl in
      let top = o.top in
      let at : x.0 ≤ TOP = omega (arith, most, top) in
      cond_both (nat_le x.0 w.promised) (Conflict x.0 x.1 x.2) (placed sha_link w prev entries (Some x)) BringsBy
      (λ so. conflict x.0 x.1 x.2 at)
      (λ not_so. placed-in (Some x) at)

  offer-brings : Brings w (after_offer w prev entries promise commit) (taken_of w term prev entries promise)
  offer-brings =
      judged-in (difference sha_link w prev entries)
      (λ x is. differs-within (hash_at sha_link w) (last_index w) (hash-within w prev entries o term promise commit) (points_from sha_link prev.index prev.hash entries) x is)

  pub brings-as : (w' : Window) (t : Taken) → taken_of w term prev entries promise ≡ t → w' ≡ after_offer w prev entries promise commit → Brings w w' t
  brings-as w' t is after =
      subst (λ (x : Window). Brings w x t) (sym after) (subst (λ (x : Taken). Brings w (after_offer w prev entries promise commit) x) is offer-brings)

-- configurations of entries in range
one-member : (i : ℕ) (e : LogEntry) (ms : List (ℕ × ℕ × List ℕ)) → IsIndex i → IsEntryInRange e
    → All (λ (m : ℕ × ℕ × List ℕ). IsIndex m.0 × IsSoundConf (record { margin = m.1; voters = m.2 })) ms
    → All (λ (m : ℕ × ℕ × List ℕ). IsIndex m.0 × IsSoundConf (record { margin = m.1; voters = m.2 })) (cons_option (members_of (i, e)) ms)
one-member i e ms le ranged all = by e.body ranged.1
  where
    by : (b : Body) → IsBodyInRange b
        → All (λ (m : ℕ × ℕ × List ℕ). IsIndex m.0 × IsSoundConf (record { margin = m.1; voters = m.2 })) (cons_option (members_of (i, record { term = e.term; body = b })) ms)
    by Noop h = all
    by (Ask client number request) h = all
    by (Members margin voters) h =
        All-cons (λ (m : ℕ × ℕ × List ℕ). IsIndex m.0 × IsSoundConf (record { margin = m.1; voters = m.2 })) (i, margin, voters) ms (le, h) all

pub members-in : (k : ℕ) (p : Path) → k + length p ≤ TOP + 1 → All IsEntryInRange p
    → All (λ (m : ℕ × ℕ × List ℕ). IsIndex m.0 × IsSoundConf (record { margin = m.1; voters = m.2 })) (filter_map members_of (numbered_from k p))
members-in k [] le all = All-nil (λ (m : ℕ × ℕ × List ℕ). IsIndex m.0 × IsSoundConf (record { margin = m.1; voters = m.2 }))
members-in k (e ∷ p) le all =
    one-member k e (filter_map members_of (numbered_from (k + 1) p)) (omega (arith, le)) (All-head IsEntryInRange e p all)
    (members-in (k + 1) p (omega (arith, le)) (All-tail IsEntryInRange e p all))

-- the answers to tickets that are let go
given-in : (cut : Option Difference) (ts : List Ticket) → AtIndex cut → All (λ (a : ClientId × ℕ × Answer). IsAnswerInRange a.2) (given_up cut ts)
given-in None ts at = All-nil (λ (a : ClientId × ℕ × Answer). IsAnswerInRange a.2)
given-in (Some d) ts at = each (filter (λ t. nat_le d.0 t.index) ts)
  where
    each : (us : List Ticket) → All (λ (a : ClientId × ℕ × Answer). IsAnswerInRange a.2) (map (λ (t : Ticket). (t.client, t.number, Undecided d.0 d.1 d.2)) us)
    each [] = All-nil (λ (a : ClientId × ℕ × Answer). IsAnswerInRange a.2)
    each (u ∷ us) =
        All-cons (λ (a : ClientId × ℕ × Answer). IsAnswerInRange a.2) (u.client, u.number, Undecided d.0 d.1 d.2)
        (map (λ (t : Ticket). (t.client, t.number, Undecided d.0 d.1 d.2)) us) at (each us)

-- the replica that halts
pub halted-in : (h : Holder) → IsHolderInRange h → (w : Window) (d : Difference) → Brings h.log w (taken.Conflict d.0 d.1 d.2)
    → IsHolderInRange (record h { log = w; halted = Some d })
halted-in h ranged w d brings =
    record {
      me = ranged.me;
      known = ranged.known;
      base_term = subst (λ b. IsIndex b.term) (sym brings.base) ranged.base_term;
      base_conf = subst (λ b. IsSoundConf b.conf) (sym brings.base) ranged.base_conf;
      entries = brings.entries;
      role = ranged.role;
      halted = brings.halt;
    }

module _ (h : Holder) (ranged : IsHolderInRange h) (w : Window) (reply : PeerMsg) (cut : Option Difference)
    (brings : Brings h.log w (taken.Replied reply cut)) where
  -- the replica that follows
  pub follower-in : (from : ℕ) → IsId from → IsHolderInRange (record h { log = w; role = kept.Follower; known = from; tickets = tickets_left cut h.tickets })
  follower-in from id =
      record {
        me = ranged.me;
        known = id.1;
        base_term = subst (λ b. IsIndex b.term) (sym brings.base) ranged.base_term;
        base_conf = subst (λ b. IsSoundConf b.conf) (sym brings.base) ranged.base_conf;
        entries = brings.entries;
        role = tt;
        halted = ranged.halted;
      }

  -- what it tells before entries are applied
  pub told-in : (b : Batch) → IsStepBatch b → IsOrdered w → kept_upto (last_index h.log) cut ≤ last_index w
      → base_index w ≤ kept_upto (last_index h.log) cut
      → IsStepBatch (record b { members = b.members ++ members_above w (kept_upto (last_index h.log) cut); answers = b.answers ++ given_up cut h.tickets })
  told-in b in_range ow within above =
      let k : ℕ = kept_upto (last_index h.log) cut in
      let ms : List (ℕ × ℕ × List ℕ) = members_above w k in
      let top = ow.top in
      let d = length-drop (k - base_index w) w.entries in
      let le : k + 1 + length (drop (k - base_index w) w.entries) ≤ TOP + 1 = omega (arith, top, d, within, above) in
      all-answered-in (record b { members = b.members ++ ms })
      (all-members-in b in_range ms (members-in (k + 1) (drop (k - base_index w) w.entries) le (All-drop IsEntryInRange (k - base_index w) w.entries brings.entries)))
      (given_up cut h.tickets) (given-in cut h.tickets brings.cut)

  -- and the reply
  pub replied-in : (b : Batch) (from : ℕ) → IsId from → IsStepBatch b → IsStepBatch (record b { sent = b.sent ++ (from, reply) ∷ [] })
  replied-in b from id in_range = sent-in b in_range from reply id brings.reply

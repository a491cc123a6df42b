-- A batch in range with more in it, and what a replica in range has of its log.
use Rattle.std.proofs.Common.{◌≡◌, ℕ, zero, suc, ◌+◌, ◌-◌, ◌<◌, ◌≤◌, not, ◌==◌, nat_lt, Option, Some, None, List, [], ◌∷◌, ◌++◌, length, drop, slice_get, All, inl, inr, refl, sym, subst, ◌∙◌, arith, length-drop}
use Rattle.std.specs.Prelude.{IfSome}
use Rattle.std.proofs.lemmas.Bool.{cond_both, cases_eq}
use Rattle.std.proofs.lemmas.List.{length-take}
use Rattle.std.proofs.lemmas.List.Elements.{All-nil, All-cons, All-head, All-tail, All-push, All-append, All-take, All-drop, All-filter, All-weaker}
use Rattle.values.specs.declared.batch.Batch.{Batch}
use Rattle.values.specs.declared.entry.Body.{Body}
use Rattle.values.specs.declared.entry.Body.TheVariants.{Noop, Ask, Members}
use Rattle.values.specs.declared.entry.LogEntry.{LogEntry}
use Rattle.values.specs.declared.ids.ClientId.{ClientId}
use Rattle.values.specs.declared.message.Answer.{Answer}
use Rattle.values.specs.declared.peer.PeerMsg.{PeerMsg}
use Rattle.group_quorum.specs.declared.TheConstants.{MAX_ID}
use Rattle.vote_rules.specs.declared.ballot.Ballot.{Ballot}
use Rattle.vote_rules.specs.declared.votes.Votes.{Votes}
use Rattle.group_quorum.specs.Conf.{Conf}
use Rattle.group_quorum.specs.Voters.{IsId, IsSound as IsSoundConf, is_in, insert_rising}
use Rattle.values.specs.declared.peer.TablePart.{TablePart}
use Rattle.values.specs.declared.row.Kept.{Kept}
use Rattle.values.specs.declared.limits.TheConstants.{MAX_ENTRIES, MAX_PARTS, ROWS_PER_PART}
use Rattle.group_msgs.specs.Ranges.{IsIndex, IsBodyInRange, IsEntryInRange, IsKeptInRange, IsRowInRange, IsAppendInRange, IsPartInRange, IsInRange}
use Rattle.record_rules.specs.Table.{RecordTable}
use Rattle.record_rules.specs.Valid.{IsValidRecord, IsValidRow}
use Rattle.replica_model.specs.Keyed.{value_at}
use Rattle.replica_model.specs.Linked.{sha_link}
use Rattle.replica_log.specs.Grafting.{point_at}
use Rattle.append_rules.specs.Sent.{entries_at, after_append}
use Rattle.table_transfer.specs.SentTable.{SentTable, part_at}
use Rattle.table_transfer.specs.TakenParts.{IsTakable}
use Rattle.replica_model.specs.Path.{Path}
use Rattle.replica_model.specs.Configs.{conf, changed_by}
use Rattle.replica_model.specs.Peers.{with_id, united, others}
use Rattle.replica_model.specs.Call.{empty_batch}
use Rattle.replica_log.specs.Window.{Window, IsOrdered, base_index, last_index, term_from, last_term_of, entry_at, conf_at, conf_index_at, older_conf_at, upto, pushed, Summary, dropped_below}
use Rattle.replica_core.specs.declared.tickets.Ticket.{Ticket}
use Rattle.replica_core.specs.declared.holder.Holder.{Holder}
use Rattle.replica_core.specs.declared.role.Role.{Role}
use Rattle.replica_core.specs.declared.role.Role.TheVariants as kept
use Rattle.replica_core.specs.declared.role.Leading.{Leading}
use Rattle.replica_core.specs.Keeping.{is_pending_at, counted_at, others_counted, peers_at, learners_in, progress_in}
use Rattle.replica_core.specs.Leads.{can_append_at, after_sent, with_progress_in}
use Rattle.group_msgs.specs.Batches.{IsAnswerInRange}
use Rattle.replica_core.specs.Ranges.{IsStepBatch}
use Rattle.replica_core.specs.InRange.{IsSendingInRange, IsHolderInRange, IsRoleInRange, IsLeadingInRange}
use Rattle.replica_core.proofs.Listed.{find-here, find-later}

-- nothing was told yet
pub empty-in : IsStepBatch empty_batch
empty-in =
    record {
      ranged = record {
        lead = tt;
        members = All-nil (λ (m : ℕ × ℕ × List ℕ). IsIndex m.0 × IsSoundConf (record { margin = m.1; voters = m.2 }));
        halt = tt;
        taken = tt;
        commits = All-nil (λ (c : ℕ × LogEntry). IsIndex c.0 × IsEntryInRange c.1);
        answers = All-nil (λ (a : ClientId × ℕ × Answer). IsAnswerInRange a.2);
        sent = All-nil (λ (m : ℕ × PeerMsg). IsId m.0 × IsInRange m.1);
        refused = tt;
      };
      saved = refl;
    }

module _ (b : Batch) (h : IsStepBatch b) where
  -- more messages
  pub all-sent-in : (ms : List (ℕ × PeerMsg)) → All (λ (m : ℕ × PeerMsg). IsId m.0 × IsInRange m.1) ms → IsStepBatch (record b { sent = b.sent ++ ms })
  all-sent-in ms all =
      record {
        ranged = record {
          lead = h.ranged.lead;
          members = h.ranged.members;
          halt = h.ranged.halt;
          taken = h.ranged.taken;
          commits = h.ranged.commits;
          answers = h.ranged.answers;
          sent = All-append (λ (m : ℕ × PeerMsg). IsId m.0 × IsInRange m.1) b.sent ms h.ranged.sent all;
          refused = h.ranged.refused;
        };
        saved = h.saved;
      }

  pub sent-in : (v : ℕ) (msg : PeerMsg) → IsId v → IsInRange msg → IsStepBatch (record b { sent = b.sent ++ (v, msg) ∷ [] })
  sent-in v msg id ranged =
      all-sent-in ((v, msg) ∷ []) (All-cons (λ (m : ℕ × PeerMsg). IsId m.0 × IsInRange m.1) (v, msg) [] (id, ranged) (All-nil (λ (m : ℕ × PeerMsg). IsId m.0 × IsInRange m.1)))

  -- more answers
  pub all-answered-in : (xs : List (ClientId × ℕ × Answer)) → All (λ (a : ClientId × ℕ × Answer). IsAnswerInRange a.2) xs → IsStepBatch (record b { answers = b.answers ++ xs })
  all-answered-in xs all =
      record {
        ranged = record {
          lead = h.ranged.lead;
          members = h.ranged.members;
          halt = h.ranged.halt;
          taken = h.ranged.taken;
          commits = h.ranged.commits;
          answers = All-append (λ (a : ClientId × ℕ × Answer). IsAnswerInRange a.2) b.answers xs h.ranged.answers all;
          sent = h.ranged.sent;
          refused = h.ranged.refused;
        };
        saved = h.saved;
      }

  pub answered-in : (client : ClientId) (number : ℕ) (answer : Answer) → IsAnswerInRange answer → IsStepBatch (record b { answers = b.answers ++ (client, number, answer) ∷ [] })
  answered-in client number answer ranged =
      all-answered-in ((client, number, answer) ∷ [])
      (All-cons (λ (a : ClientId × ℕ × Answer). IsAnswerInRange a.2) (client, number, answer) [] ranged (All-nil (λ (a : ClientId × ℕ × Answer). IsAnswerInRange a.2)))

  -- more configurations
  pub all-members-in : (ms : List (ℕ × ℕ × List ℕ)) → All (λ (m : ℕ × ℕ × List ℕ). IsIndex m.0 × IsSoundConf (record { margin = m.1; voters = m.2 })) ms
      → IsStepBatch (record b { members = b.members ++ ms })
  all-members-in ms all =
      record {
        ranged = record {
          lead = h.ranged.lead;
          members = All-append (λ (m : ℕ × ℕ × List ℕ). IsIndex m.0 × IsSoundConf (record { margin = m.1; voters = m.2 })) b.members ms h.ranged.members all;
          halt = h.ranged.halt;
          taken = h.ranged.taken;
          commits = h.ranged.commits;
          answers = h.ranged.answers;
          sent = h.ranged.sent;
          refused = h.ranged.refused;
        };
        saved = h.saved;
      }

  -- more committed entries
  pub all-commits-in : (cs : List (ℕ × LogEntry)) → All (λ (c : ℕ × LogEntry). IsIndex c.0 × IsEntryInRange c.1) cs → IsStepBatch (record b { commits = b.commits ++ cs })
  all-commits-in cs all =
      record {
        ranged = record {
          lead = h.ranged.lead;
          members = h.ranged.members;
          halt = h.ranged.halt;
          taken = h.ranged.taken;
          commits = All-append (λ (c : ℕ × LogEntry). IsIndex c.0 × IsEntryInRange c.1) b.commits cs h.ranged.commits all;
          answers = h.ranged.answers;
          sent = h.ranged.sent;
          refused = h.ranged.refused;
        };
        saved = h.saved;
      }

-- a configuration of entries in range
changed-in : (c : Conf) (body : Body) → IsSoundConf c → IsBodyInRange body → IsSoundConf (changed_by c body)
changed-in c Noop sound ranged = sound
changed-in c (Ask client number request) sound ranged = sound
changed-in c (Members margin voters) sound ranged = ranged

pub conf-in : (c : Conf) (p : Path) → IsSoundConf c → All IsEntryInRange p → IsSoundConf (conf c p)
conf-in c [] sound all = sound
conf-in c (e ∷ p) sound all =
    conf-in (changed_by c e.body) p (changed-in c e.body sound (All-head IsEntryInRange e p all).1) (All-tail IsEntryInRange e p all)

pub term_from-in : (t : ℕ) (p : Path) → IsIndex t → All IsEntryInRange p → IsIndex (term_from t p)
term_from-in t [] le all = le
term_from-in t (e ∷ p) le all = term_from-in e.term p (All-head IsEntryInRange e p all).0 (All-tail IsEntryInRange e p all)

get-in : (p : Path) (i : ℕ) → All IsEntryInRange p → IfSome (slice_get p i) IsEntryInRange
get-in [] i all = tt
get-in (e ∷ p) zero all = All-head IsEntryInRange e p all
get-in (e ∷ p) (suc i) all = get-in p i (All-tail IsEntryInRange e p all)

module _ (h : Holder) (ranged : IsHolderInRange h) where
  pub upto-in : (i : ℕ) → All IsEntryInRange (upto h.log i)
  upto-in i = All-take IsEntryInRange (i - base_index h.log) h.log.entries ranged.entries

  pub conf_at-in : (i : ℕ) → IsSoundConf (conf_at h.log i)
  conf_at-in i = conf-in h.log.base.conf (upto h.log i) ranged.base_conf (upto-in i)

  pub older_conf_at-in : (i : ℕ) → IsSoundConf (older_conf_at h.log i)
  older_conf_at-in i =
      cond_both (nat_lt (base_index h.log) (conf_index_at h.log i)) (conf_at h.log (conf_index_at h.log i - 1)) (conf_at h.log i) IsSoundConf
      (λ t. conf_at-in (conf_index_at h.log i - 1)) (λ f. conf_at-in i)

  pub last_term-in : IsIndex (last_term_of h.log)
  last_term-in = term_from-in h.log.base.term h.log.entries ranged.base_term ranged.entries

  pub entry_at-in : (i : ℕ) → IfSome (entry_at h.log i) IsEntryInRange
  entry_at-in i =
      cond_both (nat_lt (base_index h.log) i) (slice_get h.log.entries (i - base_index h.log - 1)) None (λ e. IfSome e IsEntryInRange)
      (λ t. get-in h.log.entries (i - base_index h.log - 1) ranged.entries) (λ f. tt)

-- ids among ids
pub insert-ids : (v : ℕ) (ids : List ℕ) → IsId v → All IsId ids → All IsId (insert_rising v ids)
insert-ids v [] id all = All-cons IsId v [] id all
insert-ids v (w ∷ ids) id all =
    cond_both (nat_lt v w) (v ∷ w ∷ ids) (w ∷ insert_rising v ids) (All IsId)
    (λ t. All-cons IsId v (w ∷ ids) id all)
    (λ f. All-cons IsId w (insert_rising v ids) (All-head IsId w ids all) (insert-ids v ids id (All-tail IsId w ids all)))

pub with_id-ids : (v : ℕ) (ids : List ℕ) → IsId v → All IsId ids → All IsId (with_id v ids)
with_id-ids v ids id all = cond_both (is_in ids v) ids (insert_rising v ids) (All IsId) (λ t. all) (λ f. insert-ids v ids id all)

pub united-ids : (more ids : List ℕ) → All IsId more → All IsId ids → All IsId (united more ids)
united-ids [] ids more_are are = are
united-ids (v ∷ more) ids more_are are =
    with_id-ids v (united more ids) (All-head IsId v more more_are) (united-ids more ids (All-tail IsId v more more_are) are)

pub others-ids : (me : ℕ) (ids : List ℕ) → All IsId ids → All IsId (others me ids)
others-ids me ids are = All-filter (λ v. not (v == me)) IsId ids are

-- the learners of a replica, the voters that count, and its peers have ids
module _ (h : Holder) (ranged : IsHolderInRange h) where
  pub counted-ids : All IsId (counted_at h.log)
  counted-ids =
      let newest = (conf_at-in h ranged (last_index h.log)).ids in
      let older = (older_conf_at-in h ranged (last_index h.log)).ids in
      cond_both (is_pending_at h.log)
      (united (older_conf_at h.log (last_index h.log)).voters (conf_at h.log (last_index h.log)).voters)
      (conf_at h.log (last_index h.log)).voters (All IsId)
      (λ t. united-ids (older_conf_at h.log (last_index h.log)).voters (conf_at h.log (last_index h.log)).voters older newest) (λ f. newest)

  learners-of : (role : Role) → IsRoleInRange role → All IsId (learners_in role)
  learners-of kept.Follower r = All-nil IsId
  learners-of (kept.Candidate votes) r = All-nil IsId
  learners-of (kept.Leader l) r = r.learners

  pub learners-ids : All IsId (learners_in h.role)
  learners-ids = learners-of h.role ranged.role

  pub others_counted-ids : All IsId (others_counted h.me h.log)
  others_counted-ids = others-ids h.me (counted_at h.log) counted-ids

  pub peers-ids : All IsId (peers_at h.me h.log (learners_in h.role))
  peers-ids = others-ids h.me (united (learners_in h.role) (counted_at h.log)) (united-ids (learners_in h.role) (counted_at h.log) learners-ids counted-ids)

-- what stands under an id
pub value-in : {A : Type 0} (P : A → Type 0) (xs : List (ℕ × A)) (v : ℕ) (x : A) → value_at xs v ≡ Some x → All (λ (y : ℕ × A). P y.1) xs → P x
value-in P [] v x is all = cc
value-in {A = A} P (y ∷ ys) v x is all = elim (cases_eq y.0 v) [
  | inl here ↦
      let same : Some y.1 ≡ Some x = sym (find-here y ys v here) ∙ is in
      let e : y.1 ≡ x = cc in
      subst P e (All-head (λ (z : ℕ × A). P z.1) y ys all)
  | inr ne ↦ value-in P ys v x (sym (find-later y ys v ne) ∙ is) (All-tail (λ (z : ℕ × A). P z.1) y ys all)
]

-- a part of a table that is being sent
pub conf-parts-in : (c : Conf) → IsSoundConf c → IsSoundConf (record { margin = c.margin; voters = c.voters })
conf-parts-in c h = record { at_most = h.at_most; enough = h.enough; ids = h.ids; in_order = h.in_order }

kept-in : (k : Option Kept) → IfSome k IsValidRecord → IsKeptInRange k
kept-in None h = tt
kept-in (Some k) h = (h.0, h.1)

pub part-in : (k : SentTable) (part : TablePart) → part ≡ part_at k k.part → IsSendingInRange k → IsTakable part
    → (part.parts ≤ MAX_PARTS) × (length part.rows ≤ ROWS_PER_PART) → IsPartInRange part
part-in k part is ranged takable sized =
    record {
      index = subst (λ (p : TablePart). IsIndex p.point.index) (sym is) ranged.index;
      last_term = subst (λ (p : TablePart). IsIndex p.last_term) (sym is) ranged.last_term;
      conf_index = subst (λ (p : TablePart). p.conf_index ≤ p.point.index) (sym is) ranged.conf_index;
      conf = subst (λ (p : TablePart). IsSoundConf (record { margin = p.margin; voters = p.voters })) (sym is) (conf-parts-in k.conf ranged.conf);
      limit_from = takable.limit_least;
      limit_to = takable.limit_most;
      part = takable.below;
      parts = sized.0;
      few = sized.1;
      rows = All-weaker IsValidRow IsRowInRange (λ row valid. kept-in row.kept valid) part.rows takable.rows;
    }

-- the append that a peer is sent
pub append-in : (w : Window) (next : ℕ) → IsOrdered w → All IsEntryInRange w.entries → base_index w < next → next ≤ last_index w + 1
    → IsAppendInRange (point_at sha_link w (next - 1)) (entries_at w next) w.promised w.committed
append-in w next o entries above most =
    let rest : List LogEntry = drop (next - 1 - base_index w) w.entries in
    let a = length-take MAX_ENTRIES rest in
    let b = length-drop (next - 1 - base_index w) w.entries in
    let top = o.top in
    let promised = o.promised in
    let last = o.last in
    record {
      end = omega (arith, above, most, a, b, top);
      few = omega (arith, a);
      entries = All-take IsEntryInRange MAX_ENTRIES rest (All-drop IsEntryInRange (next - 1 - base_index w) w.entries entries);
      promise = omega (arith, last, top);
      commit = omega (arith, promised, last, top);
    }

-- one entry more
pub pushed-in : (h : Holder) (e : LogEntry) → IsHolderInRange h → IsEntryInRange e → IsHolderInRange (record h { log = pushed h.log e })
pushed-in h e ranged one =
    record {
      me = ranged.me;
      known = ranged.known;
      base_term = ranged.base_term;
      base_conf = ranged.base_conf;
      entries = All-push IsEntryInRange h.log.entries e ranged.entries one;
      role = ranged.role;
      halted = ranged.halted;
    }

-- another role, with ids and tables in range
pub role-in : (h : Holder) (role : Role) → IsHolderInRange h → IsRoleInRange role → IsHolderInRange (record h { role = role })
role-in h role ranged is =
    record {
      me = ranged.me;
      known = ranged.known;
      base_term = ranged.base_term;
      base_conf = ranged.base_conf;
      entries = ranged.entries;
      role = is;
      halted = ranged.halted;
    }

pub follow-in : (h : Holder) (leader : ℕ) → IsHolderInRange h → leader ≤ MAX_ID → IsHolderInRange (record h { role = kept.Follower; known = leader })
follow-in h leader ranged le =
    record {
      me = ranged.me;
      known = le;
      base_term = ranged.base_term;
      base_conf = ranged.base_conf;
      entries = ranged.entries;
      role = tt;
      halted = ranged.halted;
    }

-- it stands for election
pub stood-in : (h : Holder) (ballot : Ballot) (votes : Votes) → IsHolderInRange h
    → IsHolderInRange (record h { ballot = ballot; known = 0; role = kept.Candidate votes })
stood-in h ballot votes ranged =
    record {
      me = ranged.me;
      known = omega arith;
      base_term = ranged.base_term;
      base_conf = ranged.base_conf;
      entries = ranged.entries;
      role = tt;
      halted = ranged.halted;
    }

-- it leads anew
pub anew-in : (h : Holder) (l : Leading) → IsHolderInRange h → l.learners ≡ [] → l.sendings ≡ []
    → IsHolderInRange (record h { role = kept.Leader l; known = h.me })
anew-in h l ranged learners sendings =
    record {
      me = ranged.me;
      known = ranged.me.1;
      base_term = ranged.base_term;
      base_conf = ranged.base_conf;
      entries = ranged.entries;
      role = record {
        learners = subst (All IsId) (sym learners) (All-nil IsId);
        sendings = subst (All (λ (k : ℕ × SentTable). IsSendingInRange k.1)) (sym sendings) (All-nil (λ (k : ℕ × SentTable). IsSendingInRange k.1));
      };
      halted = ranged.halted;
    }

pub ballot-in : (h : Holder) (ballot : Ballot) → IsHolderInRange h → IsHolderInRange (record h { ballot = ballot })
ballot-in h ballot ranged =
    record {
      me = ranged.me;
      known = ranged.known;
      base_term = ranged.base_term;
      base_conf = ranged.base_conf;
      entries = ranged.entries;
      role = ranged.role;
      halted = ranged.halted;
    }

-- another log with the same entries on the same base
pub log-in : (h : Holder) (w : Window) → w.base ≡ h.log.base → w.entries ≡ h.log.entries → IsHolderInRange h → IsHolderInRange (record h { log = w })
log-in h w base entries ranged =
    record {
      me = ranged.me;
      known = ranged.known;
      base_term = subst (λ (x : Summary). IsIndex x.term) (sym base) ranged.base_term;
      base_conf = subst (λ (x : Summary). IsSoundConf x.conf) (sym base) ranged.base_conf;
      entries = subst (All IsEntryInRange) (sym entries) ranged.entries;
      role = ranged.role;
      halted = ranged.halted;
    }

pub dropped-in : (h : Holder) (i : ℕ) → IsHolderInRange h → IsHolderInRange (record h { log = dropped_below sha_link h.log i })
dropped-in h i ranged =
    record {
      me = ranged.me;
      known = ranged.known;
      base_term = term_from-in h.log.base.term (upto h.log i) ranged.base_term (upto-in h ranged i);
      base_conf = conf_at-in h ranged i;
      entries = All-drop IsEntryInRange (i - base_index h.log) h.log.entries ranged.entries;
      role = ranged.role;
      halted = ranged.halted;
    }

-- a new leader tells its term
pub lead-in : (b : Batch) (term : ℕ) → IsStepBatch b → IsIndex term → IsStepBatch (record b { lead = Some term })
lead-in b term h le =
    record {
      ranged = record {
        lead = le;
        members = h.ranged.members;
        halt = h.ranged.halt;
        taken = h.ranged.taken;
        commits = h.ranged.commits;
        answers = h.ranged.answers;
        sent = h.ranged.sent;
        refused = h.ranged.refused;
      };
      saved = h.saved;
    }

-- a leader of which a peer was sent its append
pub sent-led-in : (l : Leading) (w : Window) (v : ℕ) → IsLeadingInRange l → IsLeadingInRange (after_sent l w v)
sent-led-in l w v h =
    cond_both (can_append_at l w v) (with_progress_in l v (after_append w (progress_in l.progress v))) l IsLeadingInRange
    (λ t. record { learners = h.learners; sendings = h.sendings }) (λ f. h)

-- another table, and other tickets
pub table-in : (h : Holder) (table : RecordTable) (tickets : List Ticket) → IsHolderInRange h → IsHolderInRange (record h { table = table; tickets = tickets })
table-in h table tickets ranged =
    record {
      me = ranged.me;
      known = ranged.known;
      base_term = ranged.base_term;
      base_conf = ranged.base_conf;
      entries = ranged.entries;
      role = ranged.role;
      halted = ranged.halted;
    }

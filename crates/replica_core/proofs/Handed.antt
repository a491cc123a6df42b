-- What a learner takes, what a leader sends of a table, changes of the members and clients' requests keep the ranges.
use Rattle.std.proofs.Common.{◌≡◌, ℕ, ◌+◌, ◌≤◌, Bool, true, false, not, ◌&&◌, ◌||◌, ◌==◌, nat_eq, nat_le, Option, Some, None, Result, Ok, Err, List, [], ◌∷◌, All, refl, sym, ap, subst, ◌∙◌, arith}
use Rattle.std.specs.Prelude.{IfSome}
use Rattle.std.specs.Cmp.Lexicographic.{pointwise}
use Rattle.std.proofs.lemmas.Bool.{cond_both, and_from, eq-eqb}
use Rattle.std.proofs.lemmas.List.Elements.{All-nil, All-filter}
use Rattle.values.specs.declared.batch.Batch.{Batch}
use Rattle.values.specs.declared.entry.Body.TheVariants.{Ask}
use Rattle.values.specs.declared.entry.Hash.{Hash}
use Rattle.values.specs.declared.entry.Point.{Point}
use Rattle.values.specs.declared.ids.ClientId.{ClientId}
use Rattle.values.specs.declared.message.Answer.{Answer}
use Rattle.values.specs.declared.message.Answer.TheVariants.{NotLeader, Busy, Malformed, Invalid, Halted}
use Rattle.values.specs.declared.message.Part.{Part as RequestPart}
use Rattle.values.specs.declared.message.Part.TheVariants.{Nothing}
use Rattle.values.specs.declared.limits.TheConstants.{TOP}
use Rattle.values.specs.declared.message.Request.{Request}
use Rattle.values.specs.declared.peer.PeerMsg.TheVariants.{PartTaken}
use Rattle.values.specs.declared.peer.TablePart.{TablePart}
use Rattle.values.specs.Sizes.{IsValid}
use Rattle.client_msgs.specs.declared.fault.RequestFault.{RequestFault}
use Rattle.client_msgs.specs.declared.fault.RequestFault.TheVariants as faults
use Rattle.client_msgs.specs.Canonical.{canonical_request}
use Rattle.client_msgs.specs.Reading.{request_in, request_of, if_sized, request_from}
use Rattle.client_msgs.specs.Sizes.{FitsRequest, size_fault}
use Rattle.client_msgs.specs.Strict.{is_written_as, is_canonical}
use Rattle.client_msgs.proofs.SizesLemmas.{size_fault-valid}
use Rattle.proto_wire.specs.declared.field.WireFault.{WireFault}
use Rattle.proto_wire.specs.Fields.{Field, sequence_at}
use Rattle.proto_wire.specs.Reading.{last_member, first_fault}
use Rattle.group_quorum.specs.Voters.{IsId, IsSound, is_in}
use Rattle.group_msgs.specs.Ranges.{IsIndex, IsBodyInRange, IsEntryInRange, IsPartInRange}
use Rattle.record_rules.specs.Table.{RecordTable}
use Rattle.replica_model.specs.declared.TheConstants.{MAX_OPEN}
use Rattle.replica_model.specs.Clients.{offset_of}
use Rattle.replica_model.specs.Keyed.{value_at}
use Rattle.replica_model.specs.Peers.{others}
use Rattle.replica_log.specs.declared.configs.Configs.{Configs}
use Rattle.replica_log.specs.Window.{IsOrdered, base_index, last_index, upto, term_from, term_at, configs_at}
use Rattle.table_transfer.specs.declared.sending.Sent.{Sent}
use Rattle.table_transfer.specs.declared.sending.Sent.TheVariants.{Next, Done, Ignored}
use Rattle.table_transfer.specs.declared.taking.TakePart.{TakePart}
use Rattle.table_transfer.specs.declared.taking.TakePart.TheVariants.{Taken, Whole, Other}
use Rattle.table_transfer.specs.SentTable.{SentTable, begun, heard}
use Rattle.table_transfer.specs.TakenParts.{TakenParts, expected_point, expected_next, is_expected, begun_by, before_part, with_part, table_of, taken_on, take_part}
use Rattle.replica_core.specs.declared.role.Leading.{Leading}
use Rattle.replica_core.specs.declared.holder.Holder.{Holder}
use Rattle.replica_core.specs.declared.learner.Learner.{Learner}
use Rattle.replica_core.specs.Asking.{fault_answered, read_as, open_in, refusal_by, refusal_at, refusal_of}
use Rattle.replica_core.specs.Heard.{sendings_after, sendings_by, after_taken}
use Rattle.replica_core.specs.InRange.{IsSendingInRange, IsLeadingInRange, IsHolderInRange, IsLearnerInRange}
use Rattle.replica_core.specs.Keeping.{progress_in, leads_now}
use Rattle.replica_core.specs.Leads.{with_progress_in, without_sending, with_learner}
use Rattle.replica_core.specs.Learning.{holder_at, expecting, unled}
use Rattle.group_msgs.specs.Batches.{IsAnswerInRange}
use Rattle.replica_core.specs.Ranges.{IsStepBatch}
use Rattle.replica_core.proofs.Changes.{kept-is}
use Rattle.replica_core.proofs.Listed.{all-put}
use Rattle.replica_core.proofs.Ranged.{sent-in, answered-in, term_from-in, upto-in, conf_at-in, value-in, with_id-ids, others-ids}

-- ---- what a learner takes

before-in : (p : Option TakenParts) (part : TablePart) → IfSome p (λ (t : TakenParts). IsIndex t.point.index) → IsIndex part.point.index → IsIndex (before_part p part).point.index
before-in None part h index = index
before-in (Some t) part h index = cond_both (part.part == 0) (begun_by part) t (λ (x : TakenParts). IsIndex x.point.index) (λ s. index) (λ f. h)

pub taken-in : (p : Option TakenParts) (part : TablePart) → IfSome p (λ (t : TakenParts). IsIndex t.point.index) → IsIndex part.point.index
    → IfSome (take_part p part).0 (λ (t : TakenParts). IsIndex t.point.index)
taken-in p part h index =
    cond_both (is_expected p part) (taken_on (with_part p part) part) (p, Other (expected_point p) (expected_next p))
    (λ (x : Option TakenParts × TakePart). IfSome x.0 (λ (t : TakenParts). IsIndex t.point.index))
    (λ s. cond_both (part.part + 1 == part.parts) (None, Whole (table_of (with_part p part))) (Some (with_part p part), Taken (part.part + 1))
    (λ (x : Option TakenParts × TakePart). IfSome x.0 (λ (t : TakenParts). IsIndex t.point.index)) (λ t. tt) (λ f. before-in p part h index))
    (λ f. h)

expected-in : (p : Option TakenParts) → IfSome p (λ (t : TakenParts). IsIndex t.point.index) → IsIndex (expected_point p).index
expected-in None h = omega arith
expected-in (Some t) h = h

-- the point of which a learner tells
pub other-in : (p : Option TakenParts) (part : TablePart) (point : Point) (next : ℕ) → IfSome p (λ (t : TakenParts). IsIndex t.point.index)
    → (take_part p part).1 ≡ Other point next → IsIndex point.index
other-in p part point next h =
    cond_both (is_expected p part) (taken_on (with_part p part) part) (p, Other (expected_point p) (expected_next p))
    (λ (x : Option TakenParts × TakePart). x.1 ≡ Other point next → IsIndex point.index)
    (λ s. cond_both (part.part + 1 == part.parts) (None, Whole (table_of (with_part p part))) (Some (with_part p part), Taken (part.part + 1))
    (λ (x : Option TakenParts × TakePart). x.1 ≡ Other point next → IsIndex point.index)
    (λ t is. absurd (let e : Whole (table_of (with_part p part)) ≡ Other point next = is in cc)) (λ f is. absurd (let e : Taken (part.part + 1) ≡ Other point next = is in cc)))
    (λ f is. let same : expected_point p ≡ point = cc in subst (λ (x : Point). IsIndex x.index) same (expected-in p h))

pub expecting-in : (b : Batch) (to term : ℕ) (point : Point) (next : ℕ) → IsStepBatch b → IsId to → IsIndex term → IsIndex point.index → IsStepBatch (expecting b to term point next)
expecting-in b to term point next h id in_term in_point = sent-in b h to (PartTaken term point next) id (in_term, in_point)

pub taken-told-in : (b : Batch) (point : Point) → IsStepBatch b → IsIndex point.index → IsStepBatch (record b { taken = Some point })
taken-told-in b point h index =
    record {
      ranged = record {
        lead = h.ranged.lead;
        members = h.ranged.members;
        halt = h.ranged.halt;
        taken = index;
        commits = h.ranged.commits;
        answers = h.ranged.answers;
        sent = h.ranged.sent;
        refused = h.ranged.refused;
      };
      saved = h.saved;
    }

pub holder_at-in : (l : Learner) (from : ℕ) (part : TablePart) (table : RecordTable) → IsLearnerInRange l → IsId from → IsPartInRange part → IsHolderInRange (holder_at l from part table)
holder_at-in l from part table h id ranged =
    record {
      me = h.me;
      known = id.1;
      base_term = cond_both (part.point.index == 0) 0 part.last_term IsIndex (λ t. omega arith) (λ f. ranged.last_term);
      base_conf = ranged.conf;
      entries = All-nil IsEntryInRange;
      role = tt;
      halted = tt;
    }

-- ---- how an ask is read

fault-in : (b : Batch) (client : ClientId) (number : ℕ) (fault : RequestFault) → IsStepBatch b → IsStepBatch (fault_answered b client number fault)
fault-in b client number faults.Memory h = h
fault-in b client number (faults.Wire fault) h = answered-in b h client number (Malformed (offset_of fault)) tt
fault-in b client number faults.Nothing h = answered-in b h client number (Invalid Nothing 0) tt
fault-in b client number (faults.Size part size) h = answered-in b h client number (Invalid part size) tt

pub unled-in : (b : Batch) (client : ClientId) (number : ℕ) (r : Result Request RequestFault) → IsStepBatch b → IsStepBatch (unled b client number r)
unled-in b client number (Ok request) h = answered-in b h client number (NotLeader 0) (omega arith)
unled-in b client number (Err fault) h = fault-in b client number fault h

read_as-in : (b : Batch) (client : ClientId) (number : ℕ) (r : Result Request RequestFault) → IsStepBatch b → IsStepBatch (read_as b client number r).1
read_as-in b client number (Ok request) h = h
read_as-in b client number (Err fault) h = fault-in b client number fault h

pub read-in : (b b' : Batch) (client : ClientId) (number : ℕ) (r : Result Request RequestFault) → b' ≡ (read_as b client number r).1 → IsStepBatch b → IsStepBatch b'
read-in b b' client number r is h = subst IsStepBatch (sym is) (read_as-in b client number r h)

-- why it is not taken
pub refusal-in : (h : Holder) (answer : Answer) → IsHolderInRange h → refusal_of h ≡ Some answer → IsAnswerInRange answer
refusal-in h answer ranged is = by_halted h.halted ranged.halted is
  where
    by_leads : (leads : Bool) → refusal_by h leads ≡ Some answer → IsAnswerInRange answer
    by_leads false is = let e : NotLeader h.known ≡ answer = cc in subst IsAnswerInRange e ranged.known
    by_leads true is =
        cond_both (nat_le MAX_OPEN (open_in h.log) || last_index h.log == TOP) (Some (Busy (open_in h.log))) None (λ o. o ≡ Some answer → IsAnswerInRange answer)
        (λ t is. let e : Busy (open_in h.log) ≡ answer = cc in subst IsAnswerInRange e tt) (λ f is. cc) is

    by_halted : (o : Option (ℕ × Hash × Hash)) → IfSome o (λ (d : ℕ × Hash × Hash). IsIndex d.0) → refusal_at h o ≡ Some answer → IsAnswerInRange answer
    by_halted (Some d) index is = let e : Halted d.0 ≡ answer = cc in subst IsAnswerInRange e index
    by_halted None index is = by_leads (leads_now h.role) is

-- ---- an entry has canonical bytes

same-bytes : (xs : List ℕ) → pointwise nat_eq xs xs ≡ true
same-bytes [] = refl
same-bytes (x ∷ xs) = and_from (nat_eq x x) (pointwise nat_eq xs xs) (eq-eqb x x refl) (same-bytes xs)

sized-fits : (o : Option (RequestPart × ℕ)) (r request : Request) → size_fault r ≡ o → if_sized o r ≡ Ok request → FitsRequest request
sized-fits None r request none is = let e : r ≡ request = cc in subst FitsRequest e (size_fault-valid r none).1
sized-fits (Some fault) r request some is = absurd (let e : Err (faults.Size fault.0 fault.1) ≡ Ok request = is in cc)

read-fits : (fault : Option WireFault) (last : Option (ℕ × List Field)) (request : Request) → request_in fault last ≡ Ok request → FitsRequest request
read-fits (Some fault) last request is = absurd (let e : Err (faults.Wire fault) ≡ Ok request = is in cc)
read-fits None None request is = absurd (let e : Err faults.Nothing ≡ Ok request = is in cc)
read-fits None (Some m) request is = sized-fits (size_fault (request_from m.0 m.1)) (request_from m.0 m.1) request refl is

pub asked-in : ((request : Request) → IsValid request → FitsRequest request → request_of (canonical_request request) ≡ Ok request)
    → (client : ClientId) (number : ℕ) (read bytes : List ℕ) (request : Request) → IsValid request → request_of read ≡ Ok request → bytes ≡ canonical_request request
    → IsBodyInRange (Ask client number bytes)
asked-in again client number read bytes request valid is bytes-is =
    let fit : FitsRequest request = read-fits (first_fault 2 5 (sequence_at 0 read)) (last_member 2 5 (sequence_at 0 read).fields) request is in
    subst (λ xs. is_canonical xs ≡ true) (sym bytes-is) (ap (is_written_as (canonical_request request)) (again request valid fit) ∙ same-bytes (canonical_request request))

-- ---- the tables that a leader sends

pub begun-in : (h : Holder) → IsHolderInRange h → IsOrdered h.log → (index : ℕ) → index ≡ h.log.committed → (hash : Hash) (term : ℕ) → Some term ≡ term_at h.log index
    → (configs : Configs) → configs ≡ configs_at h.log index → configs.newest_index ≤ index → (table : RecordTable)
    → IsSendingInRange (begun (record { index = index; hash = hash }) term configs.newest configs.newest_index table)
begun-in h ranged o index is hash term term-is configs configs-are within table =
    let a = o.promised in
    let b = o.last in
    let top = o.top in
    record {
      index = omega (arith, is, a, b, top);
      last_term = subst IsIndex (sym (kept-is (nat_le (base_index h.log) index && nat_le index (last_index h.log)) term (term_from h.log.base.term (upto h.log index)) term-is))
          (term_from-in h.log.base.term (upto h.log index) ranged.base_term (upto-in h ranged index));
      conf_index = within;
      conf = subst (λ (k : Configs). IsSound k.newest) (sym configs-are) (conf_at-in h ranged index);
    }

part-moved-in : (k : SentTable) (next : ℕ) → IsSendingInRange k → IsSendingInRange (record k { part = next })
part-moved-in k next h = record { index = h.index; last_term = h.last_term; conf_index = h.conf_index; conf = h.conf }

after-in : (ks : List (ℕ × SentTable)) (v : ℕ) (k : SentTable) (next : ℕ) (sent : Sent) → All (λ (x : ℕ × SentTable). IsSendingInRange x.1) ks → IsSendingInRange k
    → All (λ (x : ℕ × SentTable). IsSendingInRange x.1) (sendings_after ks v k next sent)
after-in ks v k next Next all one = all-put IsSendingInRange ks v (record k { part = next }) all (part-moved-in k next one)
after-in ks v k next Done all one = all
after-in ks v k next Ignored all one = all

by-in : (ks : List (ℕ × SentTable)) (v : ℕ) (o : Option SentTable) (point : Point) (next : ℕ) → value_at ks v ≡ o → All (λ (x : ℕ × SentTable). IsSendingInRange x.1) ks
    → All (λ (x : ℕ × SentTable). IsSendingInRange x.1) (sendings_by ks v o point next)
by-in ks v None point next at all = all
by-in ks v (Some k) point next at all = after-in ks v k next (heard k point next) all (value-in IsSendingInRange ks v k at all)

pub after_taken-in : (l : Leading) (v : ℕ) (point : Point) (next : ℕ) → IsLeadingInRange l → IsLeadingInRange (after_taken l v point next)
after_taken-in l v point next h =
    cond_both (is_in l.learners v) (record l { sendings = sendings_by l.sendings v (value_at l.sendings v) point next }) l IsLeadingInRange
    (λ t. record { learners = h.learners; sendings = by-in l.sendings v (value_at l.sendings v) point next refl h.sendings })
    (λ f. h)

pub ended-in : (l : Leading) (v next : ℕ) → IsLeadingInRange l → IsLeadingInRange (with_progress_in (without_sending l v) v (record (progress_in l.progress v) { next = next }))
ended-in l v next h =
    record { learners = h.learners; sendings = All-filter (λ k. not (k.0 == v)) (λ (k : ℕ × SentTable). IsSendingInRange k.1) l.sendings h.sendings }

pub with_learner-in : (l : Leading) (v next : ℕ) (k : SentTable) → IsLeadingInRange l → IsId v → IsSendingInRange k → IsLeadingInRange (with_learner l v next k)
with_learner-in l v next k h id one =
    record { learners = with_id-ids v l.learners id h.learners; sendings = all-put IsSendingInRange l.sendings v k h.sendings one }

pub dropped-learner-in : (l : Leading) (v : ℕ) → IsLeadingInRange l → IsLeadingInRange (record l { learners = others v l.learners })
dropped-learner-in l v h = record { learners = others-ids v l.learners h.learners; sendings = h.sendings }

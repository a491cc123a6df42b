-- A learner that holds nothing takes the parts of a table, as the model's does.
use Rattle.std.proofs.Common.{◌≡◌, ℕ, ◌+◌, ◌-◌, Bool, true, false, ◌==◌, max, Option, Some, None, List, length, refl, sym, ap, subst, ◌∙◌, arith}
use Rattle.std.specs.Prelude.{cond, Result, Ok, Err}
use Rattle.std.proofs.lemmas.Bool.{cond_both, cond-true, cond-false, eqb-false}
use Rattle.std.proofs.lemmas.List.{take_all}
use Rattle.values.specs.declared.batch.Batch.{Batch}
use Rattle.values.specs.declared.batch.Refusal.TheVariants as member
use Rattle.values.specs.declared.entry.Point.{Point}
use Rattle.values.specs.declared.ids.ClientId.{ClientId}
use Rattle.values.specs.declared.message.Answer.TheVariants.{NotLeader, Malformed, Invalid}
use Rattle.values.specs.declared.message.Part.TheVariants.{Nothing}
use Rattle.values.specs.declared.message.Request.{Request}
use Rattle.client_msgs.specs.declared.fault.RequestFault.{RequestFault}
use Rattle.client_msgs.specs.declared.fault.RequestFault.TheVariants as faults
use Rattle.client_msgs.specs.Reading.{request_of}
use Rattle.values.specs.declared.peer.PeerMsg.{PeerMsg}
use Rattle.values.specs.declared.peer.PeerMsg.TheVariants.{AskVote, Vote, Append, Accepted, Rejected, Part, PartTaken}
use Rattle.values.specs.declared.peer.TablePart.{TablePart}
use Rattle.record_rules.specs.Table.{RecordTable}
use Rattle.replica_model.specs.declared.TheConstants.{KEPT_BELOW}
use Rattle.replica_model.specs.Folds.{fold_of}
use Rattle.replica_model.specs.Linked.{sha_link}
use Rattle.replica_model.specs.Path.{Path, same_point, end_point}
use Rattle.replica_model.specs.Replica as model
use Rattle.replica_model.specs.Call.{Call, empty_batch, refuses}
use Rattle.replica_model.specs.Call as model_call
use Rattle.replica_model.specs.Clients.{offset_of, bad_request, on_request}
use Rattle.replica_model.specs.Send.{with_sent}
use Rattle.replica_model.specs.Step.{with_end, acts_on, step}
use Rattle.replica_model.specs.Tables.{IsTruePart, point_taken, is_taken, taken_with, expects, with_table, takes_whole, takes, learner_hears}
use Rattle.replica_log.specs.Window.{summary_of}
use Rattle.replica_log.specs.Models.{StandsFor as LogStandsFor, IsSummedUp}
use Rattle.table_transfer.specs.Taken.{TakesPartsOf, GoesOn, TakesAs}
use Rattle.table_transfer.specs.declared.taking.TakePart.TheVariants.{Taken, Whole, Other}
use Rattle.replica_core.specs.declared.learner.Learner.{Learner}
use Rattle.replica_core.specs.declared.holder.Holder.{Holder}
use Rattle.replica_core.specs.Asking.{answered, fault_answered, read_as}
use Rattle.replica_core.specs.Learning.{summary_in, holder_at, expecting, unled, LearnsOrHolds}
use Rattle.replica_core.specs.declared.input.Input.TheVariants as input
use Rattle.replica_core.specs.Inputs.{IsNamed, IsInput}
use Rattle.replica_core.specs.Standing.{LearnsFor, HoldsFor}

-- the model's learner that has taken these parts
abbrev pub learning : ℕ → ℕ → model.Taking → model.Replica
learning me term taking = record (model.learner me) { term = term; role = model.Learner taking }

-- the path of a true part is summed up by the part
pub summed-part : (part : TablePart) (names : model.Named) (s : model.Replica) → IsTruePart sha_link part names → s.path ≡ names.path → s.first ≡ names.first
    → s.base ≡ length s.path → s.promised ≡ length s.path → s.committed ≡ length s.path → IsSummedUp sha_link s (summary_in part)
summed-part part names s true_part path first base promised committed =
    record {
      base = base;
      promised = promised;
      committed = committed;
      summary =
          ap (λ p. summary_of sha_link s.first p) path
          ∙ (ap (λ f. summary_of sha_link f names.path) first
          ∙ sym (ap summary_in true_part.is_part));
    }

module _ (l : Learner) (b : Batch) (empty : b ≡ empty_batch) (me term : ℕ) (is_me : l.me ≡ me) (is_term : l.term ≡ term) (taking : model.Taking) (from : ℕ) where
  -- it waits for the part that it expects then
  pub waits : (t : model.Taking) (point : Point) (next : ℕ) → TakesPartsOf sha_link l.taking t → point ≡ point_taken sha_link t → next ≡ t.next
      → LearnsOrHolds l None (expecting b from l.term point next) (with_sent (with_end sha_link (expects sha_link (learning me term t) from t)))
  waits t point next parts is_point is_next = (
    record {
      taking = t;
      parts = parts;
      same = ap (λ m. learning m term t) (sym is_me) ∙ ap (λ n. learning l.me n t) (sym is_term);
    },
    ap (λ (x : Batch). expecting x from l.term point next) empty
        ∙ (ap (λ n. expecting empty_batch from n point next) is_term
        ∙ (ap (λ p. expecting empty_batch from term p next) is_point
        ∙ ap (expecting empty_batch from term (point_taken sha_link t)) is_next)),
  )

  -- with the last part it holds the table
  pub holds : (part : TablePart) (names : model.Named) (limit : ℕ) (table : RecordTable) (h : Holder) → IsTruePart sha_link part names → table ≡ fold_of limit names.path
      → h ≡ holder_at l from part table → ((s : model.Replica) → IsSummedUp sha_link s (summary_in part) → LogStandsFor sha_link h.log s)
      → LearnsOrHolds l (Some h) (expecting (record b { taken = Some part.point }) from l.term part.point part.parts)
      (with_sent (with_end sha_link (takes_whole sha_link (learning me term taking) from part names limit)))
  holds part names limit table h true_part is_table is log =
      let p : Path = names.path in
      let n : ℕ = length p in
      let s : model.Replica = record (with_table (learning me term taking) from p limit names) { base = max n (n - KEPT_BELOW) } in
      let base : max n (n - KEPT_BELOW) ≡ n = omega arith in
      let point : part.point ≡ end_point sha_link p = ap (λ (x : TablePart). x.point) true_part.is_part in
      let stands : LogStandsFor sha_link h.log s = log s (summed-part part names s true_part refl refl base refl refl) in (
        subst (λ g. HoldsFor g s) (sym is)
            (record {
              me = is_me;
              term = is_term;
              vote = refl;
              known = refl;
              log = subst (λ (g : Holder). LogStandsFor sha_link g.log s) is stands;
              table = is_table ∙ ap (fold_of limit) (sym (take_all n p (omega arith)));
              role = tt;
              tickets = refl;
              halted = refl;
            }),
        ap (λ (x : Batch). expecting (record x { taken = Some part.point }) from l.term part.point part.parts) empty
            ∙ (ap (λ t. expecting (record empty_batch { taken = Some part.point }) from t part.point part.parts) is_term
            ∙ ap (λ q. expecting (record empty_batch { taken = Some q }) from term q part.parts) point),
      )

-- the part is of the path that it names, or of the one whose parts came before it
taken-point : (taking : model.Taking) (part : TablePart) (names : model.Named) → IsTruePart sha_link part names → GoesOn sha_link taking part names
    → is_taken sha_link taking part ≡ true → part.point ≡ point_taken sha_link (taken_with taking part names)
taken-point taking part names true_part goes_on taken =
    let point : part.point ≡ end_point sha_link names.path = ap (λ (x : TablePart). x.point) true_part.is_part in
    cond_both (part.part == 0) names taking.names (λ (n : model.Named). part.point ≡ end_point sha_link n.path)
    (λ t. point)
    (λ f.
    let ne : part.part ≡ 0 → ⊥ = eqb-false part.part 0 f in
    let same : same_point part.point (point_taken sha_link taking) ≡ true = by_point (same_point part.point (point_taken sha_link taking)) taken f in
    subst (λ (n : model.Named). part.point ≡ end_point sha_link n.path) (goes_on (omega (arith, ne)) same) point)
  where
    by_point : (same : Bool) → cond same (part.part == taking.next) (part.part == 0) ≡ true → (part.part == 0) ≡ false → same ≡ true
    by_point true h f = refl
    by_point false h f = absurd (let e : true ≡ false = sym h ∙ f in cc)

module _ (l : Learner) (b : Batch) (empty : b ≡ empty_batch) (me before term : ℕ) (is_me : l.me ≡ me) (is_term : l.term ≡ max before term) (taking : model.Taking) (from : ℕ)
    (part : TablePart) (names : model.Named) (true_part : IsTruePart sha_link part names) where
  abbrev hearing : Call
  hearing = learner_hears sha_link (learning me before taking) taking from names (Part term part)

  abbrev with_part : model.Taking
  with_part = taken_with taking part names

  abbrev after : model.Replica
  after = learning me (max before term) taking

  abbrev after_part : Call
  after_part = takes sha_link after from with_part part names

  abbrev waiting : Call
  waiting = expects sha_link after from taking

  abbrev whole : Call
  whole = takes_whole sha_link after from part names with_part.names.limit

  abbrev waiting_on : Call
  waiting_on = expects sha_link (learning me (max before term) with_part) from with_part

  pub hears-other : (point : Point) (next : ℕ) → TakesAs sha_link taking part names l.taking (Other point next)
      → LearnsOrHolds l None (expecting b from l.term point next) (with_sent (with_end sha_link hearing))
  hears-other point next takes_as = by (is_taken sha_link taking part) refl
    where
      by : (taken : Bool) → is_taken sha_link taking part ≡ taken → LearnsOrHolds l None (expecting b from l.term point next) (with_sent (with_end sha_link hearing))
      by false is =
          let other = takes_as.other is in
          let same : Other point next ≡ Other (point_taken sha_link taking) taking.next = other.0 in
          let is_point : point ≡ point_taken sha_link taking = cc in
          let is_next : next ≡ taking.next = cc in
          subst (λ k. LearnsOrHolds l None (expecting b from l.term point next) (with_sent (with_end sha_link k))) (sym (cond-false (is_taken sha_link taking part) after_part waiting is))
          (waits l b empty me (max before term) is_me is_term taking from taking point next other.1 is_point is_next)
      by true is = by_last (part.part + 1 == part.parts) refl
        where
          by_last : (last : Bool) → (part.part + 1 == part.parts) ≡ last → LearnsOrHolds l None (expecting b from l.term point next) (with_sent (with_end sha_link hearing))
          by_last true e = absurd (let k : Other point next ≡ Whole (fold_of with_part.names.limit names.path) = (takes_as.whole is e).0 in cc)
          by_last false e = absurd (let k : Other point next ≡ Taken (part.part + 1) = (takes_as.taken is e).0 in cc)

  pub hears-taken : (next : ℕ) → GoesOn sha_link taking part names → TakesAs sha_link taking part names l.taking (Taken next)
      → LearnsOrHolds l None (expecting b from l.term part.point next) (with_sent (with_end sha_link hearing))
  hears-taken next goes_on takes_as = by (is_taken sha_link taking part) refl
    where
      by : (taken : Bool) → is_taken sha_link taking part ≡ taken → LearnsOrHolds l None (expecting b from l.term part.point next) (with_sent (with_end sha_link hearing))
      by false is = absurd (let k : Taken next ≡ Other (point_taken sha_link taking) taking.next = (takes_as.other is).0 in cc)
      by true is = by_last (part.part + 1 == part.parts) refl
        where
          by_last : (last : Bool) → (part.part + 1 == part.parts) ≡ last → LearnsOrHolds l None (expecting b from l.term part.point next) (with_sent (with_end sha_link hearing))
          by_last true e = absurd (let k : Taken next ≡ Whole (fold_of with_part.names.limit names.path) = (takes_as.whole is e).0 in cc)
          by_last false e =
              let taken = takes_as.taken is e in
              let same : Taken next ≡ Taken (part.part + 1) = taken.0 in
              subst (λ k. LearnsOrHolds l None (expecting b from l.term part.point next) (with_sent (with_end sha_link k)))
              (sym (cond-true (is_taken sha_link taking part) after_part waiting is ∙ cond-false (part.part + 1 == part.parts) whole waiting_on e))
              (waits l b empty me (max before term) is_me is_term taking from with_part part.point next taken.1 (taken-point taking part names true_part goes_on is) cc)

  pub hears-whole : (table : RecordTable) (h : Holder) → TakesAs sha_link taking part names l.taking (Whole table)
      → h ≡ holder_at l from part table → ((s : model.Replica) → IsSummedUp sha_link s (summary_in part) → LogStandsFor sha_link h.log s)
      → LearnsOrHolds l (Some h) (expecting (record b { taken = Some part.point }) from l.term part.point part.parts) (with_sent (with_end sha_link hearing))
  hears-whole table h takes_as is_holder log = by (is_taken sha_link taking part) refl
    where
      by : (taken : Bool) → is_taken sha_link taking part ≡ taken
          → LearnsOrHolds l (Some h) (expecting (record b { taken = Some part.point }) from l.term part.point part.parts) (with_sent (with_end sha_link hearing))
      by false is = absurd (let k : Whole table ≡ Other (point_taken sha_link taking) taking.next = (takes_as.other is).0 in cc)
      by true is = by_last (part.part + 1 == part.parts) refl
        where
          by_last : (last : Bool) → (part.part + 1 == part.parts) ≡ last
              → LearnsOrHolds l (Some h) (expecting (record b { taken = Some part.point }) from l.term part.point part.parts) (with_sent (with_end sha_link hearing))
          by_last false e = absurd (let k : Whole table ≡ Taken (part.part + 1) = (takes_as.taken is e).0 in cc)
          by_last true e =
              let same : Whole table ≡ Whole (fold_of with_part.names.limit names.path) = (takes_as.whole is e).0 in
              let is_table : table ≡ fold_of with_part.names.limit names.path = cc in
              subst (λ k. LearnsOrHolds l (Some h) (expecting (record b { taken = Some part.point }) from l.term part.point part.parts) (with_sent (with_end sha_link k)))
              (sym (cond-true (is_taken sha_link taking part) after_part waiting is ∙ cond-true (part.part + 1 == part.parts) whole waiting_on e))
              (holds l b empty me (max before term) is_me is_term taking from part names with_part.names.limit table h true_part is_table is_holder log)

-- ---- what is no part

module _ (l : Learner) (taking : model.Taking) (parts : TakesPartsOf sha_link l.taking taking) (b : Batch) (empty : b ≡ empty_batch) where
  abbrev now : model.Replica
  now = learning l.me l.term taking

  -- it does nothing
  pub ticks-still : LearnsOrHolds l None b (step sha_link now model_call.Tick)
  ticks-still = (record { taking = taking; parts = parts; same = refl }, empty)

  pub hears-still : (from : ℕ) (msg : PeerMsg) (names : model.Named) → ((term : ℕ) (part : TablePart) → msg ≡ Part term part → ⊥)
      → LearnsOrHolds l None b (step sha_link now (model_call.Peer from (record { msg = msg; names = names })))
  hears-still from (AskVote term last_index last_term) names not_part = (record { taking = taking; parts = parts; same = refl }, empty)
  hears-still from (Vote term granted) names not_part = (record { taking = taking; parts = parts; same = refl }, empty)
  hears-still from (Append term prev entries promise commit) names not_part = (record { taking = taking; parts = parts; same = refl }, empty)
  hears-still from (Accepted term end promised) names not_part = (record { taking = taking; parts = parts; same = refl }, empty)
  hears-still from (Rejected term asked hint) names not_part = (record { taking = taking; parts = parts; same = refl }, empty)
  hears-still from (Part term part) names not_part = absurd (not_part term part refl)
  hears-still from (PartTaken term point next) names not_part = (record { taking = taking; parts = parts; same = refl }, empty)

  -- it answers that it does not lead
  asked-fault : (client : ClientId) (number : ℕ) (bytes : List ℕ) (fault : RequestFault) → request_of bytes ≡ Err fault
      → LearnsOrHolds l None (fault_answered b client number fault) (with_sent (with_end sha_link (bad_request now client number fault)))
  asked-fault client number bytes faults.Memory is = (record { taking = taking; parts = parts; same = refl }, empty)
  asked-fault client number bytes (faults.Wire fault) is = (record { taking = taking; parts = parts; same = refl }, ap (λ d. answered d client number (Malformed (offset_of fault))) empty)
  asked-fault client number bytes faults.Nothing is = (record { taking = taking; parts = parts; same = refl }, ap (λ d. answered d client number (Invalid Nothing 0)) empty)
  asked-fault client number bytes (faults.Size part size) is = (record { taking = taking; parts = parts; same = refl }, ap (λ d. answered d client number (Invalid part size)) empty)

  asked-by : (client : ClientId) (number : ℕ) (bytes : List ℕ) (r : Result Request RequestFault) → request_of bytes ≡ r
      → LearnsOrHolds l None (unled b client number r) (with_sent (with_end sha_link (on_request now client number r)))
  asked-by client number bytes (Ok request) is = (record { taking = taking; parts = parts; same = refl }, ap (λ d. answered d client number (NotLeader 0)) empty)
  asked-by client number bytes (Err fault) is = asked-fault client number bytes fault is

  pub asked-learner : (client : ClientId) (number : ℕ) (bytes : List ℕ) → LearnsOrHolds l None (unled b client number (request_of bytes)) (step sha_link now (model_call.Client client number bytes))
  asked-learner client number bytes = asked-by client number bytes (request_of bytes) refl

  -- it refuses a change of the members
  pub refuses-change : (i : model_call.Input) → with_sent (with_end sha_link (acts_on sha_link now i)) ≡ with_sent (with_end sha_link (refuses now (member.NotLeader 0)))
      → LearnsOrHolds l None (record b { refused = Some (member.NotLeader 0) }) (step sha_link now i)
  refuses-change i is =
      subst (LearnsOrHolds l None (record b { refused = Some (member.NotLeader 0) })) (sym is)
      (record { taking = taking; parts = parts; same = refl }, ap (λ (d : Batch). record d { refused = Some (member.NotLeader 0) }) empty)

-- ---- how an ask is read

pub unled-found : (b b' : Batch) (client : ClientId) (number : ℕ) (r : Result Request RequestFault) (request : Request) → (Some request, b') ≡ read_as b client number r
    → answered b' client number (NotLeader 0) ≡ unled b client number r
unled-found b b' client number (Ok other) request read = ap (λ (x : Option Request × Batch). answered x.1 client number (NotLeader 0)) read
unled-found b b' client number (Err fault) request read = absurd (let e : Some request ≡ None = ap (λ (x : Option Request × Batch). x.0) read in cc)

pub unled-none : (b b' : Batch) (client : ClientId) (number : ℕ) (r : Result Request RequestFault) → (None, b') ≡ read_as b client number r → b' ≡ unled b client number r
unled-none b b' client number (Ok request) read = absurd (let e : None ≡ Some request = ap (λ (x : Option Request × Batch). x.0) read in cc)
unled-none b b' client number (Err fault) read = ap (λ (x : Option Request × Batch). x.1) read

-- ---- a part, as an input

pub record HearsPart (l : Learner) (s : model.Replica) (st : LearnsFor l s) (i : model_call.Input) (from term : ℕ) (part : TablePart) : Type 0 where
  pub names : model.Named
  pub true_part : IsTruePart sha_link part names
  pub goes_on : GoesOn sha_link st.taking part names
  pub call : step sha_link s i ≡ with_sent (with_end sha_link (learner_hears sha_link s st.taking from names (Part term part)))

pub hears-part : (l : Learner) (s : model.Replica) (st : LearnsFor l s) (i : model_call.Input) (from term : ℕ) (part : TablePart) → IsInput s (input.Peer from (Part term part)) i
    → HearsPart l s st i from term part
hears-part l s st i from term part given =
    let r : model.Replica = learning l.me l.term st.taking in
    let named : IsNamed r.role (Part term part) given.0 = subst (λ (x : model.Replica). IsNamed x.role (Part term part) given.0) st.same given.1.0 in
    record {
      names = given.0;
      true_part = named.0;
      goes_on = named.1;
      call =
          ap (step sha_link s) given.1.1
          ∙ (ap (λ x. step sha_link x (model_call.Peer from (record { msg = Part term part; names = given.0 }))) st.same
          ∙ ap (λ x. with_sent (with_end sha_link (learner_hears sha_link x st.taking from given.0 (Part term part)))) (sym st.same));
    }

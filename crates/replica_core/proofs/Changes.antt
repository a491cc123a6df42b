-- Changes of the members, as the model's.
use Rattle.std.proofs.Common.{◌≡◌, ℕ, ◌+◌, ◌<◌, ◌≤◌, Bool, true, false, cond, ◌&&◌, ◌||◌, ◌==◌, nat_le, Option, Some, None, Ok, Err, List, [], ◌∷◌, ◌++◌, length, take, refl, sym, ap, subst, ◌∙◌, arith}
use Rattle.std.specs.Prelude.{not, nat_lt}
use Rattle.std.proofs.lemmas.Bool.{cond_both, eqb-false, leb-false}
use Rattle.std.proofs.lemmas.List.{length-take-le}
use Rattle.std.proofs.lemmas.List.Sums.{length-filter, count_by-le-length}
use Rattle.values.specs.declared.batch.Batch.{Batch}
use Rattle.values.specs.declared.batch.Refusal.{Refusal}
use Rattle.values.specs.declared.batch.Refusal.TheVariants.{NotLeader}
use Rattle.values.specs.declared.entry.Body.TheVariants.{Members}
use Rattle.values.specs.declared.entry.Hash.{Hash}
use Rattle.values.specs.declared.limits.TheConstants.{TOP}
use Rattle.values.specs.declared.peer.PeerMsg.TheVariants.{Part}
use Rattle.values.specs.declared.peer.TablePart.{TablePart}
use Rattle.group_quorum.specs.Conf.{Conf}
use Rattle.group_quorum.specs.Voters.{is_in, insert_rising}
use Rattle.group_quorum.specs.declared.TheConstants.{MAX_VOTERS}
use Rattle.group_quorum.proofs.Inserted.{insert_length}
use Rattle.member_rules.specs.declared.fault.MemberFault.{MemberFault}
use Rattle.member_rules.specs.declared.fault.MemberFault.TheVariants.{LogFull, ChangePending, AlreadyVoter, TooMany, NotCaughtUp, NoLink}
use Rattle.member_rules.specs.declared.standing.Standing.{Standing}
use Rattle.member_rules.specs.Faults.{unless_fault, join_of, admit_of}
use Rattle.replica_model.specs.declared.Progress.{Progress}
use Rattle.replica_model.specs.declared.TheConstants.{MAX_LEARNERS}
use Rattle.replica_model.specs.Changes as changes
use Rattle.replica_model.specs.Configs.{conf, conf_index}
use Rattle.replica_model.specs.Graft.{hash_at as model_hash_at}
use Rattle.replica_model.specs.Keyed.{put}
use Rattle.replica_model.specs.Linked.{sha_link}
use Rattle.replica_model.specs.Path.{Path, chain, term_at, last_term}
use Rattle.replica_model.specs.Peers.{with_id, others, progress_of, leads_with}
use Rattle.replica_model.specs.Replica as model
use Rattle.replica_model.specs.Call.{Call, still, refuses, send_to, empty_batch}
use Rattle.replica_model.specs.Raise.{pushed, raise}
use Rattle.replica_model.specs.Tables.{IsTruePart, part_of, part_message, named_by}
use Rattle.replica_model.proofs.Paths.{last_term-take}
use Rattle.replica_log.specs.declared.configs.Configs.{Configs}
use Rattle.replica_log.specs.Window.{Window, IsOrdered, last_index}
use Rattle.replica_log.specs.Models.{StandsFor as LogStandsFor, AreConfigs, kept_by}
use Rattle.table_transfer.specs.SentTable.{SentTable, begun}
use Rattle.replica_core.specs.Logs.{LogsAreTheModels}
use Rattle.replica_core.specs.declared.role.Role.TheVariants as kept
use Rattle.replica_core.specs.declared.role.Leading.{Leading}
use Rattle.replica_core.specs.declared.holder.Holder.{Holder}
use Rattle.replica_core.specs.declared.send.Appends.TheVariants.{Nobody, Everyone}
use Rattle.replica_core.specs.Calling.{Reaches, Does}
use Rattle.replica_core.specs.Keeping.{leads_now, IsWithin, IsSound, IsSoundRole, IsSoundLeading}
use Rattle.replica_core.specs.Leads.{with_learner, learner_mark_in, holder_leading}
use Rattle.replica_core.specs.Standing.{SendsAs, LeadsAs, RoleAs, HoldsFor}
use Rattle.replica_core.proofs.Calls.{refuses-does}
use Rattle.replica_core.proofs.Hears.{holder-leads}
use Rattle.replica_core.proofs.Holding.{leader-as, unless-leader, last-model}
use Rattle.replica_core.proofs.Leads.{put-as, progress-as}
use Rattle.replica_core.proofs.Listed.{all-put}
use Rattle.replica_core.proofs.Sends.{with-role}
use Rattle.replica_core.proofs.Sounds.{led-sound, sendings-put}
use Rattle.replica_core.proofs.Wins.{pushed-stands, everyone-does}

-- ---- a table begins to be sent

pub kept-is : {A : Type 0} (b : Bool) (x y : A) → Some x ≡ cond b (Some y) None → x ≡ y
kept-is true x y is = cc
kept-is false x y is = cc

-- the table at the committed index is that of the committed path
pub begun-as : (logs : LogsAreTheModels) (h : Holder) (s : model.Replica) → HoldsFor h s → IsOrdered h.log → (index : ℕ) → index ≡ h.log.committed → (hash : Hash) → Some hash ≡ model_hash_at sha_link s index
    → (term : ℕ) → Some term ≡ kept_by s index (term_at s.path index) → (configs : Configs) → AreConfigs s index configs
    → SendsAs s.limit s.first (begun (record { index = index; hash = hash }) term configs.newest configs.newest_index h.table)
    (record { path = take s.committed s.path; part = 0 })
begun-as logs h s st o index is hash hash-is term term-is configs are =
    let a = o.promised in
    let b = o.last in
    let d = st.log.is_committed in
    let l = last-model logs h.log s st.log in
    let low : s.committed ≤ length s.path = omega (arith, a, b, d, l) in
    let at : index ≡ s.committed = is ∙ d in
    let long : length (take s.committed s.path) ≡ s.committed = length-take-le s.committed s.path low in
    let hash-at : hash ≡ chain sha_link (take index s.path) = kept-is (nat_le s.base index && nat_le index (length s.path)) hash (chain sha_link (take index s.path)) hash-is in
    let term-at : term ≡ term_at s.path index = kept-is (nat_le s.base index && nat_le index (length s.path)) term (term_at s.path index) term-is in
    record {
      of_path = record {
        point =
            ap (λ n. record { index = n; hash = hash }) (at ∙ sym long)
            ∙ ap (λ x. record { index = length (take s.committed s.path); hash = x }) (hash-at ∙ ap (λ n. chain sha_link (take n s.path)) at);
        last_term = term-at ∙ (ap (term_at s.path) at ∙ sym (last_term-take s.committed s.path low));
        conf = are.newest ∙ ap (λ n. conf s.first (take n s.path)) at;
        conf_index = are.newest_index ∙ ap (λ n. conf_index (take n s.path)) at;
        table = st.table;
      };
      part = refl;
    }

-- ---- a refusal, or a change

module _ (h : Holder) (b : Batch) (s : model.Replica) (st : HoldsFor h s) (empty : b ≡ empty_batch) where
  -- one that does not lead refuses
  pub follower-refuses : (change : model.Leading → Call) → leads_now h.role ≡ false
      → Does h (record b { refused = Some (NotLeader h.known) }) Nobody (changes.at_leader s s.role change)
  follower-refuses change not_so =
      let call : changes.at_leader s s.role change ≡ refuses s (NotLeader s.known) =
      unless-leader s.limit s.first h.role s.role st.role not_so (λ r. changes.at_leader s r change ≡ refuses s (NotLeader s.known)) refl (λ ids. refl) in
      subst (Does h (record b { refused = Some (NotLeader h.known) }) Nobody) (sym call)
      (subst (λ n. Does h (record b { refused = Some (NotLeader n) }) Nobody (refuses s (NotLeader s.known))) (sym st.known)
      (refuses-does h b s st empty (NotLeader s.known)))

  -- a leader refuses
  pub leader-refuses : (m : model.Leading) (refusal : model.Leading → Option Refusal) (change : model.Leading → Call) (why : Refusal)
      → s.role ≡ model.Leader m → refusal m ≡ Some why
      → Does h (record b { refused = Some why }) Nobody (changes.at_leader s s.role (λ l. changes.refused_or s (refusal l) (change l)))
  leader-refuses m refusal change why is refused =
      let call : changes.at_leader s s.role (λ l. changes.refused_or s (refusal l) (change l)) ≡ refuses s why =
      ap (λ r. changes.at_leader s r (λ l. changes.refused_or s (refusal l) (change l))) is ∙ ap (λ o. changes.refused_or s o (change m)) refused in
      subst (Does h (record b { refused = Some why }) Nobody) (sym call) (refuses-does h b s st empty why)

-- or it does not
pub leader-changes : (s : model.Replica) (m : model.Leading) (refusal : model.Leading → Option Refusal) (change : model.Leading → Call) → s.role ≡ model.Leader m
    → refusal m ≡ None → changes.at_leader s s.role (λ l. changes.refused_or s (refusal l) (change l)) ≡ change m
leader-changes s m refusal change is none =
    ap (λ r. changes.at_leader s r (λ l. changes.refused_or s (refusal l) (change l))) is ∙ ap (λ o. changes.refused_or s o (change m)) none

-- the model of one that leads
pub leading-model : (h : Holder) (s : model.Replica) → HoldsFor h s → (l : Leading) → h.role ≡ kept.Leader l
    → (m : model.Leading) × ((s.role ≡ model.Leader m) × LeadsAs s.limit s.first l m)
leading-model h s st l is = leader-as s.limit s.first l s.role (subst (λ r. RoleAs s.limit s.first r s.role) is st.role)

pub leading-stands : (h : Holder) (s : model.Replica) (m : model.Leading) → HoldsFor h s → s.role ≡ model.Leader m → HoldsFor h (leads_with s m)
leading-stands h s m st is =
    record {
      me = st.me;
      term = st.term;
      vote = st.vote;
      known = st.known;
      log = st.log;
      table = st.table;
      role = subst (RoleAs s.limit s.first h.role) is st.role;
      tickets = st.tickets;
      halted = st.halted;
    }

-- the mark of a learner
pub mark-as : (h : Holder) (s : model.Replica) (st : HoldsFor h s) (l : Leading) (m : model.Leading) (v : ℕ) → h.role ≡ kept.Leader l → LeadsAs s.limit s.first l m
    → changes.learner_mark m v ≡ learner_mark_in h.role v
mark-as h s st l m v is like =
    ap (λ ids. cond (is_in ids v) (progress_of m v).mark 0) (sym like.learners)
    ∙ (ap (λ (p : Progress). cond (is_in l.learners v) p.mark 0) (sym (progress-as s.limit s.first l m like v))
    ∙ sym (ap (λ r. learner_mark_in r v) is))

-- a learner no more
pub dropped-stands : (h : Holder) (s : model.Replica) (l : Leading) (m : model.Leading) (v : ℕ) → HoldsFor h s → h.role ≡ kept.Leader l → LeadsAs s.limit s.first l m
    → HoldsFor (holder_leading h (λ k. record k { learners = others v k.learners })) (leads_with s (record m { learners = others v m.learners }))
dropped-stands h s l m v st is like =
    subst (λ g. HoldsFor g (leads_with s (record m { learners = others v m.learners }))) (sym (holder-leads h (λ k. record k { learners = others v k.learners }) l is))
    (with-role h s (kept.Leader (record l { learners = others v l.learners })) (model.Leader (record m { learners = others v m.learners })) st
    (record { progress = like.progress; learners = ap (others v) like.learners; sendings = like.sendings }))

pub dropped-sound : (h : Holder) (l : Leading) (v : ℕ) → h.role ≡ kept.Leader l → IsSound h → IsSound (holder_leading h (λ k. record k { learners = others v k.learners }))
dropped-sound h l v is sound =
    let leads : IsSoundLeading (last_index h.log) l = subst (IsSoundRole (last_index h.log)) is sound.role in
    let few = leads.learners in
    let a = length-filter (λ w. not (w == v)) l.learners in
    let c = count_by-le-length (λ w. not (w == v)) l.learners in
    subst IsSound (sym (holder-leads h (λ k. record k { learners = others v k.learners }) l is))
    (led-sound h (record l { learners = others v l.learners }) sound (record { progress = leads.progress; learners = omega (arith, few, a, c); sendings = leads.sendings }))

pub dropped-leads : (h : Holder) (l : Leading) (v : ℕ) → h.role ≡ kept.Leader l → leads_now (holder_leading h (λ k. record k { learners = others v k.learners })).role ≡ true
dropped-leads h l v is = ap (λ (g : Holder). leads_now g.role) (holder-leads h (λ k. record k { learners = others v k.learners }) l is)

-- ---- a configuration is pushed

-- the log has room where it is not full
room : {A : Type 0} (last : ℕ) (more : List (Bool × MemberFault)) (x y : A) → unless_fault ((last == TOP, LogFull last) ∷ more) x ≡ Ok y → last ≤ TOP → last < TOP
room last more x y is le = by (last == TOP) refl is
  where
    by : (full : Bool) → (last == TOP) ≡ full → cond full (Err (LogFull last)) (unless_fault more x) ≡ Ok y → last < TOP
    by true e k = cc
    by false e k = let ne : last ≡ TOP → ⊥ = eqb-false last TOP e in omega (arith, le, ne)

pub admit-room : (k : Standing) (id mark : ℕ) (c : Conf) → admit_of k id mark ≡ Ok c → k.last ≤ TOP → k.last < TOP
admit-room k id mark c is le =
    room k.last
    ((nat_lt k.committed k.newest_index, ChangePending k.newest_index k.committed)
    ∷ (is_in k.newest.voters id, AlreadyVoter id)
    ∷ (nat_le MAX_VOTERS (length k.newest.voters), TooMany (length k.newest.voters + 1))
    ∷ (mark == 0 || nat_lt mark k.committed, NotCaughtUp mark k.committed)
    ∷ [])
    (changes.with_voter k.newest id) c is le

module _ (logs : LogsAreTheModels) (h : Holder) (b : Batch) (empty : b ≡ empty_batch) (s : model.Replica) (l : model.Leading) (c : Conf) (st : HoldsFor h (leads_with s l)) (o : IsOrdered h.log) where
  -- the call of a change, before it raises
  abbrev pub changing : Call
  changing =
      record (still (pushed (leads_with s l) (Members c.margin c.voters))) {
        batch = record empty_batch { members = (length s.path + 1, c.margin, c.voters) ∷ [] };
      }

  pub changing-reaches : (index : ℕ) → index ≡ last_index h.log + 1 → (w : Window)
      → LogStandsFor sha_link w (record (leads_with s l) { path = s.path ++ record { term = h.ballot.term; body = Members c.margin c.voters } ∷ [] })
      → Reaches (record h { log = w }) (record b { members = b.members ++ (index, c.margin, c.voters) ∷ [] }) changing
  changing-reaches index is w log =
      record {
        stands = pushed-stands logs h (leads_with s l) w (Members c.margin c.voters) st o log st.role;
        batch_is =
            ap (λ (d : Batch). record d { members = d.members ++ (index, c.margin, c.voters) ∷ [] }) empty
            ∙ ap (λ n. record empty_batch { members = (n, c.margin, c.voters) ∷ [] }) (is ∙ ap (λ n. n + 1) (last-model logs h.log (leads_with s l) st.log));
      }

  pub changes-does : (h' : Holder) (b' : Batch) → Reaches h' b' (raise changing l) → Does h' b' Everyone (changes.push_members s l c)
  changes-does h' b' r = everyone-does h' b' changing l refl r

-- ---- a learner joins

-- it is no learner too many
few-learners : {A : Type 0} (n : ℕ) (x y : A) (first second : Bool × MemberFault)
    → unless_fault (first ∷ second ∷ (nat_le MAX_LEARNERS n, TooMany (MAX_LEARNERS + 1)) ∷ []) x ≡ Ok y → n < MAX_LEARNERS
few-learners n x y first second is = by first.0 second.0 (nat_le MAX_LEARNERS n) refl is
  where
    by : (a b many : Bool) → nat_le MAX_LEARNERS n ≡ many
        → cond a (Err first.1) (cond b (Err second.1) (cond many (Err (TooMany (MAX_LEARNERS + 1))) (Ok x))) ≡ Ok y → n < MAX_LEARNERS
    by true b many e k = cc
    by false true many e k = cc
    by false false true e k = cc
    by false false false e k = leb-false MAX_LEARNERS n e

pub join-few : (k : Standing) (id : ℕ) (linked : Bool) (n : ℕ) (x : Unit {0}) → join_of k id linked n ≡ Ok x → n < MAX_LEARNERS
join-few k id linked n x is = few-learners n tt x (is_in k.newest.voters id, AlreadyVoter id) (not linked, NoLink id) is

with-long : (v : ℕ) (ids : List ℕ) → length (with_id v ids) ≤ length ids + 1
with-long v ids =
    cond_both (is_in ids v) ids (insert_rising v ids) (λ ys. length ys ≤ length ids + 1) (λ t. omega arith) (λ f. let e = insert_length v ids in omega (arith, e))

module _ (h : Holder) (l : Leading) (is : h.role ≡ kept.Leader l) (v next : ℕ) (k : SentTable) (h' : Holder)
    (after : h' ≡ holder_leading h (λ x. with_learner x v next k)) where
  joined-is : h' ≡ record h { role = kept.Leader (with_learner l v next k) }
  joined-is = after ∙ holder-leads h (λ x. with_learner x v next k) l is

  pub joined-sound : IsSound h → length l.learners < MAX_LEARNERS → next ≤ last_index h.log + 1 → k.point.index ≤ last_index h.log → IsSound h'
  joined-sound sound few near within =
      let last : ℕ = last_index h.log in
      let leads : IsSoundLeading last l = subst (IsSoundRole last) is sound.role in
      let long = with-long v l.learners in
      subst IsSound (sym joined-is)
      (led-sound h (with_learner l v next k) sound
      (record {
        progress = all-put (IsWithin last) l.progress v (record { next = next; mark = 0; promised = 0 }) leads.progress (record { next = near; mark = omega arith });
        learners = omega (arith, long, few);
        sendings = sendings-put last l.sendings v k leads.sendings within;
      }))

  pub joined-does : (s : model.Replica) (m : model.Leading) → HoldsFor h s → LeadsAs s.limit s.first l m → next ≡ s.committed + 1
      → SendsAs s.limit s.first k (record { path = take s.committed s.path; part = 0 }) → (b : Batch) → b ≡ empty_batch → (term : ℕ) → term ≡ s.term → (part : TablePart)
      → IsTruePart sha_link part (named_by s (take s.committed s.path)) → part.part ≡ k.part
      → Does h' (record b { sent = b.sent ++ (v, Part term part) ∷ [] }) Nobody
      (send_to (still (leads_with s (changes.joined s m v))) v (part_message sha_link s (record { path = take s.committed s.path; part = 0 })))
  joined-does s m st like next-is sends b empty term term-is part true_part number =
      let path : Path = take s.committed s.path in
      let names : model.Named = named_by s path in
      let part-is : part ≡ part_of sha_link names 0 = true_part.is_part ∙ ap (part_of sha_link names) (number ∙ sends.part) in
      record {
        reaches = record {
          stands = subst (λ g. HoldsFor g (leads_with s (changes.joined s m v))) (sym joined-is)
              (with-role h s (kept.Leader (with_learner l v next k)) (model.Leader (changes.joined s m v)) st
              (record {
                progress =
                    ap (λ ps. put ps v (record { next = next; mark = 0; promised = 0 })) like.progress
                    ∙ ap (λ n. put m.progress v (record { next = n; mark = 0; promised = 0 })) next-is;
                learners = ap (with_id v) like.learners;
                sendings = put-as s.limit s.first l.sendings m.sendings like.sendings v k (record { path = path; part = 0 }) sends;
              }));
          batch_is =
              ap (λ (d : Batch). record d { sent = d.sent ++ (v, Part term part) ∷ [] }) empty
              ∙ (ap (λ t. record empty_batch { sent = (v, Part t part) ∷ [] }) term-is
              ∙ ap (λ p. record empty_batch { sent = (v, Part s.term p) ∷ [] }) part-is);
        };
        sends = refl;
      }

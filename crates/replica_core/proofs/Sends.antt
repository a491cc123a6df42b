-- The end of a call: appends, a leader that stops, and the base.
use Rattle.std.proofs.Common.{◌≡◌, ℕ, ◌<◌, ◌≤◌, Bool, true, false, cond, not, ◌&&◌, nat_lt, nat_le, Some, None, List, [], ◌∷◌, ◌++◌, fold, refl, sym, ap, subst, ◌∙◌, arith, append-nil}
use Rattle.std.proofs.lemmas.Bool.{cond_both, cond-true, cond-false, le-leb, ltb-true, not_from_false, and_from, and_parts, and_left, and_right, lt-leb}
use Rattle.values.specs.declared.batch.Batch.{Batch}
use Rattle.group_quorum.specs.Conf.{Conf}
use Rattle.group_quorum.specs.Voters.{is_in}
use Rattle.replica_model.specs.declared.Progress.{Progress}
use Rattle.replica_model.specs.Keyed.{has, put}
use Rattle.values.specs.declared.peer.PeerMsg.{PeerMsg}
use Rattle.replica_model.specs.Configs.{conf_index}
use Rattle.replica_model.specs.Linked.{sha_link}
use Rattle.replica_model.specs.Message.{plain}
use Rattle.replica_model.specs.Replica as model
use Rattle.replica_model.specs.Peers.{newest, is_voter, peers, progress_of, with_progress}
use Rattle.replica_model.specs.Call.{Call}
use Rattle.replica_model.specs.Send.{can_append, sent_on, append_from, appended_to, send_append, send_appends, stepped_down}
use Rattle.replica_log.specs.Window.{Window, IsOrdered, base_index, last_index, conf_at, conf_index_at}
use Rattle.replica_log.specs.Models.{StandsFor as LogStandsFor}
use Rattle.replica_core.specs.Logs.{LogsAreTheModels}
use Rattle.replica_core.specs.declared.role.Role.{Role}
use Rattle.replica_core.specs.declared.role.Role.TheVariants as kept
use Rattle.replica_core.specs.declared.role.Leading.{Leading}
use Rattle.replica_core.specs.declared.holder.Holder.{Holder}
use Rattle.replica_core.specs.Standing.{LeadsAs, RoleAs, HoldsFor}
use Rattle.replica_core.specs.Keeping.{progress_in, leads_now, learners_in, peers_at}
use Rattle.append_rules.specs.Sent.{MakesAppend}
use Rattle.replica_core.specs.Leads.{can_append_at}
use Rattle.replica_core.specs.Calling.{Reaches, SendsAppend}
use Rattle.replica_core.proofs.Leads.{has-as, progress-as}
use Rattle.replica_core.proofs.Holding.{leader-as, unless-leader, peers-model, sent-more, conf-whole, conf_index-whole, base-model}

-- the model of a leader that is known to lead with m
pub leads-with : (s : model.Replica) (l : Leading) (m : model.Leading) → s.role ≡ model.Leader m → RoleAs s.limit s.first (kept.Leader l) s.role → LeadsAs s.limit s.first l m
leads-with s l m is h = subst (RoleAs s.limit s.first (kept.Leader l)) is h

-- a replica with another role
pub with-role : (h : Holder) (s : model.Replica) (role : Role) (r : model.Role) → HoldsFor h s → RoleAs s.limit s.first role r
    → HoldsFor (record h { role = role }) (record s { role = r })
with-role h s role r st like =
    record { me = st.me; term = st.term; vote = st.vote; known = st.known; log = st.log; table = st.table; role = like; tickets = st.tickets; halted = st.halted }

-- the same, where the model's role is as it was
pub same-role : (h : Holder) (s : model.Replica) (role : Role) → HoldsFor h s → RoleAs s.limit s.first role s.role → HoldsFor (record h { role = role }) s
same-role h s role st like =
    record { me = st.me; term = st.term; vote = st.vote; known = st.known; log = st.log; table = st.table; role = like; tickets = st.tickets; halted = st.halted }

-- a peer is sent its append
pub append-reaches : (h : Holder) (l : Leading) (b b' : Batch) (c : Call) (m : model.Leading) (v : ℕ)
    → Reaches h b c → c.state.role ≡ model.Leader m → SendsAppend c.state m v l b b'
    → Reaches (record h { role = kept.Leader l }) b' (send_append sha_link c c.state.role v)
append-reaches h l b b' c m v r is sends =
    let s : model.Replica = c.state in
    let test : Bool = can_append s m v in
    let on : model.Leading = with_progress m v (sent_on s.path (progress_of m v)) in
    let to : List _ → Batch = λ xs. record b { sent = b.sent ++ xs } in
    subst (λ q. Reaches (record h { role = kept.Leader l }) b' (send_append sha_link c q v)) (sym is)
    (cond_both test (appended_to sha_link c m v) c (Reaches (record h { role = kept.Leader l }) b')
    (λ t. record {
      stands = with-role h s (kept.Leader l) (model.Leader on) r.stands (subst (LeadsAs s.limit s.first l) (cond-true test on m t) sends.leads);
      batch_is = sends.batch_is ∙ (ap to (cond-true test ((v, append_from sha_link s (progress_of m v).next) ∷ []) [] t)
          ∙ sent-more b c (record s { role = model.Leader on }) v (plain (append_from sha_link s (progress_of m v).next)) r.batch_is);
    })
    (λ f. record {
      stands = same-role h s (kept.Leader l) r.stands (subst (RoleAs s.limit s.first (kept.Leader l)) (sym is) (subst (LeadsAs s.limit s.first l) (cond-false test on m f) sends.leads));
      batch_is = sends.batch_is ∙ (ap to (cond-false test ((v, append_from sha_link s (progress_of m v).next) ∷ []) [] f) ∙ (ap (λ xs. record b { sent = xs }) (append-nil b.sent) ∙ r.batch_is));
    }))

-- nothing is sent by one that does not lead
pub append-not-leading : (h : Holder) (b : Batch) (c : Call) (v : ℕ) → Reaches h b c → leads_now h.role ≡ false
    → Reaches h b (send_append sha_link c c.state.role v)
append-not-leading h b c v r not_so =
    unless-leader c.state.limit c.state.first h.role c.state.role r.stands.role not_so (λ q. Reaches h b (send_append sha_link c q v)) r (λ ids. r)

module _ (logs : LogsAreTheModels) (s : model.Replica) (w : Window) (l : Leading) (m : model.Leading) (v : ℕ) (st : LogStandsFor sha_link w s) (like : LeadsAs s.limit s.first l m) where
  can-same : can_append_at l w v ≡ can_append s m v
  can-same =
      ap (λ b. not b && nat_lt (base_index w) (progress_in l.progress v).next) (has-as s.limit s.first l.sendings m.sendings like.sendings v)
      ∙ (ap (λ n. not (has m.sendings v) && nat_lt n (progress_in l.progress v).next) (base-model logs w s st)
      ∙ ap (λ (p : Progress). not (has m.sendings v) && nat_lt s.base p.next) (progress-as s.limit s.first l m like v))

  -- no append is sent where none can be
  pub sends-none : (b : Batch) → can_append_at l w v ≡ false → SendsAppend s m v l b b
  sends-none b not_so =
      let f : can_append s m v ≡ false = sym can-same ∙ not_so in
      record {
        leads = subst (LeadsAs s.limit s.first l) (sym (cond-false (can_append s m v) (with_progress m v (sent_on s.path (progress_of m v))) m f)) like;
        batch_is =
            ap (λ xs. record b { sent = xs }) (sym (append-nil b.sent))
            ∙ ap (λ xs. record b { sent = b.sent ++ xs }) (sym (cond-false (can_append s m v) ((v, append_from sha_link s (progress_of m v).next) ∷ []) [] f));
      }

  -- one append is sent where it can be
  pub sends-one : (b : Batch) (p : Progress) (append : PeerMsg) → can_append_at l w v ≡ true → MakesAppend s (progress_in l.progress v) (Some append) p
      → SendsAppend s m v (record l { progress = put l.progress v p }) b (record b { sent = b.sent ++ (v, append) ∷ [] })
  sends-one b p append so made =
      let t : can_append s m v ≡ true = sym can-same ∙ so in
      let q : Progress = progress_of m v in
      let same : progress_in l.progress v ≡ q = progress-as s.limit s.first l m like v in
      let above : nat_lt s.base q.next ≡ true = (and_parts (not (has m.sendings v)) (nat_lt s.base q.next) t).1 in
      let after : p ≡ sent_on s.path q =
      made.after_is
      ∙ (ap (λ (x : Progress). cond (nat_lt s.base x.next) (sent_on s.path x) x) same
      ∙ cond-true (nat_lt s.base q.next) (sent_on s.path q) q above) in
      let is : Some append ≡ Some (append_from sha_link s q.next) =
      made.append_is
      ∙ (ap (λ (x : Progress). cond (nat_lt s.base x.next) (Some (append_from sha_link s x.next)) None) same
      ∙ cond-true (nat_lt s.base q.next) (Some (append_from sha_link s q.next)) None above) in
      let append-is : append ≡ append_from sha_link s q.next = cc in
      record {
        leads = subst (LeadsAs s.limit s.first (record l { progress = put l.progress v p })) (sym (cond-true (can_append s m v) (with_progress m v (sent_on s.path q)) m t))
            (record {
              progress = ap (λ ps. put ps v p) like.progress ∙ ap (put m.progress v) after;
              learners = like.learners;
              sendings = like.sendings;
            });
        batch_is =
            ap (λ x. record b { sent = b.sent ++ (v, x) ∷ [] }) append-is
            ∙ ap (λ xs. record b { sent = b.sent ++ xs }) (sym (cond-true (can_append s m v) ((v, append_from sha_link s q.next) ∷ []) [] t));
      }

-- what is sent is made of the entries that are kept
pub next-above : (l : Leading) (w : Window) (v : ℕ) → can_append_at l w v ≡ true → base_index w < (progress_in l.progress v).next
next-above l w v so = ltb-true (base_index w) (progress_in l.progress v).next (and_parts (not (has l.sendings v)) (nat_lt (base_index w) (progress_in l.progress v).next) so).1

-- appends one after another
abbrev pub sent_step : Call → ℕ → Call
sent_step c v = send_append sha_link c c.state.role v

pub sends-fold : (vs : List ℕ) (c : Call) → send_appends sha_link c vs ≡ record (fold sent_step c vs) { appends = [] }
sends-fold [] c = refl
sends-fold (v ∷ vs) c = sends-fold vs (sent_step c v)

pub reaches-all : (h : Holder) (b : Batch) (c : Call) (vs : List ℕ) → Reaches h b (fold sent_step c vs) → Reaches h b (send_appends sha_link c vs)
reaches-all h b c vs r = subst (Reaches h b) (sym (sends-fold vs c)) (record { stands = r.stands; batch_is = r.batch_is })

pub leads-is : (role : Role) → leads_now role ≡ true → (l : Leading) × (role ≡ kept.Leader l)
leads-is kept.Follower so = cc
leads-is (kept.Candidate votes) so = cc
leads-is (kept.Leader l) so = (l, refl)

-- the peers of one that leads in the model
pub peers-of : (logs : LogsAreTheModels) (h : Holder) (s : model.Replica) (st : HoldsFor h s) → IsOrdered h.log → (m : model.Leading) → s.role ≡ model.Leader m
    → peers_at h.me h.log (learners_in h.role) ≡ peers s m
peers-of logs h s st o m is = by_role h.role (subst (RoleAs s.limit s.first h.role) is st.role)
  where
    by_role : (role : Role) → RoleAs s.limit s.first role (model.Leader m) → peers_at h.me h.log (learners_in role) ≡ peers s m
    by_role kept.Follower like = absurd like
    by_role (kept.Candidate votes) like = absurd like
    by_role (kept.Leader l) like = peers-model logs h s st o l m like

module _ (logs : LogsAreTheModels) (h : Holder) (s : model.Replica) (st : HoldsFor h s) where
  voter-is : is_in (conf_at h.log (last_index h.log)).voters h.me ≡ is_voter s
  voter-is = ap (λ (n : Conf). is_in n.voters h.me) (conf-whole logs h.log s st.log) ∙ ap (is_in (newest s).voters) st.me

  pub stops-down : leads_now h.role ≡ true → is_in (conf_at h.log (last_index h.log)).voters h.me ≡ false → conf_index_at h.log (last_index h.log) ≤ h.log.committed
      → HoldsFor (record h { role = kept.Follower; known = 0 }) (stepped_down s s.role)
  stops-down leads not_so settled =
      let l = leads-is h.role leads in
      let m = leader-as s.limit s.first l.0 s.role (subst (λ r. RoleAs s.limit s.first r s.role) l.1 st.role) in
      let k = conf_index-whole logs h.log s st.log in
      let e = st.log.is_committed in
      let test : (not (is_voter s) && nat_le (conf_index s.path) s.committed) ≡ true =
      and_from (not (is_voter s)) (nat_le (conf_index s.path) s.committed) (not_from_false (is_voter s) (sym voter-is ∙ not_so))
      (le-leb (conf_index s.path) s.committed (omega (arith, settled, k, e))) in
      subst (λ q. HoldsFor (record h { role = kept.Follower; known = 0 }) (stepped_down s q)) (sym m.1.0)
      (subst (HoldsFor (record h { role = kept.Follower; known = 0 }))
      (sym (cond-true (not (is_voter s) && nat_le (conf_index s.path) s.committed) (record s { role = model.Follower; known = 0 }) s test))
      (record { me = st.me; term = st.term; vote = st.vote; known = refl; log = st.log; table = st.table; role = tt; tickets = st.tickets; halted = st.halted }))

  pub stays-up : (not (is_voter s) && nat_le (conf_index s.path) s.committed) ≡ false → HoldsFor h (stepped_down s s.role)
  stays-up test =
      subst (HoldsFor h) (sym (stays s.role)) st
    where
      stays : (r : model.Role) → stepped_down s r ≡ s
      stays (model.Learner taking) = refl
      stays model.Follower = refl
      stays (model.Candidate ids) = refl
      stays (model.Leader m) = cond-false (not (is_voter s) && nat_le (conf_index s.path) s.committed) (record s { role = model.Follower; known = 0 }) s test

  pub stays-voter : is_in (conf_at h.log (last_index h.log)).voters h.me ≡ true → HoldsFor h (stepped_down s s.role)
  stays-voter so = stays-up (and_left (not (is_voter s)) (nat_le (conf_index s.path) s.committed) (ap not (sym voter-is ∙ so)))

  pub stays-pending : h.log.committed < conf_index_at h.log (last_index h.log) → HoldsFor h (stepped_down s s.role)
  stays-pending above =
      let k = conf_index-whole logs h.log s st.log in
      let e = st.log.is_committed in
      stays-up (and_right (not (is_voter s)) (nat_le (conf_index s.path) s.committed) (lt-leb (conf_index s.path) s.committed (omega (arith, above, k, e))))

  pub stays-following : leads_now h.role ≡ false → HoldsFor h (stepped_down s s.role)
  stays-following not_so = unless-leader s.limit s.first h.role s.role st.role not_so (λ q. HoldsFor h (stepped_down s q)) st (λ ids. st)

-- the base moves
pub moves-base : (h : Holder) (w' : Window) (s : model.Replica) (base : ℕ) → HoldsFor h s → LogStandsFor sha_link w' (record s { base = base })
    → HoldsFor (record h { log = w' }) (record s { base = base })
moves-base h w' s base st st' =
    record {
      me = st.me;
      term = st.term;
      vote = st.vote;
      known = st.known;
      log = st';
      table = st.table;
      role = st.role;
      tickets = st.tickets;
      halted = st.halted;
    }

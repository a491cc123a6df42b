-- A committed index that rises, and the end of a call, stay in range.
use Rattle.log_laws.proofs.History.{all_take}
use Rattle.std.proofs.Common.{◌≡◌, ℕ, ◌+◌, ◌-◌, ◌<◌, ◌≤◌, zero, suc, max, not, ◌==◌, ◌&&◌, nat_le, nat_lt, Bool, Option, Some, None, List, [], ◌∷◌, length, take, drop, refl, sym, subst, ◌∙◌, arith, inl, inr}
use Rattle.std.specs.Prelude.{IsTrue, filter, filter_map, unwrap_or}
use Rattle.std.specs.List.{AllByRecursion, cons_option}
use Rattle.std.proofs.lemmas.Bool.{cond_both, cases_eq, and_parts, ltb-true}
use Rattle.std.proofs.lemmas.List.{length-take, length-drop}
use Rattle.std.proofs.lemmas.Option.{same_Some}
use Rattle.group_quorum.specs.Conf.{Conf}
use Rattle.values.specs.declared.entry.Body.{Body}
use Rattle.values.specs.declared.entry.Body.TheVariants.{Noop, Ask, Members}
use Rattle.values.specs.declared.limits.TheConstants.{MAX_ENTRIES}
use Rattle.group_quorum.specs.Voters.{is_in, insert_rising}
use Rattle.values.specs.declared.entry.Hash.{Hash}
use Rattle.values.specs.declared.entry.LogEntry.{LogEntry}
use Rattle.values.specs.declared.ids.ClientId.{ClientId}
use Rattle.values.specs.declared.message.Answer.{Answer}
use Rattle.values.specs.declared.message.Reply.{Reply}
use Rattle.replica_model.specs.declared.Progress.{Progress}
use Rattle.replica_model.specs.Path.{Path, Link, chain, chain_from, first_hash}
use Rattle.replica_model.specs.Configs.{conf, conf_index, older_conf, changed_by}
use Rattle.replica_model.specs.Keyed.{value_at, has}
use Rattle.replica_model.specs.Message.{plain}
use Rattle.replica_model.specs.Replica.{Ticket, Role, Follower, Leader, Leading, Replica}
use Rattle.replica_model.specs.Enough.{greatest_upto}
use Rattle.replica_model.specs.Folds.{reply_of}
use Rattle.replica_model.specs.Peers.{with_id, united, is_pending, is_voter, progress_of, with_progress, leads_with, peers, voters_counted, newest}
use Rattle.replica_model.specs.Call.{Call, moment}
use Rattle.replica_model.specs.Raise.{numbered_from, is_due, outcome_of, commit_to, may_promise, may_commit, promise_raised, promise_index, commit_index, raise, raise_and_send}
use Rattle.replica_model.specs.Send.{append_from, can_append, appended_to, send_append, send_appends, stepped_down, ended, sent_on}
use Rattle.replica_model.proofs.Greatest.{greatest}
use Rattle.trace_model.specs.TraceLines.{is_hash}
use Rattle.trace_model.specs.Hashing.{GivesHashes}
use Rattle.log_laws.proofs.Ending.{all-append}
use Rattle.log_laws.proofs.Lookups.{put_cases}
use Rattle.range_laws.proofs.Replies.{reply_in}
use Rattle.range_laws.proofs.Bounds.{with_role, with_role_known, with_path, with_committed, with_base, send_in}
use Rattle.range_laws.specs.Ranges.{IsId, AreIds, ConfIn, BodyIn, EntryIn, EntriesIn, ProgressIn, LeadingIn, RoleIn, FirstIn, TicketIn, StateIn, MessageIn, ReplyIn, AnsweredIn, CallIn}

-- ---- lists
module _ {A : Type 0} (P : A → Type 0) where
  pub all_filter : (test : A → Bool) (xs : List A) → AllByRecursion P xs → AllByRecursion P (filter test xs)
  all_filter test [] h = tt
  all_filter test (x ∷ xs) h = cond_both (test x) (x ∷ filter test xs) (filter test xs) (λ ys. AllByRecursion P ys) (λ b. (h.0, all_filter test xs h.1)) (λ b. all_filter test xs h.1)

  pub all_drop : (k : ℕ) (xs : List A) → AllByRecursion P xs → AllByRecursion P (drop k xs)
  all_drop zero xs h = h
  all_drop (suc k) [] h = tt
  all_drop (suc k) (x ∷ xs) h = all_drop k xs h.1

-- ---- what is read of a path
module _ (link : Link) (hashes : GivesHashes link) where
  chain_from_hash : (h : Hash) (k : ℕ) (p : Path) → IsTrue (is_hash h) → IsTrue (is_hash (chain_from link h k p))
  chain_from_hash h k [] fine = fine
  chain_from_hash h k (e ∷ p) fine = chain_from_hash (link h (k + 1) e) (k + 1) p (hashes h (k + 1) e)

  pub chain_hash : (p : Path) → IsTrue (is_hash (chain link p))
  chain_hash p = chain_from_hash first_hash 0 p refl

changed_in : (b : Body) (c : Conf) → ConfIn c → BodyIn b → ConfIn (changed_by c b)
changed_in Noop c f h = f
changed_in (Ask client number request) c f h = f
changed_in (Members margin voters) c f h = h

pub conf_in : (n : ℕ) (p : Path) (first : Conf) → ConfIn first → EntriesIn n p → ConfIn (conf first p)
conf_in n [] first f h = f
conf_in n (e ∷ p) first f h = conf_in n p (changed_by first e.body) (changed_in e.body first f h.0.1) h.1

pub insert_in : (v : ℕ) (ids : List ℕ) → IsId v → AreIds ids → AreIds (insert_rising v ids)
insert_in v [] id h = (id, tt)
insert_in v (w ∷ ids) id h = cond_both (nat_lt v w) (v ∷ w ∷ ids) (w ∷ insert_rising v ids) AreIds (λ b. (id, h)) (λ b. (h.0, insert_in v ids id h.1))

pub with_id_in : (v : ℕ) (ids : List ℕ) → IsId v → AreIds ids → AreIds (with_id v ids)
with_id_in v ids id h = cond_both (is_in ids v) ids (insert_rising v ids) AreIds (λ b. h) (λ b. insert_in v ids id h)

united_in : (more ids : List ℕ) → AreIds more → AreIds ids → AreIds (united more ids)
united_in [] ids m h = h
united_in (v ∷ more) ids m h = with_id_in v (united more ids) m.0 (united_in more ids m.1 h)

pub voters_in : (n : ℕ) (s : Replica) → ConfIn s.first → StateIn n s → AreIds (voters_counted s)
voters_in n s f h =
    let newest_in : ConfIn (newest s) = conf_in n s.path s.first f h.path.entries in
    let older_in : ConfIn (older_conf s.first s.path) = conf_in n (take (conf_index s.path - 1) s.path) s.first f (all_take (EntryIn n) (conf_index s.path - 1) s.path h.path.entries) in
    cond_both (is_pending s) (united (older_conf s.first s.path).voters (newest s).voters) (newest s).voters AreIds (λ b. united_in (older_conf s.first s.path).voters (newest s).voters older_in.ids newest_in.ids) (λ b. newest_in.ids)

pub peers_in : (n : ℕ) (s : Replica) (l : Leading) → ConfIn s.first → StateIn n s → AreIds l.learners → AreIds (peers s l)
peers_in n s l f h ids = all_filter IsId (λ v. not (v == s.me)) (united l.learners (voters_counted s)) (united_in l.learners (voters_counted s) ids (voters_in n s f h))

-- ---- a leader's progress
pub progress_in : (n : ℕ) (l : Leading) (v : ℕ) → LeadingIn n l → ProgressIn n (progress_of l v)
progress_in n l v h = of_value (value_at l.progress v) (λ p is. h.progress v p is)
  where
    of_value : (o : Option Progress) → ((p : Progress) → o ≡ Some p → ProgressIn n p) → ProgressIn n (unwrap_or o (record { next = 0; mark = 0; promised = 0 }))
    of_value None each = record { next = omega arith; mark = omega arith }
    of_value (Some p) each = each p refl

pub put_progress : (n : ℕ) (l : Leading) (v : ℕ) (p : Progress) → LeadingIn n l → ProgressIn n p → LeadingIn n (with_progress l v p)
put_progress n l v p h fine = record {
  progress = λ u q is. elim (put_cases l.progress v p u) [
    | inl here ↦ subst (ProgressIn n) (same_Some p q (sym here.1 ∙ is)) fine
    | inr there ↦ h.progress u q (sym there.1 ∙ is)
  ];
  learners = h.learners;
  sendings = h.sendings;
}

-- ---- the greatest index
greatest_within : (passes : ℕ → Bool) (had top : ℕ) → greatest_upto passes had top ≤ max had top
greatest_within passes had top =
    let is = greatest passes had top in
    elim (cases_eq (greatest_upto passes had top) had) [
      | inl same ↦ omega (arith, same)
      | inr more ↦ omega (arith, is.within more)
    ]

pub numbered_in : (n k : ℕ) (es : Path) → k + length es ≤ n + 1 → EntriesIn n es → AllByRecursion (λ (c : ℕ × LogEntry). (c.0 ≤ n) × EntryIn n c.1) (numbered_from k es)
numbered_in n k [] fits h = tt
numbered_in n k (e ∷ es) fits h = ((omega (arith, fits), h.0), numbered_in n (k + 1) es (omega (arith, fits)) h.1)

module _ (n : ℕ) where
  -- the outcomes of tickets
  outcomes_in : (s : Replica) → StateIn n s → (ts : List Ticket) → AllByRecursion TicketIn ts → AllByRecursion (AnsweredIn n) (filter_map (outcome_of s) ts)
  outcomes_in s h [] all = tt
  outcomes_in s h (t ∷ ts) all = one (reply_of s.limit s.path t.index) (λ r is. reply_in n s.limit s.path t.index r h.limit h.path is) (filter_map (outcome_of s) ts) (outcomes_in s h ts all.1)
    where
      one : (o : Option Reply) → ((r : Reply) → o ≡ Some r → (t.index ≤ n) × ReplyIn r) → (rest : List (ClientId × ℕ × Answer)) → AllByRecursion (AnsweredIn n) rest
          → AllByRecursion (AnsweredIn n) (cons_option (Rattle.std.specs.Prelude.option_map (λ reply. (t.client, t.number, Rattle.values.specs.declared.message.Answer.TheVariants.Outcome t.index reply)) o) rest)
      one None each rest fine = fine
      one (Some r) each rest fine = ((all.0, each r refl), fine)

  pub commit_in : (c : Call) (i : ℕ) → i ≤ n → CallIn n c → CallIn n (commit_to c i)
  commit_in c i le h =
      let s : Replica = c.state in
      let st : StateIn n s = h.state in
      let b = h.batch in
      let more : Path = drop s.committed (take i s.path) in
      let long : (s.committed + 1) + length more ≤ n + 1 = omega (arith, length-drop s.committed (take i s.path), length-take i s.path, st.committed, st.path.long) in
      record {
        state = with_committed n s st (max s.committed i) (filter (λ ticket. not (is_due s i ticket)) s.tickets) (omega (arith, st.committed, le)) (all_filter TicketIn (λ ticket. not (is_due s i ticket)) s.tickets st.tickets);
        first = h.first;
        sent = h.sent;
        batch = record {
          lead = b.lead;
          members = b.members;
          halt = b.halt;
          taken = b.taken;
          commits = all-append (λ (c : ℕ × LogEntry). (c.0 ≤ n) × EntryIn n c.1) c.batch.commits (numbered_from (s.committed + 1) more) b.commits (numbered_in n (s.committed + 1) more long (all_drop (EntryIn n) s.committed (take i s.path) (all_take (EntryIn n) i s.path st.path.entries)));
          answers = all-append (AnsweredIn n) c.batch.answers (filter_map (outcome_of s) (filter (is_due s i) s.tickets)) b.answers (outcomes_in s st (filter (is_due s i) s.tickets) (all_filter TicketIn (is_due s i) s.tickets st.tickets));
          saved = b.saved;
          refused = b.refused;
        };
        appends = h.appends;
      }

  pub raise_in : (c : Call) (l : Leading) → CallIn n c → CallIn n (raise c l)
  raise_in c l h =
      let s : Replica = c.state in
      let up : promise_index s l ≤ n = omega (arith, greatest_within (may_promise s l) s.promised (length s.path), h.state.promised, h.state.path.long) in
      let raised : Call = moment (promise_raised (moment c) l) in
      let within : commit_index raised.state l ≤ n = omega (arith, greatest_within (may_commit raised.state l) s.committed (promise_index s l), up, h.state.committed) in
      let committed = commit_in raised (commit_index raised.state l) within
      (record { state = with_path n s h.state s.path (promise_index s l) s.tickets h.state.path up h.state.tickets; first = h.first; sent = h.sent; batch = h.batch; appends = h.appends }) in
      record { state = committed.state; first = committed.first; sent = committed.sent; batch = committed.batch; appends = committed.appends }

  pub raise_send_in : (c : Call) (l : Leading) → AreIds (peers (raise c l).state l) → CallIn n c → CallIn n (raise_and_send c l)
  raise_send_in c l ids h = let r = raise_in c l h in record { state = r.state; first = r.first; sent = r.sent; batch = r.batch; appends = ids }

  -- ---- the end of a call
  module _ (link : Link) (hashes : GivesHashes link) where
    append_in : (s : Replica) (next : ℕ) → 0 < next → next ≤ n + 1 → StateIn n s → MessageIn n (plain (append_from link s next))
    append_in s next some fits st = (
      st.term,
      record {
        hash = chain_hash link hashes (take (next - 1) s.path);
        entries_in = all_take (EntryIn n) MAX_ENTRIES (drop (next - 1) s.path) (all_drop (EntryIn n) (next - 1) s.path st.path.entries);
        ends = omega (arith, length-take MAX_ENTRIES (drop (next - 1) s.path), length-drop (next - 1) s.path, st.path.long, fits, some);
        promised = st.promised;
        committed = st.committed;
      },
    )

    appended_in : (c : Call) (l : Leading) (v : ℕ) → c.state.role ≡ Leader l → IsId v → 0 < (progress_of l v).next → CallIn n c → CallIn n (appended_to link c l v)
    appended_in c l v is id some h =
        let s : Replica = c.state in
        let old : LeadingIn n l = subst (RoleIn n) is h.state.role in
        let p = progress_in n l v old in
        let l' : Leading = with_progress l v (sent_on s.path (progress_of l v)) in
        let first : ConfIn s.first = subst (λ r. FirstIn r s.first) is h.first in
        send_in n (record c { state = leads_with s l' }) v (plain (append_from link s (progress_of l v).next))
        (record { state = with_role n s h.state (Leader l') (put_progress n l v (sent_on s.path (progress_of l v)) old (record { next = omega (arith, length-take MAX_ENTRIES (drop ((progress_of l v).next - 1) s.path), length-drop ((progress_of l v).next - 1) s.path, h.state.path.long, p.next, some); mark = p.mark })); first = first; sent = h.sent; batch = h.batch; appends = h.appends })
        id (append_in s (progress_of l v).next some p.next h.state)

    send_append_in : (c : Call) (role : Role) (v : ℕ) → c.state.role ≡ role → IsId v → CallIn n c → CallIn n (send_append link c role v)
    send_append_in c (Leader l) v is id h = cond_both (can_append c.state l v) (appended_to link c l v) c (CallIn n)
        (λ b. appended_in c l v is id (omega (arith, ltb-true c.state.base (progress_of l v).next (and_parts (not (has l.sendings v)) (nat_lt c.state.base (progress_of l v).next) b).1)) h)
        (λ b. h)
    send_append_in c other v is id h = h

    appends_in : (vs : List ℕ) (c : Call) → AreIds vs → CallIn n c → CallIn n (send_appends link c vs)
    appends_in [] c ids h = record { state = h.state; first = h.first; sent = h.sent; batch = h.batch; appends = tt }
    appends_in (v ∷ vs) c ids h = appends_in vs (send_append link c c.state.role v) ids.1 (send_append_in c c.state.role v refl ids.0 h)

    stopped_in : (s : Replica) (role : Role) → s.role ≡ role → StateIn n s → FirstIn s.role s.first → StateIn n (stepped_down s role) × FirstIn (stepped_down s role).role (stepped_down s role).first
    stopped_in s (Leader l) is h f = cond_both (not (is_voter s) && nat_le (conf_index s.path) s.committed) (record s { role = Follower; known = 0 }) s (λ x. StateIn n x × FirstIn x.role x.first)
        (λ b. (with_role_known n s h Follower 0 tt (omega arith), subst (λ r. FirstIn r s.first) is f))
        (λ b. (h, f))
    stopped_in s other is h f = (h, f)

    pub ended_in : (c : Call) (halted : Option (ℕ × Hash × Hash)) → CallIn n c → CallIn n (ended link c halted)
    ended_in c (Some d) h = h
    ended_in c None h =
        let x : Call = send_appends link c c.appends in
        let sent = appends_in c.appends c h.appends h in
        let down = stopped_in x.state x.state.role refl sent.state sent.first in
        let s : Replica = stepped_down x.state x.state.role in
        record { state = with_base n s down.0 _ (omega (arith, down.0.base, down.0.committed)); first = down.1; sent = sent.sent; batch = sent.batch; appends = sent.appends }

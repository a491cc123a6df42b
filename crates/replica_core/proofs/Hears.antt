-- What a leader hears of its appends.
use Rattle.std.proofs.Common.{◌≡◌, ℕ, ◌+◌, Bool, true, false, cond, not, ◌&&◌, ◌||◌, ◌==◌, nat_lt, nat_le, min, inl, inr, List, [], ◌∷◌, length, refl, sym, ap, subst, ◌∙◌}
use Rattle.std.proofs.lemmas.Bool.{cases_Bool, cond_both, cond-true, cond-false, and_parts, and_from, not-true, not-false, and_cases}
use Rattle.values.specs.declared.batch.Batch.{Batch}
use Rattle.values.specs.declared.entry.Point.{Point}
use Rattle.replica_model.specs.declared.Progress.{Progress}
use Rattle.replica_model.specs.Keyed.{put, without}
use Rattle.replica_model.specs.Linked.{sha_link}
use Rattle.replica_model.specs.Replica as model
use Rattle.replica_model.specs.Peers.{is_peer, peers, progress_of, with_progress, leads_with}
use Rattle.replica_model.specs.Call.{Call, still, empty_batch}
use Rattle.replica_model.specs.Raise.{raise, to_every_peer}
use Rattle.replica_model.specs.Graft.{is_hash, matches as model_matches}
use Rattle.replica_model.specs.Heard.{accepted_upto, accepted_heard, accepted_by, rejected_heard, rejected_by, sent_from, to_peer}
use Rattle.replica_log.specs.Window.{Window, IsOrdered, base_index, last_index, matches}
use Rattle.replica_log.specs.Models.{StandsFor as LogStandsFor, HashesAreTheModels}
use Rattle.append_rules.specs.Replies.{next_after, is_sent_anew}
use Rattle.replica_core.specs.Logs.{LogsAreTheModels}
use Rattle.replica_core.specs.declared.role.Role.{Role}
use Rattle.replica_core.specs.declared.role.Role.TheVariants as kept
use Rattle.replica_core.specs.declared.role.Leading.{Leading}
use Rattle.replica_core.specs.declared.holder.Holder.{Holder}
use Rattle.replica_core.specs.declared.send.Appends.TheVariants.{Nobody, One, Everyone}
use Rattle.replica_core.specs.Standing.{LeadsAs, RoleAs, HoldsFor}
use Rattle.replica_core.specs.Keeping.{leads_now, learners_in, progress_in, is_peer_at}
use Rattle.replica_core.specs.Leads.{with_progress_in, without_sending, after_accepted, after_rejected, role_leading, holder_leading, if_leading, lacks_entries_at, is_sent_anew_at, appends_after}
use Rattle.replica_core.specs.Calling.{Reaches, Does}
use Rattle.replica_core.proofs.Calls.{still-does}
use Rattle.replica_core.proofs.Holding.{leader-as, unless-leader, base-model, last-model}
use Rattle.replica_core.proofs.Leads.{cond_pair, progress-as, without-as}
use Rattle.replica_core.proofs.Counting.{peer-is}
use Rattle.replica_core.proofs.Sends.{leads-is, with-role}

-- ---- what a leader keeps, as a part of the replica

role-still : (role : Role) (f : Leading → Leading) → leads_now role ≡ false → role_leading role f ≡ role
role-still kept.Follower f not_so = refl
role-still (kept.Candidate votes) f not_so = refl
role-still (kept.Leader l) f not_so = cc

unless-leading : (role : Role) (p : Leading → Bool) → leads_now role ≡ false → if_leading role p ≡ false
unless-leading kept.Follower p not_so = refl
unless-leading (kept.Candidate votes) p not_so = refl
unless-leading (kept.Leader l) p not_so = cc

-- one that does not lead keeps nothing
pub holder-still : (h : Holder) (f : Leading → Leading) → leads_now h.role ≡ false → holder_leading h f ≡ h
holder-still h f not_so = ap (λ r. record h { role = r }) (role-still h.role f not_so)

pub holder-leads : (h : Holder) (f : Leading → Leading) (l : Leading) → h.role ≡ kept.Leader l → holder_leading h f ≡ record h { role = kept.Leader (f l) }
holder-leads h f l is = ap (λ r. record h { role = role_leading r f }) is

-- the log matches a point as the model's does
matches-is : HashesAreTheModels → (w : Window) (s : model.Replica) → LogStandsFor sha_link w s → (p : Point) → matches sha_link w p ≡ model_matches sha_link s p
matches-is hashes w s st p = ap (λ o. is_hash o p.hash) (hashes sha_link w s st p.index)

-- the progress of a peer that leads on both sides
pub with-progress-as : (s : model.Replica) (l : Leading) (m : model.Leading) (v : ℕ) (p q : Progress) → LeadsAs s.limit s.first l m → p ≡ q
    → LeadsAs s.limit s.first (with_progress_in l v p) (with_progress m v q)
with-progress-as s l m v p q like is =
    record { progress = ap (λ ps. put ps v p) like.progress ∙ ap (put m.progress v) is; learners = like.learners; sendings = like.sendings }

module _ (logs : LogsAreTheModels) (h : Holder) (s : model.Replica) (st : HoldsFor h s) (o : IsOrdered h.log) (b : Batch) (from : ℕ) where
  -- the model of a leader
  pub leading-model : (l : Leading) → h.role ≡ kept.Leader l → (m : model.Leading) × ((s.role ≡ model.Leader m) × LeadsAs s.limit s.first l m)
  leading-model l is = leader-as s.limit s.first l s.role (subst (λ r. RoleAs s.limit s.first r s.role) is st.role)

  module _ (hashes : HashesAreTheModels) (end : Point) (promised : ℕ) where
    -- nothing comes of what is no peer's, or does not match
    pub accepted-still : (is_peer_at h.me h.log (learners_in h.role) from && (leads_now h.role && matches sha_link h.log end)) ≡ false
        → accepted_heard sha_link s s.role from end promised ≡ still s
    accepted-still not_so = by_leading (leads_now h.role) refl
      where
        by_leading : (leads : Bool) → leads_now h.role ≡ leads → accepted_heard sha_link s s.role from end promised ≡ still s
        by_leading false is =
            unless-leader s.limit s.first h.role s.role st.role is (λ r. accepted_heard sha_link s r from end promised ≡ still s) refl (λ ids. refl)
        by_leading true is =
            let l = leads-is h.role is in
            let m = leading-model l.0 l.1 in
            let peer : is_peer_at h.me h.log (learners_in h.role) from ≡ is_peer s m.0 from =
            ap (λ r. is_peer_at h.me h.log (learners_in r) from) l.1 ∙ peer-is logs h s st o from l.0 m.0 m.1.1 in
            let at : matches sha_link h.log end ≡ model_matches sha_link s end = matches-is hashes h.log s st.log end in
            let test : (is_peer s m.0 from && model_matches sha_link s end) ≡ false =
            ap (λ x. x && model_matches sha_link s end) (sym peer)
            ∙ (ap (λ x. is_peer_at h.me h.log (learners_in h.role) from && x) (sym at)
            ∙ (ap (λ x. is_peer_at h.me h.log (learners_in h.role) from && (x && matches sha_link h.log end)) (sym is) ∙ not_so)) in
            ap (λ r. accepted_heard sha_link s r from end promised) m.1.0
            ∙ cond-false (is_peer s m.0 from && model_matches sha_link s end)
            (accepted_by s (with_progress m.0 from (accepted_upto (progress_of m.0 from) end.index promised)) from) (still s) test

    -- and nothing is noted of what does not match
    pub accepted-unnoted : (leads_now h.role && matches sha_link h.log end) ≡ false → holder_leading h (λ l. after_accepted l h.log from end promised) ≡ h
    accepted-unnoted not_so = by_leading (leads_now h.role) refl
      where
        by_leading : (leads : Bool) → leads_now h.role ≡ leads → holder_leading h (λ l. after_accepted l h.log from end promised) ≡ h
        by_leading false is = holder-still h (λ l. after_accepted l h.log from end promised) is
        by_leading true is =
            let l = leads-is h.role is in
            let k : Leading = l.0 in
            let other : matches sha_link h.log end ≡ false = ap (λ x. x && matches sha_link h.log end) (sym is) ∙ not_so in
            holder-leads h (λ l. after_accepted l h.log from end promised) k l.1
            ∙ (ap (λ j. record h { role = kept.Leader j })
            (cond-false (matches sha_link h.log end) (with_progress_in k from (accepted_upto (progress_in k.progress from) end.index promised)) k other)
            ∙ ap (λ r. record h { role = r }) (sym l.1))

    -- a peer has accepted what matches: the leader with its progress, before it raises
    pub record Accepted (h' : Holder) : Type 0 where
      pub leading : model.Leading
      pub stands : HoldsFor h' (leads_with s leading)
      pub call : accepted_heard sha_link s s.role from end promised ≡ accepted_by s leading from

    pub accepted-noted : (h' : Holder) → is_peer_at h.me h.log (learners_in h.role) from ≡ true → (leads_now h.role && matches sha_link h.log end) ≡ true
        → h' ≡ holder_leading h (λ l. after_accepted l h.log from end promised) → Accepted h'
    accepted-noted h' peer-yes noted after =
        let parts = and_parts (leads_now h.role) (matches sha_link h.log end) noted in
        let l = leads-is h.role parts.0 in
        let m = leading-model l.0 l.1 in
        let p : Progress = accepted_upto (progress_in l.0.progress from) end.index promised in
        let q : Progress = accepted_upto (progress_of m.0 from) end.index promised in
        let peer : is_peer_at h.me h.log (learners_in h.role) from ≡ is_peer s m.0 from =
        ap (λ r. is_peer_at h.me h.log (learners_in r) from) l.1 ∙ peer-is logs h s st o from l.0 m.0 m.1.1 in
        let is : h' ≡ record h { role = kept.Leader (with_progress_in l.0 from p) } =
        after ∙ (holder-leads h (λ k. after_accepted k h.log from end promised) l.0 l.1
        ∙ ap (λ k. record h { role = kept.Leader k }) (cond-true (matches sha_link h.log end) (with_progress_in l.0 from p) l.0 parts.1)) in
        record {
          leading = with_progress m.0 from q;
          stands = subst (λ g. HoldsFor g (leads_with s (with_progress m.0 from q))) (sym is)
              (with-role h s (kept.Leader (with_progress_in l.0 from p)) (model.Leader (with_progress m.0 from q)) st
              (with-progress-as s l.0 m.0 from p q m.1.1 (ap (λ k. accepted_upto k end.index promised) (progress-as s.limit s.first l.0 m.0 m.1.1 from))));
          call =
              ap (λ r. accepted_heard sha_link s r from end promised) m.1.0
              ∙ cond-true (is_peer s m.0 from && model_matches sha_link s end) (accepted_by s (with_progress m.0 from q) from) (still s)
              (and_from (is_peer s m.0 from) (model_matches sha_link s end) (sym peer ∙ peer-yes) (sym (matches-is hashes h.log s st.log end) ∙ parts.1));
        }

-- ---- after a raise

module _ (logs : LogsAreTheModels) (s : model.Replica) (m : model.Leading) (from : ℕ) (h : Holder) (b : Batch) (r : Reaches h b (raise (still (leads_with s m)) m)) where
  abbrev raised : Call
  raised = raise (still (leads_with s m)) m

  abbrev rose : Bool
  rose = nat_lt s.promised raised.state.promised || nat_lt s.committed raised.state.committed

  with-appends : (appends : List ℕ) → Reaches h b (record raised { appends = appends })
  with-appends appends = record { stands = r.stands; batch_is = r.batch_is }

  lacks-is : (role : Role) → RoleAs s.limit s.first role (model.Leader m)
      → if_leading role (λ l. nat_le (progress_in l.progress from).next (last_index h.log)) ≡ nat_le (progress_of m from).next (length s.path)
  lacks-is kept.Follower like = absurd like
  lacks-is (kept.Candidate votes) like = absurd like
  lacks-is (kept.Leader l) like =
      ap (λ (p : Progress). nat_le p.next (last_index h.log)) (progress-as s.limit s.first l m like from)
      ∙ ap (nat_le (progress_of m from).next) (last-model logs h.log raised.state r.stands.log)

  -- where promised or committed rose it sends to every peer, else to this one, where it lacks entries
  pub accepted-does : (promised committed : ℕ) → promised ≡ s.promised → committed ≡ s.committed → Does h b (appends_after h promised committed from) (accepted_by s m from)
  accepted-does promised committed was-promised was-committed =
      cond_pair (nat_lt promised h.log.promised || nat_lt committed h.log.committed) rose Everyone (cond (lacks_entries_at h from) (One from) Nobody)
      (to_every_peer raised m) (cond (nat_le (progress_of m from).next (length s.path)) (to_peer raised from) raised) (Does h b) rose-is
      (λ so. record { reaches = with-appends (peers raised.state m); sends = (m, (refl, refl)) })
      (λ not_so. cond_pair (lacks_entries_at h from) (nat_le (progress_of m from).next (length s.path)) (One from) Nobody (to_peer raised from) raised (Does h b)
      (lacks-is h.role r.stands.role)
      (λ lacks. record { reaches = with-appends (from ∷ []); sends = refl })
      (λ none. record { reaches = r; sends = refl }))
    where
      rose-is : (nat_lt promised h.log.promised || nat_lt committed h.log.committed) ≡ rose
      rose-is =
          ap (λ n. nat_lt n h.log.promised || nat_lt committed h.log.committed) was-promised
          ∙ (ap (λ n. nat_lt s.promised h.log.promised || nat_lt n h.log.committed) was-committed
          ∙ (ap (λ n. nat_lt s.promised n || nat_lt s.committed h.log.committed) r.stands.log.is_promised
          ∙ ap (λ n. nat_lt s.promised raised.state.promised || nat_lt s.committed n) r.stands.log.is_committed))

-- ---- a refusal

module _ (logs : LogsAreTheModels) (h : Holder) (s : model.Replica) (st : HoldsFor h s) (o : IsOrdered h.log) (b : Batch) (b-is : b ≡ empty_batch) (from hint : ℕ) where
  -- nothing comes of what is no peer's
  pub rejected-still : is_peer_at h.me h.log (learners_in h.role) from ≡ false → rejected_heard s s.role from hint ≡ still s
  rejected-still not_so = by_leading (leads_now h.role) refl
    where
      by_leading : (leads : Bool) → leads_now h.role ≡ leads → rejected_heard s s.role from hint ≡ still s
      by_leading false is = unless-leader s.limit s.first h.role s.role st.role is (λ r. rejected_heard s r from hint ≡ still s) refl (λ ids. refl)
      by_leading true is =
          let l = leads-is h.role is in
          let m = leading-model logs h s st o b from l.0 l.1 in
          let peer : is_peer_at h.me h.log (learners_in h.role) from ≡ is_peer s m.0 from =
          ap (λ r. is_peer_at h.me h.log (learners_in r) from) l.1 ∙ peer-is logs h s st o from l.0 m.0 m.1.1 in
          ap (λ r. rejected_heard s r from hint) m.1.0
          ∙ cond-false (is_peer s m.0 from) (rejected_by s (record (m.0) { sendings = without m.0.sendings from }) from hint) (still s) (sym peer ∙ not_so)

  -- a peer's refusal at a leader
  rejected-anew : (l : Leading) → h.role ≡ kept.Leader l → is_peer_at h.me h.log (learners_in h.role) from ≡ true
      → is_sent_anew h.log (progress_in l.progress from) hint ≡ true
      → Does (record h { role = kept.Leader (after_rejected l h.log from hint) }) b (One from) (rejected_heard s s.role from hint)
  rejected-anew l is peer-yes anew =
      let m = leading-model logs h s st o b from l is in
      let p : Progress = progress_in l.progress from in
      let q : Progress = progress_of m.0 from in
      let same : p ≡ q = progress-as s.limit s.first l m.0 m.1.1 from in
      let m' : model.Leading = record (m.0) { sendings = without m.0.sendings from } in
      let next : ℕ = min hint (length s.path) + 1 in
      let next-is : next_after h.log hint ≡ next = ap (λ n. min hint n + 1) (last-model logs h.log s st.log) in
      let parts = and_parts (not (nat_lt hint (base_index h.log))) (not (next_after h.log hint == p.next)) anew in
      let above : nat_lt hint s.base ≡ false = ap (nat_lt hint) (sym (base-model logs h.log s st.log)) ∙ not-true (nat_lt hint (base_index h.log)) parts.0 in
      let other : (next == q.next) ≡ false = ap (λ n. n == q.next) (sym next-is) ∙ (ap (λ (k : Progress). next_after h.log hint == k.next) (sym same) ∙ not-true (next_after h.log hint == p.next) parts.1) in
      let peer : is_peer_at h.me h.log (learners_in h.role) from ≡ is_peer s m.0 from =
      ap (λ r. is_peer_at h.me h.log (learners_in r) from) is ∙ peer-is logs h s st o from l m.0 m.1.1 in
      let after : model.Leading = with_progress m' from (record q { next = next }) in
      let call : rejected_heard s s.role from hint ≡ to_peer (still (leads_with s after)) from =
      ap (λ r. rejected_heard s r from hint) m.1.0
      ∙ (cond-true (is_peer s m.0 from) (rejected_by s m' from hint) (still s) (sym peer ∙ peer-yes)
      ∙ (cond-false (nat_lt hint s.base) (still (leads_with s m')) (sent_from s m' from next) above
      ∙ cond-false (next == q.next) (still (leads_with s m')) (to_peer (still (leads_with s after)) from) other)) in
      let l-is : after_rejected l h.log from hint ≡ with_progress_in (without_sending l from) from (record p { next = next_after h.log hint }) =
      cond-true (is_sent_anew h.log p hint) (with_progress_in (without_sending l from) from (record p { next = next_after h.log hint })) (without_sending l from) anew in
      let p-is : record p { next = next_after h.log hint } ≡ record q { next = next } =
      ap (λ (k : Progress). record k { next = next_after h.log hint }) same ∙ ap (λ n. record q { next = n }) next-is in
      let like : LeadsAs s.limit s.first (with_progress_in (without_sending l from) from (record p { next = next_after h.log hint })) after =
      with-progress-as s (without_sending l from) m' from (record p { next = next_after h.log hint }) (record q { next = next })
      (record { progress = m.1.1.progress; learners = m.1.1.learners; sendings = without-as s.limit s.first l.sendings m.0.sendings m.1.1.sendings from }) p-is in
      subst (Does (record h { role = kept.Leader (after_rejected l h.log from hint) }) b (One from)) (sym call)
      (record {
        reaches = record {
          stands = with-role h s (kept.Leader (after_rejected l h.log from hint)) (model.Leader after) st (subst (λ k. LeadsAs s.limit s.first k after) (sym l-is) like);
          batch_is = b-is;
        };
        sends = refl;
      })

  rejected-noted : (l : Leading) → h.role ≡ kept.Leader l → is_peer_at h.me h.log (learners_in h.role) from ≡ true
      → is_sent_anew h.log (progress_in l.progress from) hint ≡ false
      → Does (record h { role = kept.Leader (after_rejected l h.log from hint) }) b Nobody (rejected_heard s s.role from hint)
  rejected-noted l is peer-yes old =
      let m = leading-model logs h s st o b from l is in
      let p : Progress = progress_in l.progress from in
      let q : Progress = progress_of m.0 from in
      let same : p ≡ q = progress-as s.limit s.first l m.0 m.1.1 from in
      let m' : model.Leading = record (m.0) { sendings = without m.0.sendings from } in
      let next : ℕ = min hint (length s.path) + 1 in
      let next-is : next_after h.log hint ≡ next = ap (λ n. min hint n + 1) (last-model logs h.log s st.log) in
      let peer : is_peer_at h.me h.log (learners_in h.role) from ≡ is_peer s m.0 from =
      ap (λ r. is_peer_at h.me h.log (learners_in r) from) is ∙ peer-is logs h s st o from l m.0 m.1.1 in
      let stays : rejected_by s m' from hint ≡ still (leads_with s m') =
      elim (and_cases (not (nat_lt hint (base_index h.log))) (not (next_after h.log hint == p.next)) old) [
        | inl below ↦
            cond-true (nat_lt hint s.base) (still (leads_with s m')) (sent_from s m' from next)
            (ap (nat_lt hint) (sym (base-model logs h.log s st.log)) ∙ not-false (nat_lt hint (base_index h.log)) below)
        | inr already ↦
            let there : (next == q.next) ≡ true =
            ap (λ n. n == q.next) (sym next-is) ∙ (ap (λ (k : Progress). next_after h.log hint == k.next) (sym same) ∙ not-false (next_after h.log hint == p.next) already) in
            elim (cases_Bool (nat_lt hint s.base)) [
              | inl low ↦ cond-true (nat_lt hint s.base) (still (leads_with s m')) (sent_from s m' from next) low
              | inr high ↦
                  cond-false (nat_lt hint s.base) (still (leads_with s m')) (sent_from s m' from next) high
                  ∙ cond-true (next == q.next) (still (leads_with s m')) (to_peer (still (leads_with s (with_progress m' from (record q { next = next })))) from) there
            ]
      ] in
      let call : rejected_heard s s.role from hint ≡ still (leads_with s m') =
      ap (λ r. rejected_heard s r from hint) m.1.0
      ∙ (cond-true (is_peer s m.0 from) (rejected_by s m' from hint) (still s) (sym peer ∙ peer-yes) ∙ stays) in
      let l-is : after_rejected l h.log from hint ≡ without_sending l from =
      cond-false (is_sent_anew h.log p hint) (with_progress_in (without_sending l from) from (record p { next = next_after h.log hint })) (without_sending l from) old in
      let like : LeadsAs s.limit s.first (without_sending l from) m' =
      record { progress = m.1.1.progress; learners = m.1.1.learners; sendings = without-as s.limit s.first l.sendings m.0.sendings m.1.1.sendings from } in
      subst (Does (record h { role = kept.Leader (after_rejected l h.log from hint) }) b Nobody) (sym call)
      (record {
        reaches = record {
          stands = with-role h s (kept.Leader (after_rejected l h.log from hint)) (model.Leader m') st (subst (λ k. LeadsAs s.limit s.first k m') (sym l-is) like);
          batch_is = b-is;
        };
        sends = refl;
      })

  -- what a peer refuses
  pub rejected-does : (h' : Holder) (anew : Bool) → is_peer_at h.me h.log (learners_in h.role) from ≡ true → anew ≡ is_sent_anew_at h from hint
      → h' ≡ holder_leading h (λ l. after_rejected l h.log from hint) → Does h' b (cond anew (One from) Nobody) (rejected_heard s s.role from hint)
  rejected-does h' anew peer-yes is after =
      subst (λ g. Does g b (cond anew (One from) Nobody) (rejected_heard s s.role from hint)) (sym after)
      (subst (λ a. Does (holder_leading h (λ l. after_rejected l h.log from hint)) b (cond a (One from) Nobody) (rejected_heard s s.role from hint)) (sym is)
      (by_leading (leads_now h.role) refl))
    where
      by_leading : (leads : Bool) → leads_now h.role ≡ leads
          → Does (holder_leading h (λ l. after_rejected l h.log from hint)) b (cond (is_sent_anew_at h from hint) (One from) Nobody) (rejected_heard s s.role from hint)
      by_leading false not_so =
          subst (λ g. Does g b (cond (is_sent_anew_at h from hint) (One from) Nobody) (rejected_heard s s.role from hint))
          (sym (holder-still h (λ l. after_rejected l h.log from hint) not_so))
          (subst (λ a. Does h b (cond a (One from) Nobody) (rejected_heard s s.role from hint))
          (sym (unless-leading h.role (λ l. is_sent_anew h.log (progress_in l.progress from) hint) not_so))
          (subst (Does h b Nobody)
          (sym (unless-leader s.limit s.first h.role s.role st.role not_so (λ r. rejected_heard s r from hint ≡ still s) refl (λ ids. refl))) (still-does h b s st b-is)))
      by_leading true so =
          let l = leads-is h.role so in
          let k : Leading = l.0 in
          subst (λ g. Does g b (cond (is_sent_anew_at h from hint) (One from) Nobody) (rejected_heard s s.role from hint))
          (sym (holder-leads h (λ l. after_rejected l h.log from hint) k l.1))
          (subst (λ a. Does (record h { role = kept.Leader (after_rejected k h.log from hint) }) b (cond a (One from) Nobody) (rejected_heard s s.role from hint))
          (sym (ap (λ r. if_leading r (λ j. is_sent_anew h.log (progress_in j.progress from) hint)) l.1))
          (cond_both (is_sent_anew h.log (progress_in k.progress from) hint) (One from) Nobody
          (λ to. Does (record h { role = kept.Leader (after_rejected k h.log from hint) }) b to (rejected_heard s s.role from hint))
          (λ t. rejected-anew k l.1 peer-yes t) (λ f. rejected-noted k l.1 peer-yes f)))

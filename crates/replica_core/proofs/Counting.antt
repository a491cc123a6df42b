-- Who is a peer of a leader.
use Rattle.std.proofs.Common.{◌≡◌, ℕ, Bool, true, false, cond, not, ◌&&◌, ◌||◌, ◌==◌, List, refl, sym, ap, ◌∙◌}
use Rattle.std.proofs.lemmas.Bool.{eqb-true}
use Rattle.std.proofs.lemmas.Map.Views.{any-filter_same}
use Rattle.group_quorum.specs.Conf.{Conf}
use Rattle.group_quorum.specs.Voters.{is_in}
use Rattle.replica_model.specs.Configs.{older_conf}
use Rattle.replica_model.specs.Replica as model
use Rattle.replica_model.specs.Peers.{united, others, newest, is_pending, voters_counted, is_peer}
use Rattle.replica_model.proofs.Counted.{in_united}
use Rattle.replica_log.specs.Window.{IsOrdered, last_index, conf_at, older_conf_at}
use Rattle.replica_core.specs.Logs.{LogsAreTheModels}
use Rattle.replica_core.specs.declared.role.Leading.{Leading}
use Rattle.replica_core.specs.declared.holder.Holder.{Holder}
use Rattle.replica_core.specs.Standing.{LeadsAs, HoldsFor}
use Rattle.replica_core.specs.Keeping.{is_pending_at, is_peer_at}
use Rattle.replica_core.proofs.Holding.{conf-whole, pending-whole, older-whole}

or-swap : (a b : Bool) → (a || b) ≡ (b || a)
or-swap true true = refl
or-swap true false = refl
or-swap false true = refl
or-swap false false = refl

in-others : (me : ℕ) (ids : List ℕ) (w : ℕ) → is_in (others me ids) w ≡ (not (w == me) && is_in ids w)
in-others me ids w = any-filter_same (λ x. x == w) (λ v. not (v == me)) (not (w == me)) (λ k e. ap (λ x. not (x == me)) (eqb-true k w e)) ids

module _ (logs : LogsAreTheModels) (h : Holder) (s : model.Replica) (st : HoldsFor h s) (o : IsOrdered h.log) (id : ℕ) where
  counted-in : is_in (voters_counted s) id
      ≡ (is_in (conf_at h.log (last_index h.log)).voters id || (is_pending_at h.log && is_in (older_conf_at h.log (last_index h.log)).voters id))
  counted-in = by_pending (is_pending s) refl
    where
      by_pending : (b : Bool) → is_pending s ≡ b → is_in (cond b (united (older_conf s.first s.path).voters (newest s).voters) (newest s).voters) id
          ≡ (is_in (conf_at h.log (last_index h.log)).voters id || (is_pending_at h.log && is_in (older_conf_at h.log (last_index h.log)).voters id))
      by_pending true is =
          in_united (older_conf s.first s.path).voters (newest s).voters id
          ∙ (or-swap (is_in (older_conf s.first s.path).voters id) (is_in (newest s).voters id)
          ∙ (ap (λ b. b || is_in (older_conf s.first s.path).voters id) (ap (λ (k : Conf). is_in k.voters id) (sym (conf-whole logs h.log s st.log)))
          ∙ (ap (λ b. is_in (conf_at h.log (last_index h.log)).voters id || b) (ap (λ (k : Conf). is_in k.voters id) (sym (older-whole logs h.log s st.log o is)))
          ∙ ap (λ b. is_in (conf_at h.log (last_index h.log)).voters id || (b && is_in (older_conf_at h.log (last_index h.log)).voters id))
          (sym (pending-whole logs h.log s st.log ∙ is)))))
      by_pending false is =
          ap (λ (k : Conf). is_in k.voters id) (sym (conf-whole logs h.log s st.log))
          ∙ (or-false (is_in (conf_at h.log (last_index h.log)).voters id)
          ∙ ap (λ b. is_in (conf_at h.log (last_index h.log)).voters id || (b && is_in (older_conf_at h.log (last_index h.log)).voters id))
          (sym (pending-whole logs h.log s st.log ∙ is)))
        where
          or-false : (a : Bool) → a ≡ (a || false)
          or-false true = refl
          or-false false = refl

  pub peer-is : (l : Leading) (m : model.Leading) → LeadsAs s.limit s.first l m → is_peer_at h.me h.log l.learners id ≡ is_peer s m id
  peer-is l m like =
      ap (λ v. not (id == v) && (is_in l.learners id || (is_in (conf_at h.log (last_index h.log)).voters id || (is_pending_at h.log && is_in (older_conf_at h.log (last_index h.log)).voters id)))) st.me
      ∙ (ap (λ vs. not (id == s.me) && (is_in vs id || (is_in (conf_at h.log (last_index h.log)).voters id || (is_pending_at h.log && is_in (older_conf_at h.log (last_index h.log)).voters id)))) like.learners
      ∙ (ap (λ b. not (id == s.me) && (is_in m.learners id || b)) (sym counted-in)
      ∙ (ap (λ b. not (id == s.me) && b) (sym (in_united m.learners (voters_counted s) id)) ∙ sym (in-others s.me (united m.learners (voters_counted s)) id))))

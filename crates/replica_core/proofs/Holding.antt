-- What a model replica has for which a replica stands.
use Rattle.std.proofs.Common.{◌≡◌, ℕ, ◌<◌, ◌≤◌, Bool, true, false, cond, nat_lt, List, [], ◌∷◌, ◌++◌, length, take, refl, sym, ap, subst, ◌∙◌, arith}
use Rattle.std.proofs.lemmas.Bool.{ltb-true}
use Rattle.std.proofs.lemmas.List.{take_all, map-append}
use Rattle.values.specs.declared.batch.Batch.{Batch}
use Rattle.values.specs.declared.peer.PeerMsg.{PeerMsg}
use Rattle.group_quorum.specs.Conf.{Conf}
use Rattle.replica_model.specs.Replica as model
use Rattle.replica_model.specs.Linked.{sha_link}
use Rattle.replica_model.specs.Configs.{conf, conf_index, older_conf}
use Rattle.replica_model.specs.Message.{Message}
use Rattle.replica_model.specs.Peers.{newest, is_pending, united, others, voters_counted, peers}
use Rattle.replica_model.specs.Call.{Call, empty_batch, send_to}
use Rattle.replica_model.specs.Send.{with_sent}
use Rattle.replica_log.specs.Window.{Window, IsOrdered, base_index, last_index, conf_at, conf_index_at, older_conf_at, configs_at}
use Rattle.replica_log.specs.Models.{StandsFor as LogStandsFor, SameIndices, AreConfigs}
use Rattle.vote_rules.specs.Elections.{CountsBy}
use Rattle.vote_rules.specs.Candidates.{ids_of}
use Rattle.vote_rules.specs.declared.votes.Votes.{Votes}
use Rattle.replica_core.specs.Logs.{LogsAreTheModels}
use Rattle.replica_core.specs.declared.role.Role.{Role}
use Rattle.replica_core.specs.declared.role.Role.TheVariants as kept
use Rattle.replica_core.specs.declared.role.Leading.{Leading}
use Rattle.replica_core.specs.declared.holder.Holder.{Holder}
use Rattle.replica_core.specs.Standing.{LeadsAs, RoleAs, HoldsFor}
use Rattle.replica_core.specs.Keeping.{leads_now, is_pending_at, counted_at, peers_at}

-- a leader's model leads with the same
pub leader-as : (limit : ℕ) (first : Conf) (l : Leading) (r : model.Role) → RoleAs limit first (kept.Leader l) r
    → (m : model.Leading) × ((r ≡ model.Leader m) × LeadsAs limit first l m)
leader-as limit first l (model.Learner taking) h = absurd h
leader-as limit first l model.Follower h = absurd h
leader-as limit first l (model.Candidate ids) h = absurd h
leader-as limit first l (model.Leader m) h = (m, (refl, h))

-- a candidate's model has the same votes
pub candidate-as : (limit : ℕ) (first : Conf) (votes : Votes) (r : model.Role) → RoleAs limit first (kept.Candidate votes) r
    → (ids : List ℕ) × ((r ≡ model.Candidate ids) × (ids_of votes ≡ ids))
candidate-as limit first votes (model.Learner taking) h = absurd h
candidate-as limit first votes model.Follower h = absurd h
candidate-as limit first votes (model.Candidate ids) h = (ids, (refl, h))
candidate-as limit first votes (model.Leader m) h = absurd h

-- and the model of a replica that does not lead is a follower or a candidate
pub unless-leader : (limit : ℕ) (first : Conf) (role : Role) (r : model.Role) → RoleAs limit first role r → leads_now role ≡ false
    → (P : model.Role → Type 0) → P model.Follower → ((ids : List ℕ) → P (model.Candidate ids)) → P r
unless-leader limit first kept.Follower (model.Learner taking) h not_so P p q = absurd h
unless-leader limit first kept.Follower model.Follower h not_so P p q = p
unless-leader limit first kept.Follower (model.Candidate ids) h not_so P p q = absurd h
unless-leader limit first kept.Follower (model.Leader m) h not_so P p q = absurd h
unless-leader limit first (kept.Candidate votes) (model.Learner taking) h not_so P p q = absurd h
unless-leader limit first (kept.Candidate votes) model.Follower h not_so P p q = absurd h
unless-leader limit first (kept.Candidate votes) (model.Candidate ids) h not_so P p q = q ids
unless-leader limit first (kept.Candidate votes) (model.Leader m) h not_so P p q = absurd h
unless-leader limit first (kept.Leader l) r h not_so P p q = cc

-- a replica that holds a log is no learner that holds nothing
pub unless-learner : (limit : ℕ) (first : Conf) (role : Role) (r : model.Role) → RoleAs limit first role r
    → (P : model.Role → Type 0) → P model.Follower → ((ids : List ℕ) → P (model.Candidate ids)) → ((m : model.Leading) → P (model.Leader m)) → P r
unless-learner limit first kept.Follower (model.Learner taking) h P p q d = absurd h
unless-learner limit first (kept.Candidate votes) (model.Learner taking) h P p q d = absurd h
unless-learner limit first (kept.Leader l) (model.Learner taking) h P p q d = absurd h
unless-learner limit first role model.Follower h P p q d = p
unless-learner limit first role (model.Candidate ids) h P p q d = q ids
unless-learner limit first role (model.Leader m) h P p q d = d m

-- the whole log of a model replica
module _ (logs : LogsAreTheModels) (w : Window) (s : model.Replica) (st : LogStandsFor sha_link w s) where
  same : SameIndices w s
  same = logs.indices sha_link w s st

  pub last-model : last_index w ≡ length s.path
  last-model = same.last

  pub base-model : base_index w ≡ s.base
  base-model = same.base

  pub base-below : IsOrdered w → s.base ≤ s.committed
  base-below o = let a = o.committed in let b = st.is_committed in let e = same.base in omega (arith, a, b, e)

  whole : take (last_index w) s.path ≡ s.path
  whole = take_all (last_index w) s.path (let e = same.last in omega (arith, e))

  pub at-last : s.base ≤ last_index w
  at-last = let e = same.last in let d = st.within in omega (arith, e, d)

  pub conf-whole : conf_at w (last_index w) ≡ newest s
  conf-whole = (logs.newest sha_link w s st (last_index w) at-last).conf ∙ ap (conf s.first) whole

  pub conf_index-whole : conf_index_at w (last_index w) ≡ conf_index s.path
  conf_index-whole = (logs.newest sha_link w s st (last_index w) at-last).index ∙ ap conf_index whole

  pub pending-whole : is_pending_at w ≡ is_pending s
  pending-whole = ap (λ n. nat_lt n (conf_index_at w (last_index w))) st.is_committed ∙ ap (nat_lt s.committed) conf_index-whole

  module _ (o : IsOrdered w) where
    pub older-whole : is_pending s ≡ true → older_conf_at w (last_index w) ≡ older_conf s.first s.path
    older-whole pending =
        let above : s.committed < conf_index s.path = ltb-true s.committed (conf_index s.path) pending in
        (logs.configs sha_link w o s st (last_index w) at-last).older (let e = conf_index-whole in omega (arith, above, e))
        ∙ ap (older_conf s.first) whole

    counted : (b : Bool) → is_pending s ≡ b
        → cond b (united (older_conf_at w (last_index w)).voters (newest s).voters) (newest s).voters
        ≡ cond b (united (older_conf s.first s.path).voters (newest s).voters) (newest s).voters
    counted true is = ap (λ (n : Conf). united n.voters (newest s).voters) (older-whole is)
    counted false is = refl

    pub counted-whole : counted_at w ≡ voters_counted s
    counted-whole =
        ap (λ b. cond b (united (older_conf_at w (last_index w)).voters (conf_at w (last_index w)).voters) (conf_at w (last_index w)).voters) pending-whole
        ∙ (ap (λ (n : Conf). cond (is_pending s) (united (older_conf_at w (last_index w)).voters n.voters) n.voters) conf-whole
        ∙ counted (is_pending s) refl)

    pub are-configs : AreConfigs s (length s.path) (configs_at w (last_index w))
    are-configs = subst (λ n. AreConfigs s n (configs_at w (last_index w))) same.last (logs.configs sha_link w o s st (last_index w) at-last)

    pub counts-by : CountsBy s (configs_at w (last_index w)) w.committed
    counts-by = record { are_configs = are-configs; is_committed = sym st.is_committed }

-- the peers of a leader
pub peers-model : (logs : LogsAreTheModels) (h : Holder) (s : model.Replica) (st : HoldsFor h s) (o : IsOrdered h.log) (l : Leading) (m : model.Leading) → LeadsAs s.limit s.first l m
    → peers_at h.me h.log l.learners ≡ peers s m
peers-model logs h s st o l m like =
    ap (λ v. others v (united l.learners (counted_at h.log))) st.me
    ∙ (ap (λ vs. others s.me (united vs (counted_at h.log))) like.learners
    ∙ ap (λ vs. others s.me (united m.learners vs)) (counted-whole logs h.log s st.log o))

-- one message more
pub sent-more : (b : Batch) (c : Call) (s : model.Replica) (v : ℕ) (m : Message) → b ≡ (with_sent c).batch
    → record b { sent = b.sent ++ (v, m.msg) ∷ [] } ≡ (with_sent (send_to (record c { state = s }) v m)).batch
sent-more b c s v m is =
    ap (λ (d : Batch). record d { sent = d.sent ++ (v, m.msg) ∷ [] }) is
    ∙ ap (λ xs. record (c.batch) { sent = xs }) (sym (map-append (λ (x : ℕ × Message). (x.0, x.1.msg)) c.sent ((v, m) ∷ [])))

-- the one message of a call
pub said : (b : Batch) (v : ℕ) (msg : PeerMsg) (sent : List (ℕ × PeerMsg)) → b ≡ empty_batch → sent ≡ b.sent ++ (v, msg) ∷ []
    → record b { sent = sent } ≡ record empty_batch { sent = (v, msg) ∷ [] }
said b v msg sent empty is =
    ap (λ xs. record b { sent = xs }) is ∙ ap (λ (d : Batch). record d { sent = d.sent ++ (v, msg) ∷ [] }) empty

-- Elections, as the model's.
use Rattle.std.proofs.Common.{◌≡◌, ℕ, ◌+◌, Bool, true, false, not, ◌&&◌, ◌||◌, ◌==◌, Some, List, [], ◌∷◌, ◌++◌, length, map, refl, sym, ap, subst, ◌∙◌, arith}
use Rattle.std.proofs.lemmas.Bool.{cond-true, cond-false}
use Rattle.std.proofs.lemmas.List.{take-append-le}
use Rattle.values.specs.declared.batch.Batch.{Batch}
use Rattle.values.specs.declared.entry.Body.{Body}
use Rattle.values.specs.declared.entry.Body.TheVariants.{Noop}
use Rattle.values.specs.declared.limits.TheConstants.{TOP}
use Rattle.values.specs.declared.peer.PeerMsg.{PeerMsg}
use Rattle.values.specs.declared.peer.PeerMsg.TheVariants.{AskVote}
use Rattle.group_quorum.specs.Conf.{Conf}
use Rattle.group_quorum.specs.Voters.{is_in}
use Rattle.replica_model.specs.Path.{last_term}
use Rattle.replica_model.specs.Folds.{fold_of}
use Rattle.replica_model.specs.Linked.{sha_link}
use Rattle.replica_model.specs.Message.{Message, plain}
use Rattle.replica_model.specs.Replica as model
use Rattle.replica_model.specs.Peers.{newest, is_voter, others, voters_counted}
use Rattle.replica_model.specs.Call.{Call, still, empty_batch}
use Rattle.replica_model.specs.Raise.{pushed, raise, raise_and_send}
use Rattle.replica_model.specs.Votes.{is_elected, with_vote, leading_anew, led, win, stood, asks_votes, stands, stand}
use Rattle.replica_log.specs.declared.configs.Configs.{Configs}
use Rattle.replica_log.specs.Window.{Window, IsOrdered, last_index, conf_at, configs_at}
use Rattle.replica_log.specs.Models.{StandsFor as LogStandsFor}
use Rattle.vote_rules.specs.Elections.{CountsBy}
use Rattle.vote_rules.specs.Candidates.{ids_of}
use Rattle.vote_rules.specs.declared.votes.Votes.{Votes}
use Rattle.vote_rules.specs.declared.ballot.Ballot.{Ballot}
use Rattle.replica_core.specs.Logs.{LogsAreTheModels}
use Rattle.replica_core.specs.declared.role.Role.TheVariants as kept
use Rattle.replica_core.specs.declared.role.Leading.{Leading}
use Rattle.replica_core.specs.declared.holder.Holder.{Holder}
use Rattle.replica_core.specs.declared.send.Appends.TheVariants.{Nobody, Everyone}
use Rattle.replica_core.specs.Standing.{SendingsAs, RoleAs, HoldsFor}
use Rattle.replica_core.specs.Keeping.{counted_at, others_counted}
use Rattle.replica_core.specs.Calling.{Reaches, Does}
use Rattle.replica_core.proofs.Holding.{last-model, conf-whole, counted-whole, counts-by}

-- a raise, and appends to every peer
pub everyone-does : (h : Holder) (b : Batch) (c : Call) (l : model.Leading) → c.state.role ≡ model.Leader l → Reaches h b (raise c l)
    → Does h b Everyone (raise_and_send c l)
everyone-does h b c l leads r = record { reaches = record { stands = r.stands; batch_is = r.batch_is }; sends = (l, (leads, refl)) }

-- an entry of its term at the end of its log
pub pushed-stands : (logs : LogsAreTheModels) (h : Holder) (s : model.Replica) (w : Window) (body : Body) → HoldsFor h s → IsOrdered h.log
    → LogStandsFor sha_link w (record s { path = s.path ++ record { term = h.ballot.term; body = body } ∷ [] })
    → RoleAs s.limit s.first h.role s.role → HoldsFor (record h { log = w }) (pushed s body)
pushed-stands logs h s w body st o log role =
    let a = o.promised in
    let d = o.last in
    let e = st.log.is_committed in
    let l = last-model logs h.log s st.log in
    record {
      me = st.me;
      term = st.term;
      vote = st.vote;
      known = st.known;
      log = subst (λ n. LogStandsFor sha_link w (record s { path = s.path ++ record { term = n; body = body } ∷ [] })) st.term log;
      table = st.table ∙ ap (fold_of s.limit) (sym (take-append-le s.committed s.path (record { term = s.term; body = body } ∷ []) (omega (arith, a, d, e, l))));
      role = role;
      tickets = st.tickets;
      halted = st.halted;
    }

told-asks : (msg : PeerMsg) (vs : List ℕ) → map {B = ℕ × PeerMsg} (λ (x : ℕ × Message). (x.0, x.1.msg)) (map {B = ℕ × Message} (λ v. (v, plain msg)) vs) ≡ map {B = ℕ × PeerMsg} (λ v. (v, msg)) vs
told-asks msg [] = refl
told-asks msg (v ∷ vs) = ap (λ xs. (v, msg) ∷ xs) (told-asks msg vs)

module _ (s : model.Replica) where
  pub stand-still : (is_voter s && not (s.term == TOP || length s.path == TOP)) ≡ false → stand s ≡ still s
  stand-still not_so = cond-false (is_voter s && not (s.term == TOP || length s.path == TOP)) (stands (stood s)) (still s) not_so

  pub stand-on : (is_voter s && not (s.term == TOP || length s.path == TOP)) ≡ true → stand s ≡ stands (stood s)
  stand-on so = cond-true (is_voter s && not (s.term == TOP || length s.path == TOP)) (stands (stood s)) (still s) so

-- it is a voter of its newest configuration
pub voter-same : (logs : LogsAreTheModels) (h : Holder) (s : model.Replica) → HoldsFor h s → is_in (conf_at h.log (last_index h.log)).voters h.me ≡ is_voter s
voter-same logs h s st = ap (λ (n : Conf). is_in n.voters h.me) (conf-whole logs h.log s st.log) ∙ ap (is_in (newest s).voters) st.me

module _ (logs : LogsAreTheModels) (h : Holder) (s : model.Replica) (st : HoldsFor h s) (o : IsOrdered h.log) where
  pub others-model : others_counted h.me h.log ≡ others s.me (voters_counted s)
  others-model = ap (λ v. others v (counted_at h.log)) st.me ∙ ap (others s.me) (counted-whole logs h.log s st.log o)

  -- it asks each other voter that counts
  pub asks-does : (b : Batch) → b ≡ empty_batch → (last term : ℕ) → last ≡ last_index h.log → term ≡ last_term s.path → (vs : List ℕ) → vs ≡ others_counted h.me h.log
      → (d : Batch) → d ≡ record b { sent = b.sent ++ map (λ v. (v, AskVote h.ballot.term last term)) vs } → Does h d Nobody (asks_votes s)
  asks-does b empty last term last-is term-is vs vs-is d d-is =
      let msg : PeerMsg = AskVote s.term (length s.path) (last_term s.path) in
      let ws : List ℕ = others s.me (voters_counted s) in
      record {
        reaches = record {
          stands = st;
          batch_is =
              d-is
              ∙ (ap (λ n. record b { sent = b.sent ++ map (λ v. (v, AskVote n last term)) vs }) st.term
              ∙ (ap (λ n. record b { sent = b.sent ++ map (λ v. (v, AskVote s.term n term)) vs }) (last-is ∙ last-model logs h.log s st.log)
              ∙ (ap (λ n. record b { sent = b.sent ++ map (λ v. (v, AskVote s.term (length s.path) n)) vs }) term-is
              ∙ (ap (λ us. record b { sent = b.sent ++ map (λ v. (v, msg)) us }) (vs-is ∙ others-model)
              ∙ (ap (λ (x : Batch). record x { sent = x.sent ++ map (λ v. (v, msg)) ws }) empty
              ∙ ap (λ xs. record empty_batch { sent = xs }) (sym (told-asks msg ws)))))));
        };
        sends = refl;
      }

  -- a new leader, before its first entry
  pub led-stands : (l : Leading) → l.progress ≡ map (λ v. (v, record { next = last_index h.log + 1; mark = 0; promised = 0 })) (others_counted h.me h.log)
      → l.learners ≡ [] → l.sendings ≡ [] → HoldsFor (record h { role = kept.Leader l; known = h.me }) (led s (leading_anew s))
  led-stands l progress learners sendings =
      record {
        me = st.me;
        term = st.term;
        vote = st.vote;
        known = st.me;
        log = st.log;
        table = st.table;
        role = record {
          progress =
              progress
              ∙ (ap (λ n. map (λ v. (v, record { next = n + 1; mark = 0; promised = 0 })) (others_counted h.me h.log)) (last-model logs h.log s st.log)
              ∙ ap (map (λ v. (v, record { next = length s.path + 1; mark = 0; promised = 0 }))) others-model);
          learners = learners;
          sendings = subst (λ ks. SendingsAs s.limit s.first ks []) (sym sendings) tt;
        };
        tickets = st.tickets;
        halted = st.halted;
      }

  -- the call of a new leader, before it raises
  abbrev pub winning : Call
  winning = record (still (pushed (led s (leading_anew s)) Noop)) { batch = record empty_batch { lead = Some s.term } }

  pub wins-reaches : (b : Batch) → b ≡ empty_batch → (l : Leading) (w : Window)
      → l.progress ≡ map (λ v. (v, record { next = last_index h.log + 1; mark = 0; promised = 0 })) (others_counted h.me h.log)
      → l.learners ≡ [] → l.sendings ≡ []
      → LogStandsFor sha_link w (record s { path = s.path ++ record { term = h.ballot.term; body = Noop } ∷ [] })
      → Reaches (record h { role = kept.Leader l; known = h.me; log = w }) (record b { lead = Some h.ballot.term }) winning
  wins-reaches b empty l w progress learners sendings log =
      let led-is = led-stands l progress learners sendings in
      record {
        stands = pushed-stands logs (record h { role = kept.Leader l; known = h.me }) (led s (leading_anew s)) w Noop led-is o log led-is.role;
        batch_is = ap (λ n. record b { lead = Some n }) st.term ∙ ap (λ (d : Batch). record d { lead = Some s.term }) empty;
      }

  pub wins-does : (h' : Holder) (b' : Batch) → Reaches h' b' (raise winning (leading_anew s)) → Does h' b' Everyone (win s)
  wins-does h' b' r = everyone-does h' b' winning (leading_anew s) refl r

  -- ---- it stands, or it hears a vote

  -- it counts by the same configurations, whatever its term, its vote and its role are
  pub counts-stood : (t : ℕ) (v k : ℕ) (r : model.Role) → CountsBy (record s { term = t; vote = v; known = k; role = r }) (configs_at h.log (last_index h.log)) h.log.committed
  counts-stood t v k r =
      let c = counts-by logs h.log s st.log o in
      let a = c.are_configs in
      record { are_configs = record { newest = a.newest; newest_index = a.newest_index; older = a.older }; is_committed = c.is_committed }

  -- its own vote, counted by the rule of votes
  pub own-vote : (configs : Configs) → configs ≡ configs_at h.log (last_index h.log) → (committed : ℕ) → committed ≡ h.log.committed → (votes : Votes) (won : Bool)
      → ids_of votes ≡ h.me ∷ [] → ((r : model.Replica) → CountsBy r configs committed → won ≡ is_elected r (ids_of votes))
      → won ≡ is_elected (stood s) (s.me ∷ [])
  own-vote configs configs-is committed committed-is votes won ids-is rule =
      let counts : CountsBy (stood s) configs committed =
      subst (λ n. CountsBy (stood s) configs n) (sym committed-is)
      (subst (λ k. CountsBy (stood s) k h.log.committed) (sym configs-is) (counts-stood (s.term + 1) s.me 0 (model.Candidate (s.me ∷ [])))) in
      rule (stood s) counts ∙ ap (is_elected (stood s)) (ids-is ∙ ap (λ v. v ∷ []) st.me)

  pub stood-stands : (ballot : Ballot) → ballot ≡ record { term = h.ballot.term + 1; vote = h.me } → (votes : Votes)
      → ids_of votes ≡ h.me ∷ []
      → HoldsFor (record h { ballot = ballot; known = 0; role = kept.Candidate votes }) (stood s)
  stood-stands ballot is votes ids-is =
      record {
        me = st.me;
        term = ap (λ (x : Ballot). x.term) is ∙ ap (λ n. n + 1) st.term;
        vote = ap (λ (x : Ballot). x.vote) is ∙ st.me;
        known = refl;
        log = st.log;
        table = st.table;
        role = ids-is ∙ ap (λ v. v ∷ []) st.me;
        tickets = st.tickets;
        halted = st.halted;
      }

  pub stand-wins : (is_voter s && not (s.term == TOP || length s.path == TOP)) ≡ true → is_elected (stood s) (s.me ∷ []) ≡ true → stand s ≡ win (stood s)
  stand-wins so won = stand-on s so ∙ cond-true (is_elected (stood s) (s.me ∷ [])) (win (stood s)) (asks_votes (stood s)) won

  pub stand-asks : (is_voter s && not (s.term == TOP || length s.path == TOP)) ≡ true → is_elected (stood s) (s.me ∷ []) ≡ false → stand s ≡ asks_votes (stood s)
  stand-asks so lost = stand-on s so ∙ cond-false (is_elected (stood s) (s.me ∷ [])) (win (stood s)) (asks_votes (stood s)) lost

  pub record Counted (won : Bool) (votes : Votes) (ids : List ℕ) : Type 0 where
    pub elected : won ≡ is_elected s ids
    pub same : ids_of votes ≡ ids

  pub counted-vote : (configs : Configs) → configs ≡ configs_at h.log (last_index h.log) → (committed : ℕ) → committed ≡ h.log.committed → (before after : Votes) (won : Bool)
      (from : ℕ) (ids : List ℕ) → ids_of before ≡ ids
      → ((r : model.Replica) → CountsBy r configs committed → (ids_of after ≡ with_vote r (ids_of before) from) × (won ≡ is_elected r (ids_of after)))
      → Counted won after (with_vote s ids from)
  counted-vote configs configs-is committed committed-is before after won from ids same rule =
      let counts : CountsBy s configs committed =
      subst (λ n. CountsBy s configs n) (sym committed-is) (subst (λ k. CountsBy s k h.log.committed) (sym configs-is) (counts-by logs h.log s st.log o)) in
      let told = rule s counts in
      let is : ids_of after ≡ with_vote s ids from = told.0 ∙ ap (λ vs. with_vote s vs from) same in
      record { elected = told.1 ∙ ap (is_elected s) is; same = is }

use Rattle.std.proofs.Common.{◌≡◌, refl, sym, ap, subst, ◌∙◌}
use Rattle.std.proofs.lemmas.Bool.{cond_both}
use Rattle.values.specs.declared.peer.PeerMsg.TheVariants.{Vote}
use Rattle.replica_model.specs.Replica as model
use Rattle.replica_model.specs.Call.{says}
use Rattle.vote_rules.specs.declared.ballot.Ballot.{Ballot}
use Rattle.replica_core.specs.declared.send.Appends.TheVariants.{Nobody}
use Rattle.replica_core.specs.Calling.{Does}
use Rattle.replica_core.proofs.Calls.{says-does}
use Rattle.replica_core.proofs.Holding.{last-model}
use Rattle.group_msgs.specs.Ranges.{IsIndex}
use Rattle.replica_core.specs.Ranges.{IsStepBatch}
use Rattle.replica_core.proofs.Ranged.{sent-in, ballot-in}
use Rattle.replica_core.proofs.holder.Holder.vote_asked.Goals as goal

pub returns-clause-model : goal.returns-clause-model
returns-clause-model c = λ s st.
    let h = c.args.self.now in
    let b = c.args.batch.now in
    let old : Ballot = h.ballot in
    let new : Ballot = c.judge_ask-granted.new.ballot in
    let granted = c.judge_ask-granted.result in
    let call = c.judge_ask-granted.ensures.model s (record {
      vote = sym st.vote;
      last_index = sym (c.last.ensures.last ∙ last-model c.logs_are_the_models.ensures h.log s st.log);
      last_term = sym (c.last_term.ensures.model s st.log);
    }) in
    let term : new.term ≡ s.term =
    ap (λ (x : Ballot). x.term) c.judge_ask-granted.ensures.ballot
    ∙ (cond_both granted (record old { vote = c.args.from }) old (λ (x : Ballot). x.term ≡ old.term) (λ t. refl) (λ f. refl) ∙ st.term) in
    let after : model.Replica = record s { vote = new.vote } in
    subst (Does (record h { ballot = new }) (record b { sent = c.push.new.self }) Nobody) (sym call)
    (subst (λ n. Does (record h { ballot = new }) (record b { sent = c.push.new.self }) Nobody (says after c.args.from (Vote n granted))) term
    (says-does (record h { ballot = new }) b after
    (record { me = st.me; term = term; vote = refl; known = st.known; log = st.log; table = st.table; role = st.role; tickets = st.tickets; halted = st.halted })
    c.requires.empty c.args.from (Vote new.term granted) c.push.new.self c.in_ok-push.ensures.ok))

pub returns-clause-in_range : goal.returns-clause-in_range
returns-clause-in_range c = λ id ranged in_b.
    let h = c.args.self.now in
    let b = c.args.batch.now in
    let old : Ballot = h.ballot in
    let new : Ballot = c.judge_ask-granted.new.ballot in
    let granted = c.judge_ask-granted.result in
    let term : new.term ≡ old.term =
    ap (λ (x : Ballot). x.term) c.judge_ask-granted.ensures.ballot
    ∙ cond_both granted (record old { vote = c.args.from }) old (λ (x : Ballot). x.term ≡ old.term) (λ t. refl) (λ f. refl) in (
      ballot-in h new ranged,
      (
        subst (λ xs. IsStepBatch (record b { sent = xs })) (sym c.in_ok-push.ensures.ok)
            (sent-in b in_b c.args.from (Vote new.term granted) id (subst IsIndex (sym term) c.requires.sound.term, tt)),
        tt,
      ),
    )

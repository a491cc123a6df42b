use Rattle.std.proofs.Common.{ℕ, ◌++◌, ◌∷◌, [], List, map, get_or, All, sym, ap, subst, ◌∙◌, append-nil}
use Rattle.std.proofs.lemmas.List.Elements.{All-get_or}
use Rattle.group_quorum.specs.Voters.{IsId}
use Rattle.group_msgs.specs.Ranges.{IsIndex}
use Rattle.replica_core.specs.declared.holder.Holder.{Holder}
use Rattle.replica_core.specs.Ranges.{IsStepBatch}
use Rattle.replica_core.proofs.Ranged.{sent-in, others_counted-ids, last_term-in}
use Rattle.std.proofs.lemmas.List.{take_all}
use Rattle.values.specs.declared.batch.Batch.{Batch}
use Rattle.values.specs.declared.peer.PeerMsg.{PeerMsg}
use Rattle.values.specs.declared.peer.PeerMsg.TheVariants.{AskVote}
use Rattle.replica_core.proofs.Listed.{map-more}
use Rattle.replica_core.proofs.Wins.{asks-does}
use Rattle.replica_core.proofs.holder.Holder.ask_votes.Goals as goal

pub loop-voter-init : goal.loop-voter-init
loop-voter-init c = record {
  batch = ap (λ xs. record (c.args.batch.now) { sent = xs }) (sym (append-nil c.args.batch.now.sent));
  in_range = λ ids terms b. b;
}

pub loop-voter-preserved : goal.loop-voter-preserved
loop-voter-preserved c = record {
  batch =
      let vs : List ℕ = c.as_slice-voter-items.result.now in
      let i : ℕ = c.loop-voter.voter-index in
      let b : Batch = c.args.batch.now in
      let d : Batch = c.loop-voter.batch in
      let msg : PeerMsg = AskVote c.args.self.now.ballot.term c.last-last_index.result c.last_term-last_term.result in
      ap (λ xs. record d { sent = xs }) c.in_ok-push.ensures.ok
      ∙ (ap (λ (x : Batch). record x { sent = x.sent ++ (get_or vs i 0, msg) ∷ [] }) c.loop-voter.invariant.batch
      ∙ ap (λ xs. record b { sent = xs }) (map-more (λ (v : ℕ). (v, msg)) vs i 0 b.sent c.loop-voter-test.true));
  in_range = λ ids terms b.
      let vs : List ℕ = c.as_slice-voter-items.result.now in
      let d : Batch = c.loop-voter.batch in
      subst (λ xs. IsStepBatch (record d { sent = xs })) (sym c.in_ok-push.ensures.ok)
      (sent-in d (c.loop-voter.invariant.in_range ids terms b) (get_or vs c.loop-voter.voter-index 0)
      (AskVote c.args.self.now.ballot.term c.last-last_index.result c.last_term-last_term.result)
      (All-get_or IsId vs c.loop-voter.voter-index 0 c.loop-voter-test.true ids) terms);
}

pub returns-clause-model : goal.returns-clause-model
returns-clause-model c = λ s st.
    let vs : List ℕ = c.as_slice-voter-items.result.now in
    let b : Batch = c.args.batch.now in
    let msg : PeerMsg = AskVote c.args.self.now.ballot.term c.last-last_index.result c.last_term-last_term.result in
    asks-does c.logs_are_the_models.ensures c.args.self.now s st c.last-last_index.ensures.ordered b c.requires.empty c.last-last_index.result c.last_term-last_term.result c.last-last_index.ensures.last
    (c.last_term-last_term.ensures.model s st.log) vs (c.as_slice-voter-items.ensures ∙ c.in_ok-other_voters.ensures) c.loop-voter.batch
    (c.loop-voter.invariant.batch ∙ ap (λ ws. record b { sent = b.sent ++ map (λ (v : ℕ). (v, msg)) ws }) (take_all c.loop-voter.voter-index vs c.loop-voter-test.false))

pub returns-clause-in_range : goal.returns-clause-in_range
returns-clause-in_range c = λ ranged b.
    let h : Holder = c.args.self.now in
    let o = c.last-last_index.ensures.ordered in (
      ranged,
      (
        c.loop-voter.invariant.in_range
            (subst (All IsId) (sym (c.as_slice-voter-items.ensures ∙ c.in_ok-other_voters.ensures)) (others_counted-ids h ranged))
            (c.requires.sound.term, (subst IsIndex (sym c.last-last_index.ensures.last) o.top, subst IsIndex (sym c.last_term-last_term.ensures.term) (last_term-in h ranged))) b,
        tt,
      ),
    )

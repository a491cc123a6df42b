use Rattle.std.proofs.Common.{◌≡◌, ℕ, Some, None, List, [], ◌∷◌, ◌++◌, take, get_or, sym, ap, subst, ◌∙◌, append-nil, append_assoc}
use Rattle.std.specs.Prelude.{option_copied}
use Rattle.std.proofs.lemmas.List.{take_all, take_more}
use Rattle.std.proofs.lemmas.List.Elements.{All-get_or}
use Rattle.group_quorum.specs.Voters.{IsId}
use Rattle.values.specs.declared.peer.TablePart.{TablePart}
use Rattle.replica_core.specs.Ranges.{IsStepBatch}
use Rattle.replica_core.specs.InRange.{IsSendingInRange}
use Rattle.replica_core.proofs.Ranged.{sent-in, part-in, value-in}
use Rattle.values.specs.declared.batch.Batch.{Batch}
use Rattle.values.specs.declared.peer.PeerMsg.{PeerMsg}
use Rattle.values.specs.declared.peer.PeerMsg.TheVariants.{Part}
use Rattle.replica_model.specs.Keyed.{value_at}
use Rattle.replica_model.specs.Linked.{sha_link}
use Rattle.table_transfer.specs.SentTable.{SentTable}
use Rattle.replica_core.specs.Sending.{parts_as}
use Rattle.replica_core.proofs.Again.{parts-none, parts-one}
use Rattle.replica_core.proofs.Leads.{ValueAs, value-as}
use Rattle.replica_core.proofs.role.Leading.send_parts_again.Goals as goal

pub loop-peer-init : goal.loop-peer-init
loop-peer-init c = record {
  model = λ limit first sendings same. ap (λ xs. record (c.args.batch.now) { sent = xs }) (sym (append-nil c.args.batch.now.sent));
  in_range = λ ids term ranged b. b;
}

pub loop-peer-preserved : goal.loop-peer-preserved
loop-peer-preserved c = record {
  model = λ limit first sendings same.
      let b : Batch = c.args.batch.now in
      let vs : List ℕ = c.args.peers.now in
      let i : ℕ = c.loop-peer.peer-index in
      let v : ℕ = get_or vs i 0 in
      let k : SentTable = c.in-Some.sending.now in
      let so_far : List (ℕ × PeerMsg) = parts_as limit first c.args.term sendings (take i vs) in
      let is : Some k ≡ value_at c.args.self.now.sendings v = ap option_copied (sym c.in-Some.is) ∙ c.get.ensures in
      let value : ValueAs limit first (Some k) (value_at sendings v) =
      subst (λ o. ValueAs limit first o (value_at sendings v)) (sym is) (value-as limit first c.args.self.now.sendings sendings same v) in
      ap (λ xs. record (c.loop-peer.batch) { sent = xs }) c.in_ok-push.ensures.ok
      ∙ (ap (λ (d : Batch). record d { sent = d.sent ++ (v, Part c.args.term c.in_ok-part.part) ∷ [] }) (c.loop-peer.invariant.model limit first sendings same)
      ∙ ap (λ xs. record b { sent = xs }) (append_assoc b.sent so_far ((v, Part c.args.term c.in_ok-part.part) ∷ [])
      ∙ ap (λ xs. b.sent ++ xs) (sym (ap (parts_as limit first c.args.term sendings) (take_more vs i 0 c.loop-peer-test.true)
      ∙ parts-one limit first c.args.term sendings (take i vs) v k c.in_ok-part.part value (ap (λ p. p.part) c.in_ok-part.ensures.outstanding)
      (λ m sends. c.in_ok-part.ensures.of_path sha_link (record { path = m.path; limit = limit; first = first }) sends.of_path)))));
  in_range = λ ids term ranged b.
      let d : Batch = c.loop-peer.batch in
      let v : ℕ = get_or c.args.peers.now c.loop-peer.peer-index 0 in
      let part : TablePart = c.in_ok-part.part in
      let is = ap option_copied (sym c.in-Some.is) ∙ c.get.ensures in
      subst (λ xs. IsStepBatch (record d { sent = xs })) (sym c.in_ok-push.ensures.ok)
      (sent-in d (c.loop-peer.invariant.in_range ids term ranged b) v (Part c.args.term part) (All-get_or IsId c.args.peers.now c.loop-peer.peer-index 0 c.loop-peer-test.true ids) (
        term,
        part-in c.in-Some.sending.now part c.in_ok-part.ensures.outstanding (value-in IsSendingInRange c.args.self.now.sendings v c.in-Some.sending.now (sym is) ranged.sendings)
            c.in_ok-part.ensures.takable c.in_ok-part.ensures.sized,
      ));
}

pub loop-peer-preserved-in_default : goal.loop-peer-preserved-in_default
loop-peer-preserved-in_default c = record {
  model = λ limit first sendings same.
      let b : Batch = c.args.batch.now in
      let vs : List ℕ = c.args.peers.now in
      let i : ℕ = c.loop-peer.peer-index in
      let v : ℕ = get_or vs i 0 in
      let so_far : List (ℕ × PeerMsg) = parts_as limit first c.args.term sendings (take i vs) in
      let is : None ≡ value_at c.args.self.now.sendings v = ap option_copied (sym c.in_default.is) ∙ c.get.ensures in
      let value : ValueAs limit first None (value_at sendings v) =
      subst (λ o. ValueAs limit first o (value_at sendings v)) (sym is) (value-as limit first c.args.self.now.sendings sendings same v) in
      c.loop-peer.invariant.model limit first sendings same
      ∙ ap (λ xs. record b { sent = b.sent ++ xs }) (sym (ap (parts_as limit first c.args.term sendings) (take_more vs i 0 c.loop-peer-test.true)
      ∙ (parts-none limit first c.args.term sendings (take i vs) v value ∙ append-nil so_far)));
  in_range = c.loop-peer.invariant.in_range;
}

pub returns : goal.returns
returns c = record {
  model = λ limit first sendings same.
      let b : Batch = c.args.batch.now in
      c.loop-peer.invariant.model limit first sendings same
      ∙ ap (λ vs. record b { sent = b.sent ++ parts_as limit first c.args.term sendings vs }) (take_all c.loop-peer.peer-index c.args.peers.now c.loop-peer-test.false);
  in_range = c.loop-peer.invariant.in_range;
}

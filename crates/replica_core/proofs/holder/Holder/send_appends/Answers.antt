use Rattle.std.proofs.Common.{ℕ, List, take, fold, get_or, sym, ap, subst, ◌∙◌}
use Rattle.std.proofs.lemmas.List.{take_more, take_all}
use Rattle.std.proofs.lemmas.List.Sums.{fold_push}
use Rattle.std.proofs.lemmas.List.Elements.{All-get_or}
use Rattle.group_quorum.specs.Voters.{IsId}
use Rattle.replica_core.specs.Calling.{Reaches}
use Rattle.replica_core.proofs.Sends.{sent_step, reaches-all}
use Rattle.replica_core.proofs.holder.Holder.send_appends.Goals as goal

pub loop-peer-init : goal.loop-peer-init
loop-peer-init c = record { sound = c.requires; model = λ call r. r; in_range = λ ids ranged b. (ranged, b) }

pub send_append-requires : goal.send_append-requires
send_append-requires c = c.loop-peer.invariant.sound

pub loop-peer-preserved : goal.loop-peer-preserved
loop-peer-preserved c = record {
  sound = c.in_ok-send_append.ensures.sound;
  model = λ call r.
      let vs : List ℕ = c.args.peers.now in
      let i : ℕ = c.loop-peer.peer-index in
      subst (Reaches c.send_append.new.self c.send_append.new.batch)
      (sym (ap (fold sent_step call) (take_more vs i 0 c.loop-peer-test.true) ∙ fold_push sent_step call (take i vs) (get_or vs i 0)))
      (c.in_ok-send_append.ensures.model (fold sent_step call (take i vs)) (c.loop-peer.invariant.model call r));
  in_range = λ ids ranged b.
      let before = c.loop-peer.invariant.in_range ids ranged b in
      c.in_ok-send_append.ensures.in_range (All-get_or IsId c.args.peers.now c.loop-peer.peer-index 0 c.loop-peer-test.true ids) before.0 before.1;
}

pub returns-clause-in_range : goal.returns-clause-in_range
returns-clause-in_range c = c.loop-peer.invariant.in_range

pub returns-clause-sound : goal.returns-clause-sound
returns-clause-sound c = c.loop-peer.invariant.sound

pub returns-clause-model : goal.returns-clause-model
returns-clause-model c = λ call r.
    let vs : List ℕ = c.args.peers.now in
    let end = c.loop-peer-test.false in
    reaches-all c.loop-peer.self c.loop-peer.batch call vs
    (subst (λ ws. Reaches c.loop-peer.self c.loop-peer.batch (fold sent_step call ws)) (take_all c.loop-peer.peer-index vs end)
    (c.loop-peer.invariant.model call r))

use Rattle.std.proofs.Common.{Err, subst, sym}
use Rattle.replica_server.specs.Answering.{Hands}
use Rattle.replica_server.specs.Standing.{Stands}
use Rattle.replica_server.proofs.Handed.{hands_first, hands_none}
use Rattle.replica_server.proofs.answer.begin.Goals as goal

pub returns-in-Ok : goal.returns-in-Ok
returns-in-Ok c = record {
  hands = λ tagging names before out stands.
      hands_first tagging names c.args.content.now out out c.in-Ok.started before (subst (λ x. Stands x before) c.requires.none stands) c.in-Ok.ensures.exact;
}

pub returns-in-Err : goal.returns-in-Err
returns-in-Err c = record {
  hands = λ tagging names before out stands.
      subst (λ x. Hands tagging names before c.args.content.now x out out (Err c.in-Err.why)) (sym c.requires.none)
      (hands_none tagging names c.args.content.now out out before c.in-Err.why (subst (λ x. Stands x before) c.requires.none stands) c.in-Err.ensures.exact);
}

use Rattle.std.proofs.Common.{subst}
use Rattle.replica_server.specs.Standing.{Stands}
use Rattle.replica_server.proofs.Handed.{hands_on}
use Rattle.replica_server.proofs.answer.hand.Goals as goal

pub returns-in-Some : goal.returns-in-Some
returns-in-Some c = record {
  hands = λ tagging names before stands by_map.
      hands_on tagging names c.args.content.now c.args.out.now.items c.call.new.out.items c.in-Some.running c.call.new.self before c.call.result
      (subst (λ x. Stands x before) c.in-Some.is stands) by_map c.call.ensures.exact c.call.ensures.model c.call.ensures.holds;
}

pub returns-in-None : goal.returns-in-None
returns-in-None c = record {
  hands = λ tagging names before stands by_map. c.begin.ensures.hands tagging names before c.args.out.now.items stands;
}

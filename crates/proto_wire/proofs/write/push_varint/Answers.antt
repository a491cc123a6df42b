use Rattle.std.proofs.Common.{vec_len, rules, arith}
use Rattle.proto_wire.proofs.VarintLemmas.{push_step, push_last, take_kept}
use Rattle.proto_wire.proofs.write.push_varint.Goals as goal

pub loop-rest-preserved : goal.loop-rest-preserved
loop-rest-preserved c = record {
  whole = push_step c.loop-rest.out.items c.push.new.self.items _ c.loop-rest.rest c.in_ok-push.ensures.items (omega arith) c.loop-rest-test.true c.loop-rest.invariant.whole;
  front = take_kept c.args.out.now.items c.loop-rest.out.items c.push.new.self.items _ (vec_len c.args.out.now) (search rules) c.loop-rest.invariant.front c.in_ok-push.ensures.items;
}

pub returns-clause-ok : goal.returns-clause-ok
returns-clause-ok c = push_last c.loop-rest.out.items c.push-2.new.self.items _ c.loop-rest.rest c.in_ok-push-2.ensures.items c.loop-rest-test.false c.loop-rest.invariant.whole

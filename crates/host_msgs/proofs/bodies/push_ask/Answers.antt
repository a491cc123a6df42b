use Rattle.std.proofs.lemmas.Result.{on_ok_weaker}
use Rattle.host_msgs.proofs.Ranged.{on_ok, request_from}
use Rattle.host_msgs.proofs.Shorts.{short_ask}
use Rattle.host_msgs.proofs.bodies.push_ask.Goals as goal

pub returns-clause-grammar : goal.returns-clause-grammar
returns-clause-grammar c = on_ok c.push_block.result (c.push_client.ensures.size, (c.ranges.number.fits, request_from c.args.request.now c.requires))

pub returns-clause-short : goal.returns-clause-short
returns-clause-short c =
    on_ok_weaker c.push_block.result (λ few. short_ask c.args.client.now.0 c.args.number c.args.request.now c.push_client.ensures.size few) c.push_block.ensures.short

use Rattle.svr2_run.proofs.Drilling.{drills_to}
use Rattle.svr2_run.proofs.drill.drill.Goals as goal

pub returns-clause-drills : goal.returns-clause-drills
returns-clause-drills g c =
    drills_to _ c.summary.result c.args.seed c.args.clients _ _ c.tell.result c.summary.ensures c.tell.ensures.wrote c.tell.ensures.memory

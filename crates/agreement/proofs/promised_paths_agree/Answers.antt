use Rattle.agreement.proofs.Promised.{agree_each}
use Rattle.agreement.proofs.promised_paths_agree.Goals as goal

pub returns : goal.returns
returns g c first rolled keeps p q = agree_each c.quorums_outlast.ensures c.counts_overlap.ensures first rolled g.H.History.Ever keeps p q

use Rattle.log_laws.proofs.Kept.{one_log_of}
use Rattle.log_laws.proofs.one_log.Goals as goal

pub returns : goal.returns
returns c link events = one_log_of c.quorums_outlast.ensures c.counts_overlap.ensures link events

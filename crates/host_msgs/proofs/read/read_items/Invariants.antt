use Rattle.std.proofs.Common.{length}
use Rattle.host_msgs.specs.declared.gathered.Gathered.{Gathered}
use Rattle.host_msgs.specs.Walking.{Stands}
use Rattle.host_msgs.proofs.Walks.{Walked}
use Rattle.host_msgs.proofs.read.read_items.Given as goal

abbrev pub invariant-loop-rest : goal.invariant-loop-rest
invariant-loop-rest l = (g : Gathered) × Stands l.reading g × Walked l.content l.rest g

abbrev pub decreases-loop-rest : goal.decreases-loop-rest
decreases-loop-rest l = length l.rest

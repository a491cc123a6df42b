use Rattle.std.proofs.Common.{◌≡◌, ◌++◌, map, take}
use Rattle.group_world.specs.Keeping.{kept_answer}
use Rattle.group_world.proofs.keep.answer_all.Given as goal

abbrev pub invariant-loop-client : goal.invariant-loop-client
invariant-loop-client l = l.answers.items ≡ l.initial.answers.items ++ map kept_answer (take l.client-index l.given)

use Rattle.std.proofs.Common.{[], sym, ◌∙◌, arith}
use Rattle.std.proofs.lemmas.List.{append-nil}
use Rattle.proto_wire.specs.Written.{block_field}
use Rattle.client_msgs.proofs.strict.is_restore.Goals as goal

pub returns-in-None-clause-all : goal.returns-in-None-clause-all
returns-in-None-clause-all c pin long is = absurd (c.in-None.ensures.all pin [] (omega (arith, long)) (omega (arith, long)) (is ∙ sym (append-nil (block_field 1 pin))))

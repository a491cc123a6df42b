use Rattle.std.proofs.Common.{[], length, sym, ap, ◌∙◌}
use Rattle.std.proofs.lemmas.Bool.{eq-eqb}
use Rattle.std.proofs.lemmas.List.{append-nil}
use Rattle.proto_wire.specs.Written.{block_field}
use Rattle.client_msgs.proofs.strict.is_expose.Goals as goal

pub returns-in-Some-clause-all : goal.returns-in-Some-clause-all
returns-in-Some-clause-all c secret sizes is =
    c.is_empty.ensures ∙ eq-eqb (length c.in-Some.rest.now) 0 (ap length (c.in-Some.ensures.all secret [] sizes.0 sizes.1 (is ∙ sym (append-nil (block_field 1 secret)))))

pub returns-in-None-clause-all : goal.returns-in-None-clause-all
returns-in-None-clause-all c secret sizes is = absurd (c.in-None.ensures.all secret [] sizes.0 sizes.1 (is ∙ sym (append-nil (block_field 1 secret))))

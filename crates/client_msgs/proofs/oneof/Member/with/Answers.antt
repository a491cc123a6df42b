use Rattle.std.proofs.Common.{ap, inl, inr}
use Rattle.proto_wire.specs.Fields.{content_of, field_of}
use Rattle.proto_wire.specs.Reading.{varint_in, block_in}
use Rattle.client_msgs.proofs.HoldsLemmas.{Holds-block, Holds-varint, Holds-other}
use Rattle.client_msgs.proofs.oneof.Member.with.Goals as goal

pub returns-in-Block-clause-holds : goal.returns-in-Block-clause-holds
returns-in-Block-clause-holds c fs =
    let e = c.with_block.ensures in
    Holds-block c.args.self c.with_block.result fs (field_of c.args.field) c.in-Block.block.now (ap content_of c.in-Block.is) e.block_1 e.block_2 e.varint_1 e.varint_3

pub returns-in-Varint-clause-holds : goal.returns-in-Varint-clause-holds
returns-in-Varint-clause-holds c fs =
    let e = c.with_varint.ensures in
    Holds-varint c.args.self c.with_varint.result fs (field_of c.args.field) c.in-Varint.value (ap content_of c.in-Varint.is) e.block_1 e.block_2 e.varint_1 e.varint_3

pub returns-in-Eight-clause-holds : goal.returns-in-Eight-clause-holds
returns-in-Eight-clause-holds c fs =
    Holds-other c.args.self fs (field_of c.args.field)
    (elim c.in-Eight.is [ inl x ↦ ap (λ p. varint_in (content_of p)) x.1 | inr x ↦ ap (λ p. varint_in (content_of p)) x.1 ])
    (elim c.in-Eight.is [ inl x ↦ ap (λ p. block_in (content_of p)) x.1 | inr x ↦ ap (λ p. block_in (content_of p)) x.1 ])

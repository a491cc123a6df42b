use Rattle.std.proofs.Common.{List, ap, ◌∙◌, inl, inr}
use Rattle.std.proofs.lemmas.List.{map-set}
use Rattle.proto_wire.specs.Fields.{content_of, field_of}
use Rattle.proto_wire.specs.Reading.{varint_in, block_in}
use Rattle.group_msgs.specs.Gathered.{seen}
use Rattle.group_msgs.proofs.KnownLemmas.{known-varint, known-block, known-high_varint, known-high_block, known-other}
use Rattle.group_msgs.proofs.scalars.Scalars.take.Goals as goal

pub returns-in-Varint : goal.returns-in-Varint
returns-in-Varint c fs holds =
    known-varint (seen c.args.self.now) fs (field_of c.args.field) c.in-Varint.value (ap content_of c.in-Varint.is) c.if-field.true holds

pub returns-else-field : goal.returns-else-field
returns-else-field c fs holds =
    known-high_varint (seen c.args.self.now) fs (field_of c.args.field) c.in-Varint.value (ap content_of c.in-Varint.is) c.if-field.false holds

pub returns-in-Block : goal.returns-in-Block
returns-in-Block c fs holds =
    ap (λ (bs : List (List _)). record { varints = c.args.self.now.varints; blocks = bs }) (map-set (λ block. block.now) c.args.self.now.blocks c.args.field.number c.in-Block.block)
    ∙ known-block (seen c.args.self.now) fs (field_of c.args.field) c.in-Block.block.now (ap content_of c.in-Block.is) c.if-field-2.true holds

pub returns-else-field-2 : goal.returns-else-field-2
returns-else-field-2 c fs holds =
    known-high_block (seen c.args.self.now) fs (field_of c.args.field) c.in-Block.block.now (ap content_of c.in-Block.is) c.if-field-2.false holds

pub returns-in-Eight : goal.returns-in-Eight
returns-in-Eight c fs holds =
    known-other (seen c.args.self.now) fs (field_of c.args.field)
    (elim c.in-Eight.is [ inl x ↦ ap (λ p. varint_in (content_of p)) x.1 | inr x ↦ ap (λ p. varint_in (content_of p)) x.1 ])
    (elim c.in-Eight.is [ inl x ↦ ap (λ p. block_in (content_of p)) x.1 | inr x ↦ ap (λ p. block_in (content_of p)) x.1 ]) holds

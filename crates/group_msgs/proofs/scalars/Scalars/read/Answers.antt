use Rattle.std.proofs.Common.{◌≡◌, Option, Ok, None, refl, subst}
use Rattle.std.specs.Prelude.{IfSome}
use Rattle.proto_wire.specs.declared.field.WireField.{WireField}
use Rattle.proto_wire.specs.Fields.{field_of}
use Rattle.proto_wire.specs.Walk.{LeadsOn, IsWithin}
use Rattle.group_msgs.proofs.Walk.{walked-field}
use Rattle.group_msgs.proofs.scalars.Scalars.read.Goals as goal

pub loop-field-preserved : goal.loop-field-preserved
loop-field-preserved c =
    let walks = subst (λ (o : Option WireField). LeadsOn (Ok o) c.loop-field.at c.args.bytes.now) c.in-Some.is c.in_ok-field.ensures.walks in
    let within = subst (λ (o : Option WireField). IfSome o (λ f. (f.at ≡ c.loop-field.at) × IsWithin f c.args.bytes.now)) c.in-Some.is c.in_ok-field.ensures.within in
    walked-field (λ _. None) _ c.args.bytes.now c.args.from _ c.loop-field.at c.in-Some.field.next (field_of c.in-Some.field) within.1.within c.take.ensures refl walks c.loop-field.invariant

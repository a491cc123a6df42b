use Rattle.std.proofs.Common.{◌≡◌, Option, Ok, ap, subst}
use Rattle.std.specs.Prelude.{IfSome}
use Rattle.std.proofs.lemmas.Result.{err_from_is_err_and}
use Rattle.proto_wire.specs.declared.field.WireField.{WireField}
use Rattle.proto_wire.specs.Fields.{Sequence, field_of}
use Rattle.proto_wire.specs.Walk.{LeadsOn, IsWithin}
use Rattle.client_msgs.proofs.ReadOn.{IsLastTo-field, first_fault-inside, rest_of}
use Rattle.client_msgs.proofs.oneof.last_member.Goals as goal

pub returns-in_err-last-clause-fault : goal.returns-in_err-last-clause-fault
returns-in_err-last-clause-fault c =
    let p = err_from_is_err_and c.from_residual-in_err-last.result c.from_residual-in_err-last.ensures.1 in
    let walks = subst (λ (o : Option WireField). LeadsOn (Ok o) c.loop-field.at c.args.bytes.now) c.in-Some.is c.in_ok-field.ensures.walks in
    rw (p.1, p.2) (first_fault-inside c.args.low c.args.high c.loop-field.last c.args.bytes.now c.loop-field.at (field_of c.in-Some.field) (rest_of c.args.bytes.now c.in-Some.field.next).fields c.in_err-last.field-0.0 c.in_err-last.ensures.fault (ap (λ (s : Sequence). s.fields) walks) c.loop-field.invariant)

pub loop-field-preserved : goal.loop-field-preserved
loop-field-preserved c =
    let walks = subst (λ (o : Option WireField). LeadsOn (Ok o) c.loop-field.at c.args.bytes.now) c.in-Some.is c.in_ok-field.ensures.walks in
    let within = subst (λ (o : Option WireField). IfSome o (λ f. (f.at ≡ c.loop-field.at) × IsWithin f c.args.bytes.now)) c.in-Some.is c.in_ok-field.ensures.within in
    IsLastTo-field c.args.low c.args.high c.loop-field.last c.in_ok-last.last c.args.bytes.now c.loop-field.at c.in-Some.field.next (field_of c.in-Some.field) within.1.within c.in_ok-last.ensures.last c.in_ok-last.ensures.whole walks c.loop-field.invariant

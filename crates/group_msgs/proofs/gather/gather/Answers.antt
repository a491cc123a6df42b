use Rattle.std.proofs.Common.{◌≡◌, List, Option, Ok, refl, subst, arith}
use Rattle.std.specs.Prelude.{IfSome}
use Rattle.std.proofs.lemmas.Result.{err_from_is_err_and}
use Rattle.proto_wire.specs.declared.field.WireField.{WireField}
use Rattle.proto_wire.specs.Fields.{Field, field_of}
use Rattle.proto_wire.specs.Walk.{LeadsOn, IsWithin}
use Rattle.group_msgs.specs.Reading.{member_fault}
use Rattle.group_msgs.proofs.Walk.{rest_of, walked-start, walked-field, walked-inside}
use Rattle.group_msgs.proofs.gather.gather.Goals as goal

pub loop-gathered-init : goal.loop-gathered-init
loop-gathered-init c = record { count = omega (arith, (c.new.ensures 0).count); walked = walked-start member_fault _ c.args.bytes.now 0 (omega arith) (refl, refl) }

pub returns-in_err-take-clause-fault : goal.returns-in_err-take-clause-fault
returns-in_err-take-clause-fault c =
    let p = err_from_is_err_and c.from_residual-in_err-take.result c.from_residual-in_err-take.ensures.1 in
    let walks = subst (λ (o : Option WireField). LeadsOn (Ok o) c.loop-gathered.at c.args.bytes.now) c.in-Some.is c.in_ok-field.ensures.walks in
    rw (p.1, p.2) (walked-inside member_fault _ c.args.bytes.now 0 c.loop-gathered.at (field_of c.in-Some.field) (rest_of c.args.bytes.now c.in-Some.field.next) c.in_err-take.field-0.0 c.in_err-take.ensures.fault walks c.loop-gathered.invariant.walked)

pub loop-gathered-preserved : goal.loop-gathered-preserved
loop-gathered-preserved c =
    let walks = subst (λ (o : Option WireField). LeadsOn (Ok o) c.loop-gathered.at c.args.bytes.now) c.in-Some.is c.in_ok-field.ensures.walks in
    let within = subst (λ (o : Option WireField). IfSome o (λ f. (f.at ≡ c.loop-gathered.at) × IsWithin f c.args.bytes.now)) c.in-Some.is c.in_ok-field.ensures.within in
    record {
      count = c.in_ok-take.ensures.count;
      walked = walked-field member_fault _ c.args.bytes.now 0 _ c.loop-gathered.at c.in-Some.field.next (field_of c.in-Some.field) within.1.within
          (λ (gone : List Field) h. (c.in_ok-take.ensures.term gone h.0, c.in_ok-take.ensures.last gone h.1)) c.in_ok-take.ensures.whole walks c.loop-gathered.invariant.walked;
    }

use Rattle.std.proofs.Common.{◌≡◌, ℕ, ◌∷◌, [], ◌++◌, List, Option, Ok, None, Some, refl, sym, subst, append_assoc, arith}
use Rattle.std.specs.Prelude.{IfSome}
use Rattle.std.proofs.lemmas.List.{append-nil}
use Rattle.std.proofs.lemmas.Result.{err_from_is_err_and}
use Rattle.proto_wire.specs.declared.field.WireField.{WireField}
use Rattle.proto_wire.specs.Fields.{Field, field_of}
use Rattle.proto_wire.specs.Walk.{LeadsOn, IsWithin}
use Rattle.group_msgs.specs.Reading.{listed_fault}
use Rattle.group_msgs.specs.Gathered.{IsRun}
use Rattle.group_msgs.proofs.Walk.{rest_of, walked-start, walked-field, walked-inside}
use Rattle.group_msgs.proofs.gather.Member.read_on.Goals as goal

pub loop-field-init : goal.loop-field-init
loop-field-init c =
    record {
      number = refl;
      count = c.requires.count;
      walked = walked-start (listed_fault c.args.self.now.number) _ c.args.bytes.now c.args.from c.requires.from
          (λ (fs : List Field) run. subst (IsRun c.args.self.now c.args.self.now.number) (sym (append-nil fs)) run);
    }

pub returns-in_err-take-clause-fault : goal.returns-in_err-take-clause-fault
returns-in_err-take-clause-fault c =
    let p = err_from_is_err_and c.from_residual-in_err-take.result c.from_residual-in_err-take.ensures.1 in
    let walks = subst (λ (o : Option WireField). LeadsOn (Ok o) c.loop-field.at c.args.bytes.now) c.in-Some.is c.in_ok-field.ensures.walks in
    let f = field_of c.in-Some.field in
    let e = c.in_err-take.field-0.0 in
    let inside = subst (λ (n : ℕ). listed_fault n f ≡ Some e) c.loop-field.invariant.number c.in_err-take.ensures.fault in
    rw (p.1, p.2) (walked-inside (listed_fault c.args.self.now.number) _ c.args.bytes.now c.args.from c.loop-field.at f (rest_of c.args.bytes.now c.in-Some.field.next) e inside walks c.loop-field.invariant.walked)

pub loop-field-preserved : goal.loop-field-preserved
loop-field-preserved c =
    let walks = subst (λ (o : Option WireField). LeadsOn (Ok o) c.loop-field.at c.args.bytes.now) c.in-Some.is c.in_ok-field.ensures.walks in
    let within = subst (λ (o : Option WireField). IfSome o (λ f. (f.at ≡ c.loop-field.at) × IsWithin f c.args.bytes.now)) c.in-Some.is c.in_ok-field.ensures.within in
    let f = field_of c.in-Some.field in
    let n = c.args.self.now.number in
    let old = c.loop-field.self in
    let new = c.take.new.self in
    let take = subst (λ (k : ℕ). (fs : List Field) → IsRun old k fs → IsRun new k (fs ++ f ∷ [])) c.loop-field.invariant.number c.in_ok-take.ensures.run in
    let whole = subst (λ (k : ℕ). listed_fault k f ≡ None) c.loop-field.invariant.number c.in_ok-take.ensures.whole in
    record {
      number = omega (arith, c.in_ok-take.ensures.number, c.loop-field.invariant.number);
      count = omega (arith, c.in_ok-take.ensures.count, c.loop-field.invariant.count, within.0, within.1.behind_tag, within.1.in_order);
      walked = walked-field (listed_fault n) _ c.args.bytes.now c.args.from _ c.loop-field.at c.in-Some.field.next f within.1.within
          (λ (gone : List Field) run fs start. subst (IsRun new n) (append_assoc fs gone (f ∷ [])) (take (fs ++ gone) (run fs start))) whole walks c.loop-field.invariant.walked;
    }

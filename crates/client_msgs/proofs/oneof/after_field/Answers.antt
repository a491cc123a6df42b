use Rattle.std.proofs.Common.{◌≡◌, true, ◌++◌, sym, ap, subst, ◌∙◌, rules}
use Rattle.std.proofs.lemmas.Bool.{cond-true}
use Rattle.proto_wire.specs.Fields.{Sequence, field_of}
use Rattle.proto_wire.specs.Reading.{is_member, embedded, last_member, run_so_far}
use Rattle.client_msgs.specs.Gathered.{Holds}
use Rattle.client_msgs.proofs.MemberLemmas.{embedded-member, IsLast-member}
use Rattle.client_msgs.proofs.oneof.after_field.Goals as goal

pub returns-clause-last : goal.returns-clause-last
returns-clause-last c fs last =
    let f = field_of c.args.field in
    let is : is_member c.args.low c.args.high f ≡ true = search rules in
    let e = embedded-member c.args.low c.args.high c.args.field c.args.bytes.now is c.requires.within.in_order c.requires.slice in
    let before = run_so_far (last_member c.args.low c.args.high fs) f.number in
    let holds : Holds c.in_ok-member.member (before ++ (embedded f).fields) =
    subst (λ (s : Sequence). Holds c.in_ok-member.member (before ++ s.fields)) (sym e) (c.in_ok-member.ensures.holds before (c.run_so_far-start.ensures.holds (last_member c.args.low c.args.high fs) last)) in
    IsLast-member c.args.low c.args.high c.in_ok-member.member fs f is (c.in_ok-member.ensures.whole.0 ∙ c.run_so_far-start.ensures.number) holds

pub returns-clause-whole : goal.returns-clause-whole
returns-clause-whole c =
    let is : is_member c.args.low c.args.high (field_of c.args.field) ≡ true = search rules in
    let e = embedded-member c.args.low c.args.high c.args.field c.args.bytes.now is c.requires.within.in_order c.requires.slice in
    cond-true (is_member c.args.low c.args.high (field_of c.args.field)) _ _ is ∙ ap (λ (s : Sequence). s.fault) e ∙ c.in_ok-member.ensures.whole.1

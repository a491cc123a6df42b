use Rattle.std.proofs.Common.{◌≡◌, ℕ, true, ◌++◌, List, drop, take, sym, ap, subst, ◌∙◌, rules}
use Rattle.std.specs.Prelude.{unwrap_or}
use Rattle.std.proofs.lemmas.Bool.{cond-true}
use Rattle.std.proofs.lemmas.Result.{on_ok_weaker, IfErr-weaker}
use Rattle.proto_wire.specs.Fields.{Field, Sequence, field_of, sequence_at}
use Rattle.proto_wire.specs.Reading.{varint_under, embedded, is_member, run_so_far, first_fault_in}
use Rattle.proto_wire.proofs.ReadingLemmas.{u64_of-push}
use Rattle.client_msgs.proofs.MemberLemmas.{embedded-member}
use Rattle.group_msgs.specs.Reading.{listed_fault, member_fault, member_of}
use Rattle.group_msgs.specs.Gathered.{IsRun}
use Rattle.group_msgs.proofs.MemberLemmas.{IsLast-push}
use Rattle.group_msgs.proofs.gather.Gathered.take.Goals as goal

pub returns-then-not-is_member-clause-term : goal.returns-then-not-is_member-clause-term
returns-then-not-is_member-clause-term c fs is =
    let f = field_of c.args.field in
    c.term_behind-self.ensures ∙ ap (unwrap_or (varint_under 1 f)) is ∙ sym (u64_of-push 1 fs f)

pub returns-clause-term : goal.returns-clause-term
returns-clause-term c =
    let f = field_of c.args.field in
    on_ok_weaker c.read_on.result (λ _ fs is. c.term_behind-self.ensures ∙ ap (unwrap_or (varint_under 1 f)) is ∙ sym (u64_of-push 1 fs f)) c.read_on.ensures.run

pub returns-clause-last : goal.returns-clause-last
returns-clause-last c =
    let f = field_of c.args.field in
    let is : is_member 2 8 f ≡ true = search rules in
    let e = embedded-member 2 8 c.args.field c.args.bytes.now is c.requires.within.in_order c.requires.slice in
    let inner = sequence_at c.args.field.content_at (drop c.args.field.content_at (take c.args.field.next c.args.bytes.now)) in
    on_ok_weaker c.read_on.result (λ run fs last.
    let begun = c.begin.ensures.run (member_of fs) last in
    let so_far = run_so_far (member_of fs) f.number in
    let on = subst (λ (n : ℕ). (gs : List Field) → IsRun c.begin.new.self n gs → IsRun c.read_on.new.self n (gs ++ inner.fields)) begun.0 run so_far begun in
    IsLast-push c.read_on.new.self fs f is (subst (λ (s : Sequence). IsRun c.read_on.new.self f.number (so_far ++ s.fields)) (sym e) on)) c.read_on.ensures.run

pub returns-clause-whole : goal.returns-clause-whole
returns-clause-whole c =
    let f = field_of c.args.field in
    let is : is_member 2 8 f ≡ true = search rules in
    let e = embedded-member 2 8 c.args.field c.args.bytes.now is c.requires.within.in_order c.requires.slice in
    on_ok_weaker c.read_on.result (λ whole.
    cond-true (is_member 2 8 f) _ _ is ∙ ap (λ (n : ℕ). first_fault_in (listed_fault n) (embedded f)) (sym c.begin.ensures.number) ∙ ap (first_fault_in (listed_fault c.begin.new.self.number)) e ∙ whole) c.read_on.ensures.whole

pub returns-clause-fault : goal.returns-clause-fault
returns-clause-fault c =
    let f = field_of c.args.field in
    let is : is_member 2 8 f ≡ true = search rules in
    let e = embedded-member 2 8 c.args.field c.args.bytes.now is c.requires.within.in_order c.requires.slice in
    let inner = sequence_at c.args.field.content_at (drop c.args.field.content_at (take c.args.field.next c.args.bytes.now)) in
    let same : first_fault_in (listed_fault c.begin.new.self.number) inner ≡ member_fault f =
    sym (cond-true (is_member 2 8 f) _ _ is ∙ ap (λ (n : ℕ). first_fault_in (listed_fault n) (embedded f)) (sym c.begin.ensures.number) ∙ ap (first_fault_in (listed_fault c.begin.new.self.number)) e) in
    IfErr-weaker c.read_on.result _ _ (λ fault told. sym same ∙ told) c.read_on.ensures.fault

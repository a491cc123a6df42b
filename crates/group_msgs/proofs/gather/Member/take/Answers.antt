use Rattle.std.proofs.Common.{◌≡◌, true, List, drop, take, refl, sym, ap, subst, ◌∙◌, rules}
use Rattle.std.proofs.lemmas.Bool.{cond-true}
use Rattle.std.proofs.lemmas.Result.{on_ok_weaker, IfErr-weaker}
use Rattle.proto_wire.specs.declared.field.WireField.{WireField}
use Rattle.proto_wire.specs.Fields.{Sequence, field_of, sequence_at}
use Rattle.proto_wire.specs.Walk.{IsWithin, IsSlice}
use Rattle.std.specs.Prelude.{ℕ, slice_range}
use Rattle.group_msgs.specs.Known.{known_of}
use Rattle.group_msgs.specs.Reading.{is_listed, listed_fault}
use Rattle.group_msgs.proofs.MemberLemmas.{listed-embedded, IsRun-push}
use Rattle.group_msgs.proofs.gather.Member.take.Goals as goal

-- the listed message's own bytes
abbrev inner : WireField → List ℕ → Sequence
inner f bytes = sequence_at f.content_at (drop f.content_at (take f.next bytes))

fault_inside : (member : ℕ) (f : WireField) (bytes : List ℕ) → is_listed member (field_of f) ≡ true → IsWithin f bytes → IsSlice f.payload (slice_range bytes f.content_at f.next) → listed_fault member (field_of f) ≡ (inner f bytes).fault
fault_inside member f bytes is within slice = cond-true (is_listed member (field_of f)) _ _ is ∙ ap (λ (s : Sequence). s.fault) (listed-embedded member f bytes is within slice)

pub returns-clause-run : goal.returns-clause-run
returns-clause-run c =
    let f = field_of c.args.field in
    let member = c.args.self.now.number in
    let is : is_listed member f ≡ true = search rules in
    let e = listed-embedded member c.args.field c.args.bytes.now is c.requires.within c.requires.slice in
    on_ok_weaker c.read.result (λ list fs run.
    IsRun-push c.args.self.now _ fs f (known_of (inner c.args.field c.args.bytes.now).fields) is refl (sym (ap (λ (s : Sequence). known_of s.fields) e)) list (c.take.ensures fs run.1.scalars) run) c.read.ensures.list

pub returns-clause-whole : goal.returns-clause-whole
returns-clause-whole c =
    let is : is_listed c.args.self.now.number (field_of c.args.field) ≡ true = search rules in
    on_ok_weaker c.read.result (λ whole. fault_inside c.args.self.now.number c.args.field c.args.bytes.now is c.requires.within c.requires.slice ∙ whole) c.read.ensures.whole

pub returns-clause-fault : goal.returns-clause-fault
returns-clause-fault c =
    let is : is_listed c.args.self.now.number (field_of c.args.field) ≡ true = search rules in
    IfErr-weaker c.read.result _ _ (λ fault told. fault_inside c.args.self.now.number c.args.field c.args.bytes.now is c.requires.within c.requires.slice ∙ told) c.read.ensures.fault

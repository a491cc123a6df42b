use Rattle.std.proofs.Common.{◌≡◌, ℕ, false, List, map, Option, None, Some, Ok, sym, ap, subst, ◌∙◌}
use Rattle.std.proofs.lemmas.Result.{err_from_is_err_and}
use Rattle.proto_wire.specs.Fields.{Field}
use Rattle.values.specs.declared.limits.TheConstants.{TOP}
use Rattle.group_msgs.specs.declared.fault.PeerFault.{PeerFault}
use Rattle.group_msgs.specs.declared.gather.Member.{Member}
use Rattle.group_msgs.specs.Known.{Known, known_of}
use Rattle.group_msgs.specs.Reading.{listed_in}
use Rattle.group_msgs.specs.Gathered.{seen, IsOf}
use Rattle.group_msgs.specs.Rules.{at_most, fields_fault, range_fault}
use Rattle.group_msgs.specs.Values.{message_of}
use Rattle.group_msgs.specs.Peer.{unless_broken}
use Rattle.group_msgs.specs.Ranges.{IsInRange}
use Rattle.client_msgs.proofs.SizesLemmas.{or-none}
use Rattle.group_msgs.proofs.PeerLemmas.{kept-whole, reads-fault, message-in_range}
use Rattle.group_msgs.proofs.RuleLemmas.{rules_no_memory}
use Rattle.group_msgs.proofs.read.checked.Goals as goal

-- what the member's fields list
abbrev listed_of : Member → List Field → List Known
listed_of member fs = map known_of (listed_in member.number fs)

-- the rules on what was gathered are those on the fields
found : (term : ℕ) (member : Member) (fs : List Field) (fault : Option PeerFault) → IsOf member fs → fault ≡ range_fault term member.number (seen member.scalars) (listed_of member fs) → fault ≡ range_fault term member.number (known_of fs) (listed_of member fs)
found term member fs fault of is = is ∙ ap (λ (x : Known). range_fault term member.number x (listed_of member fs)) of.scalars

kept : (term : ℕ) (member : Member) (fs : List Field) → member.listed.lost ≡ false → IsOf member fs → None ≡ range_fault term member.number (seen member.scalars) (listed_of member fs) → map seen member.listed.first.items ≡ listed_of member fs
kept term member fs whole of none = kept-whole member fs whole of (or-none (at_most 1 TOP term) (fields_fault member.number (known_of fs) (listed_of member fs)) (sym (found term member fs None of none))).1

pub message-requires : goal.message-requires
message-requires c =
    let member = c.args.member.now in
    let none = c.in_ok-check_ranges.ensures (listed_of member c.requires.of.0) c.requires.of.1.listed in
    ap (range_fault c.args.term member.number (seen member.scalars)) (kept c.args.term member c.requires.of.0 c.if-member.false c.requires.of.1 none) ∙ sym none

pub returns-in_err-check_ranges-clause-exact : goal.returns-in_err-check_ranges-clause-exact
returns-in_err-check_ranges-clause-exact c fs of =
    let member = c.args.member.now in
    let listed = listed_of member fs in
    let p = err_from_is_err_and c.from_residual.result c.from_residual.ensures.1 in
    let e = c.in_err-check_ranges.field-0.0 in
    let is = found c.args.term member fs (Some e) of (c.in_err-check_ranges.ensures listed of.listed) in
    rw (p.1, p.2) (reads-fault e (range_fault c.args.term member.number (known_of fs) listed) (message_of c.args.term member.number (known_of fs) listed) (rules_no_memory c.args.term member.number (known_of fs) listed) is)

pub returns-clause-exact : goal.returns-clause-exact
returns-clause-exact c fs of =
    let member = c.args.member.now in
    let listed = listed_of member fs in
    let none = c.in_ok-check_ranges.ensures listed of.listed in
    let msg = message_of c.args.term member.number in
    ap (λ (fault : Option PeerFault). unless_broken fault (msg (known_of fs) listed)) (sym (found c.args.term member fs None of none))
    ∙ ap Ok (sym (c.in_ok-msg.ensures ∙ ap (msg (seen member.scalars)) (kept c.args.term member fs c.if-member.false of none) ∙ ap (λ (x : Known). msg x listed) of.scalars))

pub returns-clause-in_range : goal.returns-clause-in_range
returns-clause-in_range c =
    let member = c.args.member.now in
    let fs = c.requires.of.0 in
    let of = c.requires.of.1 in
    let listed = listed_of member fs in
    let none = c.in_ok-check_ranges.ensures listed of.listed in
    subst IsInRange (sym (c.in_ok-msg.ensures ∙ ap (message_of c.args.term member.number (seen member.scalars)) (kept c.args.term member fs c.if-member.false of none))) (message-in_range c.args.term member.number (seen member.scalars) listed of.low of.high (sym none))

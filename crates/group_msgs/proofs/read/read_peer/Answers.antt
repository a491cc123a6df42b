use Rattle.std.proofs.Common.{ℕ, map, subst}
use Rattle.proto_wire.specs.Fields.{sequence_at}
use Rattle.proto_wire.specs.Reading.{u64_of}
use Rattle.group_msgs.specs.Known.{known_of}
use Rattle.group_msgs.specs.Reading.{listed_in, member_of, wire_fault}
use Rattle.group_msgs.specs.Peer.{checked, ReadsPeer}
use Rattle.group_msgs.proofs.PeerLemmas.{last-of, reads-whole}
use Rattle.group_msgs.proofs.read.read_peer.Goals as goal

pub returns-clause-exact : goal.returns-clause-exact
returns-clause-exact c =
    let s = sequence_at 0 c.args.bytes.now in
    let gathered = c.in_ok-gathered.gathered in
    let number = gathered.member.number in
    let last = last-of gathered.member (member_of s.fields) c.if-gathered-eq0.false c.in_ok-gathered.ensures.last in
    let reads = subst (λ (t : ℕ). ReadsPeer c.checked.result (checked t number (known_of last.0) (map known_of (listed_in number last.0)))) c.in_ok-gathered.ensures.term (c.checked.ensures.exact last.0 last.1) in
    reads-whole c.checked.result (wire_fault s) (u64_of 1 s.fields) number (member_of s.fields) last.0 c.in_ok-gathered.ensures.whole last.2 reads

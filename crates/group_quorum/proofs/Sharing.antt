-- The laws of quorums, for proofs in which no call stands. Each is the contract of a call of this name.
use Rattle.std.proofs.Common.{◌≡◌, ℕ, Bool, true, not, ◌&&◌, nat_le, ap, arith}
use Rattle.std.proofs.lemmas.Bool.{and_parts, not-true}
use Rattle.group_quorum.specs.Sharing.{QuorumsShare, QuorumsOutlast, CountsOverlap, MoreMeet, VotersDecide}
use Rattle.group_quorum.specs.Conf.{quorum_of}
use Rattle.group_quorum.specs.Voters.{is_in}
use Rattle.group_quorum.proofs.Counting.{count_both, count_split, count_more, count_alike, counted}

pub quorums_share : QuorumsShare
quorums_share c who others here there = omega (arith, count_both who others c.voters)

pub quorums_outlast : QuorumsOutlast
quorums_outlast c who others lost here there few =
    let both : ℕ → Bool = λ v. who v && others v in
    let some : (v : ℕ) × (is_in c.voters v ≡ true) × ((both v && not (lost v)) ≡ true) =
    counted (λ v. both v && not (lost v)) c.voters
    (omega (arith, quorums_share c who others here there, few, count_split both lost c.voters)) in
    let parts = and_parts (both some.0) (not (lost some.0)) some.2 in
    let each = and_parts (who some.0) (others some.0) parts.0 in
    (some.0, some.1, each.0, each.1, not-true (lost some.0) parts.1)

pub counts_overlap : CountsOverlap
counts_overlap xs who others more =
    let some : (v : ℕ) × (is_in xs v ≡ true) × ((who v && others v) ≡ true) = counted (λ v. who v && others v) xs (omega (arith, more, count_both who others xs)) in
    let parts = and_parts (who some.0) (others some.0) some.2 in
    (some.0, parts.0, parts.1)

pub more_meet : MoreMeet
more_meet c who more passes here = omega (arith, here, count_more who more c.voters passes)

pub voters_decide : VotersDecide
voters_decide c who others same = ap (nat_le (quorum_of c)) (count_alike who others c.voters same)

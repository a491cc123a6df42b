use Rattle.std.proofs.Common.{Option, None, Some, sym, subst, ◌∙◌, rules}
use Rattle.std.specs.Option.{IsSome, SomeIff}
use Rattle.values.specs.Rising.{Rising}
use Rattle.group_msgs.specs.Values.{ids_in}
use Rattle.group_msgs.proofs.VoterLemmas.{rising-from}
use Rattle.group_msgs.proofs.read.voters.Goals as goal

some_of : {X : Type 0} (o : Option X) (P : Type 0) (v : X) → SomeIff o P v → P → IsSome o
some_of None P v iff p = absurd (iff p)
some_of (Some x) P v iff p = search rules

pub unwrap-requires : goal.unwrap-requires
unwrap-requires c =
    let rising = rising-from 0 (ids_in c.args.bytes.now) c.requires.rising in
    some_of c.in_ok-ids.ids (Rising c.as_slice.result.now) c.as_slice.result.now c.in_ok-ids.ensures (subst Rising (sym (c.as_slice.ensures.value ∙ c.ids_in.ensures)) rising)

use Rattle.values.proofs.RisingLists.{rising_from_increasing}
use Rattle.std.proofs.Common.{◌≡◌, true, subst, sym, arith, rules}
use Rattle.values.specs.Rising.{Rising}
use Rattle.group_quorum.specs.Voters.{is_in}
use Rattle.host_inputs.proofs.Sounds.{beginning}
use Rattle.host_inputs.proofs.lists.set_up.Goals as goal

pub rising_ids-requires : goal.rising_ids-requires
rising_ids-requires c = subst Rising (sym c.voters.ensures.voters) (rising_from_increasing c.in-Ok.config.voters c.voters.ensures.sound.in_order)

pub returns-clause-sound : goal.returns-clause-sound
returns-clause-sound c =
    let votes : is_in c.args.voters.now c.args.id ≡ true = search rules in
    beginning c.args.id c.args.margin c.args.limit c.args.voters.now c.in_ok-voters.voters c.in-Ok.config c.requires c.in-Ok.ensures.made c.voters.ensures.sound c.voters.ensures.made votes (search rules) (omega (arith, c.if-limit-eq0.false)) (omega (arith, c.if-limit-gt-MOST_ROWS.false))

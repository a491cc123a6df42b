use Rattle.std.proofs.Common.{sym, subst}
use Rattle.values.specs.Rising.{Rising}
use Rattle.values.proofs.RisingLists.{rising_from_increasing}
use Rattle.group_world.proofs.Hellos.{rising_found}
use Rattle.group_world.proofs.world.World.take_up.Goals as goal

pub unwrap-requires : goal.unwrap-requires
unwrap-requires c =
    rising_found _ c.voters-voters.result.now c.in_ok-from_slice.ensures (subst Rising (sym c.voters-voters.ensures.voters) (rising_from_increasing c.args.config.now.voters c.voters-voters.ensures.sound.in_order))

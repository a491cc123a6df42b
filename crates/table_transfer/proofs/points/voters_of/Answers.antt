use Rattle.std.proofs.Common.{subst, sym}
use Rattle.std.specs.Option.{SomeIff}
use Rattle.values.specs.Rising.{Rising}
use Rattle.values.proofs.RisingLists.{rising_from_increasing}
use Rattle.table_transfer.proofs.points.voters_of.Goals as goal

-- a configuration's voters rise
pub unreachable-requires : goal.unreachable-requires
unreachable-requires c =
    let ids = c.voters.result.now in
    let rises : Rising ids = subst Rising (sym c.voters.ensures.voters) (rising_from_increasing _ c.voters.ensures.sound.in_order) in
    subst (λ found. SomeIff found (Rising ids) ids) c.in_default.is c.in_ok-ids.ensures rises

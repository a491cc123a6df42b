use Rattle.std.proofs.Common.{◌≡◌, ◌∙◌, sym, subst, arith, ap, length, rules}
use Rattle.fixed_fields.specs.Formats.{AreWords}
use Rattle.values.specs.Rising.{Rising}
use Rattle.values.proofs.RisingLists.{rising_from_increasing}
use Rattle.group_world.proofs.Hellos.{are_words, found_is, rising_found}
use Rattle.group_world.proofs.begin.begin_content.Goals as goal

pub unwrap-voters-requires : goal.unwrap-voters-requires
unwrap-voters-requires c =
    rising_found _ c.voters.result.now c.in_ok-from_slice.ensures (subst Rising (sym c.voters.ensures.voters) (rising_from_increasing c.args.config.now.voters c.requires.conf.in_order))

pub content_of-requires-clause-fits : goal.content_of-requires-clause-fits
content_of-requires-clause-fits c =
    let same : c.unwrap-voters.result ≡ c.args.config.now.voters = found_is _ c.voters.result.now c.unwrap-voters.result c.in_ok-from_slice.ensures (search rules) ∙ c.voters.ensures.voters in
    let at_most = c.requires.conf.at_most in
    let enough = c.requires.conf.enough in
    let margin = c.margin.ensures in
    let size = ap length same in
    (c.ranges.id.fits, (omega (arith, at_most, enough, margin), (c.ranges.limit.fits, (omega (arith, at_most, size), subst AreWords (sym same) (are_words c.args.config.now.voters c.requires.conf.ids)))))

use Rattle.std.proofs.Common.{Ok, ap, sym, ◌∙◌, refl}
use Rattle.group_quorum.proofs.Made.{faultless, is_stored, front_is, made_is, in_rising_order}
use Rattle.group_quorum.proofs.Rising.{rises, climbs_rising}
use Rattle.group_quorum.proofs.config.Config.new.Goals as goal

pub invariant_of-result : goal.invariant_of-result
invariant_of-result c =
    let none = sym c.find_fault.ensures ∙ c.in_default.is in
    is_stored c.args.margin c.args.voters.now (faultless c.args.margin c.args.voters.now none) c.sorted.result c.sorted.ensures

pub returns-clause-made : goal.returns-clause-made
returns-clause-made c =
    let none = sym c.find_fault.ensures ∙ c.in_default.is in
    let right = faultless c.args.margin c.args.voters.now none in
    ap (λ vs. Ok (record { margin = c.args.margin; voters = vs })) (front_is c.args.margin c.args.voters.now right c.sorted.result c.sorted.ensures) ∙ sym (made_is c.args.margin c.args.voters.now right none)

pub returns-clause-in_order : goal.returns-clause-in_order
returns-clause-in_order c up =
    let none = sym c.find_fault.ensures ∙ c.in_default.is in
    let right = faultless c.args.margin c.args.voters.now none in
    front_is c.args.margin c.args.voters.now right c.sorted.result c.sorted.ensures ∙ in_rising_order c.args.margin c.args.voters.now c.args.voters.now (climbs_rising _ (rises _ up)) (λ v. refl)

use Rattle.std.proofs.Common.{◌≡◌, ◌&&◌, Bool, true, false, refl, ap, sym, ◌∙◌}
use Rattle.std.specs.Prelude.{nat_le}
use Rattle.group_quorum.specs.Conf.{met}
use Rattle.group_quorum.specs.Marks.{mark_of}
use Rattle.promise_rules.proofs.greatest.reach.Goals as goal

and_true : (b : Bool) → (b && true) ≡ b
and_true true = refl
and_true false = refl

pub returns : goal.returns
returns c = λ i low.
    let k = c.args.configs.now in
    let marks = c.args.marks.now in
    let here : Bool = met k.newest (λ v. nat_le i (mark_of marks v)) in
    ap (λ b. here && b) (sym c.is_settled.ensures ∙ c.if-not-is_settled.false) ∙ and_true here
    ∙ c.greatest_met.ensures.reached i

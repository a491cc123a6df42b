use Rattle.std.proofs.Common.{◌≡◌, ◌&&◌, ltb, w8, sym, subst, ◌∙◌}
use Rattle.std.proofs.lemmas.Simd.{tops_compared}
use Rattle.std.specs.Simd.Lanes.{sel_l}
use Rattle.schedule_text.specs.Values.{all_small}
use Rattle.schedule_text.proofs.Lanes.{larger_lanes}
use Rattle.schedule_text.proofs.digit.larger.Goals as goal

pub returns : goal.returns
returns c =
    let a = c.args.a in
    let b = c.args.b in
    subst (λ tests. all_small (sel_l tests b a) ≡ all_small a && all_small b) (sym (tops_compared w8 ltb a b))
    (larger_lanes a b (c.fits-a.0 ∙ sym c.fits-b.0))

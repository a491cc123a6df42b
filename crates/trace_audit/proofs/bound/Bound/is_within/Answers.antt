use Rattle.std.proofs.Common.{refl, sym, ap, ◌∙◌, subst}
use Rattle.std.specs.List.{list_all}
use Rattle.trace_audit.specs.declared.bound.Members.{Members}
use Rattle.trace_audit.specs.Bounds.{KeptBound, StandsBound, bears_set, conf_told, confs_told}
use Rattle.trace_audit.proofs.Bounds.{all_within}
use Rattle.trace_audit.proofs.bound.Bound.is_within.Goals as goal

pub returns : goal.returns
returns c = λ confs rolled rolling s.
    let inside = c.self.inside in
    let kept : KeptBound = record { confs = confs_told inside.told.items; rolled = inside.rolled; rolling = inside.rolling } in
    c.all_bear.ensures
    ∙ ap (list_all (λ (m : Members). bears_set inside.rolled (conf_told m))) c.as_slice.ensures.value
    ∙ all_within kept inside.told.items confs rolled rolling refl (subst (λ (b : KeptBound). StandsBound b confs rolled rolling) (sym c.self.view_is) s)

use Rattle.std.proofs.Common.{◌≡◌, List, length, map, sym, ap, ◌∙◌, subst, arith}
use Rattle.std.proofs.lemmas.List.{take_all}
use Rattle.std.proofs.lemmas.Iterator.Consumers.{YieldsList-from_deque, YieldsList-end}
use Rattle.std.specs.List.{AllByRecursion}
use Rattle.replica_model.specs.Linked.{sha_link}
use Rattle.replica_log.specs.declared.chained.Chained.{Chained}
use Rattle.replica_log.specs.Window.{Window, IsOrdered, Fits}
use Rattle.replica_log.specs.Chain.{chained_from}
use Rattle.replica_log.specs.Stored.{window_in}
use Rattle.replica_log.proofs.log.Log.copy.Goals as goal
use Rattle.replica_log.proofs.log.Log.copy.Goals.{After-result-2-1}

copied : (c : After-result-2-1) → c.loop-chained.kept.items ≡ c.self.inside.kept.items
copied c =
    let all = YieldsList-end (YieldsList-from_deque c.self.inside.kept.items (ap (λ s. Rattle.std.specs.VecDeque.Iter.deque_iter_rest s) c.into_iter-chained-iterator.ensures.into_iter_gives ∙ c.iter-chained-items.ensures.rest))
    c.loop-chained.yielded _ c.loop-chained.yielded_by _ _ c.in-None.is c.next.ensures.steps in
    c.loop-chained.invariant ∙ take_all (length c.loop-chained.yielded) c.self.inside.kept.items (omega (arith, all.1))

pub invariant_of-result : goal.invariant_of-result
invariant_of-result c =
    let w : Window = window_in c.self.inside in
    let old = c.self.invariant in
    let entries : List Chained → _ = map (λ (x : Chained). x.entry) in
    let Stored : List Chained → Type 0 = λ ks.
    (ks ≡ chained_from sha_link w.base.point.hash w.base.point.index w.base.conf_index (entries ks))
    × AllByRecursion Fits (entries ks)
    × IsOrdered (record w { entries = entries ks }) in
    let new = subst Stored (sym (copied c)) (old.chained, old.fit, old.ordered) in
    record { chained = new.0; fit = new.1; ordered = new.2; no_term = old.no_term }

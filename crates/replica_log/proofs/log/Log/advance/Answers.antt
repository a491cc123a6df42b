use Rattle.std.proofs.Common.{◌≡◌, ◌+◌, List, ◌∷◌, map, sym, ap, ◌∙◌, subst}
use Rattle.replica_model.specs.Linked.{sha_link}
use Rattle.replica_log.specs.declared.chained.Chained.{Chained}
use Rattle.replica_log.specs.Window.{Window, base_index, dropped_below}
use Rattle.replica_log.specs.Chain.{chained, chained_from}
use Rattle.replica_log.specs.Stored.{window_in}
use Rattle.replica_log.proofs.Chains.{advanced}
use Rattle.replica_log.proofs.log.Log.advance.Goals as goal
use Rattle.replica_log.proofs.log.Log.advance.Goals.{in-Ask-1, in-Members-1, in-Noop-1}

pub returns-in-Some : goal.returns-in-Some
returns-in-Some c =
    let w : Window = window_in c.self.inside in
    let next : Chained = c.in-Some.next in
    let rest : List Chained = c.pop_front.new.self.items in
    let items : c.self.inside.kept.items ≡ next ∷ rest = c.in-Some.ensures.items in
    let entries : w.entries ≡ next.entry ∷ map (λ x. x.entry) rest = ap (map (λ (x : Chained). x.entry)) items in
    let stored : next ∷ rest ≡ chained_from sha_link w.base.point.hash (base_index w) w.base.conf_index (next.entry ∷ map (λ x. x.entry) rest) =
    sym items ∙ (c.self.invariant.chained ∙ ap (chained_from sha_link w.base.point.hash (base_index w) w.base.conf_index) entries) in
    let first : next ≡ chained sha_link w.base.point.hash (base_index w + 1) w.base.conf_index next.entry = cc in
    let moved = advanced sha_link w next.entry (map (λ x. x.entry) rest) next.hash c.config_after-self-inside.result next.conf_index entries
    (ap (λ (x : Chained). x.hash) first) c.config_after-self-inside.ensures (ap (λ (x : Chained). x.conf_index) first) in
    let all = subst (λ (v : Window). (record w { base = record { point = record { index = base_index w + 1; hash = next.hash }; term = next.entry.term; conf = c.config_after-self-inside.result; conf_index = next.conf_index }; entries = map (λ x. x.entry) rest })
    ≡ dropped_below sha_link v (base_index v + 1)) c.self.view_is moved in
    elim c.match-next.branch [
      | in-Ask-1 t ↦ t.self-is ∙ all
      | in-Members-1 t ↦ t.self-is ∙ all
      | in-Noop-1 t ↦ t.self-is ∙ all
    ]

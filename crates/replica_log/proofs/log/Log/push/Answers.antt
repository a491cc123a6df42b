use Rattle.std.proofs.Common.{◌≡◌, ℕ, ◌+◌, ◌-◌, List, [], ◌∷◌, ◌++◌, length, take, sym, ap, ◌∙◌, arith}
use Rattle.std.proofs.lemmas.List.{take_all}
use Rattle.replica_model.specs.Linked.{sha_link}
use Rattle.replica_log.specs.declared.chained.Chained.{Chained}
use Rattle.replica_log.specs.Window.{Window, last_index, conf_index_at}
use Rattle.replica_log.specs.Chain.{chained}
use Rattle.replica_log.specs.Grafting.{point_at}
use Rattle.replica_log.specs.Stored.{window_in}
use Rattle.replica_log.proofs.Chains.{length-chained}
use Rattle.replica_log.proofs.Splicing.{StoredAgain, stored_again}
use Rattle.replica_log.proofs.log.Log.push.Goals as goal
use Rattle.replica_log.proofs.log.Log.push.Goals.{In_ok-push_back}

again : (c : In_ok-push_back) → StoredAgain c.self.inside (last_index (window_in c.self.inside)) (c.args.entry ∷ []) c.push_back.new.self.items
again c =
    let w : Window = window_in c.self.inside in
    let i : ℕ = last_index w in
    let kept : List Chained = c.self.inside.kept.items in
    let at : c.last_index-last.result ≡ i = c.last_index-last.ensures.last ∙ ap last_index (sym c.self.view_is) in
    let hash : c.hash_of.result ≡ (point_at sha_link w i).hash =
    c.hash_of.ensures ∙ (ap (λ (v : Window). (point_at sha_link v c.last_index-last.result).hash) (sym c.self.view_is) ∙ ap (λ n. (point_at sha_link w n).hash) at) in
    let conf_index : c.conf_index_of.result ≡ conf_index_at w i =
    c.conf_index_of.ensures.index ∙ (ap (λ (v : Window). conf_index_at v c.last_index-last.result) (sym c.self.view_is) ∙ ap (conf_index_at w) at) in
    let next : c.new-next.result ≡ chained sha_link (point_at sha_link w i).hash (i + 1) (conf_index_at w i) c.args.entry =
    c.new-next.ensures
    ∙ (ap (λ h. chained sha_link h (c.last_index-last.result + 1) c.conf_index_of.result c.args.entry) hash
    ∙ (ap (λ n. chained sha_link (point_at sha_link w i).hash (n + 1) c.conf_index_of.result c.args.entry) at
    ∙ ap (λ j. chained sha_link (point_at sha_link w i).hash (i + 1) j c.args.entry) conf_index)) in
    let count : length kept ≡ length w.entries = ap length c.self.invariant.chained ∙ length-chained sha_link w.base.point.hash w.base.point.index w.base.conf_index w.entries in
    let all : kept ≡ take (i - w.base.point.index) kept = sym (take_all (i - w.base.point.index) kept (omega arith)) in
    stored_again c.self.inside c.self.invariant i (c.args.entry ∷ []) c.push_back.new.self.items c.self.invariant.ordered.last (omega arith)
    (c.requires.fits, tt) (let room = c.requires.room in omega (arith, at, ap last_index c.self.view_is))
    (c.in_ok-push_back.ensures.items ∙ (ap (λ ks. ks ++ c.new-next.result ∷ []) all ∙ ap (λ n. take (i - w.base.point.index) kept ++ n ∷ []) next))

pub invariant_of-self-2 : goal.invariant_of-self-2
invariant_of-self-2 c =
    let a = again c in
    record { chained = a.chained; fit = a.fit; ordered = a.ordered; no_term = c.self.invariant.no_term }

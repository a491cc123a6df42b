use Rattle.std.proofs.Common.{◌≡◌, ℕ, ◌-◌, Bool, true, List, ◌++◌, take, is_ok, if◌then◌else◌, sym, ap, ◌∙◌, arith}
use Rattle.replica_model.specs.Path.{Path}
use Rattle.replica_model.specs.Linked.{sha_link}
use Rattle.replica_log.specs.declared.chained.Chained.{Chained}
use Rattle.replica_log.specs.Window.{Window, last_index, conf_index_at, upto}
use Rattle.replica_log.specs.Chain.{chained_from}
use Rattle.replica_log.specs.Grafting.{point_at}
use Rattle.replica_log.specs.Stored.{window_in}
use Rattle.replica_log.proofs.Splicing.{StoredAgain, stored_again}
use Rattle.replica_log.proofs.log.Log.replace_after.Goals as goal
use Rattle.replica_log.proofs.log.Log.replace_after.Goals.{After-drop-more-2}

again : (c : After-drop-more-2) → StoredAgain c.self.inside c.args.index c.args.entries.now c.append.new.self.items
again c =
    let w : Window = window_in c.self.inside in
    let i : ℕ = c.args.index in
    let front : List Chained = c.truncate.new.self.items in
    let more : List Chained = c.in_ok-more.more.items in
    let hash : c.hash_of.result ≡ (point_at sha_link w i).hash = c.hash_of.ensures ∙ ap (λ (v : Window). (point_at sha_link v i).hash) (sym c.self.view_is) in
    let conf_index : c.conf_index_of.result ≡ conf_index_at w i = c.conf_index_of.ensures.index ∙ ap (λ (v : Window). conf_index_at v i) (sym c.self.view_is) in
    let stays : front ≡ take (i - c.self.inside.base.index) c.self.inside.kept.items = c.truncate.ensures.items ∙ ap (take (i - c.self.inside.base.index)) c.in_ok-reserve.ensures.items in
    let chained : more ≡ chained_from sha_link (point_at sha_link w i).hash i (conf_index_at w i) c.args.entries.now =
    c.in_ok-more.ensures
    ∙ (ap (λ h. chained_from sha_link h i c.conf_index_of.result c.args.entries.now) hash
    ∙ ap (λ j. chained_from sha_link (point_at sha_link w i).hash i j c.args.entries.now) conf_index) in
    let done : is_ok c.append.result ≡ true = ap is_ok c.unwrap.ensures in
    let both : c.append.new.self.items ≡ front ++ more = c.append.ensures.items ∙ ap (λ (b : Bool). if b then (front ++ more) else front) done in
    stored_again c.self.inside c.self.invariant i c.args.entries.now c.append.new.self.items
    (let promised = c.requires.promised in let same = ap (λ (v : Window). v.promised) c.self.view_is in omega arith)
    (let last = c.requires.last in omega (arith, ap last_index c.self.view_is))
    c.requires.fit (let room = c.requires.room in omega arith)
    (both ∙ (ap (λ ks. ks ++ more) stays ∙ ap (λ ks. take (i - c.self.inside.base.index) c.self.inside.kept.items ++ ks) chained))

pub invariant_of-self-2 : goal.invariant_of-self-2
invariant_of-self-2 c =
    let a = again c in
    record { chained = a.chained; fit = a.fit; ordered = a.ordered; no_term = c.self.invariant.no_term }

pub returns-clause-ok : goal.returns-clause-ok
returns-clause-ok c =
    let a = again c in
    ap (λ (p : Path). record (window_in c.self.inside) { entries = p }) a.entries
    ∙ ap (λ (v : Window). record v { entries = upto v c.args.index ++ c.args.entries.now }) c.self.view_is

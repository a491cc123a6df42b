use Rattle.std.proofs.Common.{◌≡◌, ℕ, ◌-◌, ◌<◌, ◌≤◌, nat_lt, sym, ap, ◌∙◌, subst, arith}
use Rattle.std.proofs.lemmas.Bool.{cond-true, cond-false, lt-ltb, le-ltb}
use Rattle.group_quorum.specs.Conf.{Conf}
use Rattle.replica_model.specs.Linked.{sha_link}
use Rattle.replica_model.specs.Replica.{Replica}
use Rattle.replica_log.specs.declared.configs.Configs.{Configs}
use Rattle.replica_log.specs.Window.{Window, IsOrdered, base_index, last_index, conf_at, conf_index_at, older_conf_at, configs_at}
use Rattle.replica_log.specs.Models.{StandsFor, AreConfigs}
use Rattle.replica_log.proofs.Chains.{conf_settled}
use Rattle.replica_log.proofs.Segments.{configs_stay}
use Rattle.replica_log.proofs.Standing.{indices_same, configs_same}
use Rattle.replica_log.proofs.log.Log.configs_to.Goals as goal

abbrev made : Conf → ℕ → Conf → Configs
made a n b = record { newest = a; newest_index = n; older = b }

module _ (w : Window) (o : IsOrdered w) (top n : ℕ) (is : n ≡ conf_index_at w top) where
  -- no configuration is kept up to the index
  settled : (a : Conf) → a ≡ w.base.conf → n ≤ base_index w → made a n a ≡ configs_at w top
  settled a a-is past =
      let here : conf_index_at w top ≤ base_index w = subst (λ (m : ℕ). m ≤ base_index w) is past in
      let conf : conf_at w top ≡ w.base.conf = conf_settled w top o.conf_index here in
      let older : older_conf_at w top ≡ conf_at w top =
      cond-false (nat_lt (base_index w) (conf_index_at w top)) (conf_at w (conf_index_at w top - 1)) (conf_at w top) (le-ltb (base_index w) (conf_index_at w top) here) in
      ap (λ (m : ℕ). made a m a) is ∙ (ap (λ (x : Conf). made x (conf_index_at w top) x) (a-is ∙ sym conf) ∙ ap (made (conf_at w top) (conf_index_at w top)) (sym older))

  -- one is
  changed : (a b : Conf) → a ≡ conf_at w top → b ≡ conf_at w (n - 1) → base_index w < n → made a n b ≡ configs_at w top
  changed a b a-is b-is above =
      let here : base_index w < conf_index_at w top = subst (λ (m : ℕ). base_index w < m) is above in
      let older : older_conf_at w top ≡ conf_at w (conf_index_at w top - 1) =
      cond-true (nat_lt (base_index w) (conf_index_at w top)) (conf_at w (conf_index_at w top - 1)) (conf_at w top) (lt-ltb (base_index w) (conf_index_at w top) here) in
      ap (λ (x : Conf). made x n b) a-is
      ∙ (ap (made (conf_at w top) n) (b-is ∙ ap (λ (m : ℕ). conf_at w (m - 1)) is ∙ sym older) ∙ ap (λ (m : ℕ). made (conf_at w top) m (older_conf_at w top)) is)

module _ (w : Window) (o : IsOrdered w) (top : ℕ) (k : Configs) (is : k ≡ configs_at w top) where
  stays : top ≤ last_index w → (i : ℕ) → base_index w ≤ i → k.newest_index ≤ i → i ≤ top → configs_at w i ≡ k
  stays last i least from within =
      configs_stay w i top o.conf_index least within last (subst (λ (x : Configs). x.newest_index ≤ i) is from) ∙ sym is

  models : base_index w ≤ top → (s : Replica) → StandsFor sha_link w s → AreConfigs s top k
  models least s h =
      let base = (indices_same sha_link w s h).base in
      subst (AreConfigs s top) (sym is) (configs_same sha_link w o s h top (omega (arith, base, least)))

pub returns-then-newest_index-self-clause-configs : goal.returns-then-newest_index-self-clause-configs
returns-then-newest_index-self-clause-configs c =
    let w : Window = c.args.self.now in
    settled w (subst IsOrdered c.self.view_is c.self.invariant.ordered) c.args.index c.conf_index_of-newest_index.result c.conf_index_of-newest_index.ensures.index c.self.inside.config
    (ap (λ (v : Window). v.base.conf) c.self.view_is) (let base = ap (λ (v : Window). base_index v) c.self.view_is in let test = c.if-newest_index-self.true in omega (arith, base, test))

pub returns-then-newest_index-self-clause-stay : goal.returns-then-newest_index-self-clause-stay
returns-then-newest_index-self-clause-stay c =
    let w : Window = c.args.self.now in
    stays w (subst IsOrdered c.self.view_is c.self.invariant.ordered) c.args.index (made c.self.inside.config c.conf_index_of-newest_index.result c.self.inside.config)
    (settled w (subst IsOrdered c.self.view_is c.self.invariant.ordered) c.args.index c.conf_index_of-newest_index.result c.conf_index_of-newest_index.ensures.index c.self.inside.config
    (ap (λ (v : Window). v.base.conf) c.self.view_is) (let base = ap (λ (v : Window). base_index v) c.self.view_is in let test = c.if-newest_index-self.true in omega (arith, base, test))) c.requires.last

pub returns-then-newest_index-self-clause-model : goal.returns-then-newest_index-self-clause-model
returns-then-newest_index-self-clause-model c =
    let w : Window = c.args.self.now in
    models w (subst IsOrdered c.self.view_is c.self.invariant.ordered) c.args.index (made c.self.inside.config c.conf_index_of-newest_index.result c.self.inside.config)
    (settled w (subst IsOrdered c.self.view_is c.self.invariant.ordered) c.args.index c.conf_index_of-newest_index.result c.conf_index_of-newest_index.ensures.index c.self.inside.config
    (ap (λ (v : Window). v.base.conf) c.self.view_is) (let base = ap (λ (v : Window). base_index v) c.self.view_is in let test = c.if-newest_index-self.true in omega (arith, base, test))) c.requires.base

pub returns-clause-stay : goal.returns-clause-stay
returns-clause-stay c =
    let w : Window = c.args.self.now in
    stays w (subst IsOrdered c.self.view_is c.self.invariant.ordered) c.args.index (made c.config_of.result c.conf_index_of-newest_index.result c.config_of-2.result)
    (changed w (subst IsOrdered c.self.view_is c.self.invariant.ordered) c.args.index c.conf_index_of-newest_index.result c.conf_index_of-newest_index.ensures.index c.config_of.result c.config_of-2.result
    c.config_of.ensures c.config_of-2.ensures (let base = ap (λ (v : Window). base_index v) c.self.view_is in let test = c.if-newest_index-self.false in omega (arith, base, test))) c.requires.last

pub returns-clause-model : goal.returns-clause-model
returns-clause-model c =
    let w : Window = c.args.self.now in
    models w (subst IsOrdered c.self.view_is c.self.invariant.ordered) c.args.index (made c.config_of.result c.conf_index_of-newest_index.result c.config_of-2.result)
    (changed w (subst IsOrdered c.self.view_is c.self.invariant.ordered) c.args.index c.conf_index_of-newest_index.result c.conf_index_of-newest_index.ensures.index c.config_of.result c.config_of-2.result
    c.config_of.ensures c.config_of-2.ensures (let base = ap (λ (v : Window). base_index v) c.self.view_is in let test = c.if-newest_index-self.false in omega (arith, base, test))) c.requires.base

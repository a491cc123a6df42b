use Rattle.std.proofs.Common.{◌≡◌, ℕ, ◌+◌, ◌≤◌, max, sym, ap, ◌∙◌, subst, arith}
use Rattle.replica_model.specs.Linked.{sha_link}
use Rattle.replica_log.specs.Window.{Window, IsOrdered, base_index, last_index, dropped_below}
use Rattle.replica_log.specs.Models.{StandsFor}
use Rattle.replica_log.proofs.Splicing.{drop_none, drop_twice, drop_last}
use Rattle.replica_log.proofs.Standing.{indices_same, dropped_model}
use Rattle.replica_log.proofs.log.Log.drop_below.Goals as goal

pub loop-self-preserved : goal.loop-self-preserved
loop-self-preserved c =
    let w : Window = c.loop-self.self in
    let order = subst IsOrdered c.self.view_is c.self.invariant.ordered in
    let base : c.self.inside.base.index ≡ base_index w = ap (λ (v : Window). base_index v) c.self.view_is in
    let inner = c.loop-self.invariant.committed in
    let test = c.loop-self-test.true in
    let c1 = order.promised in
    let c2 = order.last in
    record {
      committed = subst (λ (n : ℕ). c.args.index ≤ n) (sym (ap (λ (v : Window). v.committed) c.advance.ensures)) inner;
      moved =
          ap (λ v. dropped_below sha_link v c.args.index) c.advance.ensures
          ∙ (drop_twice sha_link w c.args.index (omega arith) (omega arith) ∙ c.loop-self.invariant.moved);
      last = ap last_index c.advance.ensures ∙ (drop_last sha_link w (base_index w + 1) (omega arith) (omega arith) ∙ c.loop-self.invariant.last);
    }

pub returns-clause-model : goal.returns-clause-model
returns-clause-model c s h =
    let w : Window = c.args.self.now in
    let v : Window = c.loop-self.self in
    let base : c.self.inside.base.index ≡ base_index v = ap (λ (u : Window). base_index u) c.self.view_is in
    let past : c.args.index ≤ base_index v = (let test = c.loop-self-test.false in omega arith) in
    let is : dropped_below sha_link w c.args.index ≡ v = sym c.loop-self.invariant.moved ∙ drop_none sha_link v c.args.index past in
    let same = indices_same sha_link w s h in
    let order = subst IsOrdered c.self.view_is c.self.invariant.ordered in
    let committed = c.loop-self.invariant.committed in
    let promised = order.promised in
    let least = order.last in
    let last = c.loop-self.invariant.last in
    let whole = same.last in
    subst (λ u. StandsFor sha_link u (record s { base = max s.base c.args.index })) is (dropped_model sha_link w s h c.args.index (omega arith))

use Rattle.std.proofs.Common.{◌≡◌, sym, ap, subst, arith}
use Rattle.values.specs.declared.entry.Point.{Point}
use Rattle.replica_model.specs.Linked.{sha_link}
use Rattle.replica_log.specs.declared.graft.Graft.TheVariants.{Apart}
use Rattle.replica_log.specs.Window.{Window, base_index, last_index}
use Rattle.replica_log.specs.Grafting.{IsRefusal}
use Rattle.replica_log.proofs.Grafts.{apart_above, apart_below, joins_at}
use Rattle.replica_log.proofs.log.Log.find_cut.Goals as goal

pub returns-then-prev-last-clause-refused : goal.returns-then-prev-last-clause-refused
returns-then-prev-last-clause-refused c =
    let w : Window = c.args.self.now in
    let last : c.last-last.result.index ≡ last_index w = ap (λ (p : Point). p.index) c.last-last.ensures.last in
    subst (λ n. IsRefusal sha_link w c.args.prev c.args.entries.now (Apart n)) (sym last)
    (apart_above sha_link w c.args.prev c.args.entries.now (let high = c.if-prev-last.true in omega arith))

pub returns-then-end-base-clause-refused : goal.returns-then-end-base-clause-refused
returns-then-end-base-clause-refused c =
    let w : Window = c.args.self.now in
    let last : c.last-last.result.index ≡ last_index w = ap (λ (p : Point). p.index) c.last-last.ensures.last in
    let base : c.base.result.index ≡ base_index w = ap (λ (p : Point). p.index) c.base.ensures.base in
    subst (λ n. IsRefusal sha_link w c.args.prev c.args.entries.now (Apart n)) (sym c.promised-promised.ensures.promised)
    (apart_below sha_link w c.args.prev c.args.entries.now (let low = c.if-prev-last.false in omega arith) (let under = c.if-end-base.true in omega arith))

pub returns-else-index-prev-clause-joins : goal.returns-else-index-prev-clause-joins
returns-else-index-prev-clause-joins c =
    let w : Window = c.args.self.now in
    let base : c.base.result.index ≡ base_index w = ap (λ (p : Point). p.index) c.base.ensures.base in
    let promised = c.promised-promised.ensures.promised in
    joins_at sha_link w c.args.prev c.args.entries.now (c.in-Some.index, c.in-Some.kept, c.in-Some.offered) (sym c.in-Some.ensures)
    (let above = c.if-index-promised.false in omega arith) c.if-index-prev.false (let over = c.if-end-base.false in omega arith)

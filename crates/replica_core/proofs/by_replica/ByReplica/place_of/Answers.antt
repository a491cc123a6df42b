use Rattle.std.proofs.Common.{◌≡◌, ℕ, ◌<◌, nat_le, List, length, sym, ◌∙◌, ap, below_more, arith}
use Rattle.std.proofs.lemmas.Bool.{le-leb, lt-leb}
use Rattle.std.proofs.lemmas.List.Sums.{position_or_len_is}
use Rattle.std.specs.List.{position_or_len}
use Rattle.replica_core.proofs.by_replica.ByReplica.place_of.Goals as goal
use Rattle.replica_core.proofs.Listed.{get_or-get_or, place-end}

pub returns-then-item-id : goal.returns-then-item-id
returns-then-item-id g c =
    let xs : List (ℕ × g.row.T.Denot) = c.as_slice-item-items.result.now in
    let i : ℕ = c.loop-place.place in
    let x : ℕ × g.row.T.Denot = c.item-item.result in
    let lt : i < length xs = c.loop-place-test.true in
    sym (position_or_len_is (λ item. nat_le c.args.id item.0) xs i x (omega arith) (c.loop-place.invariant x)
    (λ le. ap (λ (y : ℕ × g.row.T.Denot). nat_le c.args.id y.0) (sym c.item-item.is) ∙ le-leb c.args.id x.0 c.if-item-id.true))
    ∙ ap (position_or_len (λ item. nat_le c.args.id item.0)) (c.as_slice-item-items.ensures.value ∙ c.self.view_is)

pub loop-place-preserved : goal.loop-place-preserved
loop-place-preserved g c = λ d.
    let xs : List (ℕ × g.row.T.Denot) = c.as_slice-item-items.result.now in
    let i : ℕ = c.loop-place.place in
    let x : ℕ × g.row.T.Denot = c.item-item.result in
    below_more _ _ (c.loop-place.invariant d)
    (ap (λ (y : ℕ × g.row.T.Denot). nat_le c.args.id y.0) (get_or-get_or xs i x d c.loop-place-test.true c.item-item.is) ∙ lt-leb c.args.id x.0 c.if-item-id.false)

pub returns : goal.returns
returns g c =
    let xs : List (ℕ × g.row.T.Denot) = c.as_slice-item-items.result.now in
    let end : c.loop-place.place ≡ length xs = (let a = c.loop-place-test.false in let b = c.loop-place.auto.place-end in omega (arith, a, b)) in
    c.len.ensures ∙ (sym c.as_slice-item-items.ensures.len ∙ (sym end
    ∙ (sym (place-end (λ item. nat_le c.args.id item.0) xs c.loop-place.place (omega arith) c.loop-place.invariant)
    ∙ ap (position_or_len (λ item. nat_le c.args.id item.0)) (c.as_slice-item-items.ensures.value ∙ c.self.view_is))))

use Rattle.std.proofs.Common.{ℕ, List, length, refl, sym, ◌∙◌, ap, below_more, arith}
use Rattle.std.proofs.lemmas.Option.{slice_get_read, get_or_from_slice_get}
use Rattle.replica_model.specs.Keyed.{value_at}
use Rattle.replica_core.proofs.Listed.{value-first, value-nowhere}
use Rattle.replica_core.proofs.by_replica.ByReplica.get.Goals as goal

pub returns-then-key-id : goal.returns-then-key-id
returns-then-key-id g c =
    let xs : List (ℕ × g.row.T.Denot) = c.as_slice-key-items.result.now in
    sym (value-first xs c.args.id c.loop-key.key-index c.loop-key-item.result
    (slice_get_read xs (length xs) c.loop-key.key-index c.loop-key-item.result refl c.loop-key-test.true c.loop-key-item.is)
    c.if-key-id.true c.loop-key.invariant)
    ∙ ap (λ ys. value_at ys c.args.id) (c.as_slice-key-items.ensures.value ∙ c.self.view_is)

pub loop-key-preserved : goal.loop-key-preserved
loop-key-preserved g c = λ d.
    let xs : List (ℕ × g.row.T.Denot) = c.as_slice-key-items.result.now in
    let i : ℕ = c.loop-key.key-index in
    let x : ℕ × g.row.T.Denot = c.loop-key-item.result in
    below_more _ _ (c.loop-key.invariant d)
    (λ same. c.if-key-id.false
    (ap (λ (y : ℕ × g.row.T.Denot). y.0) (sym (get_or_from_slice_get xs i x d (slice_get_read xs (length xs) i x refl c.loop-key-test.true c.loop-key-item.is))) ∙ same))

pub returns : goal.returns
returns g c =
    let xs : List (ℕ × g.row.T.Denot) = c.as_slice-key-items.result.now in
    sym (value-nowhere xs c.args.id (λ d j lt. c.loop-key.invariant d j (let end = c.loop-key-test.false in omega (arith, lt, end))))
    ∙ ap (λ ys. value_at ys c.args.id) (c.as_slice-key-items.ensures.value ∙ c.self.view_is)

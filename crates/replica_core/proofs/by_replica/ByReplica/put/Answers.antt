use Rattle.std.proofs.Common.{◌≡◌, ℕ, ◌<◌, not, nat_le, Some, List, length, refl, sym, ◌∙◌, ap, subst, arith}
use Rattle.std.proofs.Math.ListN.{set}
use Rattle.std.proofs.lemmas.Option.{slice_get_read, get_or_from_slice_get, slice_get_within}
use Rattle.std.proofs.lemmas.List.Sums.{prefix_len-le-length}
use Rattle.std.specs.List.{insert}
use Rattle.std.specs.Prelude.{slice_get}
use Rattle.replica_model.specs.Keyed.{put}
use Rattle.replica_core.proofs.Listed.{place, get_or-get_or, put-set, put-insert}
use Rattle.replica_core.proofs.by_replica.ByReplica.put.Goals as goal
use Rattle.replica_core.proofs.by_replica.ByReplica.put.Goals.{else-place-len-via-then-place-len+else-index-id, else-place-len-via-else-place-len}

pub insert-requires : goal.insert-requires
insert-requires g c =
    let xs : List (ℕ × g.row.T.Denot) = c.self.inside.items.items in
    let at : c.place_of-place.result ≡ place xs c.args.id = c.place_of-place.ensures ∙ ap (λ ys. place ys c.args.id) (sym c.self.view_is) in
    let within = prefix_len-le-length (λ item. not (nat_le c.args.id item.0)) xs in
    let ok = c.self.inside.items.ok in
    omega (arith, at, within, ok)

pub returns-then-index-id : goal.returns-then-index-id
returns-then-index-id g c =
    let xs : List (ℕ × g.row.T.Denot) = c.self.inside.items.items in
    let k : ℕ = c.args.id in
    let i : ℕ = c.place_of-place.result in
    let y : ℕ × g.row.T.Denot = c.index_mut.result.now in
    let z : ℕ × g.row.T.Denot = c.index.result.now in
    let lt : i < length xs = (let t = c.if-place-len.true in let l = c.len.ensures in let ok = c.self.inside.items.ok in omega (arith, t, l, ok)) in
    let at : i ≡ place xs k = c.place_of-place.ensures ∙ ap (λ ys. place ys k) (sym c.self.view_is) in
    let there : slice_get xs i ≡ Some y = slice_get_read xs (length xs) i y refl lt c.index_mut.ensures.value in
    let key : y.0 ≡ k = ap (λ (x : ℕ × g.row.T.Denot). x.0) (sym (get_or-get_or xs i y z lt c.index_mut.ensures.value) ∙ sym c.index.ensures) ∙ c.if-index-id.true in
    ap (λ n. set xs i (n, c.args.value)) key
    ∙ (ap (λ n. set xs n (k, c.args.value)) at
    ∙ (sym (put-set xs k c.args.value y (subst (λ n. slice_get xs n ≡ Some y) at there) key)
    ∙ ap (λ ys. put ys k c.args.value) c.self.view_is))

pub returns-in_ok-insert : goal.returns-in_ok-insert
returns-in_ok-insert g c =
    let xs : List (ℕ × g.row.T.Denot) = c.self.inside.items.items in
    let k : ℕ = c.args.id in
    let i : ℕ = c.place_of-place.result in
    let at : i ≡ place xs k = c.place_of-place.ensures ∙ ap (λ ys. place ys k) (sym c.self.view_is) in
    let other : (x : ℕ × g.row.T.Denot) → slice_get xs i ≡ Some x → x.0 ≡ k → ⊥ =
    elim c.else-place-len.branch [
      | else-place-len-via-then-place-len+else-index-id w ↦ λ x there same.
          w.if-index-id.false (ap (λ (y : ℕ × g.row.T.Denot). y.0) (w.index.ensures ∙ get_or_from_slice_get xs i x w.index.result.now there) ∙ same)
      | else-place-len-via-else-place-len w ↦ λ x there same.
          let lt = slice_get_within xs i x there in
          let past = w.if-place-len.false in
          let l = c.len.ensures in
          let ok = c.self.inside.items.ok in
          absurd (omega (arith, lt, past, l, ok))
    ] in
    c.in_ok-insert.ensures.items
    ∙ (ap (λ n. insert xs n (k, c.args.value)) at
    ∙ (sym (put-insert xs k c.args.value (λ x there. other x (subst (λ n. slice_get xs n ≡ Some x) (sym at) there)))
    ∙ ap (λ ys. put ys k c.args.value) c.self.view_is))

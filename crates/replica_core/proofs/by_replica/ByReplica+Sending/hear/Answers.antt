use Rattle.std.proofs.Common.{◌≡◌, ℕ, ◌<◌, Some, List, length, map, refl, sym, ◌∙◌, ap, subst, arith}
use Rattle.std.specs.Prelude.{slice_get}
use Rattle.std.proofs.Math.ListN.{set}
use Rattle.std.proofs.lemmas.Option.{slice_get_read, get_or_from_slice_get, slice_get_within}
use Rattle.values.specs.Rising.{Rising}
use Rattle.replica_model.specs.Keyed.{value_at}
use Rattle.table_transfer.specs.SentTable.{SentTable, after_heard}
use Rattle.replica_core.specs.Heard.{sendings_after}
use Rattle.replica_core.proofs.Listed.{place, get_or-get_or, value-there, value-none, hear-put, hears-there, hears-none}
use Rattle.replica_core.proofs.by_replica.ByReplica+Sending.hear.Goals as goal
use Rattle.replica_core.proofs.by_replica.ByReplica+Sending.hear.Goals.{else-place-len-via-then-place-len+else-index-id, else-place-len-via-else-place-len}

pub returns-then-index-id : goal.returns-then-index-id
returns-then-index-id c =
    let xs : List (ℕ × SentTable) = c.self.inside.items.items in
    let k : ℕ = c.args.id in
    let i : ℕ = c.place_of-place.result in
    let y : ℕ × SentTable = c.index_mut.result.now in
    let z : ℕ × SentTable = c.index.result.now in
    let lt : i < length xs = (let t = c.if-place-len.true in let l = c.len.ensures in let ok = c.self.inside.items.ok in omega (arith, t, l, ok)) in
    let at : i ≡ place xs k = c.place_of-place.ensures ∙ ap (λ ys. place ys k) (sym c.self.view_is) in
    let here : slice_get xs i ≡ Some y = slice_get_read xs (length xs) i y refl lt c.index_mut.ensures.value in
    let there : slice_get xs (place xs k) ≡ Some y = subst (λ n. slice_get xs n ≡ Some y) at here in
    let key : y.0 ≡ k = ap (λ (x : ℕ × SentTable). x.0) (sym (get_or-get_or xs i y z lt c.index_mut.ensures.value) ∙ sym c.index.ensures) ∙ c.if-index-id.true in
    record {
      heard = hears-there c.args.self.now _ k c.args.point.now c.args.next c.heard.result y.1
          (ap (λ ys. value_at ys k) (sym c.self.view_is) ∙ value-there xs k y there key)
          c.heard.ensures.answer
          (ap (λ s. set xs i (y.0, s)) c.heard.ensures.after
          ∙ (ap (λ n. set xs n (y.0, after_heard y.1 c.args.next c.heard.result)) at
          ∙ (hear-put xs k y c.args.next c.heard.result there key
          ∙ ap (λ ys. sendings_after ys k y.1 c.args.next c.heard.result) c.self.view_is)));
    }

pub returns-else-place-len : goal.returns-else-place-len
returns-else-place-len c =
    let xs : List (ℕ × SentTable) = c.self.inside.items.items in
    let k : ℕ = c.args.id in
    let i : ℕ = c.place_of-place.result in
    let at : i ≡ place xs k = c.place_of-place.ensures ∙ ap (λ ys. place ys k) (sym c.self.view_is) in
    let other : (x : ℕ × SentTable) → slice_get xs i ≡ Some x → x.0 ≡ k → ⊥ =
    elim c.else-place-len.branch [
      | else-place-len-via-then-place-len+else-index-id w ↦ λ x there same.
          w.if-index-id.false (ap (λ (y : ℕ × SentTable). y.0) (w.index.ensures ∙ get_or_from_slice_get xs i x w.index.result.now there) ∙ same)
      | else-place-len-via-else-place-len w ↦ λ x there same.
          let lt = slice_get_within xs i x there in
          let past = w.if-place-len.false in
          let l = c.len.ensures in
          let ok = c.self.inside.items.ok in
          absurd (omega (arith, lt, past, l, ok))
    ] in
    let rising : Rising (map (λ (x : ℕ × SentTable). x.0) xs) = subst (λ (ys : List (ℕ × SentTable)). Rising (map (λ (x : ℕ × SentTable). x.0) ys)) (sym c.self.view_is) c.requires in
    record {
      heard = hears-none c.args.self.now c.args.self.now k c.args.point.now c.args.next _
          (ap (λ ys. value_at ys k) (sym c.self.view_is) ∙ value-none xs k rising (λ x there. other x (subst (λ n. slice_get xs n ≡ Some x) (sym at) there)))
          refl refl;
    }

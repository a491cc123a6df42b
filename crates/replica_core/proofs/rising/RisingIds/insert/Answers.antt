use Rattle.std.proofs.Common.{◌≡◌, ℕ, List, not, nat_lt, sym, ap, ◌∙◌, arith}
use Rattle.std.proofs.lemmas.Bool.{cond-false}
use Rattle.std.proofs.lemmas.List.Sums.{prefix_len-le-length}
use Rattle.group_quorum.specs.Voters.{is_in, insert_rising}
use Rattle.std.specs.List.{insert}
use Rattle.group_quorum.proofs.Inserted.{above, insert-rising}
use Rattle.replica_core.proofs.rising.RisingIds.insert.Goals as goal

pub insert-requires : goal.insert-requires
insert-requires c =
    let xs : List ℕ = c.self.inside.ids.items in
    let at : c.place_of-place.result ≡ above xs c.args.id = c.place_of-place.ensures ∙ ap (λ ys. above ys c.args.id) (sym c.self.view_is) in
    let within = prefix_len-le-length (λ v. not (nat_lt c.args.id v)) xs in
    let ok = c.self.inside.ids.ok in
    omega (arith, at, within, ok)

pub returns : goal.returns
returns c =
    let xs : List ℕ = c.self.inside.ids.items in
    c.in_ok-insert.ensures.items
    ∙ (ap (λ n. insert xs n c.args.id) (c.place_of-place.ensures ∙ ap (λ ys. above ys c.args.id) (sym c.self.view_is))
    ∙ (sym (insert-rising xs c.args.id)
    ∙ (ap (insert_rising c.args.id) c.self.view_is
    ∙ sym (cond-false (is_in c.args.self.now c.args.id) c.args.self.now (insert_rising c.args.id c.args.self.now) (sym c.contains.ensures ∙ c.if-contains.false)))))

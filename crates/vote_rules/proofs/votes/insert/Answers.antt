use Rattle.std.proofs.Common.{rules, ◌≡◌, ℕ, false, List, sym, ap, ◌∙◌}
use Rattle.std.proofs.lemmas.Bool.{cond-false}
use Rattle.std.specs.List.{insert}
use Rattle.group_quorum.specs.Voters.{is_in, insert_rising}
use Rattle.group_quorum.proofs.Inserted.{above, insert-rising}
use Rattle.vote_rules.proofs.votes.insert.Goals as goal

pub returns-then-not-contains-clause-ids : goal.returns-then-not-contains-clause-ids
returns-then-not-contains-clause-ids c =
    let xs : List ℕ = c.args.ids.now.items in
    let v : ℕ = c.args.id in
    let at : c.place_of-place.result ≡ above xs v = c.place_of-place.ensures.place ∙ ap (λ ys. above ys v) c.as_slice.ensures.value in
    let other : is_in xs v ≡ false = search rules in
    c.insert.ensures.items
    ∙ (ap (λ n. insert xs n v) at
    ∙ (sym (insert-rising xs v)
    ∙ sym (cond-false (is_in xs v) xs (insert_rising v xs) other)))

use Rattle.std.proofs.Common.{ℕ, ◌≡◌, ◌++◌, length, drop, ap, ◌∙◌, subst, replicate}
use Rattle.std.specs.List.Sorted.{IsPermutation}
use Rattle.group_quorum.specs.Voters.{rising}
use Rattle.group_quorum.specs.declared.TheConstants.{MAX_VOTERS}
use Rattle.group_quorum.proofs.Made.{sorted_is, zeros_behind}
use Rattle.group_quorum.proofs.config.sorted.Goals as goal

pub returns : goal.returns
returns c =
    let ids = c.args.ids.now in
    let copied : c.copy_from_slice.new.self ≡ ids = c.copy_from_slice.ensures.after in
    let front : c.sort_unstable.new.self ≡ rising ids = sorted_is ids c.sort_unstable.new.self (subst (λ xs. IsPermutation xs c.sort_unstable.new.self) copied c.sort_unstable.ensures.permutation) c.sort_unstable.ensures.sorted in
    ap (λ xs. xs ++ drop {A = ℕ} (length ids) (replicate MAX_VOTERS 0)) front ∙ ap (λ xs. rising ids ++ xs) (zeros_behind (length ids))

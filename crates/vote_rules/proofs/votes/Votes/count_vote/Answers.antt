use Rattle.std.proofs.Common.{◌≡◌, ℕ, List, rules, ap, ◌∙◌}
use Rattle.std.specs.Prelude.{◌==◌, ◌||◌, filter}
use Rattle.arrayvec.proofs.ArrayVecLemmas.{filter-from_retain}
use Rattle.group_quorum.specs.Voters.{is_in}
use Rattle.vote_rules.specs.Candidates.{ids_of}
use Rattle.vote_rules.specs.Elections.{counted}
use Rattle.vote_rules.proofs.Elected.{votes_are}
use Rattle.vote_rules.proofs.votes.Votes.count_vote.Goals as goal
use Rattle.vote_rules.proofs.votes.Votes.count_vote.Goals.{After-win}

counted_is : (c : After-win) → ids_of c.of.result ≡ counted c.args.configs.now c.args.committed (ids_of c.args.self.now) c.args.from
counted_is c =
    let before : List ℕ = ids_of c.args.self.now in
    let p = λ (v : ℕ). v == c.args.from || is_in before v in
    c.of.ensures ∙ (c.as_slice.ensures.value
    ∙ (filter-from_retain _ _ _ (λ x b f' y called. search rules) _ _ c.retain.ensures.filtered
    ∙ ap (filter p) c.voters_by-voters.ensures))

pub returns-clause-votes : goal.returns-clause-votes
returns-clause-votes c = counted_is c

pub returns-clause-model : goal.returns-clause-model
returns-clause-model c = λ s by.
    (counted_is c ∙ votes_are c.args.configs.now s c.args.committed by (ids_of c.args.self.now) c.args.from, c.win.ensures.model s by)

use Rattle.std.proofs.Common.{◌≡◌, ℕ, Bool, IfOk, List, sym, ap, subst, ◌∙◌}
use Rattle.std.proofs.lemmas.Bool.{cond-true, cond-false}
use Rattle.values.specs.declared.batch.Batch.{Batch}
use Rattle.replica_model.specs.Replica as model
use Rattle.replica_model.specs.Call.{still}
use Rattle.replica_model.specs.Votes.{is_elected, with_vote, win, vote_heard, counted}
use Rattle.replica_core.specs.declared.role.Role.TheVariants as kept
use Rattle.replica_core.specs.declared.send.Appends.TheVariants.{Nobody}
use Rattle.replica_core.specs.declared.holder.Holder.{Holder}
use Rattle.replica_core.specs.Standing.{RoleAs}
use Rattle.replica_core.specs.Calling.{Does}
use Rattle.replica_core.proofs.Calls.{still-does}
use Rattle.replica_core.proofs.Wins.{counted-vote}
use Rattle.replica_core.proofs.Sends.{with-role, same-role}
use Rattle.replica_core.proofs.Holding.{candidate-as}
use Rattle.replica_core.specs.InRange.{IsHolderInRange}
use Rattle.replica_core.proofs.Ranged.{role-in}
use Rattle.replica_core.proofs.holder.Holder.vote_heard.Goals as goal
use Rattle.replica_core.proofs.holder.Holder.vote_heard.Goals.{else-granted-via-then-granted+else-count_vote, else-granted-via-else-granted}

pub returns-then-count_vote-clause-model : goal.returns-then-count_vote-clause-model
returns-then-count_vote-clause-model c = λ s st.
    let h : Holder = c.args.self.now in
    let from : ℕ = c.args.from in
    let granted : Bool = c.args.granted in
    let role = subst (λ r. RoleAs s.limit s.first r s.role) c.in-Candidate.is st.role in
    let like = candidate-as s.limit s.first c.in-Candidate.votes s.role role in
    let ids : List ℕ = like.0 in
    let ws : List ℕ = with_vote s ids from in
    let after : model.Replica = record s { role = model.Candidate ws } in
    let counts = counted-vote c.logs_are_the_models.ensures h s st c.committed-committed.ensures.ordered c.configs-configs.result c.configs-configs.ensures c.committed-committed.result c.committed-committed.ensures.committed
    c.in-Candidate.votes c.count_vote.new.self c.count_vote.result from ids like.1.1 c.count_vote.ensures.model in
    let call : vote_heard s s.role from granted ≡ win after =
    ap (λ r. vote_heard s r from granted) like.1.0
    ∙ (cond-true granted (counted s ws) (still s) c.if-granted.true
    ∙ cond-true (is_elected s ws) (win after) (still after) (sym counts.elected ∙ c.if-count_vote.true)) in
    subst (λ k. IfOk c.win.result (λ to. Does c.win.new.self c.win.new.batch to k)) (sym call)
    (c.win.ensures.model after (with-role h s (kept.Candidate c.count_vote.new.self) (model.Candidate ws) st counts.same))

pub returns-else-granted-clause-model : goal.returns-else-granted-clause-model
returns-else-granted-clause-model c = λ s st.
    let h : Holder = c.args.self.now in
    let b : Batch = c.args.batch.now in
    let from : ℕ = c.args.from in
    let granted : Bool = c.args.granted in
    let role = subst (λ r. RoleAs s.limit s.first r s.role) c.in-Candidate.is st.role in
    let like = candidate-as s.limit s.first c.in-Candidate.votes s.role role in
    let ids : List ℕ = like.0 in
    let ws : List ℕ = with_vote s ids from in
    let after : model.Replica = record s { role = model.Candidate ws } in
    let heard = ap (λ r. vote_heard s r from granted) like.1.0 in
    elim c.else-granted.branch [
      | else-granted-via-then-granted+else-count_vote w ↦
          let counts = counted-vote c.logs_are_the_models.ensures h s st c.committed-committed.ensures.ordered c.configs-configs.result c.configs-configs.ensures c.committed-committed.result c.committed-committed.ensures.committed
          c.in-Candidate.votes w.count_vote.new.self w.count_vote.result from ids like.1.1 w.count_vote.ensures.model in
          let call : vote_heard s s.role from granted ≡ still after =
          heard
          ∙ (cond-true granted (counted s ws) (still s) w.if-granted.true
          ∙ cond-false (is_elected s ws) (win after) (still after) (sym counts.elected ∙ w.if-count_vote.false)) in
          let g : Holder = record h { role = kept.Candidate w.count_vote.new.self } in
          subst (λ x. Does x b Nobody (vote_heard s s.role from granted)) (sym w.self-is)
          (subst (Does g b Nobody) (sym call)
          (still-does g b after (with-role h s (kept.Candidate w.count_vote.new.self) (model.Candidate ws) st counts.same) c.requires.empty))
      | else-granted-via-else-granted w ↦
          let g : Holder = record h { role = kept.Candidate c.in-Candidate.votes } in
          let call : vote_heard s s.role from granted ≡ still s = heard ∙ cond-false granted (counted s ws) (still s) w.if-granted.false in
          subst (λ x. Does x b Nobody (vote_heard s s.role from granted)) (sym w.self-is)
          (subst (Does g b Nobody) (sym call)
          (still-does g b s (same-role h s (kept.Candidate c.in-Candidate.votes) st role) c.requires.empty))
    ]

pub returns-then-count_vote-clause-in_range : goal.returns-then-count_vote-clause-in_range
returns-then-count_vote-clause-in_range c = λ ranged. c.win.ensures.in_range (role-in c.args.self.now (kept.Candidate c.count_vote.new.self) ranged tt)

pub returns-else-granted-clause-in_range : goal.returns-else-granted-clause-in_range
returns-else-granted-clause-in_range c = λ ranged b.
    elim c.else-granted.branch [
      | else-granted-via-then-granted+else-count_vote w ↦
          (subst IsHolderInRange (sym w.self-is) (role-in c.args.self.now (kept.Candidate w.count_vote.new.self) ranged tt), (b, tt))
      | else-granted-via-else-granted w ↦
          (subst IsHolderInRange (sym w.self-is) (role-in c.args.self.now (kept.Candidate c.in-Candidate.votes) ranged tt), (b, tt))
    ]

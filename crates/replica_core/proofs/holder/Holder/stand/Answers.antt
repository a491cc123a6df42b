use Rattle.std.proofs.Common.{◌≡◌, Bool, true, false, not, ◌&&◌, ◌||◌, ◌==◌, IfOk, length, sym, ap, subst, ◌∙◌}
use Rattle.std.proofs.lemmas.Bool.{and_left, and_right, and_from, or_left, or_right, or_from, eq-eqb, ne_eqb}
use Rattle.values.specs.declared.batch.Batch.{Batch}
use Rattle.values.specs.declared.limits.TheConstants.{TOP}
use Rattle.group_quorum.specs.Voters.{is_in}
use Rattle.replica_model.specs.Peers.{is_voter}
use Rattle.replica_model.specs.Replica as model
use Rattle.replica_model.specs.Votes.{stood}
use Rattle.replica_model.specs.Votes.{stand as model_stand}
use Rattle.replica_log.specs.declared.configs.Configs.{Configs}
use Rattle.replica_log.specs.Window.{last_index, configs_at}
use Rattle.replica_core.specs.Logs.{LogsAreTheModels}
use Rattle.replica_core.specs.declared.send.Appends.TheVariants.{Nobody}
use Rattle.replica_core.specs.declared.holder.Holder.{Holder}
use Rattle.replica_core.specs.Standing.{HoldsFor}
use Rattle.replica_core.specs.Calling.{Does}
use Rattle.replica_core.proofs.Calls.{still-does}
use Rattle.replica_core.proofs.Holding.{last-model}
use Rattle.replica_core.proofs.Wins.{voter-same, stand-still, own-vote, stood-stands, stand-wins, stand-asks}
use Rattle.replica_core.proofs.Ranged.{stood-in}
use Rattle.replica_core.proofs.holder.Holder.stand.Goals as goal
use Rattle.replica_core.proofs.holder.Holder.stand.Goals.{then-not-holds-via-then-not-holds, then-not-holds-via-else-not-holds+then-self-eq-TOP, then-not-holds-via-else-not-holds+else-self-eq-TOP+then-last-eq-TOP}

pub returns-then-not-holds-clause-model : goal.returns-then-not-holds-clause-model
returns-then-not-holds-clause-model c = λ s st.
    let h : Holder = c.args.self.now in
    let b : Batch = c.args.batch.now in
    let top : Bool = s.term == TOP || length s.path == TOP in
    let holds : c.holds.result ≡ is_voter s =
    c.holds.ensures ∙ (ap (λ (k : Configs). is_in k.newest.voters h.me) c.configs-configs.ensures ∙ voter-same c.logs_are_the_models.ensures h s st) in
    let does : (is_voter s && not top) ≡ false → Does h b Nobody (model_stand s) =
    λ not_so. subst (Does h b Nobody) (sym (stand-still s not_so)) (still-does h b s st c.requires.empty) in
    elim c.then-not-holds.branch [
      | then-not-holds-via-then-not-holds w ↦ does (and_left (is_voter s) (not top) (sym holds ∙ w.if-not-holds.true))
      | then-not-holds-via-else-not-holds+then-self-eq-TOP w ↦
          does (and_right (is_voter s) (not top) (ap not (or_left (s.term == TOP) (length s.path == TOP) (eq-eqb s.term TOP (sym st.term ∙ w.if-self-eq-TOP.true)))))
      | then-not-holds-via-else-not-holds+else-self-eq-TOP+then-last-eq-TOP w ↦
          does (and_right (is_voter s) (not top) (ap not (or_right (s.term == TOP) (length s.path == TOP)
          (eq-eqb (length s.path) TOP (sym (last-model c.logs_are_the_models.ensures h.log s st.log) ∙ (sym w.last.ensures.last ∙ w.if-last-eq-TOP.true))))))
    ]

-- it may stand
may_stand : (logs : LogsAreTheModels) (h : Holder) (s : model.Replica) (st : HoldsFor h s) (configs : Configs) → configs ≡ configs_at h.log (last_index h.log)
    → is_in configs.newest.voters h.me ≡ true → (h.ballot.term ≡ TOP → ⊥) → (last_index h.log ≡ TOP → ⊥)
    → (is_voter s && not (s.term == TOP || length s.path == TOP)) ≡ true
may_stand logs h s st configs is votes term last =
    let a : (s.term == TOP) ≡ false = ne_eqb s.term TOP (λ e. term (st.term ∙ e)) in
    let b : (length s.path == TOP) ≡ false = ne_eqb (length s.path) TOP (λ e. last (last-model logs h.log s st.log ∙ e)) in
    and_from (is_voter s) (not (s.term == TOP || length s.path == TOP))
    (sym (ap (λ (k : Configs). is_in k.newest.voters h.me) is ∙ voter-same logs h s st) ∙ votes)
    (ap not (or_from (s.term == TOP) (length s.path == TOP) a b))

pub returns-then-won-clause-model : goal.returns-then-won-clause-model
returns-then-won-clause-model c = λ s st.
    let h : Holder = c.args.self.now in
    let may = may_stand c.logs_are_the_models.ensures h s st c.configs-configs.result c.configs-configs.ensures (sym c.holds.ensures ∙ c.if-not-holds.false) c.if-self-eq-TOP.false
    (λ e. c.if-last-eq-TOP.false (c.last.ensures.last ∙ e)) in
    let own = own-vote c.logs_are_the_models.ensures h s st c.last.ensures.ordered c.configs-configs.result c.configs-configs.ensures c.committed.result c.committed.ensures.committed
    c.new-votes.result c.win-won.result c.new-votes.ensures c.win-won.ensures.model in
    subst (λ k. IfOk c.win.result (λ to. Does c.win.new.self c.win.new.batch to k)) (sym (stand-wins c.logs_are_the_models.ensures h s st c.last.ensures.ordered may (sym own ∙ c.if-won.true)))
    (c.win.ensures.model (stood s) (stood-stands c.logs_are_the_models.ensures h s st c.last.ensures.ordered c.stand.new.ballot c.stand.ensures c.new-votes.result c.new-votes.ensures))

pub returns-else-won-clause-model : goal.returns-else-won-clause-model
returns-else-won-clause-model c = λ s st.
    let h : Holder = c.args.self.now in
    let may = may_stand c.logs_are_the_models.ensures h s st c.configs-configs.result c.configs-configs.ensures (sym c.holds.ensures ∙ c.if-not-holds.false) c.if-self-eq-TOP.false
    (λ e. c.if-last-eq-TOP.false (c.last.ensures.last ∙ e)) in
    let own = own-vote c.logs_are_the_models.ensures h s st c.last.ensures.ordered c.configs-configs.result c.configs-configs.ensures c.committed.result c.committed.ensures.committed
    c.new-votes.result c.win-won.result c.new-votes.ensures c.win-won.ensures.model in
    subst (λ k. IfOk c.ask_votes.result (λ to. Does c.ask_votes.new.self c.ask_votes.new.batch to k)) (sym (stand-asks c.logs_are_the_models.ensures h s st c.last.ensures.ordered may (sym own ∙ c.if-won.false)))
    (c.ask_votes.ensures.model (stood s) (stood-stands c.logs_are_the_models.ensures h s st c.last.ensures.ordered c.stand.new.ballot c.stand.ensures c.new-votes.result c.new-votes.ensures))

pub returns-then-won-clause-in_range : goal.returns-then-won-clause-in_range
returns-then-won-clause-in_range c = λ ranged. c.win.ensures.in_range (stood-in c.args.self.now c.stand.new.ballot c.new-votes.result ranged)

pub returns-else-won-clause-in_range : goal.returns-else-won-clause-in_range
returns-else-won-clause-in_range c = λ ranged. c.ask_votes.ensures.in_range (stood-in c.args.self.now c.stand.new.ballot c.new-votes.result ranged)

use Rattle.std.proofs.Common.{◌≡◌, ℕ, ◌+◌, ◌∷◌, [], ◌++◌, List, refl, sym, ap, subst, ◌∙◌, arith}
use Rattle.std.proofs.lemmas.List.Elements.{All-nil, All-cons}
use Rattle.values.specs.declared.batch.Batch.{Batch}
use Rattle.values.specs.declared.entry.Body.TheVariants.{Members}
use Rattle.group_quorum.specs.Conf.{Conf}
use Rattle.replica_model.specs.Linked.{sha_link}
use Rattle.replica_model.specs.Peers.{leads_with}
use Rattle.replica_log.specs.Models.{StandsFor as LogStandsFor}
use Rattle.replica_core.specs.declared.holder.Holder.{Holder}
use Rattle.replica_core.specs.Calling.{Reaches}
use Rattle.replica_core.specs.Keeping.{IsSound}
use Rattle.replica_core.proofs.Changes.{changing, changing-reaches, changes-does}
use Rattle.replica_core.proofs.Sends.{leads-is}
use Rattle.replica_core.proofs.Sounds.{pushed-sound}
use Rattle.group_quorum.specs.Voters.{IsSound as IsSoundConf}
use Rattle.values.specs.declared.entry.LogEntry.{LogEntry}
use Rattle.group_msgs.specs.Ranges.{IsIndex}
use Rattle.replica_core.specs.InRange.{IsHolderInRange}
use Rattle.replica_core.specs.Ranges.{IsStepBatch}
use Rattle.replica_core.proofs.Ranged.{all-members-in, conf-parts-in, pushed-in}
use Rattle.replica_core.proofs.holder.Holder.push_members.Goals as goal

pub raise-requires : goal.raise-requires
raise-requires c =
    let h : Holder = c.args.self.now in
    let l = leads-is h.role c.requires.leads in
    subst IsSound (sym c.in_ok-push-2.ensures.after) (pushed-sound h _ l.0 l.1 c.requires.sound c.requires.room)

pub returns-clause-model : goal.returns-clause-model
returns-clause-model c = λ s l st.
    let h : Holder = c.args.self.now in
    let b : Batch = c.args.batch.now in
    let conf : Conf = c.args.config.now in
    let grown : Holder = c.push-2.new.self in
    let o = c.last-index.ensures.ordered in
    let index : ℕ = c.last-index.result + 1 in
    let log = subst (λ vs. LogStandsFor sha_link grown.log (record (leads_with s l) { path = s.path ++ record { term = h.ballot.term; body = Members conf.margin vs } ∷ [] })) c.in_ok-voters_of-2.ensures.voters
    (subst (λ k. LogStandsFor sha_link grown.log (record (leads_with s l) { path = s.path ++ record { term = h.ballot.term; body = Members k c.in_ok-voters_of-2.field-0 } ∷ [] })) c.margin-margin.ensures
    (c.in_ok-push-2.ensures.model (leads_with s l) st.log)) in
    let reached : Reaches (record h { log = grown.log }) (record b { members = b.members ++ (index, conf.margin, conf.voters) ∷ [] }) (changing c.logs_are_the_models.ensures h b c.requires.empty s l conf st o) =
    changing-reaches c.logs_are_the_models.ensures h b c.requires.empty s l conf st o index (ap (λ n. n + 1) c.last-index.ensures.last) grown.log log in
    let grown-is : grown ≡ record h { log = grown.log } = c.in_ok-push-2.ensures.after ∙ sym (ap (λ (g : Holder). record h { log = g.log }) c.in_ok-push-2.ensures.after) in
    let members-are : c.push.new.self ≡ b.members ++ (index, conf.margin, conf.voters) ∷ [] =
    c.in_ok-push.ensures.ok
    ∙ (ap (λ k. b.members ++ (index, k, c.in_ok-voters_of.field-0) ∷ []) c.margin-margin.ensures
    ∙ ap (λ vs. b.members ++ (index, conf.margin, vs) ∷ []) c.in_ok-voters_of.ensures.voters) in
    changes-does c.logs_are_the_models.ensures h b c.requires.empty s l conf st o c.raise.new.self c.raise.new.batch
    (c.in_ok-raise.ensures.model (changing c.logs_are_the_models.ensures h b c.requires.empty s l conf st o) l
    (subst (λ g. Reaches g (record b { members = c.push.new.self }) (changing c.logs_are_the_models.ensures h b c.requires.empty s l conf st o)) (sym grown-is)
    (subst (λ ms. Reaches (record h { log = grown.log }) (record b { members = ms }) (changing c.logs_are_the_models.ensures h b c.requires.empty s l conf st o)) (sym members-are) reached))
    refl)

pub returns-clause-in_range : goal.returns-clause-in_range
returns-clause-in_range c = λ ranged told.
    let h : Holder = c.args.self.now in
    let b : Batch = c.args.batch.now in
    let conf : Conf = c.args.config.now in
    let index : ℕ = c.last-index.result + 1 in
    let sound : IsSoundConf (record { margin = conf.margin; voters = conf.voters }) = conf-parts-in conf c.voters.ensures.sound in
    let first : IsSoundConf (record { margin = c.margin-margin.result; voters = c.in_ok-voters_of.field-0 }) =
    subst (λ m. IsSoundConf (record { margin = m; voters = c.in_ok-voters_of.field-0 })) (sym c.margin-margin.ensures)
    (subst (λ vs. IsSoundConf (record { margin = conf.margin; voters = vs })) (sym c.in_ok-voters_of.ensures.voters) sound) in
    let second : IsSoundConf (record { margin = c.margin-margin.result; voters = c.in_ok-voters_of-2.field-0 }) =
    subst (λ m. IsSoundConf (record { margin = m; voters = c.in_ok-voters_of-2.field-0 })) (sym c.margin-margin.ensures)
    (subst (λ vs. IsSoundConf (record { margin = conf.margin; voters = vs })) (sym c.in_ok-voters_of-2.ensures.voters) sound) in
    let e : LogEntry = record { term = h.ballot.term; body = Members c.margin-margin.result c.in_ok-voters_of-2.field-0 } in
    let room = c.requires.room in
    let last = c.last-index.ensures.last in
    let raised = c.in_ok-raise.ensures.in_range
    (subst IsHolderInRange (sym c.in_ok-push-2.ensures.after) (pushed-in h e ranged (c.requires.sound.term, second)))
    (subst (λ ms. IsStepBatch (record b { members = ms })) (sym c.in_ok-push.ensures.ok)
    (all-members-in b told ((index, c.margin-margin.result, c.in_ok-voters_of.field-0) ∷ [])
    (All-cons (λ (m : ℕ × ℕ × List ℕ). IsIndex m.0 × IsSoundConf (record { margin = m.1; voters = m.2 })) (index, c.margin-margin.result, c.in_ok-voters_of.field-0) []
    (omega (arith, room, last), first) (All-nil (λ (m : ℕ × ℕ × List ℕ). IsIndex m.0 × IsSoundConf (record { margin = m.1; voters = m.2 })))))) in
    (raised.0, (raised.1, tt))

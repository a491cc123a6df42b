use Rattle.std.proofs.Common.{◌≡◌, min, max, sym, ap, subst, ◌∙◌}
use Rattle.values.specs.declared.peer.PeerMsg.TheVariants.{Accepted}
use Rattle.replica_model.specs.Linked.{sha_link}
use Rattle.replica_model.specs.Replica.{Replica}
use Rattle.replica_model.specs.Graft.{end_of}
use Rattle.replica_log.specs.Window.{Window}
use Rattle.replica_log.specs.Grafting.{after_graft}
use Rattle.replica_log.specs.Models.{StandsFor, Answers, IsGrafted, with_graft}
use Rattle.append_rules.specs.declared.take.Taken.TheVariants.{Replied}
use Rattle.append_rules.specs.Taken.{TakesOffer}
use Rattle.append_rules.proofs.Offered.{takes_conflict, takes_refused, takes_grafted}
use Rattle.append_rules.proofs.take.take_append.Goals as goal

pub returns-in-Conflict-clause-model : goal.returns-in-Conflict-clause-model
returns-in-Conflict-clause-model c = λ s stands o terms.
    let w : Window = c.graft.new.self in
    let old : Window = c.args.log.now in
    let answers = subst (Answers sha_link old c.args.prev c.args.entries.now w) c.in-Conflict.is c.in_ok-end.ensures.model in
    let same : w ≡ old = c.in_ok-end.ensures.after ∙ ap (after_graft old c.args.prev c.args.entries.now) c.in-Conflict.is in
    takes_conflict s o (c.in-Conflict.index, c.in-Conflict.kept, c.in-Conflict.offered) w
    (answers s stands o terms.prev_is terms.entries_is) (subst (λ v. StandsFor sha_link v s) (sym same) stands)

pub returns-in-Apart-clause-model : goal.returns-in-Apart-clause-model
returns-in-Apart-clause-model c = λ s stands o terms.
    let w : Window = c.graft.new.self in
    let old : Window = c.args.log.now in
    let answers = subst (Answers sha_link old c.args.prev c.args.entries.now w) c.in-Apart.is c.in_ok-end.ensures.model in
    let same : w ≡ old = c.in_ok-end.ensures.after ∙ ap (after_graft old c.args.prev c.args.entries.now) c.in-Apart.is in
    takes_refused s o c.in-Apart.hint c.args.term c.args.prev w (answers s stands o terms.prev_is terms.entries_is) terms.term_is terms.prev_is
    (subst (λ v. StandsFor sha_link v s) (sym same) stands)

pub returns-in-Grafted-clause-model : goal.returns-in-Grafted-clause-model
returns-in-Grafted-clause-model c = λ s stands o terms.
    let w : Window = c.graft.new.self in
    let u : Window = c.commit_to.new.self in
    let answers = subst (Answers sha_link c.args.log.now c.args.prev c.args.entries.now w) c.in-Grafted.is c.in_ok-end.ensures.model in
    let is : IsGrafted sha_link s o w c.in-Grafted.end c.in-Grafted.cut = answers s stands o terms.prev_is terms.entries_is in
    let t : Replica = with_graft s c.in-Grafted.cut o in
    let end : c.in-Grafted.end.index ≡ end_of o = ap (λ p. p.index) is.ends in
    let offered : c.min-offered.result ≡ min o.promise (end_of o) =
    c.min-offered.ensures ∙ ap (λ n. min n c.in-Grafted.end.index) (sym terms.promise_is) ∙ ap (min o.promise) end in
    let commit : c.min.result ≡ min o.commit (min o.promise (end_of o)) =
    c.min.ensures ∙ ap (λ n. min n c.min-offered.result) (sym terms.commit_is) ∙ ap (min o.commit) offered in
    let promised_stands : StandsFor sha_link c.promise_to.new.self (record t { promised = max s.promised c.min-offered.result }) =
    c.promise_to.ensures.model t is.after in
    let committed_stands = c.commit_to.ensures.model (record t { promised = max s.promised c.min-offered.result }) promised_stands in
    let after : StandsFor sha_link u (record t { promised = max s.promised (min o.promise (end_of o)); committed = max s.committed (min o.commit (min o.promise (end_of o))) }) =
    subst (λ n. StandsFor sha_link u (record t { promised = max s.promised n; committed = max s.committed (min o.commit (min o.promise (end_of o))) })) offered
    (subst (λ m. StandsFor sha_link u (record t { promised = max s.promised c.min-offered.result; committed = max s.committed m })) commit committed_stands) in
    let promised : c.promised.result ≡ max s.promised (min o.promise (end_of o)) = c.promised.ensures.promised ∙ after.is_promised in
    let reply : c.min-promised.result ≡ min c.promised.result (end_of o) = c.min-promised.ensures ∙ ap (min c.promised.result) end in
    subst (λ n. TakesOffer s o u (Replied (Accepted c.args.term c.in-Grafted.end n) c.in-Grafted.cut)) (sym reply)
    (takes_grafted s o c.in-Grafted.end c.in-Grafted.cut c.args.term c.promised.result w u is terms.term_is after promised)

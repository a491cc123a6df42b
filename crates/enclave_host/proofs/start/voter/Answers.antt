use Rattle.std.proofs.Common.{◌≡◌, ◌∙◌, ◌==◌, sym, ap, subst, rules, ℕ, Ok}
use Rattle.std.specs.Prelude.{filter, not}
use Rattle.std.proofs.lemmas.List.Elements.{All-filter}
use Rattle.group_quorum.specs.Conf.{Conf}
use Rattle.group_quorum.specs.Voters.{is_in, IsId}
use Rattle.attested_link.specs.Links.{is_linked}
use Rattle.replica_model.specs.Replica as kept
use Rattle.replica_core.specs.Standing as core
use Rattle.enclave_host.proofs.Linked.{conf_is, id_in}
use Rattle.enclave_host.proofs.start.voter.Goals as goal

pub first_state-requires-clause-linked : goal.first_state-requires-clause-linked
first_state-requires-clause-linked c = λ v is.
    let ids = c.as_slice.ensures.value ∙ c.in_ok-others.ensures in
    let others = filter (λ w. not (w == c.args.id)) c.args.voters.now in
    let in_others = sym (c.in_ok-links.ensures v ∙ ap (λ xs. is_in xs v) ids) ∙ is in
    id_in others v (All-filter (λ w. not (w == c.args.id)) IsId c.args.voters.now c.requires.conf.ids) in_others

pub returns : goal.returns
returns c =
    let others = filter (λ w. not (w == c.args.id)) c.args.voters.now in
    let ids = c.as_slice.ensures.value ∙ c.in_ok-others.ensures in
    let links : (v : ℕ) → is_linked c.in_ok-links.links v ≡ is_in others v = λ v. c.in_ok-links.ensures v ∙ ap (λ xs. is_in xs v) ids in
    let first : Conf = record { margin = c.args.margin; voters = c.args.voters.now } in
    let was : c.new.result ≡ Ok c.unwrap-config.result = search rules in
    let conf : c.unwrap-config.result ≡ first = conf_is c.new.result c.unwrap-config.result first was (c.new.ensures.made ∙ c.requires.made) in
    let stands = subst (λ (x : Conf). core.StandsFor c.begin.result (kept.begin c.args.id x c.args.limit)) conf c.begin.ensures.model in
    c.first_state.ensures (kept.begin c.args.id first c.args.limit) others stands links

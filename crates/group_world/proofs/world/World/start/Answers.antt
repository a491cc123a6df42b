use Rattle.std.proofs.Common.{◌≡◌, ◌∙◌, refl, sym, ap, subst, rules, [], ◌∷◌, true, false, Ok, Err}
use Rattle.std.proofs.lemmas.Result.{err_from_is_err_and}
use Rattle.values.specs.Rising.{Rising}
use Rattle.values.proofs.RisingLists.{rising_from_increasing}
use Rattle.group_quorum.specs.Voters.{is_in}
use Rattle.group_model.specs.Enclave.{Learn}
use Rattle.trace_model.specs.Session.{Starts as StartsBy}
use Rattle.enclave_host.specs.Words.{wording}
use Rattle.group_world.specs.Given.{Taken}
use Rattle.group_world.specs.Standing.{Runs}
use Rattle.group_world.specs.Starts.{LinksAll}
use Rattle.group_world.proofs.Beginning.{links_stop, runs_enlisted, start_stops, starts_does, used_does, zero_does}
use Rattle.group_world.proofs.Enlisting.{not_running}
use Rattle.group_world.proofs.Happening.{gains_none}
use Rattle.group_world.proofs.Starting.{gains_more, idle_for}
use Rattle.group_world.proofs.world.World.start.Goals as goal

pub returns-then-id-eq0-clause-does : goal.returns-then-id-eq0-clause-does
returns-then-id-eq0-clause-does g c = ([], gains_none _, zero_does c.args.self.now (g.F.Field.map c.args.field.now) c.args.id c.if-id-eq0.true)

pub returns-then-contains-clause-does : goal.returns-then-contains-clause-does
returns-then-contains-clause-does g c =
    let used : is_in c.args.self.now.started.items c.args.id ≡ true = search rules in
    ([], gains_none _, used_does c.args.self.now (g.F.Field.map c.args.field.now) c.args.id c.if-id-eq0.false used)

pub learn_content-requires-clause-rising : goal.learn_content-requires-clause-rising
learn_content-requires-clause-rising g c =
    subst Rising (sym c.as_slice-running.ensures.value) (rising_from_increasing c.args.self.now.running.items c.args.self.now.roster.in_order)

pub start_by-requires : goal.start_by-requires
start_by-requires g c =
    let w = c.args.self.now in
    let new : is_in w.started.items c.args.id ≡ false = search rules in
    let says = ap wording.content_of c.as_slice-2.ensures ∙ c.in-Ok.ensures ∙ ap (λ ids. Ok (StartsBy (Learn c.args.id ids))) c.as_slice-running.ensures.value in
    idle_for (g.F.Field.map c.args.field.now) w.running.items c.args.id c.as_slice-2.result.now (Learn c.args.id w.running.items) c.requires.runs
    (not_running w.begun w.running.items w.started.items c.args.id w.roster new) says refl

pub returns-in_err-start_by-clause-does : goal.returns-in_err-start_by-clause-does
returns-in_err-start_by-clause-does g c =
    let w = c.args.self.now in
    let map = g.F.Field.map in
    let new : is_in w.started.items c.args.id ≡ false = search rules in
    let says = ap wording.content_of c.as_slice-2.ensures ∙ c.in-Ok.ensures ∙ ap (λ ids. Ok (StartsBy (Learn c.args.id ids))) c.as_slice-running.ensures.value in
    let p = err_from_is_err_and c.from_residual.result c.from_residual.ensures.1 in
    rw (p.1, p.2) (
      [],
      c.in_err-start_by.ensures.gives,
      start_stops w w (map c.args.field.now) (map c.start_by.new.field) c.args.id c.as_slice-2.result.now c.if-id-eq0.false new says _ c.in_err-start_by.ensures.starts,
    )

pub returns-in_err-link_all-clause-does : goal.returns-in_err-link_all-clause-does
returns-in_err-link_all-clause-does g c =
    let w = c.args.self.now in
    let map = g.F.Field.map in
    let told = g.F.Field.answers in
    let new : is_in w.started.items c.args.id ≡ false = search rules in
    let says = ap wording.content_of c.as_slice-2.ensures ∙ c.in-Ok.ensures ∙ ap (λ ids. Ok (StartsBy (Learn c.args.id ids))) c.as_slice-running.ensures.value in
    let (given, gained, links) = c.in_err-link_all.ensures.links in
    let p = err_from_is_err_and c.from_residual-in_err-link_all.result c.from_residual-in_err-link_all.ensures.1 in
    rw (p.1, p.2) (
      Taken ∷ given,
      gains_more (told c.args.field.now) (told c.start_by.new.field) (told c.link_all.new.field) [] given c.in_ok-start_by.ensures.gives gained,
      links_stop w w (map c.args.field.now) (map c.link_all.new.field) c.args.id c.as_slice-2.result.now c.if-id-eq0.false new says (map c.start_by.new.field) given c.in_ok-start_by.ensures.starts _
          (subst (λ ids. LinksAll (map c.start_by.new.field) (map c.link_all.new.field) given c.args.id ids (Err c.in_err-link_all.field-0.0)) c.as_slice-running.ensures.value links),
    )

pub returns-in-Ok-enlist-clause-does : goal.returns-in-Ok-enlist-clause-does
returns-in-Ok-enlist-clause-does g c =
    let w = c.args.self.now in
    let map = g.F.Field.map in
    let told = g.F.Field.answers in
    let new : is_in w.started.items c.args.id ≡ false = search rules in
    let says = ap wording.content_of c.as_slice-2.ensures ∙ c.in-Ok.ensures ∙ ap (λ ids. Ok (StartsBy (Learn c.args.id ids))) c.as_slice-running.ensures.value in
    let (given, gained, links) = c.in_ok-link_all.ensures.links in (
      Taken ∷ given,
      gains_more (told c.args.field.now) (told c.start_by.new.field) (told c.link_all.new.field) [] given c.in_ok-start_by.ensures.gives gained,
      starts_does w c.enlist.new.self (map c.args.field.now) (map c.link_all.new.field) c.args.id c.as_slice-2.result.now c.if-id-eq0.false new says (map c.start_by.new.field) given c.in_ok-start_by.ensures.starts
          (subst (λ ids. LinksAll (map c.start_by.new.field) (map c.link_all.new.field) given c.args.id ids (Ok tt)) c.as_slice-running.ensures.value links) c.in-Ok-enlist.ensures,
    )

pub returns-in-Ok-enlist-clause-runs : goal.returns-in-Ok-enlist-clause-runs
returns-in-Ok-enlist-clause-runs g c =
    let w = c.args.self.now in
    let map = g.F.Field.map in
    runs_enlisted (map c.link_all.new.field) w.running.items c.enlist.new.self.running.items c.args.id c.in-Ok-enlist.ensures.running
    (subst (λ ids. Runs (map c.link_all.new.field) (c.args.id ∷ ids)) c.as_slice-running.ensures.value c.in_ok-link_all.ensures.runs)

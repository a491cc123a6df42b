use Rattle.std.proofs.Common.{◌≡◌, ◌∙◌, refl, sym, subst, arith, rules, ℕ, ◌+◌, ◌++◌, ◌∷◌, [], List, take, drop, slice_index_or, Ok}
use Rattle.std.proofs.lemmas.List.{take_more}
use Rattle.std.proofs.lemmas.Result.{err_from_is_err_and}
use Rattle.values.specs.Rising.{Rising}
use Rattle.values.proofs.RisingLists.{rising_from_increasing}
use Rattle.group_model.specs.Enclave.{Begin}
use Rattle.trace_model.specs.Session.{Starts as StartsBy}
use Rattle.enclave_host.specs.Words.{wording}
use Rattle.group_world.specs.Given.{Taken}
use Rattle.group_world.specs.Starts.{StartsAll}
use Rattle.group_world.proofs.Starting.{gains_more, gains_still, idle_for, not_before, rest_at, runs_more, starts_more, starts_stop}
use Rattle.group_world.proofs.begin.start_voters.Goals as goal

pub start_by-requires : goal.start_by-requires
start_by-requires g c =
    let ids : List ℕ = c.voters-id-items.result.now in
    let id = slice_index_or ids c.loop-id.id-index 0 in
    let config = c.args.config.now in
    let says : wording.content_of c.as_slice.result.now ≡ Ok (StartsBy (Begin id config.margin c.args.limit config.voters)) = search rules in
    let up = subst Rising (sym c.voters-id-items.ensures.voters) (rising_from_increasing config.voters c.voters-id-items.ensures.sound.in_order) in
    idle_for (g.F.Field.map c.loop-id.field) (take c.loop-id.id-index ids) id c.as_slice.result.now (Begin id config.margin c.args.limit config.voters) c.loop-id.invariant.runs
    (not_before ids c.loop-id.id-index c.loop-id-test.true up) says refl

pub returns-in_err-start_by-clause-starts : goal.returns-in_err-start_by-clause-starts
returns-in_err-start_by-clause-starts g c =
    let ids : List ℕ = c.voters-id-items.result.now in
    let i = c.loop-id.id-index in
    let id = slice_index_or ids i 0 in
    let told = g.F.Field.answers in
    let map = g.F.Field.map in
    let (given, gained, so_far) = c.loop-id.invariant.starts in
    let whole = sym c.voters-id-items.ensures.voters ∙ rest_at ids i c.loop-id-test.true in
    let p = err_from_is_err_and c.from_residual.result c.from_residual.ensures.1 in
    rw (p.1, p.2) (
      given,
      gains_still (told c.args.field.now) (told c.loop-id.field) (told c.start_by.new.field) given gained c.in_err-start_by.ensures.gives,
      starts_stop (map c.args.field.now) c.args.config.now c.args.limit (map c.loop-id.field) (map c.start_by.new.field) given (take i ids) (drop (i + 1) ids) c.args.config.now.voters id c.as_slice.result.now _ whole so_far
          c.in_err-start_by.ensures.starts,
    )

pub loop-id-preserved : goal.loop-id-preserved
loop-id-preserved g c =
    let ids : List ℕ = c.voters-id-items.result.now in
    let i = c.loop-id.id-index in
    let id = slice_index_or ids i 0 in
    let config = c.args.config.now in
    let told = g.F.Field.answers in
    let map = g.F.Field.map in
    let says : wording.content_of c.as_slice.result.now ≡ Ok (StartsBy (Begin id config.margin c.args.limit config.voters)) = search rules in
    let (given, gained, so_far) = c.loop-id.invariant.starts in
    let start = c.in_ok-start_by.ensures.starts in
    let before = c.loop-id.invariant.later in
    let now = c.in_ok-start_by.ensures.cause.later in
    record {
      starts = (
        given ++ Taken ∷ [],
        gains_more (told c.args.field.now) (told c.loop-id.field) (told c.start_by.new.field) given (Taken ∷ []) gained c.in_ok-start_by.ensures.gives,
        subst (λ vs. StartsAll (map c.args.field.now) (map c.start_by.new.field) (given ++ Taken ∷ []) config c.args.limit vs (Ok tt)) (sym (take_more ids i 0 c.loop-id-test.true))
            (starts_more (map c.args.field.now) config c.args.limit (map c.loop-id.field) (map c.start_by.new.field) given (take i ids) id c.as_slice.result.now so_far says start),
      );
      runs = runs_more (map c.loop-id.field) (map c.start_by.new.field) ids i c.as_slice.result.now c.loop-id-test.true start c.loop-id.invariant.runs;
      later = omega (arith, before, now);
    }

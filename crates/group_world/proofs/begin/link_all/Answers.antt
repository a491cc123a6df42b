use Rattle.std.proofs.Common.{◌≡◌, sym, subst, arith, rules, ℕ, ◌+◌, ◌++◌, ◌∷◌, [], List, take, drop, slice_index_or, Ok}
use Rattle.std.proofs.lemmas.List.{take_more}
use Rattle.std.proofs.lemmas.Result.{err_from_is_err_and}
use Rattle.group_model.specs.Enclave.{Connect}
use Rattle.trace_model.specs.Session.{Hands}
use Rattle.enclave_host.specs.Words.{wording}
use Rattle.group_world.specs.Given.{Content}
use Rattle.group_world.specs.Starts.{LinksAll}
use Rattle.group_world.proofs.Happening.{runs_called}
use Rattle.group_world.proofs.Starting.{gains_more, links_more, links_stop, rest_at}
use Rattle.group_world.proofs.begin.link_all.Goals as goal

pub returns-in_err-call-clause-links : goal.returns-in_err-call-clause-links
returns-in_err-call-clause-links g c =
    let ids : List ℕ = c.args.running.now in
    let i = c.loop-other.other-index in
    let told = g.F.Field.answers in
    let map = g.F.Field.map in
    let says : wording.content_of c.as_slice.result.now ≡ Ok (Hands (Connect c.args.id)) = search rules in
    let (given, gained, so_far) = c.loop-other.invariant.links in
    let p = err_from_is_err_and c.from_residual.result c.from_residual.ensures.1 in
    rw (p.1, p.2) (links_stop (map c.args.field.now) c.args.id (map c.loop-other.field) (map c.call.new.field) given (take i ids) (slice_index_or ids i 0) c.as_slice.result.now so_far says
    (told c.args.field.now) (told c.loop-other.field) (told c.call.new.field) (drop (i + 1) ids) ids _ (rest_at ids i c.loop-other-test.true) gained c.in_err-call.ensures.calls)

pub loop-other-preserved : goal.loop-other-preserved
loop-other-preserved g c =
    let ids : List ℕ = c.args.running.now in
    let i = c.loop-other.other-index in
    let id = slice_index_or ids i 0 in
    let told = g.F.Field.answers in
    let map = g.F.Field.map in
    let says : wording.content_of c.as_slice.result.now ≡ Ok (Hands (Connect c.args.id)) = search rules in
    let (given, gained, so_far) = c.loop-other.invariant.links in
    let (content, called, read) = c.in_ok-call.ensures.calls in
    let before = c.loop-other.invariant.later in
    let now = c.in_ok-call.ensures.cause.later in
    record {
      links = (
        given ++ Content content ∷ [],
        gains_more (told c.args.field.now) (told c.loop-other.field) (told c.call.new.field) given (Content content ∷ []) gained called.gained,
        subst (λ rs. LinksAll (map c.args.field.now) (map c.call.new.field) (given ++ Content content ∷ []) c.args.id rs (Ok tt)) (sym (take_more ids i 0 c.loop-other-test.true))
            (links_more (map c.args.field.now) c.args.id (map c.loop-other.field) (map c.call.new.field) given (take i ids) id c.as_slice.result.now so_far says content _ _ called.stepped read),
      );
      runs = runs_called (map c.loop-other.field) (map c.call.new.field) (c.args.id ∷ ids) id c.as_slice.result.now content called.stepped c.loop-other.invariant.runs;
      later = omega (arith, before, now);
    }

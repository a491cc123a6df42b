use Rattle.std.proofs.Common.{ap, subst, ◌∙◌, sym}
use Rattle.std.specs.Prelude.{All, insert}
use Rattle.std.specs.List.{concat}
use Rattle.std.proofs.lemmas.Result.{err_from_is_err_and}
use Rattle.record_table.specs.Pages.{IsPage}
use Rattle.record_table.proofs.PagesLemmas.{added, added_pages, kept, begun}
use Rattle.record_table.proofs.pages.Pages.insert.Goals as goal

pub invariant_of-self-2 : goal.invariant_of-self-2
invariant_of-self-2 c =
    added_pages c.self-2.inside.pages.items c.make_room.new.self c.in_ok-spot.spot c.args.slot c.index_mut.result.now c.insert.new.self
    c.self-2.invariant c.self-2.view_is c.in_ok-spot.ensures.room c.index_mut.ensures.value c.in_ok-insert.ensures.items

pub returns-clause-ok : goal.returns-clause-ok
returns-clause-ok c =
    added c.self-2.inside.pages.items c.make_room.new.self c.in_ok-spot.spot c.args.slot c.index_mut.result.now c.insert.new.self
    c.self-2.invariant c.self-2.view_is c.in_ok-spot.ensures.room c.index_mut.ensures.value c.in_ok-insert.ensures.items
    ∙ (λ i. insert (c.in_ok-spot.ensures.list i) (c.in_ok-spot.ensures.place i) c.args.slot)

pub invariant_of-self-in_err-insert : goal.invariant_of-self-in_err-insert
invariant_of-self-in_err-insert c =
    subst (All IsPage)
    (c.self-2.view_is
    ∙ sym (kept c.self-2.inside.pages.items c.make_room.new.self c.in_ok-spot.spot c.args.slot c.index_mut.result.now c.insert.new.self
    c.self-2.invariant c.self-2.view_is c.in_ok-spot.ensures.room c.index_mut.ensures.value c.in_err-insert.ensures.items))
    c.self-2.invariant

pub returns-in_err-insert-clause-err : goal.returns-in_err-insert-clause-err
returns-in_err-insert-clause-err c =
    let p = err_from_is_err_and c.from_residual-in_err-insert.result c.from_residual-in_err-insert.ensures.1 in
    rw p.1
    (ap concat
    (kept c.self-2.inside.pages.items c.make_room.new.self c.in_ok-spot.spot c.args.slot c.index_mut.result.now c.insert.new.self
    c.self-2.invariant c.self-2.view_is c.in_ok-spot.ensures.room c.index_mut.ensures.value c.in_err-insert.ensures.items)
    ∙ c.make_room.ensures.list)

pub returns-then-spot-count-clause-ok : goal.returns-then-spot-count-clause-ok
returns-then-spot-count-clause-ok c =
    begun c.self.inside.pages.items c.push.new.self.items c.args.self.now c.args.spot c.args.slot c.in_ok-page.page
    c.self.view_is c.requires (c.if-spot-count.true ∙ c.count.ensures.count) c.in_ok-page.ensures c.in_ok-push.ensures.items

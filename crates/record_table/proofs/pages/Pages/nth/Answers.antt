use Rattle.std.proofs.Common.{ap, arith, ◌∙◌}
use Rattle.record_table.proofs.PagesLemmas.{seen, slot_here, slot_later, no_slot}
use Rattle.record_table.proofs.pages.Pages.nth.Goals as goal

pub returns-then-left-len : goal.returns-then-left-len
returns-then-left-len c =
    let v = c.page-item.result.ok.0 in
    slot_here c.deref-page-items.result.now c.args.self.now c.loop-page.page-index c.loop-page.left c.args.place (ap seen c.deref-page-items.ensures.value ∙ c.self.view_is)
    c.loop-page.invariant c.page-item.result c.loop-page-test.true c.page-item.is c.index.result.now (omega arith) c.index.ensures

pub loop-page-preserved : goal.loop-page-preserved
loop-page-preserved c =
    let v = c.page-item.result.ok.0 in
    slot_later c.deref-page-items.result.now c.args.self.now c.loop-page.page-index c.loop-page.left c.args.place (ap seen c.deref-page-items.ensures.value ∙ c.self.view_is)
    c.loop-page.invariant c.page-item.result c.loop-page-test.true c.page-item.is _ (omega arith) (omega arith)

pub returns : goal.returns
returns c =
    no_slot c.deref-page-items.result.now c.args.self.now c.loop-page.page-index c.loop-page.left c.args.place (ap seen c.deref-page-items.ensures.value ∙ c.self.view_is)
    c.loop-page.invariant c.loop-page-test.false

use Rattle.std.proofs.Common.{◌∙◌}
use Rattle.record_table.proofs.PagesLemmas.{one_more_page}
use Rattle.record_table.proofs.pages.PagesTryCopy.copy.Goals as goal

pub loop-page-preserved : goal.loop-page-preserved
loop-page-preserved c =
    one_more_page c.deref-page-items.result.now c.loop-page.pages.items c.push.new.self.items c.loop-page.page-index c.page-item.result c.in_ok-page_of.field-0
    c.loop-page.invariant c.loop-page-test.true c.page-item.is (c.in_ok-page_of.ensures ∙ c.deref.ensures.value) c.in_ok-push.ensures.items

use Rattle.std.proofs.Common.{◌≡◌, take}
use Rattle.record_table.proofs.PagesLemmas.{seen}
use Rattle.record_table.proofs.pages.PagesTryCopy.copy.Given as goal

abbrev pub invariant-loop-page : goal.invariant-loop-page
invariant-loop-page l = seen l.pages.items ≡ take l.page-index (seen l.page-items)

use Rattle.std.proofs.Common.{◌≡◌, ◌+◌, length, take}
use Rattle.std.specs.List.{concat}
use Rattle.record_table.proofs.PagesLemmas.{seen}
use Rattle.record_table.proofs.pages.Pages.nth.Given as goal

abbrev pub invariant-loop-page : goal.invariant-loop-page
invariant-loop-page l = length (concat (take l.page-index (seen l.page-items))) + l.left ≡ l.place

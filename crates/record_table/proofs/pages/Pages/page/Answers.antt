use Rattle.std.proofs.Common.{arith}
use Rattle.record_table.proofs.PagesLemmas.{IsPage-read}
use Rattle.record_table.proofs.pages.Pages.page.Goals as goal

pub returns-clause-some : goal.returns-clause-some
returns-clause-some c =
    let slots = c.as_slice.ensures in
    let some = (IsPage-read c.self.inside.pages.items c.args.self.now c.args.n c.index.result.now c.self.invariant c.self.view_is c.requires c.index.ensures).0 in
    omega arith

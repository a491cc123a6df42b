use Rattle.std.proofs.Common.{◌≡◌, ap, subst, ◌∙◌, sym, drop}
use Rattle.std.proofs.lemmas.List.{take_rest}
use Rattle.std.specs.Prelude.{All, slice_set}
use Rattle.record_table.specs.declared.pages.TheConstants.{HALF}
use Rattle.record_table.specs.Pages.{IsPage, halved}
use Rattle.record_table.proofs.PagesLemmas.{seen, read_page, halves, IsPage-halved}
use Rattle.record_table.proofs.pages.Pages.split.Goals as goal
use Rattle.record_table.proofs.pages.Pages.split.Goals.{After-self-1}

halved_now : (c : After-self-1) → seen (slice_set c.insert.new.self.items c.args.page c.truncate.new.self) ≡ halved c.args.self.now c.args.page
halved_now c =
    halves c.self.inside.pages.items c.insert.new.self.items c.args.self.now c.args.page c.in_ok-upper.upper c.index_mut.result.now c.truncate.new.self
    c.self.view_is c.requires.page
    (c.in_ok-upper.ensures ∙ take_rest c.deref.result.now HALF
    ∙ ap (drop HALF)
    (c.deref.ensures.value ∙ sym (read_page c.self.inside.pages.items c.args.self.now c.args.page c.index.result.now c.self.view_is c.requires.page c.index.ensures)))
    c.in_ok-insert.ensures.items c.index_mut.ensures.value c.truncate.ensures.items

pub invariant_of-self-2 : goal.invariant_of-self-2
invariant_of-self-2 c =
    subst (All IsPage) (sym (halved_now c))
    (IsPage-halved c.args.self.now c.args.page c.requires.page (subst (All IsPage) c.self.view_is c.self.invariant) c.requires.full)

pub returns-clause-ok : goal.returns-clause-ok
returns-clause-ok c = halved_now c

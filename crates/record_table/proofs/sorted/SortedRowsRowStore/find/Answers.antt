use Rattle.std.proofs.Common.{sym, ap, subst, ◌∙◌}
use Rattle.std.specs.Prelude.{Some}
use Rattle.std.specs.List.{concat}
use Rattle.std.proofs.lemmas.List.{get_or_default}
use Rattle.record_rules.specs.Table.{row_of}
use Rattle.record_table.specs.Slots.{no_row, rows_in}
use Rattle.record_table.specs.Numbered.{numbers_in, IsSlotOf, IsBetween}
use Rattle.record_table.specs.Pages.{place_of}
use Rattle.record_rules.proofs.Placed.{row_of-gap}
use Rattle.record_table.proofs.SlotsLemmas.{slot_within, found_row, gap_here}
use Rattle.record_table.proofs.sorted.SortedRowsRowStore.find.Goals as goal

pub returns-in-Ok : goal.returns-in-Ok
returns-in-Ok c =
    let order = concat c.self.inside.order in
    let numbers = c.self.inside.numbers.items in
    let slots = c.self.inside.slots.items in
    let found = subst (λ ns. IsSlotOf order ns c.number_of.result c.in-Ok.slot) c.deref.ensures.value c.in-Ok.ensures.found in
    let within = slot_within order numbers slots c.args.client.now c.number_of.result c.in-Ok.slot c.self.invariant c.number_of.ensures found in
    ap Some (c.index.ensures ∙ get_or_default slots c.in-Ok.slot c.index.result.now no_row within)
    ∙ sym (found_row order numbers slots c.args.client.now c.number_of.result c.in-Ok.slot c.self.invariant c.number_of.ensures found)
    ∙ ap (λ rows. row_of rows c.args.client.now) c.self.view_is

pub returns-in-Err : goal.returns-in-Err
returns-in-Err c =
    let order = concat c.self.inside.order in
    let numbers = c.self.inside.numbers.items in
    let slots = c.self.inside.slots.items in
    let at = place_of c.self.inside.order c.in-Err.field-0 in
    let between = subst (λ ns. IsBetween (numbers_in order ns) c.number_of.result at) c.deref.ensures.value c.in-Err.ensures.between in
    sym (row_of-gap (rows_in order slots) c.args.client.now at (gap_here order numbers slots c.args.client.now c.number_of.result at c.self.invariant c.number_of.ensures between))
    ∙ ap (λ rows. row_of rows c.args.client.now) c.self.view_is

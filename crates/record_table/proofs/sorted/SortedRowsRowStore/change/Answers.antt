use Rattle.std.proofs.Common.{◌≡◌, sym, ap, subst, ◌∙◌}
use Rattle.std.specs.Prelude.{IsSome, slice_set}
use Rattle.std.specs.List.{concat}
use Rattle.record_rules.specs.Table.{put_row, row_of}
use Rattle.record_table.specs.Changes.{changed_row}
use Rattle.record_table.specs.Slots.{rows_in, IsSorted}
use Rattle.record_table.specs.Numbered.{numbers_in, IsSlotOf, IsBetween}
use Rattle.record_table.specs.Pages.{place_of}
use Rattle.record_rules.proofs.Placed.{row_of-gap}
use Rattle.record_table.proofs.SlotsLemmas.{changes, gap_here}
use Rattle.record_table.proofs.sorted.SortedRowsRowStore.change.Goals as goal
use Rattle.record_table.proofs.sorted.SortedRowsRowStore.change.Goals.{After-self-1}

changed : (c : After-self-1)
    → IsSorted (concat c.self.inside.order) c.self.inside.numbers.items (slice_set c.self.inside.slots.items c.in-Ok.slot c.change_row.new.row)
    × (rows_in (concat c.self.inside.order) (slice_set c.self.inside.slots.items c.in-Ok.slot c.change_row.new.row)
    ≡ put_row (rows_in (concat c.self.inside.order) c.self.inside.slots.items)
    (changed_row (rows_in (concat c.self.inside.order) c.self.inside.slots.items) c.args.client.now c.args.last c.args.change))
changed c =
    changes (concat c.self.inside.order) c.self.inside.numbers.items c.self.inside.slots.items c.args.client.now c.number_of.result c.in-Ok.slot c.self.invariant c.number_of.ensures
    (subst (λ ns. IsSlotOf (concat c.self.inside.order) ns c.number_of.result c.in-Ok.slot) c.deref.ensures.value c.in-Ok.ensures.found)
    c.args.last c.args.change c.index_mut.result.now c.change_row.new.row c.index_mut.ensures.value c.change_row.ensures

pub invariant_of-self : goal.invariant_of-self
invariant_of-self c = (changed c).0

pub returns-in-Ok-clause-ok : goal.returns-in-Ok-clause-ok
returns-in-Ok-clause-ok c =
    (changed c).1 ∙ ap (λ rows. put_row rows (changed_row rows c.args.client.now c.args.last c.args.change)) c.self.view_is

pub returns-in_default-clause-ok : goal.returns-in_default-clause-ok
returns-in_default-clause-ok c =
    let order = concat c.self.inside.order in
    let at = place_of c.self.inside.order c.in_default.field-0 in
    let between = subst (λ ns. IsBetween (numbers_in order ns) c.number_of.result at) c.deref.ensures.value c.in_default.ensures.between in
    let gap = gap_here order c.self.inside.numbers.items c.self.inside.slots.items c.args.client.now c.number_of.result at c.self.invariant c.number_of.ensures between in
    let none = row_of-gap (rows_in order c.self.inside.slots.items) c.args.client.now at gap in
    absurd (let known = subst IsSome (sym (ap (λ rows. row_of rows c.args.client.now) c.self.view_is) ∙ none) c.requires in cc)

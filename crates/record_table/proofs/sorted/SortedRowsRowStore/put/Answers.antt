use Rattle.std.proofs.Common.{◌≡◌, ◌<◌, ◌⊎◌, [], ◌∷◌, ◌++◌, length, sym, ap, subst, ◌∙◌}
use Rattle.std.specs.Prelude.{IsSome, slice_set}
use Rattle.std.specs.List.{concat}
use Rattle.values.specs.declared.limits.TheConstants.{MOST_ROWS}
use Rattle.record_rules.specs.Table.{put_row, row_of}
use Rattle.record_table.specs.Slots.{rows_in, IsSorted}
use Rattle.record_table.specs.Numbered.{numbers_in, IsSlotOf, IsBetween}
use Rattle.record_table.specs.Pages.{place_of}
use Rattle.record_table.proofs.SlotsLemmas.{writes, adds}
use Rattle.std.proofs.Common.{refl}
use Rattle.record_table.proofs.sorted.SortedRowsRowStore.put.Goals as goal
use Rattle.record_table.proofs.sorted.SortedRowsRowStore.put.Goals.{Joined-index_mut-row, In_ok-push-in-Err-2}

written : (c : Joined-index_mut-row)
    → IsSorted (concat c.self.inside.order) c.self.inside.numbers.items (slice_set c.self.inside.slots.items c.in-Ok.slot c.args.row)
    × (rows_in (concat c.self.inside.order) (slice_set c.self.inside.slots.items c.in-Ok.slot c.args.row)
    ≡ put_row (rows_in (concat c.self.inside.order) c.self.inside.slots.items) c.args.row)
written c =
    writes (concat c.self.inside.order) c.self.inside.numbers.items c.self.inside.slots.items c.args.row.client c.number_of-number.result c.in-Ok.slot c.self.invariant c.number_of-number.ensures
    (subst (λ ns. IsSlotOf (concat c.self.inside.order) ns c.number_of-number.result c.in-Ok.slot) c.deref.ensures.value c.in-Ok.ensures.found)
    c.args.row refl

added : (c : In_ok-push-in-Err-2)
    → IsSorted (concat c.insert.new.self) c.push.new.self.items c.push-in-Err.new.self.items
    × (rows_in (concat c.insert.new.self) c.push-in-Err.new.self.items ≡ put_row (rows_in (concat c.self.inside.order) c.self.inside.slots.items) c.args.row)
added c =
    adds (concat c.self.inside.order) c.self.inside.numbers.items c.self.inside.slots.items c.args.row c.number_of-number.result (place_of c.self.inside.order c.in-Err.spot)
    c.self.invariant c.number_of-number.ensures (concat c.insert.new.self) c.push.new.self.items c.push-in-Err.new.self.items c.len-slot.result
    (subst (λ ns. IsBetween (numbers_in (concat c.self.inside.order) ns) c.number_of-number.result (place_of c.self.inside.order c.in-Err.spot)) c.deref.ensures.value c.in-Err.ensures.between)
    (subst (λ rows. (length rows < MOST_ROWS) ⊎ IsSome (row_of rows c.args.row.client)) (sym c.self.view_is) c.requires)
    (c.len-slot.ensures ∙ c.self.inside.slots.ok.0)
    c.in_ok-insert-in-Err.ensures.ok
    (c.in_ok-push-in-Err.ensures.items ∙ ap (λ ns. ns ++ c.number_of-number.result ∷ []) c.in_ok-reserve-in-Err.ensures.items)
    (c.in_ok-push-in-Err-2.ensures.items ∙ ap (λ ss. ss ++ c.args.row ∷ []) c.in_ok-reserve-in-Err-2.ensures.items)

pub invariant_of-self : goal.invariant_of-self
invariant_of-self c = (written c).0

pub invariant_of-self-in-Err : goal.invariant_of-self-in-Err
invariant_of-self-in-Err c = (added c).0

pub returns-in-Ok-clause-ok : goal.returns-in-Ok-clause-ok
returns-in-Ok-clause-ok c = (written c).1 ∙ ap (λ rows. put_row rows c.args.row) c.self.view_is

pub returns-in_ok-push-in-Err-2-clause-ok : goal.returns-in_ok-push-in-Err-2-clause-ok
returns-in_ok-push-in-Err-2-clause-ok c = (added c).1 ∙ ap (λ rows. put_row rows c.args.row) c.self.view_is

use Rattle.std.proofs.Common.{◌≡◌, ◌<◌, ◌≤◌, ◌+◌, [], rules, length, arith, subst, sym}
use Rattle.std.specs.Prelude.{slice_index}
use Rattle.std.specs.List.{concat}
use Rattle.record_table.specs.Pages.{page_at, IsPage}
use Rattle.record_table.specs.Numbered.{IsSlotOf}
use Rattle.record_table.proofs.PagesLemmas.{in_page}
use Rattle.record_table.proofs.NumberedLemmas.{is_less, is_equal, is_greater, slot_found, below_found, above_found}
use Rattle.std.proofs.lemmas.List.Elements.{All-get_or}
use Rattle.record_table.proofs.search.search.Goals as goal

pub last_reached-page-requires-clause-callable : goal.last_reached-page-requires-clause-callable
last_reached-page-requires-clause-callable c =
    λ at h.
    let low : at < length c.args.order.now = omega arith in
    let some = (All-get_or IsPage c.args.order.now at [] low c.count.ensures.pages).0 in
    let fits : slice_index (page_at c.args.order.now at) 0 < length c.args.numbers.now =
    in_page (λ slot. slot < length c.args.numbers.now) c.args.order.now at 0 c.requires low some in
    search rules

pub last_reached-offset-requires-clause-callable : goal.last_reached-offset-requires-clause-callable
last_reached-offset-requires-clause-callable c =
    λ at h.
    let low : c.last_reached-page.result < length c.args.order.now = omega arith in
    let in_it : at < length (page_at c.args.order.now c.last_reached-page.result) = subst (λ p. at < length p) c.page-slots.ensures.page h in
    let fits : slice_index c.page-slots.result.now at < length c.args.numbers.now =
    subst (λ p. slice_index p at < length c.args.numbers.now) (sym c.page-slots.ensures.page)
    (in_page (λ slot. slot < length c.args.numbers.now) c.args.order.now c.last_reached-page.result at c.requires low in_it) in
    search rules

pub bounds-numbers-slot : goal.bounds-numbers-slot
bounds-numbers-slot c =
    let low : c.last_reached-page.result < length c.args.order.now = omega arith in
    let inside = subst (λ p. c.last_reached-offset.result < length p) c.page-slots.ensures.page c.last_reached-offset.ensures.below in
    subst (λ p. slice_index p c.last_reached-offset.result < length c.args.numbers.now) (sym c.page-slots.ensures.page)
    (in_page (λ slot. slot < length c.args.numbers.now) c.args.order.now c.last_reached-page.result c.last_reached-offset.result c.requires low inside)

pub returns-in-Less-clause-between : goal.returns-in-Less-clause-between
returns-in-Less-clause-between c =
    let numbers = c.args.numbers.now in
    let low : c.last_reached-page.result < length c.args.order.now = omega arith in
    let reached : 0 < c.last_reached-offset.result → slice_index numbers (slice_index c.page-slots.result.now c.last_reached-offset.result) ≤ c.args.number =
    (λ h. let e = c.last_reached-offset.ensures.reached h in search rules) in
    let reached_page : 0 < c.last_reached-page.result → slice_index numbers (slice_index (page_at c.args.order.now c.last_reached-page.result) 0) ≤ c.args.number =
    (λ h. let e = c.last_reached-page.ensures.reached h in search rules) in
    below_found c.args.order.now numbers c.args.number c.last_reached-page.result c.last_reached-offset.result low
    (subst (λ p. c.last_reached-offset.result < length p) c.page-slots.ensures.page c.last_reached-offset.ensures.below)
    reached_page
    (subst (λ p. 0 < c.last_reached-offset.result → slice_index numbers (slice_index p c.last_reached-offset.result) ≤ c.args.number) c.page-slots.ensures.page reached)
    (subst (λ p. c.args.number < slice_index numbers (slice_index p c.last_reached-offset.result)) c.page-slots.ensures.page
    (is_less c.args.number (slice_index numbers (slice_index c.page-slots.result.now c.last_reached-offset.result)) c.in-Less.ensures))

pub returns-in-Equal-clause-found : goal.returns-in-Equal-clause-found
returns-in-Equal-clause-found c =
    let numbers = c.args.numbers.now in
    let low : c.last_reached-page.result < length c.args.order.now = omega arith in
    subst (λ p. IsSlotOf (concat c.args.order.now) numbers c.args.number (slice_index p c.last_reached-offset.result)) (sym c.page-slots.ensures.page)
    (slot_found c.args.order.now numbers c.args.number c.last_reached-page.result c.last_reached-offset.result low
    (subst (λ p. c.last_reached-offset.result < length p) c.page-slots.ensures.page c.last_reached-offset.ensures.below)
    (subst (λ p. c.args.number ≡ slice_index numbers (slice_index p c.last_reached-offset.result)) c.page-slots.ensures.page
    (is_equal c.args.number (slice_index numbers (slice_index c.page-slots.result.now c.last_reached-offset.result)) c.in-Equal.ensures)))

pub returns-in-Greater-clause-between : goal.returns-in-Greater-clause-between
returns-in-Greater-clause-between c =
    let numbers = c.args.numbers.now in
    let low : c.last_reached-page.result < length c.args.order.now = omega arith in
    let next : c.last_reached-offset.result + 1 < length c.page-slots.result.now → c.args.number < slice_index numbers (slice_index c.page-slots.result.now (c.last_reached-offset.result + 1)) =
    (λ h. let e = c.last_reached-offset.ensures.next h in search rules) in
    let next_page : c.last_reached-page.result + 1 < c.count-2.result → c.args.number < slice_index numbers (slice_index (page_at c.args.order.now (c.last_reached-page.result + 1)) 0) =
    (λ h. let e = c.last_reached-page.ensures.next h in search rules) in
    above_found c.args.order.now numbers c.args.number c.count.ensures.pages c.last_reached-page.result c.last_reached-offset.result low
    (subst (λ p. c.last_reached-offset.result < length p) c.page-slots.ensures.page c.last_reached-offset.ensures.below)
    (subst (λ p. slice_index numbers (slice_index p c.last_reached-offset.result) < c.args.number) c.page-slots.ensures.page
    (is_greater c.args.number (slice_index numbers (slice_index c.page-slots.result.now c.last_reached-offset.result)) c.in-Greater.ensures))
    (λ h. next_page (omega arith))
    (subst (λ p. c.last_reached-offset.result + 1 < length p → c.args.number < slice_index numbers (slice_index p (c.last_reached-offset.result + 1))) c.page-slots.ensures.page next)

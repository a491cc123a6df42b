use Rattle.std.proofs.Common.{◌+◌, ◌-◌, ap, subst, ◌∙◌, sym}
use Rattle.std.specs.List.{concat}
use Rattle.record_table.specs.declared.pages.TheConstants.{HALF}
use Rattle.record_table.specs.Pages.{place_of, HasRoom}
use Rattle.record_table.proofs.PagesLemmas.{concat-halved, full_page, room_below, place_below, room_above, place_above}
use Rattle.record_table.proofs.pages.Pages.make_room.Goals as goal

pub returns-then-spot-le-HALF-clause-list : goal.returns-then-spot-le-HALF-clause-list
returns-then-spot-le-HALF-clause-list c = ap concat c.in_ok-split.ensures.ok ∙ concat-halved c.args.self.now c.args.spot.page c.requires.page

pub returns-else-spot-le-HALF-clause-list : goal.returns-else-spot-le-HALF-clause-list
returns-else-spot-le-HALF-clause-list c = ap concat c.in_ok-split.ensures.ok ∙ concat-halved c.args.self.now c.args.spot.page c.requires.page

pub returns-then-spot-le-HALF-clause-room : goal.returns-then-spot-le-HALF-clause-room
returns-then-spot-le-HALF-clause-room c =
    subst (λ pages. HasRoom pages c.args.spot) (sym c.in_ok-split.ensures.ok)
    (room_below c.args.self.now c.args.spot.page c.requires.page c.args.spot.offset (full_page c.self.inside.pages.items c.args.self.now c.args.spot.page c.index.result.now c.len.result c.self.invariant c.self.view_is c.requires.page
    c.index.ensures c.len.ensures c.if-len-lt-PAGE.false) c.if-spot-le-HALF.true)

pub returns-then-spot-le-HALF-clause-place : goal.returns-then-spot-le-HALF-clause-place
returns-then-spot-le-HALF-clause-place c =
    ap (λ pages. place_of pages c.args.spot) c.in_ok-split.ensures.ok ∙ place_below c.args.self.now c.args.spot.page c.requires.page c.args.spot.offset (full_page c.self.inside.pages.items c.args.self.now c.args.spot.page c.index.result.now c.len.result c.self.invariant c.self.view_is c.requires.page
    c.index.ensures c.len.ensures c.if-len-lt-PAGE.false)

pub returns-else-spot-le-HALF-clause-room : goal.returns-else-spot-le-HALF-clause-room
returns-else-spot-le-HALF-clause-room c =
    subst (λ pages. HasRoom pages (record { page = c.args.spot.page + 1; offset = c.args.spot.offset - HALF })) (sym c.in_ok-split.ensures.ok)
    (room_above c.args.self.now c.args.spot.page c.requires.page c.args.spot.offset (full_page c.self.inside.pages.items c.args.self.now c.args.spot.page c.index.result.now c.len.result c.self.invariant c.self.view_is c.requires.page
    c.index.ensures c.len.ensures c.if-len-lt-PAGE.false) c.if-spot-le-HALF.false c.requires.spot.offset_within)

pub returns-else-spot-le-HALF-clause-place : goal.returns-else-spot-le-HALF-clause-place
returns-else-spot-le-HALF-clause-place c =
    ap (λ pages. place_of pages (record { page = c.args.spot.page + 1; offset = c.args.spot.offset - HALF })) c.in_ok-split.ensures.ok
    ∙ place_above c.args.self.now c.args.spot.page c.requires.page c.args.spot.offset (full_page c.self.inside.pages.items c.args.self.now c.args.spot.page c.index.result.now c.len.result c.self.invariant c.self.view_is c.requires.page
    c.index.ensures c.len.ensures c.if-len-lt-PAGE.false) c.if-spot-le-HALF.false

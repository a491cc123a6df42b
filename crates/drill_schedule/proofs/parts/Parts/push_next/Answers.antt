use Rattle.std.proofs.Common.{arith, refl, subst, sym, ap, ◌∙◌, ◌≡◌, ◌+◌, ◌-◌, ◌*◌, ◌++◌}
use Rattle.schedule_model.specs.Drill.{stores, wishes}
use Rattle.drill_schedule.specs.Parts.{Ahead, ahead, from_part}
use Rattle.drill_schedule.proofs.Walk.{part_pushed, store_part, wish_part, this_word}
use Rattle.drill_schedule.proofs.parts.Parts.push_next.Goals as goal

pub returns-then-place-self-clause-part : goal.returns-then-place-self-clause-part
returns-then-place-self-clause-part c =
    let p = c.self.inside in
    let answer = c.from.ensures in
    part_pushed c.store.result c.args.events.now.items c.store.new.events.items (stores p.next c.from.result) (ahead c.args.self.now) (from_part p.seed p.clients (p.next + 1)) c.store.ensures
    (ap ahead (sym c.self.view_is) ∙ store_part p.seed p.clients p.next (omega (arith, c.if-place-eq0.false)) (omega (arith, c.if-place-self.true)) ∙ ap (λ a. stores p.next a ++ from_part p.seed p.clients (p.next + 1)) (sym answer))

pub returns-clause-part : goal.returns-clause-part
returns-clause-part c =
    let p = c.self.inside in
    let answer = c.from-answer.ensures in
    let inv = c.self.invariant in
    part_pushed c.go_on.result c.args.events.now.items c.go_on.new.events.items (wishes (p.next - p.clients) c.from-answer.result c.next_word.result) (ahead c.args.self.now) (from_part p.seed p.clients (p.next + 1)) c.go_on.ensures
    (ap ahead (sym c.self.view_is)
    ∙ wish_part p.seed p.clients p.next (omega (arith, c.if-place-eq0.false)) (omega (arith, c.if-place-self.false)) (omega (arith, c.requires, ap (λ (a : Ahead). a.next) c.self.view_is, ap (λ (a : Ahead). a.clients) c.self.view_is))
    c.next_word.result (this_word p.seed (p.next - (p.clients + 1)) p.words inv.0 c.next_word.result c.next_word.new.self c.next_word.ensures)
    ∙ ap (λ a. wishes (p.next - p.clients) a c.next_word.result ++ from_part p.seed p.clients (p.next + 1)) (sym answer))

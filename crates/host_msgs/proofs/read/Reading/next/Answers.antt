use Rattle.std.proofs.Common.{Option, Some, None, sym, subst, ◌∙◌}
use Rattle.host_msgs.specs.declared.read.Reading.{Reading}
use Rattle.host_msgs.specs.Batches.{next_in}
use Rattle.host_msgs.specs.Walking.{Nexts}
use Rattle.host_msgs.proofs.Marks.{item-names}
use Rattle.host_msgs.proofs.Walks.{item_next, some_next, no_next, if_stands, unless_stands}
use Rattle.host_msgs.proofs.read.Reading.next.Goals as goal
use Rattle.host_msgs.proofs.read.Reading.next.Goals.{in-Ok-Some, in-Ok-None, in-Err}

abbrev nothing_of : {S : Type 0} → S → Option S
nothing_of s = None

pub returns-then-stands-clause-next : goal.returns-then-stands-clause-next
returns-then-stands-clause-next c g stands =
    let bytes = c.args.bytes.now in
    elim c.match-read_item.branch [
      | in-Ok-Some w ↦
          subst (λ (n : Reading). Nexts (λ b. b.now) (Some c.in_ok-kind.behind) n (next_in g bytes)) (sym w.self-is)
          (if_stands (λ b. b.now) w.place-stands.result _ _ w.place-stands.new.self (next_in g bytes) (sym w.stands-is ∙ c.if-stands.true)
          (item_next (λ b. b.now) c.args.self.now w.place-stands.new.self g bytes c.in_ok-kind.kind c.in_ok-kind.content.now c.in_ok-kind.behind stands c.in_ok-kind.ensures.item (sym c.if-not-is_in_place.ensures) w.place-stands.result w.in-Ok-Some.item (w.in-Ok-Some.ensures ∙ w.in-Ok-Some.field-0-is) (rw w.in-Ok-Some.field-0-is at (w.place-stands.ensures g stands))))
      | in-Ok-None w ↦ cc (sym w.stands-is ∙ c.if-stands.true)
      | in-Err w ↦
          subst (λ (n : Reading). Nexts (λ b. b.now) (Some c.in_ok-kind.behind) n (next_in g bytes)) (sym w.self-is)
          (if_stands (λ b. b.now) w.pass-stands.result _ _ w.pass-stands.new.self (next_in g bytes) (sym w.stands-is ∙ c.if-stands.true)
          (some_next (λ b. b.now) c.args.self.now w.pass-stands.new.self g bytes c.in_ok-kind.kind c.in_ok-kind.content.now c.in_ok-kind.behind stands c.in_ok-kind.ensures.item (sym c.if-not-is_in_place.ensures) w.pass-stands.result w.in-Err.ensures
          (λ i says. w.pass-stands.ensures g i stands (item-names c.in_ok-kind.kind c.in_ok-kind.content.now i says ∙ sym w.sender_in.ensures))))
    ]

pub returns-else-stands-clause-next : goal.returns-else-stands-clause-next
returns-else-stands-clause-next c g stands =
    let bytes = c.args.bytes.now in
    elim c.match-read_item.branch [
      | in-Ok-Some w ↦
          subst (λ (n : Reading). Nexts (λ b. b.now) (nothing_of c.in_ok-kind.behind) n (next_in g bytes)) (sym w.self-is)
          (unless_stands (λ b. b.now) w.place-stands.result _ _ w.place-stands.new.self (next_in g bytes) (sym w.stands-is ∙ c.if-stands.false)
          (item_next (λ b. b.now) c.args.self.now w.place-stands.new.self g bytes c.in_ok-kind.kind c.in_ok-kind.content.now c.in_ok-kind.behind stands c.in_ok-kind.ensures.item (sym c.if-not-is_in_place.ensures) w.place-stands.result w.in-Ok-Some.item (w.in-Ok-Some.ensures ∙ w.in-Ok-Some.field-0-is) (rw w.in-Ok-Some.field-0-is at (w.place-stands.ensures g stands))))
      | in-Ok-None w ↦ no_next (λ b. b.now) c.args.self.now c.args.self.now g bytes c.in_ok-kind.kind c.in_ok-kind.content.now c.in_ok-kind.behind stands c.in_ok-kind.ensures.item (sym c.if-not-is_in_place.ensures) (w.in-Ok-None.ensures ∙ w.in-Ok-None.field-0-is)
      | in-Err w ↦
          subst (λ (n : Reading). Nexts (λ b. b.now) (nothing_of c.in_ok-kind.behind) n (next_in g bytes)) (sym w.self-is)
          (unless_stands (λ b. b.now) w.pass-stands.result _ _ w.pass-stands.new.self (next_in g bytes) (sym w.stands-is ∙ c.if-stands.false)
          (some_next (λ b. b.now) c.args.self.now w.pass-stands.new.self g bytes c.in_ok-kind.kind c.in_ok-kind.content.now c.in_ok-kind.behind stands c.in_ok-kind.ensures.item (sym c.if-not-is_in_place.ensures) w.pass-stands.result w.in-Err.ensures
          (λ i says. w.pass-stands.ensures g i stands (item-names c.in_ok-kind.kind c.in_ok-kind.content.now i says ∙ sym w.sender_in.ensures))))
    ]

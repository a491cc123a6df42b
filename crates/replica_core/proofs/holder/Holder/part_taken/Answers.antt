use Rattle.std.proofs.Common.{◌+◌, refl, sym, subst, ◌∙◌}
use Rattle.group_msgs.specs.Ranges.{IsIndex}
use Rattle.values.specs.declared.batch.Batch.{Batch}
use Rattle.replica_model.specs.Linked.{sha_link}
use Rattle.replica_model.specs.Tables.{part_taken}
use Rattle.table_transfer.specs.declared.sending.Sent.TheVariants.{Next, Done}
use Rattle.replica_core.specs.declared.holder.Holder.{Holder}
use Rattle.replica_core.specs.declared.send.Appends.TheVariants.{Nobody}
use Rattle.replica_core.specs.Calling.{Does}
use Rattle.replica_core.proofs.Transfers.{kept-sent, next-sound, done-sound, taken-ignored, next-does, done-does, next-told, done-told}
use Rattle.replica_core.specs.Heard.{after_taken}
use Rattle.replica_core.specs.InRange.{IsHolderInRange}
use Rattle.replica_core.specs.Keeping.{progress_in}
use Rattle.replica_core.specs.Leads.{with_progress_in, without_sending}
use Rattle.replica_core.proofs.Handed.{after_taken-in, ended-in}
use Rattle.replica_core.proofs.Noted.{leading-in}
use Rattle.replica_core.proofs.holder.Holder.part_taken.Goals as goal

pub returns-in-Ignored-clause-model : goal.returns-in-Ignored-clause-model
returns-in-Ignored-clause-model c = λ s st.
    let h : Holder = c.args.self.now in
    let b : Batch = c.args.batch.now in
    let ignored = taken-ignored h c.args.from c.args.point.now c.args.next c.hear_taken.new.self c.hear_taken.ensures.after s st b c.requires.empty
    (sym c.in-Ignored.is ∙ c.hear_taken.ensures.answer) in
    subst (λ g. Does g b Nobody (part_taken sha_link s s.role c.args.from c.args.point.now c.args.next)) (sym ignored.0) ignored.1

pub returns-in_ok-send_part-in-Next-clause-sound :
    goal.returns-in_ok-send_part-in-Next-clause-sound
returns-in_ok-send_part-in-Next-clause-sound c =
    let h : Holder = c.args.self.now in
    let k = kept-sent h c.args.from c.args.point.now c.args.next c.hear_taken.new.self c.hear_taken.ensures.after Next (sym c.in-Next.is ∙ c.hear_taken.ensures.answer) next-told in
    next-sound h c.args.from c.args.point.now c.args.next c.hear_taken.new.self c.hear_taken.ensures.after k c.requires.sound

pub returns-in_ok-send_part-in-Next-clause-model :
    goal.returns-in_ok-send_part-in-Next-clause-model
returns-in_ok-send_part-in-Next-clause-model c = λ s st.
    let h : Holder = c.args.self.now in
    let k = kept-sent h c.args.from c.args.point.now c.args.next c.hear_taken.new.self c.hear_taken.ensures.after Next (sym c.in-Next.is ∙ c.hear_taken.ensures.answer) next-told in
    next-does h c.args.from c.args.point.now c.args.next c.hear_taken.new.self c.hear_taken.ensures.after s st c.args.batch.now c.requires.empty k
    c.send_part.new.batch c.in_ok-send_part-in-Next.ensures.model

pub returns-in_ok-end_sending-in-Done-clause-sound :
    goal.returns-in_ok-end_sending-in-Done-clause-sound
returns-in_ok-end_sending-in-Done-clause-sound c =
    let h : Holder = c.args.self.now in
    let k = kept-sent h c.args.from c.args.point.now c.args.next c.hear_taken.new.self c.hear_taken.ensures.after Done (sym c.in-Done.is ∙ c.hear_taken.ensures.answer) done-told in
    done-sound h c.args.from c.args.point.now c.args.next c.hear_taken.new.self c.hear_taken.ensures.after k c.end_sending.new.self _ refl c.in_ok-end_sending-in-Done.ensures c.requires.sound

pub returns-in_ok-end_sending-in-Done-clause-model :
    goal.returns-in_ok-end_sending-in-Done-clause-model
returns-in_ok-end_sending-in-Done-clause-model c = λ s st.
    let h : Holder = c.args.self.now in
    let k = kept-sent h c.args.from c.args.point.now c.args.next c.hear_taken.new.self c.hear_taken.ensures.after Done (sym c.in-Done.is ∙ c.hear_taken.ensures.answer) done-told in
    done-does h c.args.from c.args.point.now c.args.next c.hear_taken.new.self c.hear_taken.ensures.after s st c.args.batch.now c.requires.empty k
    c.end_sending.new.self _ refl c.in_ok-end_sending-in-Done.ensures

pub returns-in-Ignored-clause-in_range : goal.returns-in-Ignored-clause-in_range
returns-in-Ignored-clause-in_range c = λ id ranged told.
    let h : Holder = c.args.self.now in (
      subst IsHolderInRange (sym c.hear_taken.ensures.after)
          (leading-in h (λ l. after_taken l c.args.from c.args.point.now c.args.next) ranged (λ l r. after_taken-in l c.args.from c.args.point.now c.args.next r)),
      (told, tt),
    )

pub returns-in_ok-send_part-in-Next-clause-in_range : goal.returns-in_ok-send_part-in-Next-clause-in_range
returns-in_ok-send_part-in-Next-clause-in_range c = λ id ranged told.
    let h : Holder = c.args.self.now in
    let after = subst IsHolderInRange (sym c.hear_taken.ensures.after)
    (leading-in h (λ l. after_taken l c.args.from c.args.point.now c.args.next) ranged (λ l r. after_taken-in l c.args.from c.args.point.now c.args.next r)) in
    let term = subst (λ (g : Holder). IsIndex g.ballot.term) (sym c.hear_taken.ensures.after) c.requires.sound.term in
    let sent = c.in_ok-send_part-in-Next.ensures.in_range id term after told in
    (sent.0, (sent.1, tt))

pub returns-in_ok-end_sending-in-Done-clause-in_range : goal.returns-in_ok-end_sending-in-Done-clause-in_range
returns-in_ok-end_sending-in-Done-clause-in_range c = λ id ranged told.
    let h : Holder = c.args.self.now in
    let after = subst IsHolderInRange (sym c.hear_taken.ensures.after)
    (leading-in h (λ l. after_taken l c.args.from c.args.point.now c.args.next) ranged (λ l r. after_taken-in l c.args.from c.args.point.now c.args.next r)) in (
      subst IsHolderInRange (sym c.in_ok-end_sending-in-Done.ensures)
          (leading-in c.hear_taken.new.self (λ l. with_progress_in (without_sending l c.args.from) c.args.from (record (progress_in l.progress c.args.from) { next = c.args.point.now.index + 1 })) after
          (λ l r. ended-in l c.args.from (c.args.point.now.index + 1) r)),
      (told, id),
    )

use Rattle.std.proofs.Common.{Some, None, refl, sym, ap, subst, ◌∙◌, arith}
use Rattle.std.specs.Prelude.{IfSome}
use Rattle.group_msgs.specs.Ranges.{IsIndex}
use Rattle.values.specs.declared.peer.PeerMsg.TheVariants.{Part}
use Rattle.values.specs.declared.peer.TablePart.{TablePart}
use Rattle.replica_model.specs.Linked.{sha_link}
use Rattle.replica_model.specs.Send.{with_sent}
use Rattle.replica_model.specs.Step.{with_end}
use Rattle.replica_model.specs.Tables.{learner_hears}
use Rattle.table_transfer.specs.Taken.{TakesAs}
use Rattle.table_transfer.specs.declared.taking.TakePart.TheVariants.{Taken, Whole}
use Rattle.replica_core.specs.declared.learner.Learner.{Learner}
use Rattle.replica_core.specs.Learning.{LearnsOrHolds}
use Rattle.replica_core.proofs.Learns.{learning, hears-taken, hears-whole}
use Rattle.table_transfer.specs.TakenParts.{TakenParts}
use Rattle.replica_core.specs.InRange.{IsLearnerInRange, IsHolderInRange}
use Rattle.replica_core.specs.Ranges.{IsStepBatch}
use Rattle.replica_core.proofs.Handed.{taken-in, other-in, expecting-in, taken-told-in, holder_at-in}
use Rattle.replica_core.proofs.learner.Learner.part_heard.Goals as goal

pub returns-in_ok-expect-in-Taken-clause-model : goal.returns-in_ok-expect-in-Taken-clause-model
returns-in_ok-expect-in-Taken-clause-model c = λ s taking names s-is parts true_part goes_on.
    let before : Learner = c.args.self.now in
    let part : TablePart = c.args.part.now in
    let l : Learner = record { alloc = before.alloc; me = before.me; term = c.max-self.result; taking = c.take_part.new.self } in
    let takes_as : TakesAs sha_link taking part names l.taking (Taken c.in-Taken.next) =
    subst (TakesAs sha_link taking part names l.taking) c.in-Taken.is (c.in_ok-next.ensures.of_path sha_link taking names parts true_part goes_on) in
    subst (λ r. LearnsOrHolds l None c.expect.new.batch (with_sent (with_end sha_link (learner_hears sha_link r taking c.args.from names (Part c.args.term part))))) (sym s-is)
    (subst (λ b. LearnsOrHolds l None b (with_sent (with_end sha_link (learner_hears sha_link (learning before.me before.term taking) taking c.args.from names (Part c.args.term part)))))
    (sym c.in_ok-expect-in-Taken.ensures)
    (hears-taken l c.args.batch.now c.requires.empty before.me before.term c.args.term refl c.max-self.ensures taking c.args.from part names true_part c.in-Taken.next goes_on takes_as))

pub returns-in_ok-expect-in-Whole-clause-model : goal.returns-in_ok-expect-in-Whole-clause-model
returns-in_ok-expect-in-Whole-clause-model c = λ s taking names s-is parts true_part goes_on.
    let before : Learner = c.args.self.now in
    let part : TablePart = c.args.part.now in
    let l : Learner = record { alloc = before.alloc; me = before.me; term = c.max-self.result; taking = c.take_part.new.self } in
    let takes_as : TakesAs sha_link taking part names l.taking (Whole c.in-Whole.table) =
    subst (TakesAs sha_link taking part names l.taking) c.in-Whole.is (c.in_ok-next.ensures.of_path sha_link taking names parts true_part goes_on) in
    subst (λ r. LearnsOrHolds l (Some c.with_table.result) c.expect-in-Whole.new.batch (with_sent (with_end sha_link (learner_hears sha_link r taking c.args.from names (Part c.args.term part))))) (sym s-is)
    (subst (λ b. LearnsOrHolds l (Some c.with_table.result) b (with_sent (with_end sha_link (learner_hears sha_link (learning before.me before.term taking) taking c.args.from names (Part c.args.term part)))))
    (sym c.in_ok-expect-in-Whole.ensures)
    (hears-whole l c.args.batch.now c.requires.empty before.me before.term c.args.term refl c.max-self.ensures taking c.args.from part names true_part
    c.in-Whole.table c.with_table.result takes_as c.with_table.ensures.holder c.with_table.ensures.log))

pub returns-in_ok-expect-in-Taken-clause-in_range : goal.returns-in_ok-expect-in-Taken-clause-in_range
returns-in_ok-expect-in-Taken-clause-in_range c = λ id ranged told.
    let before : Learner = c.args.self.now in
    let part : TablePart = c.args.part.now in
    let t = c.requires.top in
    let s = c.requires.sound in
    let m = c.max-self.ensures in (
      record { me = ranged.me; point = subst (λ p. IfSome p (λ (x : TakenParts). IsIndex x.point.index)) (sym (ap (λ x. x.0) c.in_ok-next.ensures.taken)) (taken-in before.taking part ranged.point c.requires.range.index) },
      (
        tt,
        subst IsStepBatch (sym c.in_ok-expect-in-Taken.ensures)
            (expecting-in c.args.batch.now c.args.from c.max-self.result part.point c.in-Taken.next told id (omega (arith, t, s, m)) c.requires.range.index),
      ),
    )

pub returns-in_ok-expect-in-Other-clause-in_range : goal.returns-in_ok-expect-in-Other-clause-in_range
returns-in_ok-expect-in-Other-clause-in_range c = λ id ranged told.
    let before : Learner = c.args.self.now in
    let part : TablePart = c.args.part.now in
    let t = c.requires.top in
    let s = c.requires.sound in
    let m = c.max-self.ensures in (
      record { me = ranged.me; point = subst (λ p. IfSome p (λ (x : TakenParts). IsIndex x.point.index)) (sym (ap (λ x. x.0) c.in_ok-next.ensures.taken)) (taken-in before.taking part ranged.point c.requires.range.index) },
      (
        tt,
        subst IsStepBatch (sym c.in_ok-expect-in-Other.ensures)
            (expecting-in c.args.batch.now c.args.from c.max-self.result c.in-Other.point c.in-Other.next told id (omega (arith, t, s, m))
            (other-in before.taking part c.in-Other.point c.in-Other.next ranged.point (sym (ap (λ x. x.1) c.in_ok-next.ensures.taken) ∙ c.in-Other.is))),
      ),
    )

pub returns-in_ok-expect-in-Whole-clause-in_range : goal.returns-in_ok-expect-in-Whole-clause-in_range
returns-in_ok-expect-in-Whole-clause-in_range c = λ id ranged told.
    let before : Learner = c.args.self.now in
    let part : TablePart = c.args.part.now in
    let t = c.requires.top in
    let s = c.requires.sound in
    let m = c.max-self.ensures in
    let l : Learner = record { alloc = before.alloc; me = before.me; term = c.max-self.result; taking = c.take_part.new.self } in
    let learns : IsLearnerInRange l =
    record { me = ranged.me; point = subst (λ p. IfSome p (λ (x : TakenParts). IsIndex x.point.index)) (sym (ap (λ x. x.0) c.in_ok-next.ensures.taken)) (taken-in before.taking part ranged.point c.requires.range.index) } in (
      learns,
      (
        subst IsHolderInRange (sym c.with_table.ensures.holder) (holder_at-in l c.args.from part c.in-Whole.table learns id c.requires.range),
        subst IsStepBatch (sym c.in_ok-expect-in-Whole.ensures)
            (expecting-in (record (c.args.batch.now) { taken = Some part.point }) c.args.from c.max-self.result part.point part.parts
            (taken-told-in c.args.batch.now part.point told c.requires.range.index) id (omega (arith, t, s, m)) c.requires.range.index),
      ),
    )

use Rattle.std.proofs.Common.{◌∙◌, ap, ◌++◌, map, max}
use Rattle.group_world.specs.Keeping.{kept_answer, kept_conf, letters_of}
use Rattle.group_world.proofs.Kept.{batch_kept}
use Rattle.group_world.proofs.world.World.keep.Goals as goal

pub returns-clause-keeps : goal.returns-clause-keeps
returns-clause-keeps c =
    let w = c.args.self.now in
    let r = c.args.id in
    batch_kept w r c.args.batch.now c.args.frames c.send_all.new.post c.answer_all.new.answers c.save.new.saves c.tell_all.new.confs c.max-self.result _
    (c.in_ok-send_all.ensures ∙ ap (λ s. w.post ++ letters_of r s c.args.frames) c.as_slice.ensures) (c.in_ok-answer_all.ensures ∙ ap (λ a. w.answers.items ++ map kept_answer a) c.as_slice-2.ensures)
    c.in_ok-save.ensures (c.in_ok-tell_all.ensures ∙ ap (λ m. w.confs.items ++ map kept_conf m) c.as_slice-3.ensures) (c.max-self.ensures ∙ ap (max w.committed) c.committed_in.ensures)

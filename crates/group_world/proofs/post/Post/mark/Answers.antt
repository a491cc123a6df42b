use Rattle.std.proofs.Common.{refl, ap, subst, ◌∙◌, ◌<◌, ℕ, List, length}
use Rattle.std.proofs.lemmas.Option.{slice_get_read}
use Rattle.group_world.specs.Posted.{fated}
use Rattle.group_world.specs.declared.post.Letter.{Letter}
use Rattle.group_world.specs.Queues.{IsQueue, queue_of}
use Rattle.group_world.proofs.Queued.{queues_marked}
use Rattle.group_world.proofs.Waiting.{fated_set}
use Rattle.group_world.proofs.post.Post.mark.Goals as goal

pub invariant_of-self : goal.invariant_of-self
invariant_of-self c =
    let letters = c.self.inside.letters.items in
    let l = c.index_mut-letter.result.now in
    let lt : c.args.place < length letters = rw c.self.view_is c.requires.place in
    let is = fated_set c.args.fate letters c.args.place l lt c.index_mut-letter.ensures.value in
    let h = c.pass_over.ensures in
    let read = c.as_slice.ensures.value in
    subst (λ (ls : List Letter). (id : ℕ) → IsQueue ls id (queue_of c.pass_over.new.queues id)) read
    (queues_marked c.args.fate c.requires.fate letters c.args.place lt l c.as_slice.result.now (queue_of c.self.inside.queues) (queue_of c.pass_over.new.queues)
    (slice_get_read letters (length letters) c.args.place l refl lt c.index_mut-letter.ensures.value) (read ∙ is) h.holds h.begins h.sent h.others c.self.invariant)

pub returns : goal.returns
returns c =
    fated_set c.args.fate c.self.inside.letters.items c.args.place c.index_mut-letter.result.now (rw c.self.view_is c.requires.place) c.index_mut-letter.ensures.value
    ∙ ap (λ r. fated r c.args.place c.args.fate) c.self.view_is

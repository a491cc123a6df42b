use Rattle.std.proofs.Common.{sym, ◌∙◌, [], ◌∷◌}
use Rattle.group_world.specs.Given.{Content}
use Rattle.group_world.proofs.Happening.{gains_none, refused_does, replied_does, runs_called, stopped_does}
use Rattle.group_world.proofs.world.World.tell.Goals as goal

pub returns-then-not-runs-clause-does : goal.returns-then-not-runs-clause-does
returns-then-not-runs-clause-does g c = ([], gains_none _, refused_does _ _ (g.F.Field.map c.args.field.now) c.args.id c.args.input.now (sym c.runs.ensures ∙ c.if-not-runs.true))

pub returns-in-Err-clause-does : goal.returns-in-Err-clause-does
returns-in-Err-clause-does g c = stopped_does _ _ _ c.args.id c.args.input.now c.args.self.now _ _ c.in-Err.e (sym c.runs.ensures ∙ c.if-not-runs.false) c.in-Err.ensures.calls

pub returns-in-Ok-keep-clause-does : goal.returns-in-Ok-keep-clause-does
returns-in-Ok-keep-clause-does g c =
    let (content, called, read) = c.in-Ok.ensures.calls in
    (Content content ∷ [], called.gained, replied_does _ _ _ c.args.id c.args.input.now _ content c.in-Ok.read.0 c.in-Ok.read.1 (sym c.runs.ensures ∙ c.if-not-runs.false) called.stepped read (rw c.deref.ensures at c.in-Ok-keep.ensures.keeps))

pub returns-in-Ok-keep-clause-runs : goal.returns-in-Ok-keep-clause-runs
returns-in-Ok-keep-clause-runs g c =
    let (content, called, read) = c.in-Ok.ensures.calls in
    rw c.keep.ensures.running (runs_called _ _ c.args.self.now.running.items c.args.id c.args.input.now content called.stepped c.requires.runs)

pub returns-in-Err-keep-clause-does : goal.returns-in-Err-keep-clause-does
returns-in-Err-keep-clause-does g c =
    let (content, called, read) = c.in-Ok.ensures.calls in
    (Content content ∷ [], called.gained, tt)

use Rattle.std.proofs.Common.{sym, subst, ◌∙◌, ◌==◌, ℕ, List, [], ◌∷◌, not}
use Rattle.group_world.specs.Given.{Taken}
use Rattle.group_world.specs.Roster.{IsRoster}
use Rattle.group_world.proofs.Enlisting.{roster-filter}
use Rattle.group_world.proofs.Happening.{gains_none}
use Rattle.group_world.proofs.Rolling.{crash_fails, crashes, idle_crashes, runs_stopped}
use Rattle.group_world.proofs.world.World.crash.Goals as goal

pub returns-then-not-runs-clause-does : goal.returns-then-not-runs-clause-does
returns-then-not-runs-clause-does g c = ([], gains_none _, idle_crashes _ _ c.args.id (sym c.runs.ensures ∙ c.if-not-runs.true))

pub returns-in-Err-Failed-clause-does : goal.returns-in-Err-Failed-clause-does
returns-in-Err-Failed-clause-does g c = ([], c.stop.ensures.gives, crash_fails _ (g.F.Field.map c.args.field.now) c.args.id (sym c.runs.ensures ∙ c.if-not-runs.false) c.args.self.now (g.F.Field.map c.stop.new.self))

pub returns-clause-does : goal.returns-clause-does
returns-clause-does g c =
    (Taken ∷ [], c.stop.ensures.gives, crashes _ (g.F.Field.map c.args.field.now) c.args.id (sym c.runs.ensures ∙ c.if-not-runs.false) _ _ (g.F.Field.map c.stop.new.self) c.in-Ok.ensures.stops c.take_out.ensures)

pub returns-clause-runs : goal.returns-clause-runs
returns-clause-runs g c = runs_stopped (g.F.Field.map c.args.field.now) (g.F.Field.map c.stop.new.self) c.args.self.now.running.items _ c.args.id c.in-Ok.ensures.stops c.take_out.ensures c.requires.runs

pub invariant_of-self : goal.invariant_of-self
invariant_of-self g c = record { roster = subst (λ (ids : List ℕ). IsRoster c.args.self.now.begun ids c.args.self.now.started.items) (sym c.take_out.ensures) (roster-filter c.args.self.now.begun c.args.self.now.running.items c.args.self.now.started.items (λ n. not (n == c.args.id)) c.args.self.now.roster) }

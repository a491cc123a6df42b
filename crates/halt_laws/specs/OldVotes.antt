-- A run in which a replica is set back behind its vote: two replicas halt.
use Rattle.std.specs.Prelude.{ℕ, List, [], ◌∷◌, ◌++◌, filter_map, option_map}
use Rattle.values.specs.declared.event.Event.{Event}
use Rattle.values.specs.declared.event.Event.TheVariants.{Begin, Tick, Save, Roll, Margin}
use Rattle.group_model.specs.Run.{Recorded, World, run}
use Rattle.halt_laws.specs.Whole.{whole_link}
use Rattle.halt_laws.specs.Succession.{delivered}

-- 1 leads five voters and commits a change of the margin. 2 stands for term 2, is set back to before that change, and
-- stands for term 2 again: the votes for what it held then make it lead with what it holds now
abbrev pub old_votes : List Event
old_votes =
    (Begin 1 100 (1 ∷ 2 ∷ 3 ∷ 4 ∷ 5 ∷ []) ∷ Tick 1 ∷ delivered 1 32)
    ++ (Save 2 ∷ Margin 1 0 ∷ delivered 33 24)
    ++ (Tick 2 ∷ delivered 57 4)
    ++ (Roll 2 1 ∷ Tick 2 ∷ delivered 61 3)
    ++ (delivered 69 2)

-- the world after it
abbrev pub revoted : World
revoted = run whole_link old_votes

-- the replicas that halted, the newest first
abbrev pub halted : World → List ℕ
halted w = filter_map (λ (r : Recorded). option_map (λ difference. r.replica) r.call.batch.halt) w.field.history

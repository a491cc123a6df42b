-- A run in which the leader, the voters and the margin change, and a learner takes a table and becomes a voter.
use Rattle.std.specs.Prelude.{ℕ, List, [], ◌∷◌, ◌++◌, map, filter_map, option_map}
use Rattle.std.specs.List.{range_with_len}
use Rattle.values.specs.declared.entry.Point.{Point}
use Rattle.values.specs.declared.event.Event.{Event}
use Rattle.values.specs.declared.event.Event.TheVariants.{Begin, Start, Tick, Deliver, Join, Admit, Remove, Margin}
use Rattle.group_quorum.specs.Conf.{Conf}
use Rattle.replica_model.specs.Configs.{conf}
use Rattle.group_model.specs.Run.{Recorded, World, run}
use Rattle.group_model.specs.Log.{log_of, setup_of}
use Rattle.halt_laws.specs.Whole.{whole_link}

-- so many messages are delivered, from this number on
abbrev pub delivered : ℕ → ℕ → List Event
delivered from count = map Deliver (range_with_len from count)

-- 1 leads three voters, hands its table to 4 and admits it, and raises the margin; then 2 leads, and removes 3. Each
-- message is delivered before the next event
abbrev pub succession : List Event
succession =
    (Begin 0 100 (1 ∷ 2 ∷ 3 ∷ []) ∷ Tick 1 ∷ delivered 1 16)
    ++ (Start 4 ∷ Join 1 4 ∷ delivered 17 4)
    ++ (Admit 1 4 ∷ delivered 21 18)
    ++ (Margin 1 1 ∷ delivered 39 18)
    ++ (Tick 2 ∷ delivered 57 24)
    ++ (Remove 2 3 ∷ delivered 81 16)

-- the world after it
abbrev pub succeeded : World
succeeded = run whole_link succession

-- the terms in which replicas began to lead, the newest first
abbrev pub leads_told : World → List ℕ
leads_told w = filter_map (λ (r : Recorded). r.call.batch.lead) w.field.history

-- the indices of the tables that learners took, the newest first
abbrev pub tables_taken : World → List ℕ
tables_taken w = filter_map (λ (r : Recorded). option_map (λ (p : Point). p.index) r.call.batch.taken) w.field.history

-- the configuration of the log
abbrev pub last_conf : World → Conf
last_conf w = conf (setup_of w).first (log_of w)

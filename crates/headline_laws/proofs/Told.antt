-- A schedule without a rollback, and a drill, tell of no halt.
use Rattle.std.proofs.Common.{◌≡◌, ℕ, zero, suc, ◌+◌, ◌*◌, ◌%◌, ◌==◌, Bool, true, false, cond, Option, Some, None, List, [], ◌∷◌, count_by, refl, sym, ap, subst, arith}
use Rattle.std.specs.Prelude.{reverse, is_some, IfSome}
use Rattle.std.specs.List.{AllByRecursion}
use Rattle.std.proofs.lemmas.List.Sums.{sum_by-cons}
use Rattle.values.specs.declared.event.Event.{Event}
use Rattle.values.specs.declared.event.Event.TheVariants as event
use Rattle.group_quorum.specs.Conf.{Conf}
use Rattle.group_quorum.specs.Voters.{is_in}
use Rattle.record_cutting.specs.Lines.{Record, records_of}
use Rattle.schedule_model.specs.Drill.{exchange, stores, wishes, wish, client, all_store, all_wish, drill_events}
use Rattle.replica_model.specs.Path.{Link}
use Rattle.replica_model.specs.Message.{Message}
use Rattle.group_model.specs.Group.{Setup}
use Rattle.group_model.specs.Run.{Recorded, Enclaves, World, enclaves, empty_world}
use Rattle.group_model.specs.Log.{Bears, WithinBound, NoCollision}
use Rattle.group_model.specs.Halts.{HaltLaws, NoHalt}
use Rattle.group_model.specs.Laws.{OneLog, OneLogLaws}
use Rattle.log_laws.proofs.Ending.{all-append}
use Rattle.trace_model.specs.Trace.{Playing, playing, expanded, record_played}
use Rattle.trace_model.specs.Schedules.{played_of, world_of}
use Rattle.trace_model.specs.Summary.{halts, drill_played}
use Rattle.trace_model.specs.Claims.{ScheduleIsARun, DrivenIsARun, DrillHolds, drill_world}
use Rattle.trace_model.specs.Driven.{driven_world}
use Rattle.play_walk.proofs.Ends.{all_end}
use Rattle.headline_laws.proofs.Played.{IsRun, expanded_run}
use Rattle.headline_laws.specs.HaltLines.{NoHaltLine, DrivenNoHalt}
use Rattle.headline_laws.proofs.Calm.{IsNoRoll}
use Rattle.headline_laws.proofs.Playing.{Plays, all_plays, record_plays, expanded_plays, whole_fine, last_rolled}

count_step : {A : Type 0} (f : A → Bool) (x : A) (xs : List A) → f x ≡ false → count_by f xs ≡ 0 → count_by f (x ∷ xs) ≡ 0
count_step f x xs fails none =
    let one : cond {A = ℕ} (f x) 1 0 ≡ 0 = ap (λ b. cond b 1 0) fails in
    omega (arith, one, sum_by-cons (λ y. cond (f y) 1 0) x xs, none)

-- nobody halted
none_halts : (history : List Recorded) → AllByRecursion (λ (r : Recorded). r.call.batch.halt ≡ None) history → count_by (λ (r : Recorded). is_some r.call.batch.halt) history ≡ 0
none_halts [] h = refl
none_halts (r ∷ history) h = count_step (λ (x : Recorded). is_some x.call.batch.halt) r history (ap is_some h.0) (none_halts history h.1)

-- the laws of a world that is that of a run
module _ (no_halt : NoHalt) (link : Link) (w : World) (is : IsRun link w) (unrolled : w.rolled ≡ []) (none : NoCollision link w) where
  laws_of : HaltLaws w
  laws_of =
      subst HaltLaws (sym is)
      (no_halt link (reverse w.past)
      (subst (λ (x : World). x.rolled ≡ []) is unrolled)
      (subst (NoCollision link) is none))

  halts_none : halts w ≡ 0
  halts_none = none_halts w.field.history laws_of.no_halt_told

all_records : (link : Link) (p : Playing Message Enclaves) (records : List Record) → AllByRecursion (λ (r : Record). Unit {0}) records
all_records link p [] = tt
all_records link p (r ∷ records) = (tt, all_records link p records)

pub no_halt_line_of : ScheduleIsARun → NoHalt → NoHaltLine
no_halt_line_of are_runs no_halt link bytes unrolled none =
    let start : Playing Message Enclaves = playing empty_world in
    let plays : Plays ⊥ start (played_of link bytes) =
    all_plays ⊥ (record_played (enclaves link)) (λ r. Unit {0}) (λ p r fine. record_plays link p r) start (records_of bytes) (all_records link start (records_of bytes)) in
    let w : World = world_of link bytes in
    let is = are_runs link bytes in
    let laws = laws_of no_halt link w is unrolled none in
    (laws, halts_none no_halt link w is unrolled none, whole_fine start (played_of link bytes) plays laws.no_halt_told)

pub driven_none_of : DrivenIsARun → NoHalt → DrivenNoHalt
driven_none_of are_runs no_halt link bytes unrolled none =
    let w : World = driven_world link bytes in
    let is = are_runs link bytes in
    (laws_of no_halt link w is unrolled none, halts_none no_halt link w is unrolled none)

-- an event of a drill puts nothing back
abbrev Fine : Event → Type 0
Fine e = Unit {0} → IsNoRoll e

exchange_fine : (i a : ℕ) → AllByRecursion Fine (exchange i a)
exchange_fine i a = ((λ n. tt), ((λ n. tt), ((λ n. tt), tt)))

stores_fine : (i a : ℕ) → AllByRecursion Fine (stores i a)
stores_fine i a = ((λ n. tt), all-append Fine (exchange i a) (exchange i (a + 1)) (exchange_fine i a) (exchange_fine i (a + 1)))

all_store_fine : (n i a : ℕ) → AllByRecursion Fine (all_store n i a)
all_store_fine zero i a = tt
all_store_fine (suc n) i a = all-append Fine (stores i a) (all_store n (i + 1) (a + 2)) (stores_fine i a) (all_store_fine n (i + 1) (a + 2))

round_fine : (b : Bool) → AllByRecursion Fine (cond b (event.Tick 1 ∷ event.Settle 8 ∷ []) [])
round_fine true = ((λ n. tt), ((λ n. tt), tt))
round_fine false = tt

wishes_fine : (i a u : ℕ) → AllByRecursion Fine (wishes i a u)
wishes_fine i a u =
    all-append Fine (cond (u % 4 == 3) (event.Tick 1 ∷ event.Settle 8 ∷ []) []) (event.Want (client i) (wish i u) ∷ exchange i a) (round_fine (u % 4 == 3)) ((λ n. tt), exchange_fine i a)

all_wish_fine : (seed n i a : ℕ) → AllByRecursion Fine (all_wish seed n i a)
all_wish_fine seed zero i a = tt
all_wish_fine seed (suc n) i a = all-append Fine (wishes i a _) (all_wish seed n (i + 1) (a + 1)) (wishes_fine i a _) (all_wish_fine seed n (i + 1) (a + 1))

drill_fine : (seed clients : ℕ) → AllByRecursion Fine (drill_events seed clients)
drill_fine seed clients = (
  (λ n. tt),
  (
    (λ n. tt),
    ((λ n. tt), all-append Fine (all_store clients 1 1) (all_wish seed clients 1 (2 * clients + 1)) (all_store_fine clients 1 1) (all_wish_fine seed clients 1 (2 * clients + 1))),
  ),
)

-- where nobody was rolled back the run is within the bound
none_in : (vs : List ℕ) → count_by (is_in []) vs ≡ 0
none_in [] = refl
none_in (v ∷ vs) = count_step (is_in []) v vs refl (none_in vs)

bears_none : (w : World) (c : Conf) → w.rolled ≡ [] → Bears w c
bears_none w c unrolled = let none : count_by (is_in w.rolled) c.voters ≡ 0 = subst (λ rolled. count_by (is_in rolled) c.voters ≡ 0) (sym unrolled) (none_in c.voters) in omega (arith, none)

within_none : (w : World) → w.rolled ≡ [] → WithinBound w
within_none w unrolled = record { first = first w.setup; gained = λ p term margin voters held. bears_none w (record { margin = margin; voters = voters }) unrolled }
  where
    first : (o : Option Setup) → IfSome o (λ setup. Bears w setup.first)
    first None = tt
    first (Some setup) = bears_none w setup.first unrolled

pub drill_holds_of : OneLog → NoHalt → DrillHolds
drill_holds_of one_log no_halt link seed clients none =
    let start : Playing Message Enclaves = playing empty_world in
    let w : World = drill_world link seed clients in
    let plays : Plays (Unit {0}) start (drill_played link seed clients) =
    all_plays (Unit {0}) (expanded (enclaves link)) Fine (λ p e fine. expanded_plays (Unit {0}) link p e fine) start (drill_events seed clients) (drill_fine seed clients) in
    let is : IsRun link w = all_end (λ (q : Playing Message Enclaves). IsRun link q.group) (expanded (enclaves link)) (λ p e good. expanded_run link p e good) start (drill_events seed clients) refl in
    let unrolled : w.rolled ≡ [] = last_rolled (Unit {0}) start (drill_played link seed clients) plays tt in (
      subst OneLogLaws (sym is) (one_log link (reverse w.past) (subst WithinBound is (within_none w unrolled)) (subst (NoCollision link) is none)),
      halts_none no_halt link w is unrolled none,
    )

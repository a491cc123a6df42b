-- What is played keeps what each of its events keeps; so it is a run of the events that were played.
use Rattle.std.proofs.Common.{◌≡◌, ℕ, false, Option, Some, None, List, [], ◌∷◌, refl, sym, ap, subst, ◌∙◌}
use Rattle.std.specs.Prelude.{reverse, is_some}
use Rattle.std.proofs.lemmas.List.{reverse-append}
use Rattle.std.proofs.lemmas.Grind.{fold-append}
use Rattle.values.specs.declared.event.Event.{Event}
use Rattle.values.specs.declared.event.Event.TheVariants as event
use Rattle.record_cutting.specs.Lines.{Record, records_of}
use Rattle.schedule_model.specs.Quantities.{Quantity}
use Rattle.schedule_model.specs.Records.{event_of}
use Rattle.replica_model.specs.Path.{Link}
use Rattle.replica_model.specs.Message.{Message}
use Rattle.group_model.specs.Group.{next_message}
use Rattle.group_model.specs.Happens.{Came, Happening, Happened, Broken, Unanswered, happens}
use Rattle.group_model.specs.Run.{Enclaves, World, enclaves, group_after, run, empty_world}
use Rattle.trace_model.specs.Limits.{passed_before, passed_after}
use Rattle.trace_model.specs.Trace.{Playing, playing, happened_text, within_limits, happened, tried, played, expanded}
use Rattle.trace_model.specs.Schedules.{world_of}
use Rattle.trace_model.specs.Claims.{ScheduleIsARun}
use Rattle.play_walk.proofs.Ends.{Ends, ReadsFine, any_read}
use Rattle.play_walk.proofs.Played as play
use Rattle.play_walk.proofs.Played.{FineRead, fine_read}
use Rattle.headline_laws.proofs.Past.{HasPast, happens_past}

-- What each event of these keeps is kept by all that is played of them. The events that a settle stands for are fine, and
-- those that a record stands for.
module _ (link : Link) (P : World → Type 0) (Fine : World → Event → Type 0)
    (each : (g h : World) (e : Event) (came : Came) → P g → Fine g e → passed_before g e ≡ None → happens (enclaves link) e g ≡ Happened came h → passed_after h ≡ None → P h)
    (delivered : (g : World) (k : ℕ) → P g → next_message g ≡ Some k → Fine g (event.Deliver k)) where
  abbrev Plays : Playing Message Enclaves → Type 0
  Plays p = P p.group

  module _ (p : Playing Message Enclaves) (good : Plays p) (e : Event) (fine : Fine p.group e) where
    within_keeps : (came : Came) (h : World) → happens (enclaves link) e p.group ≡ Happened came h → passed_before p.group e ≡ None → (o : Option Quantity) → passed_after h ≡ o → Ends Plays (within_limits (enclaves link) p (happened_text p.group e came) h o)
    within_keeps came h is before None after = each p.group h e came good fine before is after
    within_keeps came h is before (Some passed) after = good

    happened_keeps : (x : Happening Message Enclaves) → happens (enclaves link) e p.group ≡ x → passed_before p.group e ≡ None → Ends Plays (happened (enclaves link) p e x)
    happened_keeps (Happened came h) is before = within_keeps came h is before (passed_after h) refl
    happened_keeps (Broken at f) is before = good
    happened_keeps Unanswered is before = good

    tried_keeps : (o : Option Quantity) → passed_before p.group e ≡ o → Ends Plays (tried (enclaves link) p e o)
    tried_keeps (Some passed) before = good
    tried_keeps None before = happened_keeps (happens (enclaves link) e p.group) refl before

    played_keeps : Ends Plays (played (enclaves link) p e)
    played_keeps = tried_keeps (passed_before p.group e) refl

  pub expanded_keeps : (p : Playing Message Enclaves) (e : Event) → FineRead Fine p.group e → Plays p → Ends Plays (expanded (enclaves link) p e)
  expanded_keeps = play.expanded_keeps link Plays Fine played_keeps (λ p. delivered p.group) (λ p good. good)

  pub schedule_keeps : P empty_world → ((g : World) (fields : Record) → ReadsFine (FineRead Fine g) (event_of false (is_some g.setup) fields)) → (bytes : List ℕ) → P (world_of link bytes)
  schedule_keeps first read bytes = play.records_keep link Plays Fine played_keeps (λ p. delivered p.group) (λ p good. good) read (playing empty_world) first (records_of bytes)

-- ---- a run
module _ (link : Link) where
  -- a world is that of the run of its events
  abbrev pub IsRun : World → Type 0
  IsRun w = w ≡ run link (reverse w.past)

  one_more : (e : Event) (past : List Event) → run link (reverse (e ∷ past)) ≡ group_after (run link (reverse past)) (happens (enclaves link) e (run link (reverse past)))
  one_more e past =
      ap (run link) (reverse-append (e ∷ []) past)
      ∙ fold-append (λ (w : World) (e : Event). group_after w (happens (enclaves link) e w)) _ (reverse past) (e ∷ [])

  -- a world goes on by an event that happens
  pub run_on : (w g : World) (e : Event) (came : Came) → IsRun w → happens (enclaves link) e w ≡ Happened came g → IsRun g
  run_on w g e came good is =
      let past : g.past ≡ e ∷ w.past = subst (HasPast (e ∷ w.past)) is (happens_past (enclaves link) e w) in
      sym
      (ap (λ (events : List Event). run link (reverse events)) past
      ∙ one_more e w.past
      ∙ ap (λ (x : World). group_after x (happens (enclaves link) e x)) (sym good)
      ∙ ap (group_after w) is)

  one_on : (g h : World) (e : Event) (came : Came) → IsRun g → Unit {0} → passed_before g e ≡ None → happens (enclaves link) e g ≡ Happened came h → passed_after h ≡ None → IsRun h
  one_on g h e came good fine before is after = run_on g h e came good is

  pub expanded_run : (p : Playing Message Enclaves) (e : Event) → IsRun p.group → Ends (λ (q : Playing Message Enclaves). IsRun q.group) (expanded (enclaves link) p e)
  expanded_run p e good = expanded_keeps link IsRun (λ g e. Unit {0}) one_on (λ g k good is. tt) p e (fine_read (λ g e. Unit {0}) p.group e tt) good

  pub schedule_run : (bytes : List ℕ) → IsRun (world_of link bytes)
  schedule_run bytes = schedule_keeps link IsRun (λ g e. Unit {0}) one_on (λ g k good is. tt) refl (λ g fields. any_read _ (λ e. fine_read (λ g e. Unit {0}) g e tt) (event_of false (is_some g.setup) fields)) bytes

pub schedules_are_runs : ScheduleIsARun
schedules_are_runs = schedule_run

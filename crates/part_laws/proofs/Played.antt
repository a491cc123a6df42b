-- Where records are played, the enclaves stand as those of a run: with the event that ended the text, where one did.
use Rattle.std.proofs.Common.{◌≡◌, false, Option, Some, None, List, [], ◌∷◌, ◌++◌, refl, sym, ap, subst, ◌∙◌}
use Rattle.std.specs.Prelude.{is_some}
use Rattle.std.proofs.lemmas.Grind.{fold-append}
use Rattle.values.specs.declared.event.Event.{Event}
use Rattle.record_cutting.specs.Lines.{Record, records_of}
use Rattle.schedule_model.specs.Quantities.{Quantity}
use Rattle.schedule_model.specs.Records.{event_of}
use Rattle.replica_model.specs.Path.{Link}
use Rattle.replica_model.specs.Message.{Message}
use Rattle.group_model.specs.Happens.{Came, Happening, Happened, Broken, Unanswered, happens}
use Rattle.group_model.specs.Log.{NoCollision}
use Rattle.group_model.specs.Run.{Enclaves, World, enclaves, group_after, run, empty_world}
use Rattle.trace_model.specs.Limits.{passed_before, passed_after}
use Rattle.trace_model.specs.Trace.{playing, counted, happened_text, within_limits, happened, tried, played, expanded}
use Rattle.part_laws.specs.Named.{AreNamed, played_from, with_enclaves, PlayedCallsAreNamed, ScheduleCallsAreNamed}
use Rattle.event_walk.proofs.Walk.{unbroken}
use Rattle.play_walk.proofs.Ends.{Ends, any_read}
use Rattle.play_walk.proofs.Played as play
use Rattle.play_walk.proofs.Played.{Play, fine_read}
use Rattle.part_laws.proofs.Handed.{calls_are_named}

module _ (link : Link) where
  abbrev pub IsOfRun : World → Type 0
  IsOfRun w = (events : List Event) × (w ≡ run link events)

  abbrev pub AreOfRun : Enclaves → Type 0
  AreOfRun f = (events : List Event) × (f ≡ (run link events).field)

  -- the group is that of a run, and so are the enclaves where they stand
  pub record Stands (p : Play) : Type 0 where
    pub group : IsOfRun p.group
    pub stands : AreOfRun p.stands

  -- ---- one event
  one_more : (events : List Event) (e : Event) → run link (events ++ e ∷ []) ≡ group_after (run link events) (happens (enclaves link) e (run link events))
  one_more events e = fold-append (λ (w : World) (e : Event). group_after w (happens (enclaves link) e w)) empty_world events (e ∷ [])

  run_on : (w g : World) (e : Event) (came : Came) → IsOfRun w → happens (enclaves link) e w ≡ Happened came g → IsOfRun g
  run_on w g e came (events, is) on = (
    events ++ e ∷ [],
    sym (one_more events e ∙ (ap (λ (x : World). group_after x (happens (enclaves link) e x)) (sym is) ∙ ap (group_after w) on)),
  )

  module _ (p : Play) (good : Stands p) (e : Event) where
    within_ends : (came : Came) (g : World) → IsOfRun g → (o : Option Quantity) → Ends Stands (within_limits (enclaves link) p (happened_text p.group e came) g o)
    within_ends came g (events, is) None = record { group = (events, is); stands = (events, ap (λ (w : World). w.field) is) }
    within_ends came g (events, is) (Some passed) = record { group = good.group; stands = (events, ap (λ (w : World). w.field) is) }

    happened_ends : (x : Happening Message Enclaves) → happens (enclaves link) e p.group ≡ x → Ends Stands (happened (enclaves link) p e x)
    happened_ends (Happened came g) is = within_ends came g (run_on p.group g e came good.group is) (passed_after g)
    happened_ends (Broken at f) is = absurd (unbroken link p.group e at f is)
    happened_ends Unanswered is = good

    tried_ends : (o : Option Quantity) → Ends Stands (tried (enclaves link) p e o)
    tried_ends (Some passed) = good
    tried_ends None = happened_ends (happens (enclaves link) e p.group) refl

    played_ends : Ends Stands (played (enclaves link) p e)
    played_ends = tried_ends (passed_before p.group e)

  -- ---- all of them
  abbrev Any : World → Event → Type 0
  Any g e = Unit {0}

  pub counted_stands : (p : Play) → Stands p → Stands (counted p)
  counted_stands p good = record { group = good.group; stands = good.stands }

  pub expanded_ends : (p : Play) (e : Event) → Stands p → Ends Stands (expanded (enclaves link) p e)
  expanded_ends p e good = play.expanded_keeps link Stands Any (λ p good e fine. played_ends p good e) (λ p k good is. tt) counted_stands p e (fine_read Any p.group e tt) good

  played_stands : (records : List Record) → Stands (played_from link records)
  played_stands records =
      play.records_keep link Stands Any (λ p good e fine. played_ends p good e) (λ p k good is. tt) counted_stands (λ g fields. any_read _ (λ e. fine_read Any g e tt) (event_of false (is_some g.setup) fields))
      (playing empty_world) (record { group = ([], refl); stands = ([], refl) }) records

  -- no two inputs collide in that run either
  pub of_run : (w : World) (f : Enclaves) → AreOfRun f → NoCollision link (with_enclaves w f) → AreNamed link f
  of_run w f (events, is) none =
      subst (AreNamed link) (sym is) (calls_are_named link events (subst (λ (x : Enclaves). NoCollision link (with_enclaves w x)) is none))

pub played_calls_are_named : PlayedCallsAreNamed
played_calls_are_named link records none = of_run link (played_from link records).group (played_from link records).stands (played_stands link records).stands none

pub schedule_calls_are_named : ScheduleCallsAreNamed
schedule_calls_are_named link bytes none = played_calls_are_named link (records_of bytes) none

-- What is played of records keeps what each event keeps.
use Rattle.std.proofs.Common.{◌≡◌, ℕ, zero, suc, false, Option, Some, None, Result, Ok, Err, List, [], refl}
use Rattle.std.specs.Prelude.{is_some}
use Rattle.values.specs.declared.event.Event.{Event}
use Rattle.values.specs.declared.event.Event.TheVariants as event
use Rattle.record_cutting.specs.Lines.{Record}
use Rattle.schedule_model.specs.Reading.{RecordFault}
use Rattle.schedule_model.specs.Records.{event_of}
use Rattle.schedule_model.specs.Written.{On, follow, all_written}
use Rattle.replica_model.specs.Path.{Link}
use Rattle.replica_model.specs.Message.{Message}
use Rattle.group_model.specs.Group.{next_message}
use Rattle.group_model.specs.Run.{Enclaves, World, enclaves}
use Rattle.trace_model.specs.Trace.{Playing, counted, played, settled, expanded, said, record_played}
use Rattle.play_walk.proofs.Ends.{Ends, follow_ends, all_end, ReadsFine}

abbrev pub Play : Type 0
Play = Playing Message Enclaves

module _ (Fine : World → Event → Type 0) where
  -- what is asked of an event that is read: a settle is played as others
  abbrev pub FineRead : World → Event → Type 0
  FineRead g (event.Settle n) = Unit {0}
  FineRead g e = Fine g e

  pub fine_read : (g : World) (e : Event) → Fine g e → FineRead g e
  fine_read g (event.Settle n) fine = tt
  fine_read g e fine = fine

-- Q stands where one event was played that is fine, and a record more is counted. The events that a settle stands for are
-- fine, and those that a record stands for.
module _ (link : Link) (Q : Play → Type 0) (Fine : World → Event → Type 0)
    (each : (p : Play) → Q p → (e : Event) → Fine p.group e → Ends Q (played (enclaves link) p e))
    (delivered : (p : Play) (k : ℕ) → Q p → next_message p.group ≡ Some k → Fine p.group (event.Deliver k))
    (counting : (p : Play) → Q p → Q (counted p)) where
  settled_keeps : (n : ℕ) (p : Play) → Q p → Ends Q (settled (enclaves link) n p)
  settled_keeps zero p good = good
  settled_keeps (suc n) p good = by_next (settled_keeps n) (next_message p.group) refl
    where
      by_next : ((q : Play) → Q q → Ends Q (settled (enclaves link) n q)) → (o : Option ℕ) → next_message p.group ≡ o
          → Ends Q (elim o [ None ↦ On [] p | Some k ↦ follow (played (enclaves link) p (event.Deliver k)) (settled (enclaves link) n) ])
      by_next rest None is = good
      by_next rest (Some k) is = follow_ends Q (played (enclaves link) p (event.Deliver k)) (settled (enclaves link) n) (each p good (event.Deliver k) (delivered p k good is)) rest

  pub expanded_keeps : (p : Play) (e : Event) → FineRead Fine p.group e → Q p → Ends Q (expanded (enclaves link) p e)
  expanded_keeps p (event.Settle n) fine good = settled_keeps n p good
  expanded_keeps p e fine good = each p good e fine

  said_keeps : (p : Play) (r : Result (Option Event) RecordFault) → ReadsFine (FineRead Fine p.group) r → Q p → Ends Q (said (enclaves link) p r)
  said_keeps p (Ok None) fine good = counting p good
  said_keeps p (Ok (Some e)) fine good = expanded_keeps (counted p) e fine (counting p good)
  said_keeps p (Err fault) fine good = good

  pub records_keep : ((g : World) (fields : Record) → ReadsFine (FineRead Fine g) (event_of false (is_some g.setup) fields)) → (p : Play) → Q p → (records : List Record) → Ends Q (all_written (record_played (enclaves link)) p records)
  records_keep read p good records =
      all_end Q (record_played (enclaves link)) (λ p fields good. said_keeps p (event_of false (is_some p.group.setup) fields) (read p.group fields) good) p records good

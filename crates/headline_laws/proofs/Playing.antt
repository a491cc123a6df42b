-- What is played tells of no halt, piece by piece.
use Rattle.std.proofs.Common.{◌≡◌, ℕ, ◌+◌, zero, suc, false, Option, Some, None, Result, Ok, Err, List, [], ◌∷◌, length, refl, ◌∙◌, subst}
use Rattle.std.specs.Prelude.{is_some}
use Rattle.std.specs.List.{AllByRecursion}
use Rattle.values.specs.declared.event.Event.{Event}
use Rattle.values.specs.declared.event.Event.TheVariants as event
use Rattle.record_cutting.specs.Lines.{Record}
use Rattle.schedule_model.specs.Lines.{event_line}
use Rattle.schedule_model.specs.Quantities.{Quantity}
use Rattle.schedule_model.specs.Reading.{RecordFault}
use Rattle.schedule_model.specs.Records.{event_of}
use Rattle.schedule_model.specs.Written.{Written, On, Off, Stop, AtRecord, AtLimit, AtFrame, AtField, onto, follow, all_written, last_of, text_with, stopped_text}
use Rattle.replica_model.specs.Path.{Link}
use Rattle.replica_model.specs.Message.{Message}
use Rattle.group_model.specs.Group.{next_message}
use Rattle.group_model.specs.Happens.{Came, Refused, Replied, Reported, Passed, Happening, Happened, Broken, Unanswered, happens}
use Rattle.group_model.specs.Run.{Enclaves, World, enclaves}
use Rattle.trace_model.specs.Limits.{passed_before, passed_after}
use Rattle.trace_model.specs.Trace.{Playing, counted, came_lines, closing, happened_text, within_limits, happened, tried, played, settled, expanded, said, record_played}
use Rattle.trace_model.specs.TraceLines.{EventForm, RefusedByGroup, ClientForm, LogForm, RollbacksForm, EndForm, StoppedAtRecord, StoppedAtLimit, StoppedAtFrame}
use Rattle.headline_laws.specs.HaltLines.{IsWithoutHalt}
use Rattle.headline_laws.proofs.Calm.{IsUntold, CameCalm, IsNoRoll, Goes, Calm, happens_calm}
use Rattle.headline_laws.proofs.Texts.{AreWithoutHalt, lines_nil, line_one, batch_calm, text_nil, text_of_lines, text_cat, text_one}

-- from one group to a later one, with what is written on the way: where no halt is told by then, none was told before, nor
-- is one written
pub record PlaysTo (NoRoll : Type 0) (rolled : List ℕ) (f : Enclaves) (text : List ℕ) (rolled' : List ℕ) (f' : Enclaves) : Type 0 where
  pub same : NoRoll → rolled' ≡ rolled
  pub back : IsUntold f' → IsUntold f
  pub quiet : IsUntold f' → IsWithoutHalt text

abbrev pub Play : Type 0
Play = Playing Message Enclaves

abbrev pub Plays : Type 0 → Play → Written Play → Type 0
Plays NoRoll p (On text q) = PlaysTo NoRoll p.group.rolled p.group.field text q.group.rolled q.group.field
Plays NoRoll p (Off text stop q) = PlaysTo NoRoll p.group.rolled p.group.field text q.group.rolled q.group.field

module _ (NoRoll : Type 0) where
  pub nothing_played : (p : Play) → Plays NoRoll p (On [] p)
  nothing_played p = record { same = λ n. refl; back = λ h. h; quiet = λ h. text_nil }

  -- first the one, then the other
  onto_plays : (p q : Play) (text : List ℕ) (x : Written Play) → Plays NoRoll p (On text q) → Plays NoRoll q x → Plays NoRoll p (onto text x)
  onto_plays p q text (On more s) a b = record { same = λ n. b.same n ∙ a.same n; back = λ h. a.back (b.back h); quiet = λ h. text_cat text more (a.quiet (b.back h)) (b.quiet h) }
  onto_plays p q text (Off more stop s) a b = record { same = λ n. b.same n ∙ a.same n; back = λ h. a.back (b.back h); quiet = λ h. text_cat text more (a.quiet (b.back h)) (b.quiet h) }

  pub follow_plays : (p : Play) (x : Written Play) (next : Play → Written Play) → Plays NoRoll p x → ((q : Play) → Plays NoRoll q (next q)) → Plays NoRoll p (follow x next)
  follow_plays p (On text q) next a later = onto_plays p q text (next q) a (later q)
  follow_plays p (Off text stop q) next a later = a

  -- pieces, one after another
  pub all_plays : {A : Type 0} (piece : Play → A → Written Play) (Fine : A → Type 0) → ((p : Play) (x : A) → Fine x → Plays NoRoll p (piece p x)) → (p : Play) (xs : List A) → AllByRecursion Fine xs → Plays NoRoll p (all_written piece p xs)
  unfolding all_written
  all_plays piece Fine each p [] fine = nothing_played p
  all_plays piece Fine each p (x ∷ xs) fine = follow_plays p (piece p x) (λ q. all_written piece q xs) (each p x fine.0) (λ q. all_plays piece Fine each q xs fine.1)

  module _ (link : Link) where
    -- the lines of what came of an event
    came_fine : (g : World) (came : Came) → CameCalm came → AreWithoutHalt (came_lines g came)
    came_fine g (Refused refusal) fine = line_one (RefusedByGroup refusal) [] tt lines_nil
    came_fine g (Replied r batch) fine = batch_calm r _ _ batch fine
    came_fine g (Reported client report) fine = line_one (ClientForm client report) [] tt lines_nil
    came_fine g Passed fine = lines_nil

    module _ (p : Play) (e : Event) (no_roll : NoRoll → IsNoRoll e) where
      within_plays : (came : Came) (g : World) (o : Option Quantity) → Goes (IsNoRoll e) p.group.rolled p.group.field came g.rolled g.field → Plays NoRoll p (within_limits (enclaves link) p (happened_text p.group e came) g o)
      within_plays came g None goes = record {
        same = λ n. goes.same (no_roll n);
        back = goes.back;
        quiet = λ h. text_of_lines (event_line (length p.group.past + 1) e ∷ came_lines p.group came) (line_one (EventForm (length p.group.past + 1) e) (came_lines p.group came) tt (came_fine p.group came (goes.told h)));
      }
      within_plays came g (Some passed) goes = nothing_played p

      happened_plays : (h : Happening Message Enclaves) → happens (enclaves link) e p.group ≡ h → Plays NoRoll p (happened (enclaves link) p e h)
      happened_plays (Happened came g) is = within_plays came g (passed_after g) (subst (Calm (IsNoRoll e) p.group) is (happens_calm link e p.group))
      happened_plays (Broken at f) is = nothing_played p
      happened_plays Unanswered is = nothing_played p

      tried_plays : (o : Option Quantity) → Plays NoRoll p (tried (enclaves link) p e o)
      tried_plays (Some passed) = nothing_played p
      tried_plays None = happened_plays (happens (enclaves link) e p.group) refl

      played_plays : Plays NoRoll p (played (enclaves link) p e)
      played_plays = tried_plays (passed_before p.group e)

    settled_plays : (n : ℕ) (p : Play) → Plays NoRoll p (settled (enclaves link) n p)
    settled_plays zero p = nothing_played p
    settled_plays (suc n) p = by_next (settled_plays n) (next_message p.group)
      where
        by_next : ((q : Play) → Plays NoRoll q (settled (enclaves link) n q)) → (o : Option ℕ)
            → Plays NoRoll p (elim o [ None ↦ On [] p | Some k ↦ follow (played (enclaves link) p (event.Deliver k)) (settled (enclaves link) n) ])
        by_next rest None = nothing_played p
        by_next rest (Some k) = follow_plays p (played (enclaves link) p (event.Deliver k)) (settled (enclaves link) n) (played_plays p (event.Deliver k) (λ n. tt)) rest

    pub expanded_plays : (p : Play) (e : Event) → (NoRoll → IsNoRoll e) → Plays NoRoll p (expanded (enclaves link) p e)
    expanded_plays p (event.Settle n) no_roll = settled_plays n p
    expanded_plays p e no_roll = played_plays p e no_roll

module _ (link : Link) where
  said_plays : (p : Play) (r : Result (Option Event) RecordFault) → Plays ⊥ p (said (enclaves link) p r)
  said_plays p (Ok None) = nothing_played ⊥ p
  said_plays p (Ok (Some e)) = expanded_plays ⊥ link (counted p) e (λ never. absurd never)
  said_plays p (Err fault) = nothing_played ⊥ p

  pub record_plays : (p : Play) (fields : Record) → Plays ⊥ p (record_played (enclaves link) p fields)
  record_plays p fields = said_plays p (event_of false (is_some p.group.setup) fields)

-- the end of a text
closing_fine : (p : Play) → IsWithoutHalt (closing p)
closing_fine p = text_of_lines _ (line_one (LogForm _) _ tt (line_one (RollbacksForm _) _ tt (line_one (EndForm _ _ _) [] tt lines_nil)))

stopped_fine : (stop : Stop) → IsWithoutHalt (stopped_text stop)
stopped_fine (AtRecord number fault) = text_one (StoppedAtRecord number fault) tt
stopped_fine (AtLimit passed) = text_one (StoppedAtLimit passed) tt
stopped_fine (AtFrame at) = text_one StoppedAtFrame tt
stopped_fine AtField = text_nil

-- the whole text
pub whole_fine : (p : Play) (x : Written Play) → Plays ⊥ p x → IsUntold (last_of x).group.field → IsWithoutHalt (text_with closing x)
whole_fine p (On text q) a h = text_cat text (closing q) (a.quiet h) (closing_fine q)
whole_fine p (Off text stop q) a h = text_cat text (stopped_text stop) (a.quiet h) (stopped_fine stop)

pub last_rolled : (NoRoll : Type 0) (p : Play) (x : Written Play) → Plays NoRoll p x → NoRoll → (last_of x).group.rolled ≡ p.group.rolled
last_rolled NoRoll p (On text q) a n = a.same n
last_rolled NoRoll p (Off text stop q) a n = a.same n

-- What is played is audited, piece by piece.
use Rattle.std.proofs.Common.{◌≡◌, ℕ, ◌+◌, ◌≤◌, zero, suc, true, false, Option, Some, None, Result, Ok, Err, List, [], ◌∷◌, ◌++◌, length, take, map, refl, sym, ap, subst, ◌∙◌, arith}
use Rattle.std.specs.Prelude.{is_some, reverse}
use Rattle.std.specs.List.{AllByRecursion}
use Rattle.group_quorum.specs.Conf.{Conf}
use Rattle.values.specs.declared.event.Event.{Event}
use Rattle.values.specs.declared.event.Event.TheVariants as event
use Rattle.record_cutting.specs.Lines.{Record}
use Rattle.schedule_model.specs.Lines.{Line, lines_text, event_line}
use Rattle.schedule_model.specs.Quantities.{Quantity, Events, Messages, Answers, Replicas, States, Clients}
use Rattle.schedule_model.specs.Reading.{RecordFault}
use Rattle.schedule_model.specs.Records.{event_of}
use Rattle.schedule_model.specs.Written.{Written, On, Off, Stop, AtRecord, AtLimit, AtFrame, AtField, onto, follow, all_written}
use Rattle.replica_model.specs.Path.{Path, Link}
use Rattle.replica_model.specs.Message.{Message}
use Rattle.group_model.specs.Group.{Setup, next_message}
use Rattle.group_model.specs.Happens.{Came, Refused, Replied, Reported, Passed, Happening, Happened, Broken, Unanswered, happens}
use Rattle.group_model.specs.Run.{Enclaves, World, enclaves}
use Rattle.log_laws.proofs.Ending.{all-append}
use Rattle.headline_laws.proofs.Played.{IsRun, run_on}
use Rattle.closing_laws.proofs.Events.{KeptWorld, run_keeps}
use Rattle.trace_model.specs.Limits.{passed_before, passed_after}
use Rattle.trace_model.specs.Trace.{Playing, counted, came_lines, happened_text, within_limits, happened, tried, played, settled, expanded, said, record_played}
use Rattle.trace_model.specs.TraceLines.{Form, EventForm, StoppedAtRecord, StoppedAtLimit, StoppedAtFrame, form_fields}
use Rattle.trace_model.specs.Audit.{Audit}
use Rattle.values.specs.declared.limits.TheConstants.{MAX_SOURCE}
use Rattle.trace_model.specs.Hashing.{GivesHashes}
use Rattle.audit_laws.proofs.Texts.{IsFine}
use Rattle.audit_laws.proofs.Passing.{passes, passes_on}
use Rattle.audit_laws.proofs.Batches.{batch_is}
use Rattle.headline_laws.proofs.Texts.{map_append, text_append}
use Rattle.audit_laws.proofs.Stepping.{AllRun, BearSame, came_forms, start}
use Rattle.audit_laws.proofs.Walking.{Fits, Lawful, Moved, Moves, happens_moves}
use Rattle.range_laws.proofs.ReadEvents.{FitsBegun, IsReadAs, read_event}
use Rattle.audit_laws.proofs.Ranges.{max_records, IsShortRecord, read_fault, stop_fine, ranged_event}
use Rattle.headline_laws.proofs.Ranged.{Ranged, ranged_next}
use Rattle.range_laws.proofs.Worlds.{IsShort}
use Rattle.range_laws.specs.Ranges.{EventIn}

-- a text is that of fine forms which an audit passes
pub record Told (text : List ℕ) (a b : Audit) : Type 0 where
  pub forms : List Form
  pub text_is : text ≡ lines_text (map form_fields forms)
  pub fine : AllByRecursion IsFine forms
  pub passed : passes a forms ≡ Ok b

pub told_nothing : (a : Audit) → Told [] a a
told_nothing a = record { forms = []; text_is = refl; fine = tt; passed = refl }

pub told_on : (s t : List ℕ) (a b c : Audit) → Told s a b → Told t b c → Told (s ++ t) a c
told_on s t a b c x y = record {
  forms = x.forms ++ y.forms;
  text_is = ap (λ z. z ++ t) x.text_is
      ∙ (ap (λ z. lines_text (map form_fields x.forms) ++ z) y.text_is
      ∙ (sym (text_append (map form_fields x.forms) (map form_fields y.forms)) ∙ ap lines_text (sym (map_append form_fields x.forms y.forms))));
  fine = all-append IsFine x.forms y.forms x.fine y.fine;
  passed = passes_on x.forms y.forms a b c x.passed y.passed;
}

-- where an audit stands by a group
pub record Stands (log : Path) (a : Audit) (g : World) : Type 0 where
  pub confs : List Conf
  pub rolled : List ℕ
  pub rolling : List ℕ
  pub is : a ≡ start g.setup (take g.committed log) confs rolled rolling
  pub gone : rolling ++ rolled ≡ g.rolled
  pub bear : BearSame confs g.confs

pub record Onward (log : Path) (text : List ℕ) (a : Audit) (h : World) : Type 0 where
  pub after : Audit
  pub told : Told text a after
  pub stands : Stands log after h

-- from one group to a later one, with what is written on the way
pub record PlaysTo (limit : ℕ) (log : Path) (g : World) (text : List ℕ) (h : World) : Type 0 where
  pub back : Lawful limit log h → Lawful limit log g
  pub begun : is_some g.setup ≡ true → is_some h.setup ≡ true
  pub on : Lawful limit log h → (a : Audit) → Stands log a g → Onward log text a h

abbrev pub Play : Type 0
Play = Playing Message Enclaves

-- what holds wherever playing stands
pub record Sound (link : Link) (p : Play) : Type 0 where
  pub run_is : IsRun link p.group
  pub running : AllRun p.group.running p.group.field
  pub ranged : Ranged p.group

abbrev pub StopFine : Stop → Type 0
StopFine (AtRecord number fault) = IsFine (StoppedAtRecord number fault)
StopFine (AtLimit passed) = IsFine (StoppedAtLimit passed)
StopFine (AtFrame at) = IsFine StoppedAtFrame
StopFine AtField = ⊥

pub record PlaysOn (limit : ℕ) (log : Path) (link : Link) (p : Play) (text : List ℕ) (q : Play) : Type 0 where
  pub same : q.records ≡ p.records
  pub sound : Sound link q
  pub to : PlaysTo limit log p.group text q.group

pub record PlaysOff (limit : ℕ) (log : Path) (p : Play) (text : List ℕ) (stop : Stop) (q : Play) : Type 0 where
  pub fine : StopFine stop
  pub to : PlaysTo limit log p.group text q.group

abbrev pub Plays : ℕ → Path → Link → Play → Written Play → Type 0
Plays limit log link p (On text q) = PlaysOn limit log link p text q
Plays limit log link p (Off text stop q) = PlaysOff limit log p text stop q

-- the same of all records, which are counted
abbrev pub Wholly : ℕ → Path → Link → Play → Written Play → Type 0
Wholly limit log link p (On text q) = Sound link q × PlaysTo limit log p.group text q.group
Wholly limit log link p (Off text stop q) = PlaysOff limit log p text stop q

module _ (limit : ℕ) (log : Path) (link : Link) where
  nowhere : (g : World) → PlaysTo limit log g [] g
  nowhere g = record { back = λ a. a; begun = λ b. b; on = λ l a s. record { after = a; told = told_nothing a; stands = s } }

  first_then : (g h k : World) (s t : List ℕ) → PlaysTo limit log g s h → PlaysTo limit log h t k → PlaysTo limit log g (s ++ t) k
  first_then g h k s t x y = record {
    back = λ a. x.back (y.back a);
    begun = λ b. y.begun (x.begun b);
    on = λ l a stands.
        let one = x.on (y.back l) a stands in
        let two = y.on l one.after one.stands in
        record { after = two.after; told = told_on s t a one.after two.after one.told two.told; stands = two.stands };
  }

  onto_plays : (p q : Play) (text : List ℕ) (x : Written Play) → PlaysOn limit log link p text q → Plays limit log link q x → Plays limit log link p (onto text x)
  onto_plays p q text (On more s) a b = record { same = b.same ∙ a.same; sound = b.sound; to = first_then p.group q.group s.group text more a.to b.to }
  onto_plays p q text (Off more stop s) a b = record { fine = b.fine; to = first_then p.group q.group s.group text more a.to b.to }

  follow_plays : (p : Play) (x : Written Play) (next : Play → Written Play) → Plays limit log link p x → ((q : Play) (text : List ℕ) → PlaysOn limit log link p text q → Plays limit log link q (next q)) → Plays limit log link p (follow x next)
  follow_plays p (On text q) next a later = onto_plays p q text (next q) a (later q text a)
  follow_plays p (Off text stop q) next a later = a

  nothing_plays : (p : Play) → Sound link p → PlaysOn limit log link p [] p
  nothing_plays p sound = record { same = refl; sound = sound; to = nowhere p.group }

  limit_fine : (passed : Quantity) → IsFine (StoppedAtLimit passed)
  limit_fine Events = record { short = refl; in_range = tt }
  limit_fine Messages = record { short = refl; in_range = tt }
  limit_fine Answers = record { short = refl; in_range = tt }
  limit_fine Replicas = record { short = refl; in_range = tt }
  limit_fine States = record { short = refl; in_range = tt }
  limit_fine Clients = record { short = refl; in_range = tt }

  module _ (hashes : GivesHashes link) where
    -- one event
    module _ (p : Play) (sound : Sound link p) (e : Event) (read : EventIn e) (short : IsShort MAX_SOURCE e) (fits : Fits p.group.setup e) where
      came_is : (came : Came) → came_lines p.group came ≡ map form_fields (came_forms (length p.group.messages + 1) (length p.group.answers + 1) came)
      came_is (Refused refusal) = refl
      came_is (Replied r batch) = batch_is r (length p.group.messages + 1) (length p.group.answers + 1) batch
      came_is (Reported client report) = refl
      came_is Passed = refl

      within_plays : (came : Came) (h : World) → happens (enclaves link) e p.group ≡ Happened came h → passed_before p.group e ≡ None → IsRun link h → Moved limit log e p.group came h → (o : Option Quantity) → passed_after h ≡ o
          → Plays limit log link p (within_limits (enclaves link) p (happened_text p.group e came) h o)
      within_plays came h is before run_is m None after =
          let r = ranged_event link hashes p.group h e came sound.ranged read short is before after in
          record {
            same = refl;
            sound = record { run_is = run_is; running = m.running; ranged = r.ranged };
            to = record {
              back = m.back;
              begun = λ b. m.begun;
              on = λ l a stands.
                  let o = m.on l (length p.group.past + 1) (length p.group.messages + 1) (length p.group.answers + 1) stands.confs stands.rolled stands.rolling stands.gone stands.bear in
                  let forms : List Form = EventForm (length p.group.past + 1) e ∷ came_forms (length p.group.messages + 1) (length p.group.answers + 1) came in
                  let b : Audit = start h.setup (take h.committed log) o.confs' o.rolled' o.rolling' in
                  record {
                    after = b;
                    told = record {
                      forms = forms;
                      text_is = ap (λ (ls : List Line). lines_text (event_line (length p.group.past + 1) e ∷ ls)) (came_is came);
                      fine = r.fine;
                      passed = ap (λ (x : Audit). passes x forms) stands.is ∙ o.passed;
                    };
                    stands = record { confs = o.confs'; rolled = o.rolled'; rolling = o.rolling'; is = refl; gone = o.gone_is; bear = o.bear };
                  };
            };
          }
      within_plays came h is before run_is m (Some passed) after = record { fine = limit_fine passed; to = nowhere p.group }

      moves : Moves limit log e p.group (happens (enclaves link) e p.group)
      moves = happens_moves link limit log e p.group fits sound.running (subst KeptWorld (sym sound.run_is) (run_keeps link (reverse p.group.past)))

      happened_plays : (x : Happening Message Enclaves) → happens (enclaves link) e p.group ≡ x → passed_before p.group e ≡ None → Moves limit log e p.group x → Plays limit log link p (happened (enclaves link) p e x)
      happened_plays (Happened came h) is before m = within_plays came h is before (run_on link p.group h e came sound.run_is is) m (passed_after h) refl
      happened_plays (Broken at f) is before m = absurd m
      happened_plays Unanswered is before m = absurd m

      tried_plays : (o : Option Quantity) → passed_before p.group e ≡ o → Plays limit log link p (tried (enclaves link) p e o)
      tried_plays (Some passed) before = record { fine = limit_fine passed; to = nowhere p.group }
      tried_plays None before = happened_plays (happens (enclaves link) e p.group) refl before moves

      played_plays : Plays limit log link p (played (enclaves link) p e)
      played_plays = tried_plays (passed_before p.group e) refl

    -- a settle
    settle_fits : (o : Option Setup) (k : ℕ) → is_some o ≡ true → Fits o (event.Deliver k)
    settle_fits None k b = absurd (let e : false ≡ true = b in cc)
    settle_fits (Some s) k b = tt

    settled_plays : (n : ℕ) (p : Play) → Sound link p → is_some p.group.setup ≡ true → Plays limit log link p (settled (enclaves link) n p)
    settled_plays zero p sound begun = nothing_plays p sound
    settled_plays (suc n) p sound begun = by_next (settled_plays n) (next_message p.group) refl
      where
        by_next : ((q : Play) → Sound link q → is_some q.group.setup ≡ true → Plays limit log link q (settled (enclaves link) n q)) → (o : Option ℕ) → next_message p.group ≡ o
            → Plays limit log link p (elim o [ None ↦ On [] p | Some k ↦ follow (played (enclaves link) p (event.Deliver k)) (settled (enclaves link) n) ])
        by_next rest None is = nothing_plays p sound
        by_next rest (Some k) is =
            follow_plays p (played (enclaves link) p (event.Deliver k)) (settled (enclaves link) n)
            (played_plays p sound (event.Deliver k) (ranged_next p.group k sound.ranged is) tt (settle_fits p.group.setup k begun))
            (λ q text on. rest q on.sound (on.to.begun begun))

    fits_of : (o : Option Setup) (e : Event) → FitsBegun (is_some o) e → Fits o e
    fits_of None (event.Begin margin most voters) h = h
    fits_of None e h = h
    fits_of (Some s) (event.Begin margin most voters) h = h
    fits_of (Some s) e h = tt

    expanded_plays : (p : Play) → Sound link p → (e : Event) → IsReadAs MAX_SOURCE (is_some p.group.setup) e → Plays limit log link p (expanded (enclaves link) p e)
    expanded_plays p sound (event.Settle n) h = settled_plays n p sound h
    expanded_plays p sound e h = played_plays p sound e h.0 h.1 (fits_of p.group.setup e h.2)

    -- records, one by one
    said_plays : (p : Play) → Sound link p → p.records + 1 ≤ max_records → (fields : Record) → IsShortRecord fields → (r : Result (Option Event) RecordFault) → event_of false (is_some p.group.setup) fields ≡ r → Plays limit log link (counted p) (said (enclaves link) p r)
    said_plays p sound few fields short (Ok None) is = nothing_plays (counted p) (record { run_is = sound.run_is; running = sound.running; ranged = sound.ranged })
    said_plays p sound few fields short (Ok (Some e)) is = expanded_plays (counted p) (record { run_is = sound.run_is; running = sound.running; ranged = sound.ranged }) e (read_event MAX_SOURCE fields short.each e (is_some p.group.setup) is)
    said_plays p sound few fields short (Err fault) is = record { fine = stop_fine (p.records + 1) fault few (read_fault (is_some p.group.setup) fields fault short is); to = nowhere p.group }

    pub records_play : (records : List Record) (p : Play) → Sound link p → p.records + length records ≤ max_records → AllByRecursion IsShortRecord records → Wholly limit log link p (all_written (record_played (enclaves link)) p records)
    unfolding all_written
    records_play [] p sound few short = (sound, nowhere p.group)
    records_play (r ∷ records) p sound few short =
        by_first (λ q sound few. records_play records q sound few short.1) (record_played (enclaves link) p r)
        (said_plays p sound (omega arith) r short.0 (event_of false (is_some p.group.setup) r) refl)
      where
        then_all : (q : Play) (text : List ℕ) (x : Written Play) → PlaysTo limit log p.group text q.group → Wholly limit log link q x → Wholly limit log link p (onto text x)
        then_all q text (On more s) a b = (b.0, first_then p.group q.group s.group text more a b.1)
        then_all q text (Off more stop s) a b = record { fine = b.fine; to = first_then p.group q.group s.group text more a b.to }

        by_first : ((q : Play) → Sound link q → q.records + length records ≤ max_records → Wholly limit log link q (all_written (record_played (enclaves link)) q records))
            → (x : Written Play) → Plays limit log link (counted p) x → Wholly limit log link p (follow x (λ t. all_written (record_played (enclaves link)) t records))
        by_first rest (On text q) a = then_all q text (all_written (record_played (enclaves link)) q records) a.to (rest q a.sound (omega (arith, a.same, few)))
        by_first rest (Off text stop q) a = record { fine = a.fine; to = a.to }

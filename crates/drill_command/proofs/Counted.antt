-- The counts stay those of the world, event by event.
use Rattle.std.proofs.Common.{arith, refl, sym, ap, ◌∙◌, ◌≡◌, ◌+◌, ◌-◌, ◌^◌, ◌<◌, ◌≤◌, ℕ, ◌&&◌, Bool, true, false, cond, min, List, [], ◌∷◌, ◌++◌, length, Option, Some, None, count_by}
use Rattle.std.specs.Prelude.{if◌then◌else◌, nat_le, option_and_then, option_to_list}
use Rattle.std.proofs.lemmas.Bool.{leb-false}
use Rattle.std.proofs.lemmas.List.Sums.{sum_by-cons}
use Rattle.byte_streams.specs.Causes.{next}
use Rattle.values.specs.declared.event.Event.{Event}
use Rattle.values.specs.declared.limits.TheConstants.{MAX_EVENTS, MAX_REPLICAS}
use Rattle.values.specs.declared.want.Report.{Report}
use Rattle.schedule_model.specs.Quantities.{Quantity, Events, Replicas}
use Rattle.schedule_model.specs.Written.{Written, On, Off}
use Rattle.group_model.specs.Field.{Field}
use Rattle.group_model.specs.Group.{Hearing}
use Rattle.group_model.specs.Run.{World}
use Rattle.trace_model.specs.Limits.{first_passed, starts_one}
use Rattle.trace_model.specs.Summary.{halts, is_deleted, is_recovered, is_stored, is_wrong_pin, reported, reports}
use Rattle.trace_model.specs.Trace.{Playing, played, tried}
use Rattle.drill_command.specs.declared.counts.Counts.{Counts}
use Rattle.drill_command.specs.Counting.{AreCounts, counted, next_if}
use Rattle.drill_command.specs.Drilled.{IsShort}

-- ---- one more

next_is : (holds : Bool) (n : ℕ) → n < 2000000 → next_if holds n ≡ n + cond holds 1 0
next_is true n few = omega (arith, few)
next_is false n few = omega arith

module _ (test : Report → Bool) where
  abbrev counts_it : Hearing → Bool
  counts_it h = reports test h.report

  count_hearing : (heard : Option Hearing) (hs : List Hearing) → count_by counts_it (option_to_list heard ++ hs) ≡ count_by counts_it hs + cond (reports test (option_and_then (λ (x : Hearing). x.report) heard)) 1 0
  count_hearing None hs = omega arith
  count_hearing (Some h) hs = sum_by-cons (λ y. cond (counts_it y) 1 0) h hs ∙ omega arith

  few_reports : (hs : List Hearing) → count_by counts_it hs ≤ length hs
  few_reports [] = omega arith
  few_reports (h ∷ hs) = by_test (reports test h.report) (sum_by-cons (λ y. cond (counts_it y) 1 0) h hs) (few_reports hs)
    where
      by_test : (b : Bool) → count_by counts_it (h ∷ hs) ≡ cond b 1 0 + count_by counts_it hs → count_by counts_it hs ≤ length hs → count_by counts_it (h ∷ hs) ≤ length (h ∷ hs)
      by_test true step few = omega (arith, step, few)
      by_test false step few = omega (arith, step, few)

-- ---- an event

-- where the world has this event more, so many halts more, and this hearing more or none
module _ (c : Counts) (w w' : World) (e : Event) (halted : Bool) (heard : Option Hearing) (report : Option Report)
    (past : w'.past ≡ e ∷ w.past) (hearings : w'.hearings ≡ option_to_list heard ++ w.hearings) (reports_it : report ≡ option_and_then (λ (x : Hearing). x.report) heard)
    (more : halts w' ≡ halts w + (if halted then 1 else 0)) where
  one_event : length w'.past ≡ length w.past + 1
  one_event = ap (λ (l : List Event). length l) past ∙ omega arith

  pub short_more : IsShort w → IsShort w'
  short_more s = record {
    heard = heard_more heard (ap (λ (l : List Hearing). length l) hearings);
    halted = halted_more halted more;
  }
    where
      heard_more : (o : Option Hearing) → length w'.hearings ≡ length (option_to_list o ++ w.hearings) → length w'.hearings ≤ length w'.past
      heard_more None same = omega (arith, same, one_event, s.heard)
      heard_more (Some h) same = omega (arith, same, one_event, s.heard)

      halted_more : (b : Bool) → halts w' ≡ halts w + cond b 1 0 → halts w' ≤ length w'.past
      halted_more true same = omega (arith, same, one_event, s.halted)
      halted_more false same = omega (arith, same, one_event, s.halted)

  module _ (few : length w.past < MAX_EVENTS) (s : IsShort w) where
    count_more : (test : Report → Bool) (n : ℕ) → n ≡ reported test w → next_if (reports test report) n ≡ reported test w'
    count_more test n is =
        next_is (reports test report) n (omega (arith, is, few, s.heard, few_reports test w.hearings))
        ∙ (λ i. is i + cond (reports test (reports_it i)) 1 0)
        ∙ sym (ap (count_by (counts_it test)) hearings ∙ count_hearing test heard w.hearings)

    halts_more : (n : ℕ) → n ≡ halts w → next_if halted n ≡ halts w'
    halts_more n is = next_is halted n (omega (arith, is, few, s.halted)) ∙ ap (λ k. k + cond halted 1 0) is ∙ sym more

    pub counts_more : AreCounts c w → AreCounts (counted c halted report) w'
    counts_more are = by_report report refl
      where
        by_report : (o : Option Report) → report ≡ o → AreCounts (counted c halted o) w'
        by_report None is = record {
          stored = ap (λ o. next_if (reports is_stored o) c.stored) (sym is) ∙ count_more is_stored c.stored are.stored;
          recovered = ap (λ o. next_if (reports is_recovered o) c.recovered) (sym is) ∙ count_more is_recovered c.recovered are.recovered;
          wrongpin = ap (λ o. next_if (reports is_wrong_pin o) c.wrongpin) (sym is) ∙ count_more is_wrong_pin c.wrongpin are.wrongpin;
          deleted = ap (λ o. next_if (reports is_deleted o) c.deleted) (sym is) ∙ count_more is_deleted c.deleted are.deleted;
          halts = halts_more c.halts are.halts;
        }
        by_report (Some r) is = record {
          stored = ap (λ o. next_if (reports is_stored o) c.stored) (sym is) ∙ count_more is_stored c.stored are.stored;
          recovered = ap (λ o. next_if (reports is_recovered o) c.recovered) (sym is) ∙ count_more is_recovered c.recovered are.recovered;
          wrongpin = ap (λ o. next_if (reports is_wrong_pin o) c.wrongpin) (sym is) ∙ count_more is_wrong_pin c.wrongpin are.wrongpin;
          deleted = ap (λ o. next_if (reports is_deleted o) c.deleted) (sym is) ∙ count_more is_deleted c.deleted are.deleted;
          halts = halts_more c.halts are.halts;
        }

-- ---- before the last event that may come

module _ {M F : Type 0} (field : Field M F) (p : Playing M F) (e : Event) where
  tried_few : (b : Bool) → nat_le MAX_EVENTS (length p.group.past) ≡ b → (text : List ℕ) (q : Playing M F)
      → tried field p e (first_passed ((b, Events) ∷ (starts_one p.group e && nat_le MAX_REPLICAS (length p.group.started), Replicas) ∷ [])) ≡ On text q → length p.group.past < MAX_EVENTS
  tried_few true is text q on = absurd (let off : Off [] _ p ≡ On text q = on in cc)
  tried_few false is text q on = leb-false MAX_EVENTS (length p.group.past) is

  pub few_events : (text : List ℕ) (q : Playing M F) → played field p e ≡ On text q → length p.group.past < MAX_EVENTS
  few_events text q on = tried_few (nat_le MAX_EVENTS (length p.group.past)) refl text q on

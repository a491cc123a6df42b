-- The course of a player that plays record after record, each by the same step.
use Rattle.std.specs.Prelude.{ℕ, Bool, true, false, List, Option, option_and_then}
use Rattle.record_cutting.specs.Lines.{Record}
use Rattle.record_stream.specs.Course.{Course}
use Rattle.schedule_model.specs.Written.{Stop, Written, On, Off, all_written, last_of, no_closing, stop_of, text_with}

pub record Steps (P R : Type 0) : Type 1 where
  -- what a record writes, and where playing then stands
  pub step : P → Record → Written P
  -- the closing lines
  pub closing : P → List ℕ
  -- what is said of an end of the text before its schedule
  pub reason : Stop → Option R
  -- whether what was asked failed there
  pub failed : Option Stop → Bool
  -- the ends of which anything is said
  pub holds : P → Type 0
  -- whether what ended so asked for exactly what was answered
  pub takes_all : Option Stop → P → Bool
  -- where playing goes on after a record that ended the text, in a state that could have been before it
  pub mend : P → P

module _ {P R : Type 0} (s : Steps P R) where
  abbrev pub plays : P → List Record → Written P
  plays p rs = all_written s.step p rs

  abbrev pub closing_if : Bool → P → List ℕ
  closing_if true = s.closing
  closing_if false = no_closing

  -- what is written from here on
  abbrev pub course_from : P → Course R
  course_from p = record {
    holds = λ rs. s.holds (last_of (plays p rs));
    text = λ closed rs. text_with (closing_if closed) (plays p rs);
    reason = λ rs. option_and_then s.reason (stop_of (plays p rs));
    failed = λ rs. s.failed (stop_of (plays p rs));
    takes_all = λ rs. s.takes_all (stop_of (plays p rs)) (last_of (plays p rs));
  }

  -- where playing goes on
  abbrev pub gone_on : Written P → P
  gone_on (On text q) = q
  gone_on (Off text stop q) = s.mend q

  abbrev pub next : P → Record → P
  next p r = gone_on (s.step p r)

-- the state after a piece that goes on
abbrev pub OnIs : {P : Type 0} → (P → Type 0) → Written P → Type 0
OnIs keeps (On text q) = keeps q
OnIs keeps (Off text stop q) = Unit {0}

-- These states are those from which playing goes on; and of what is said of the end of a record, so much is said of the
-- state before it.
pub record AreSteps {P R : Type 0} (s : Steps P R) (keeps : P → Type 0) : Type 0 where
  pub on : (p : P) (r : Record) → keeps p → OnIs keeps (s.step p r)
  pub before : (p : P) (r : Record) → keeps p → s.holds (last_of (s.step p r)) → s.holds p
  pub mended : (q : P) → keeps (s.mend q)
  pub mended_before : (q : P) → s.holds (s.mend q) → s.holds q

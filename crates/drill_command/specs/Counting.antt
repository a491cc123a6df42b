-- What is counted of the events of a drill.
use Rattle.std.specs.Prelude.{ℕ, ◌≡◌, Bool, if◌then◌else◌, Option, Some, None}
use Rattle.byte_streams.specs.Causes.{next}
use Rattle.values.specs.declared.want.Report.{Report}
use Rattle.group_model.specs.Run.{World}
use Rattle.trace_model.specs.Summary.{halts, is_deleted, is_recovered, is_stored, is_wrong_pin, reported}
use Rattle.drill_command.specs.declared.counts.Counts.{Counts}

abbrev pub nothing_counted : Counts
nothing_counted = record { stored = 0; recovered = 0; wrongpin = 0; deleted = 0; halts = 0 }

-- one more where this holds
abbrev pub next_if : Bool → ℕ → ℕ
next_if holds n = if holds then next n else n

abbrev pub with_report : Counts → Report → Counts
with_report c report =
    record {
      stored = next_if (is_stored report) c.stored;
      recovered = next_if (is_recovered report) c.recovered;
      wrongpin = next_if (is_wrong_pin report) c.wrongpin;
      deleted = next_if (is_deleted report) c.deleted;
      halts = c.halts;
    }

abbrev pub with_reported : Counts → Option Report → Counts
with_reported c None = c
with_reported c (Some report) = with_report c report

-- the counts after an event in which a replica halted or none did, and a client reported this or nothing
abbrev pub counted : Counts → Bool → Option Report → Counts
counted c halted report = with_reported (record c { halts = next_if halted c.halts }) report

-- they are those of this world
pub record AreCounts (c : Counts) (w : World) : Type 0 where
  pub stored : c.stored ≡ reported is_stored w
  pub recovered : c.recovered ≡ reported is_recovered w
  pub wrongpin : c.wrongpin ≡ reported is_wrong_pin w
  pub deleted : c.deleted ≡ reported is_deleted w
  pub halts : c.halts ≡ halts w

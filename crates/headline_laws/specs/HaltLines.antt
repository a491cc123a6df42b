-- A schedule without a rollback tells of no halt.
use Rattle.std.specs.Prelude.{◌≡◌, ℕ, List, [], map}
use Rattle.std.specs.List.{AllByRecursion}
use Rattle.schedule_model.specs.Lines.{lines_text}
use Rattle.replica_model.specs.Path.{Link}
use Rattle.group_model.specs.Log.{NoCollision}
use Rattle.group_model.specs.Halts.{HaltLaws}
use Rattle.trace_model.specs.TraceLines.{Form, HaltForm, form_fields}
use Rattle.trace_model.specs.Schedules.{trace_of, world_of}
use Rattle.trace_model.specs.Driven.{driven_world}
use Rattle.trace_model.specs.Summary.{halts}

-- a line tells of no halt
abbrev pub TellsNoHalt : Form → Type 0
TellsNoHalt (HaltForm replica index kept offered) = ⊥
TellsNoHalt other = Unit {0}

-- a text is that of lines of which none tells of a halt
abbrev pub IsWithoutHalt : List ℕ → Type 0
IsWithoutHalt text = (forms : List Form) × (text ≡ lines_text (map form_fields forms)) × AllByRecursion TellsNoHalt forms

-- so it is of each schedule's trace, and the halt laws hold
abbrev pub NoHaltLine : Type 0
NoHaltLine =
    (link : Link) (bytes : List ℕ) → (world_of link bytes).rolled ≡ [] → NoCollision link (world_of link bytes)
    → HaltLaws (world_of link bytes) × (halts (world_of link bytes) ≡ 0) × IsWithoutHalt (trace_of link bytes)

-- the halt laws hold of each driven schedule too
abbrev pub DrivenNoHalt : Type 0
DrivenNoHalt =
    (link : Link) (bytes : List ℕ) → (driven_world link bytes).rolled ≡ [] → NoCollision link (driven_world link bytes)
    → HaltLaws (driven_world link bytes) × (halts (driven_world link bytes) ≡ 0)

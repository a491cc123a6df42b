-- What it means that a schedule has a trace, under the toy link.
use Rattle.std.specs.Prelude.{◌≡◌, List}
use Prim.Native.String.{String}
use Rattle.trace_model.specs.Schedules.{trace_of}
use Rattle.trace_model.specs.Driven.{driven_trace}
use Rattle.table_model.specs.TableText.{table_text}
use Rattle.model_rows.specs.Shown.{bytes_of, shown}
use Rattle.model_rows.specs.Toy.{toy_link}

abbrev pub Plays : List String → List String → Type 0
Plays schedule trace = shown (trace_of toy_link (bytes_of schedule)) ≡ trace

-- the same of a driven schedule
abbrev pub Drives : List String → List String → Type 0
Drives schedule trace = shown (driven_trace toy_link (bytes_of schedule)) ≡ trace

-- and of requests to one table
abbrev pub Applies : List String → List String → Type 0
Applies schedule trace = shown (table_text 10000 (bytes_of schedule)) ≡ trace

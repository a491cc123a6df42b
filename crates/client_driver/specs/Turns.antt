-- A turn, and what came of one, as the rules of a driver see them.
use Rattle.client_driver.specs.declared.driver.Turn.{Turn as TurnOf}
use Rattle.client_driver.specs.declared.driver.Seen.{Seen as SeenOf}
use Rattle.client_driver.specs.declared.driver.Seen.TheVariants as code
use Rattle.trace_model.specs.Driver.{Turn, Seen}
use Rattle.trace_model.specs.Driver as driver

abbrev pub turn_of : TurnOf → Turn
turn_of t = record { target = t.target; wakes = t.wake }

abbrev pub seen_of : SeenOf → Seen
seen_of code.Silence = driver.Silence
seen_of code.Progress = driver.Progress
seen_of code.Report = driver.Report
seen_of (code.Led leader) = driver.Led leader
seen_of code.Other = driver.Other

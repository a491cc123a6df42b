-- What the player of a table writes, for whatever records follow.
use Rattle.std.specs.Prelude.{ℕ, ◌+◌, ⊤, List, Bool, true, false, Option, Some, None, Result, Ok, Err}
use Rattle.record_cutting.specs.Lines.{Record}
use Rattle.record_stream.specs.Course.{Course}
use Rattle.record_rules.specs.Table.{RecordTable}
use Rattle.record_rules.specs.Rules.{apply}
use Rattle.values.specs.declared.message.Request.{Request}
use Rattle.client_msgs.specs.Reading.{request_of}
use Rattle.client_msgs.specs.declared.fault.RequestFault.{RequestFault}
use Rattle.schedule_model.specs.Lines.{Line, reply_fields}
use Rattle.schedule_model.specs.Written.{AtLimit, Stop, Written, On, Off, all_written, last_of, no_closing, text_with}
use Rattle.schedule_text.specs.declared.fault.Stopped.{Stopped}
use Rattle.schedule_text.specs.declared.fault.Stopped.TheVariants as stopped
use Rattle.table_model.specs.TableText.{Applied, TableRecord, fault_fields, rows_line, table_played}

-- what a client's request makes of the table: the table after it, and the fields that are said of it
abbrev pub outcome_of : RecordTable → TableRecord → Result Request RequestFault → RecordTable × Line
outcome_of table r (Ok request) = ((apply table r.client r.number request).0, reply_fields (apply table r.client r.number request).1)
outcome_of table r (Err fault) = (table, fault_fields fault)

abbrev pub outcome : RecordTable → TableRecord → RecordTable × Line
outcome table r = outcome_of table r (request_of r.request)

-- where playing stands after it
abbrev pub after_ask : Applied → TableRecord → Applied
after_ask s r = record { records = s.records + 1; table = (outcome s.table r).0 }

-- the line at the end, where it is written
abbrev pub closing : Bool → Applied → List ℕ
closing true = rows_line
closing false = no_closing

-- why a text ended before its schedule
abbrev pub cause_of : Stop → Stopped
cause_of (AtLimit quantity) = stopped.AtLimit
cause_of other = stopped.AtRecord

abbrev pub cause_in : Written Applied → Option Stopped
cause_in (On text s) = None
cause_in (Off text stop s) = Some (cause_of stop)

-- what a player writes from here on, whatever records follow; it asks for nothing itself
abbrev pub course_from : Applied → Course Stopped
course_from s = record {
  holds = λ rs. ⊤;
  text = λ closed rs. text_with (closing closed) (all_written table_played s rs);
  reason = λ rs. cause_in (all_written table_played s rs);
  failed = λ rs. false;
  takes_all = λ rs. true;
}

-- where playing stands after a record
abbrev pub after_record : Applied → Record → Applied
after_record s r = last_of (table_played s r)

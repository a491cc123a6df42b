-- The text of a schedule of requests to one record table.
use Rattle.std.specs.Prelude.{ℕ, ◌+◌, ◌==◌, nat_le, if◌then◌else◌, List, [], ◌∷◌, length, codes, decimal, Result, Ok, Err}
use Rattle.values.specs.declared.event.Cause.TheVariants as cause
use Rattle.values.specs.declared.ids.ClientId.{ClientId}
use Rattle.values.specs.declared.message.Answer.TheVariants as answer
use Rattle.values.specs.declared.message.Part.TheVariants as part
use Rattle.values.specs.declared.message.Reply.{Reply}
use Rattle.values.specs.declared.message.Request.{Request}
use Rattle.record_rules.specs.Table.{RecordTable, empty_table}
use Rattle.record_rules.specs.Rules.{apply}
use Rattle.client_msgs.specs.Reading.{request_of}
use Rattle.client_msgs.specs.declared.fault.RequestFault.{RequestFault}
use Rattle.client_msgs.specs.declared.fault.RequestFault.TheVariants as request_faults
use Rattle.replica_model.specs.Clients.{offset_of}
use Rattle.record_cutting.specs.Lines.{Record, records_of}
use Rattle.schedule_model.specs.Reading.{RecordFault, fault, ◌>>=◌, number_at, client_at, hex_at, max_u64}
use Rattle.schedule_model.specs.Lines.{Line, line_text, reply_fields, answer_fields}
use Rattle.schedule_model.specs.Quantities.{Events}
use Rattle.schedule_model.specs.Written.{AtRecord, AtLimit, Written, On, Off, all_written, text_with}
use Rattle.values.specs.declared.limits.TheConstants.{MAX_EVENTS}

-- a client's numbered request, by its bytes
pub record TableRecord : Type 0 where
  pub client : ClientId
  pub number : ℕ
  pub request : List ℕ

-- a record has three fields, and there are no remarks
abbrev pub table_record : Record → Result TableRecord RecordFault
table_record fields = do
  counted ← if length fields == 3 then Ok fields else fault cause.Fields 0
  client ← client_at counted 1
  number ← number_at counted 2 0 max_u64
  request ← hex_at counted 3
  Ok (record { client = client; number = number; request = request })

-- how many records were applied, and the table
pub record Applied : Type 0 where
  pub records : ℕ
  pub table : RecordTable

abbrev pub row_line : Applied → Line → List ℕ
row_line s fields = line_text (decimal (s.records + 1) ∷ fields)

abbrev pub applies : Applied → RecordTable × Reply → Written Applied
applies s (table, reply) = On (row_line s (reply_fields reply)) (record { records = s.records + 1; table = table })

-- what is said of bytes that are no valid request. Want of memory is no such fault
abbrev pub fault_fields : RequestFault → Line
fault_fields request_faults.Memory = []
fault_fields (request_faults.Wire fault) = answer_fields (answer.Malformed (offset_of fault))
fault_fields request_faults.Nothing = answer_fields (answer.Invalid part.Nothing 0)
fault_fields (request_faults.Size part n) = answer_fields (answer.Invalid part n)

-- they leave the table as it is
abbrev pub asks : Applied → ClientId → ℕ → Result Request RequestFault → Written Applied
asks s client number (Ok request) = applies s (apply s.table client number request)
asks s client number (Err fault) = On (row_line s (fault_fields fault)) (record s { records = s.records + 1 })

-- the records count as events
abbrev pub table_said : Applied → Result TableRecord RecordFault → Written Applied
table_said s (Err fault) = Off [] (AtRecord (s.records + 1) fault) s
table_said s (Ok r) =
    if nat_le MAX_EVENTS s.records then Off [] (AtLimit Events) s else asks s r.client r.number (request_of r.request)

abbrev pub table_played : Applied → Record → Written Applied
table_played s fields = table_said s (table_record fields)

-- at the end the number of rows
abbrev pub rows_line : Applied → List ℕ
rows_line s = line_text (codes "rows" ∷ decimal (length s.table.rows) ∷ [])

-- the whole text, for a table of this limit
abbrev pub table_text : ℕ → List ℕ → List ℕ
table_text limit bytes =
    text_with rows_line (all_written table_played (record { records = 0; table = empty_table limit }) (records_of bytes))

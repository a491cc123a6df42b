-- The text of a source's bytes.
use Rattle.std.specs.Prelude.{ℕ, List, Option}
use Rattle.record_rules.specs.Table.{empty_table}
use Rattle.record_cutting.specs.Lines.{records_of, whole_records}
use Rattle.schedule_model.specs.Written.{all_written, no_closing, text_with}
use Rattle.schedule_text.specs.declared.fault.Stopped.{Stopped}
use Rattle.table_model.specs.TableText.{Applied, table_played}
use Rattle.table_command.specs.Course.{cause_in}

-- before the first record
abbrev pub start : ℕ → Applied
start limit = record { records = 0; table = empty_table limit }

-- the lines of the records that stand whole in bytes, without the closing one, for a table of this limit
abbrev pub table_lines : ℕ → List ℕ → List ℕ
table_lines limit bytes = text_with no_closing (all_written table_played (start limit) (whole_records bytes))

-- why one of the records of bytes ends the text, where one does
abbrev pub stop_of_table : ℕ → List ℕ → Option Stopped
stop_of_table limit bytes = cause_in (all_written table_played (start limit) (records_of bytes))

-- the same of the records that stand whole in bytes
abbrev pub stop_of_whole : ℕ → List ℕ → Option Stopped
stop_of_whole limit bytes = cause_in (all_written table_played (start limit) (whole_records bytes))

use Rattle.std.proofs.Common.{rules, ◌∙◌, ap}
use Rattle.client_msgs.specs.Reading.{ReadsRequest, request_of}
use Rattle.table_command.proofs.Faulty.{faulty_line, faulty_table}
use Rattle.table_command.proofs.player.push_outcome.Goals as goal

pub returns-in-Err-clause-line : goal.returns-in-Err-clause-line
returns-in-Err-clause-line c =
    faulty_line c.args.table.now c.args.ask.now c.in-Err.fault (request_of c.args.ask.now.request) c.push_fault.result _ _ (search rules) c.push_fault.ensures.memory c.push_fault.ensures.line

pub returns-in-Err-clause-table : goal.returns-in-Err-clause-table
returns-in-Err-clause-table c =
    faulty_table c.args.table.now c.args.ask.now c.in-Err.fault (request_of c.args.ask.now.request) c.push_fault.result (search rules) c.push_fault.ensures.memory

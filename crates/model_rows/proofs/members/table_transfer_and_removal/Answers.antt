use Rattle.std.proofs.Common.{◌≡◌, true, refl}
use Rattle.model_rows.specs.Rows.TableTransferAndRemoval.{schedule, trace}
use Rattle.model_rows.specs.Shown.{shown}
use Rattle.model_rows.proofs.ByRecords.{are_lines, read_all, cut_all, text_by, plays_by}
use Rattle.model_rows.proofs.Computing.{computing}
use Rattle.model_rows.proofs.members.table_transfer_and_removal.Goals as goal

lines : are_lines schedule ≡ true
lines = refl

read : read_all schedule ≡ cut_all schedule
unfolding computing
read = refl

plays : shown (text_by (cut_all schedule)) ≡ trace
unfolding computing
plays = refl

pub returns : goal.returns
returns c = plays_by schedule trace lines read plays

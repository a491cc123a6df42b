-- How serving ends at a frame that is not answered.
use Rattle.std.specs.Prelude.{ℕ}
use Rattle.replica_server.specs.declared.answer.Unanswered.{Unanswered}
use Rattle.replica_server.specs.declared.answer.Unanswered.TheVariants as answer
use Rattle.replica_server.specs.declared.frame.Unread.{Unread}
use Rattle.replica_server.specs.declared.frame.Unread.TheVariants as frame
use Rattle.replica_server.specs.declared.served.Served.{Served}
use Rattle.replica_server.specs.declared.served.Served.TheVariants.{Memory, ReadFault, Limit, Frame}
use Rattle.replica_server.specs.declared.served.FrameCause.TheVariants as cause

abbrev pub unread : (at : ℕ) → Unread → Served
unread at frame.Memory = Memory
unread at frame.ReadFault = ReadFault
unread at frame.Cut = Frame at cause.Cut
unread at (frame.Length length) = Frame at (cause.Length length)

abbrev pub unanswered : (at number : ℕ) → Unanswered → Served
unanswered at number answer.Memory = Memory
unanswered at number answer.Limit = Limit
unanswered at number answer.Tag = Frame at (cause.Tag number)
unanswered at number (answer.Content fault) = Frame at (cause.Content fault)
unanswered at number answer.NotBegun = Frame at cause.NotBegun
unanswered at number answer.BegunAgain = Frame at cause.BegunAgain
